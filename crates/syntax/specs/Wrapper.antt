-- The T.35 wrapper (01, The wrapper): eight bytes, then the data.
use Rattle.std.specs.Prelude.{ℕ, ◌/◌, List, [], ◌∷◌, ◌++◌, Bool, cond}
use Rattle.tree.specs.Reading.{Fault, offset_in, element_in, Out}
use Rattle.tree.specs.Wrapper.{read_behind}
use Rattle.record.specs.declared.Record.{Record}
use Rattle.record.specs.Name.{Name, is_wrapper, «end», «wrapper»}
use Rattle.syntax.specs.Data.{Data, ST2094-10_data}
use Rattle.syntax.specs.Element.{payload, data_payload}

-- country, provider, user identifier, and the type code of ST2094-10_data
abbrev pub wrapper_bytes : List ℕ
wrapper_bytes = 0xB5 ∷ 0x00 ∷ 0x31 ∷ 0x47 ∷ 0x41 ∷ 0x39 ∷ 0x34 ∷ 0x09 ∷ []

-- the data is read from the ninth byte on, and the wrapper is not counted
abbrev pub wrapped_data : List Bool → Out Name Data
wrapped_data s = read_behind «wrapper» wrapper_bytes «end» ST2094-10_data s

-- 02, e: a fault in the wrapper is marked, and told by the offset of its byte; every other by the bit offset in the data
abbrev pub inside_wrapper : Fault Name → Bool
inside_wrapper f = is_wrapper (element_in f)

abbrev pub told_at : Fault Name → ℕ
told_at f = cond (inside_wrapper f) (offset_in f / 8) (offset_in f)

-- the one wrapped payload of a record
abbrev pub wrapped_payload : Record → List ℕ
wrapped_payload r = wrapper_bytes ++ payload r

-- and of data
abbrev pub wrapped_data_payload : Data → List ℕ
wrapped_data_payload d = wrapper_bytes ++ data_payload d
