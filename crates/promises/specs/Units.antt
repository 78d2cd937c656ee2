-- A unit that is accepted, and the numbers that a unit can get.
use Rattle.std.specs.Prelude.{ℕ, ◌≡◌, List, ◌∷◌}
use Rattle.syntax.specs.Data.{Data}
use Rattle.syntax.specs.Element.{WellFormedData}
use Rattle.syntax.specs.Wrapper.{wrapped_data_payload}
use Rattle.syntax.specs.Reason.{data_numbers}
use Rattle.rbsp.specs.Message.{Message, FirstOurs}
use Rattle.sei.specs.Units.{IsUnit}

-- a header as 02 allows, then the one escaping of one or more messages and the byte 80, of which the first that is of type 4 and begins
-- with our wrapper holds the payload of well-formed data
pub record HoldsData (u : List ℕ) (d : Data) : Type 0 where
  pub messages : List Message
  pub unit : IsUnit u messages
  pub ours : Message
  pub first : FirstOurs messages ours
  pub payload : ours.content ≡ wrapped_data_payload d
  pub fits : WellFormedData d

-- 30 to 33, 0, and the numbers of bare data: 1, 2, 4 to 7, 9 to 12 and 17 to 19
abbrev pub unit_numbers : List ℕ
unit_numbers = 30 ∷ 31 ∷ 32 ∷ 33 ∷ 0 ∷ data_numbers
