-- What the functions of the wrapper answer, and on the way to it.
use Rattle.std.specs.Prelude.{ℕ, Result, Ok, Err, List, [], ◌∷◌, Bool, true, false, cond, ◌&&◌, eqb}
use Rattle.refusals.specs.Numbered.{refusal_of}
use Rattle.refusals.specs.declared.Refusal.{Refusal}
use Rattle.refusals.specs.declared.Refusal.TheVariants.{UnfitOutput, NotValid}
use Rattle.tree.specs.Bits.{bits_of}
use Rattle.tree.specs.Reading.{Fault, number_in, Out, ok, no}
use Rattle.output.specs.declared.Written.{Written}
use Rattle.output.specs.Output.{written_as, buffer_as}
use Rattle.record.specs.declared.Record.{Record}
use Rattle.record.specs.Name.{Name}
use Rattle.valid.specs.Valid.{valid}
use Rattle.syntax.specs.Wrapper.{wrapped_data, told_at, wrapped_payload}
use Rattle.cause.specs.Cause.{cause_of}
use Rattle.reader.specs.declared.Reading.{Reading}
use Rattle.reader.specs.Reading.{reading_of}
use Rattle.wrapper.specs.declared.Differs.{Differs}

-- bytes begin with these
unfoldable pub begins_with : List ℕ → List ℕ → Bool
begins_with [] s = true
begins_with (w ∷ ws) [] = false
begins_with (w ∷ ws) (b ∷ s) = eqb b w && begins_with ws s

-- read_wrapped
abbrev pub read_wrapped : List ℕ → Reading
read_wrapped s = reading_of (wrapped_data (bits_of s))

-- write_wrapped: the answer, and the buffer afterwards
abbrev pub write_wrapped : Record → List ℕ → Written
write_wrapped r out = written_as (wrapped_payload r) (valid r) out

abbrev pub wrapped_buffer : Record → List ℕ → List ℕ
wrapped_buffer r out = buffer_as (wrapped_payload r) (valid r) out

-- the wrapper's bytes are there, or why not, told by the byte's offset
abbrev pub differs : Fault Name → Differs
differs f = record { refusal = refusal_of (number_in f); offset = told_at f; cause = cause_of f }

abbrev pub wrapper_of : Out Name (Unit {0}) → Result (Unit {0}) Differs
wrapper_of (ok t n) = Ok tt
wrapper_of (no f) = Err (differs f)

-- why nothing can be written where not even the wrapper has room
abbrev pub without_room : Bool → Refusal
without_room good = cond good UnfitOutput NotValid
