-- What the functions for C answer and leave: what the library's functions answer, of the record or the table that numbers name.
use Rattle.std.specs.Prelude.{ℕ, ◌/◌, ◌%◌, ◌^◌, ◌≡◌, List, [], ◌∷◌, Bool, cond, ◌&&◌, Result, Ok, Err, eqb, ℤ, length}
use Rattle.refusals.specs.declared.Refusal.{Refusal}
use Rattle.refusals.specs.Refusals.{unfit_output}
use Rattle.refusals.specs.Numbered.{number_of as refusal_number}
use Rattle.tree.specs.Bits.{bit}
use Rattle.element.specs.Element.{number_of}
use Rattle.cause.specs.declared.Kind.{Kind}
use Rattle.cause.specs.declared.Kind.TheVariants.{Untold, Range, Other}
use Rattle.cause.specs.declared.Cause.{Cause}
use Rattle.reader.specs.declared.Reading.{Reading}
use Rattle.reader.specs.Reading.{unplaced}
use Rattle.plan.specs.Limit.{most_points}
use Rattle.track.specs.Track.{point_with, padded, join_of, join_answer, placed_points, place_answer, lookup_answer}
use Rattle.track.specs.declared.Point.{Point}
use Rattle.track.specs.declared.Placed.{Placed}
use Rattle.track.specs.declared.InForce.{InForce}
use Rattle.track.specs.declared.Joined.{Joined}
use Rattle.flat.specs.Flat.{flat_length, record_in}
use Rattle.tables.specs.Table.{point_length, flat_table, table_length, table_in}

-- an outcome's number, as C has it: 0 where it is done, and else the refusal's
abbrev pub number_for : {A : Type 0} → Result A Refusal → ℕ
number_for (Ok a) = 0
number_for (Err r) = refusal_number r

-- an argument of a wrong length is refused with 13 before everything else
abbrev pub if_sized : Bool → ℕ → ℕ
if_sized sized result = cond sized result unfit_output

-- a lent array or number afterwards: new where the result is 0, and else as it was
abbrev pub after : {A : Type 0} → ℕ → A → A → A
after result new old = cond (eqb result 0) new old

-- the row has as many numbers as a record
abbrev pub is_record : List ℤ → Bool
is_record l = eqb (length l) flat_length

-- the row has as many numbers as a point
abbrev pub is_point : List ℤ → Bool
is_point l = eqb (length l) point_length

-- the row has as many numbers as a table
abbrev pub is_table : List ℤ → Bool
is_table l = eqb (length l) table_length

-- ---- reading

-- what is told of the values that are allowed, as a number: its place in the enum
abbrev pub kind_number : Kind → ℕ
kind_number Untold = 0
kind_number Range = 1
kind_number Other = 2

-- why, as numbers: the element, the kind, the value's lower and upper 32 bits, and the lowest and the highest that are allowed
abbrev pub cause_facts : Cause → List ℕ
cause_facts c = number_of c.element ∷ kind_number c.kind ∷ c.value % 2 ^ 32 ∷ c.value / 2 ^ 32 ∷ c.lowest ∷ c.highest ∷ []

-- the facts of a reading, as one row: the bits read, the number of blocks passed over, where a refused element begins, 1 if that is counted
-- from the wrapper, and why
abbrev pub facts_of : Reading → List ℕ
facts_of q = q.bits ∷ q.skipped ∷ q.offset ∷ bit q.in_wrapper ∷ cause_facts q.cause

abbrev pub facts_length : ℕ
facts_length = 10

-- the row has as many numbers as the facts
abbrev pub is_facts : List ℕ → Bool
is_facts l = eqb (length l) facts_length

-- what is answered for a reading, into a record's row and a row of facts: the reading where both have their length; else 13
abbrev pub answer_into : List ℤ → List ℕ → Reading → Reading
answer_into numbers facts q = cond (is_record numbers && is_facts facts) q (unplaced unfit_output)

-- the row afterwards: the facts, which beside a refusal say where, and else are zeros; a row of another length stays as it was
abbrev pub facts_after : Reading → List ℕ → List ℕ
facts_after q old = cond (is_facts old) (facts_of q) old

-- ---- the shader's numbers

-- a level 2 block has seven numbers for the shader
abbrev pub singles : ℕ
singles = 7

-- ---- the track functions, of tables of numbers
-- the point to be placed: the record that the numbers name, of the segment, at the picture
abbrev pub point_named : List ℤ → ℤ → ℕ → Point
point_named numbers picture segment = point_with (record_in numbers) picture segment

-- what a placing answers
abbrev pub placing : List ℤ → ℤ → ℕ → Placed
placing numbers picture segment = place_answer (point_named numbers picture segment) most_points

-- the numbers of the table that it leaves where it is done
abbrev pub placed_table : List ℤ → ℤ → ℕ → List ℤ
placed_table numbers picture segment = flat_table (padded (placed_points (point_named numbers picture segment)))

-- what a lookup answers, of the table that the numbers are
abbrev pub looking : List ℤ → ℕ → ℤ → InForce
looking table count picture = lookup_answer (table_in table) count picture

-- what a join answers
abbrev pub joining : List ℤ → ℕ → List ℤ → ℕ → Joined
joining a n b m = join_answer (table_in a) n (table_in b) m most_points

-- the numbers of the table that it leaves where it is done
abbrev pub joined_table : List ℤ → ℕ → List ℤ → ℕ → List ℤ
joined_table a n b m = flat_table (padded (join_of (table_in a) n (table_in b) m))

-- ---- single-precision numbers

-- the pattern that is written for what is no number: the code asks for the bits of numbers only
abbrev pub no_number : ℕ
no_number = 0x7FC0_0000

-- each of these bits is a number's
abbrev pub Patterns : List ℕ → Type 0
Patterns [] = Unit {0}
Patterns (b ∷ bits) = (b ≡ no_number → ⊥) × Patterns bits
