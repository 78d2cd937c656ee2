-- What an accepted payload holds, and what its reading says of it.
use Rattle.std.specs.Prelude.{ℕ, ◌≡◌, List, false}
use Rattle.record.specs.declared.Record.{Record}
use Rattle.syntax.specs.Data.{passed_in, Data, record_from}
use Rattle.syntax.specs.Element.{bits_of_data, data_width, WellFormedData}
use Rattle.cause.specs.Cause.{nothing}
use Rattle.reader.specs.declared.Reading.{Reading}

-- the reading of data: the record of its known blocks, the number of the others, and the sum of the widths of all its elements
abbrev pub reading_for : Data → Reading
reading_for d = record { result = 0; bits = data_width d; skipped = passed_in d.items; offset = 0; in_wrapper = false; cause = nothing; «record» = record_from d }

-- the reading of a record's own payload, which has nothing else in it
abbrev pub plain_reading : Record → Reading
plain_reading r = record { result = 0; bits = bits_of_data r; skipped = 0; offset = 0; in_wrapper = false; cause = nothing; «record» = r }

-- the bytes s are the payload, made by `bytes_of`, of well-formed data, and q is its reading
pub record Carries (bytes_of : Data → List ℕ) (s : List ℕ) (q : Reading) : Type 0 where
  pub held : Data
  pub fits : WellFormedData held
  pub bytes : s ≡ bytes_of held
  pub reading : q ≡ reading_for held
