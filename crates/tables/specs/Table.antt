-- A table of points as a row of numbers, for callers that have no Point.
use Rattle.std.specs.Prelude.{ℕ, ◌+◌, ◌*◌, Bool, Option, Some, None, Result, Ok, Err, List, ◌∷◌, ℤ, pos, take, drop, replicate}
use Rattle.refusals.specs.declared.Refusal.{Refusal}
use Rattle.tree.specs.Coding.{unsigned, holds}
use Rattle.plan.specs.declared.Layout.{Layout}
use Rattle.plan.specs.declared.entry.Entry.{Entry}
use Rattle.plan.specs.Limit.{most_points}
use Rattle.track.specs.declared.Point.{Point}
use Rattle.track.specs.Track.{point_with, cleared}
use Rattle.track.specs.Inner.{filled_by}
use Rattle.flat.specs.Flat.{flat_length, rows_of, flat, number_at, unsigned_in, record_beside, each}

-- a point is its picture, its segment, then its record's numbers
unfoldable pub flat_point : Point → List ℤ
flat_point p = p.picture ∷ pos p.segment ∷ flat p.«record»

-- 148
abbrev pub point_length : ℕ
point_length = 2 + flat_length

-- the points in their order
abbrev pub flat_table : List Point → List ℤ
flat_table ps = rows_of flat_point ps

-- 9,472 for a table of 64 points
abbrev pub table_length : ℕ
table_length = point_length * most_points

-- a row of n zeros
unfoldable pub zero_row : ℕ → List ℤ
zero_row n = replicate n (pos 0)

-- the number of a segment: 0 to 65,535
abbrev pub is_segment : ℤ → Bool
is_segment z = holds (unsigned 16) z

-- the point that the numbers of the entry i name; numbers that name none are treated as a point whose record is not valid
unfoldable pub point_in : List ℤ → ℕ → Point
point_in l i =
    let segment = number_at l (point_length * i + 1) in
    point_with (record_beside (is_segment segment) (take flat_length (drop (point_length * i + 2) l))) (number_at l (point_length * i)) (unsigned_in 16 segment)

-- the table that 9,472 numbers are
unfoldable pub table_in : List ℤ → List Point
table_in l = each (point_in l) most_points

-- the point that a search has found, or a cleared one where it has found none
abbrev pub found_in : List ℤ → Option Entry → Point
found_in l (Some entry) = point_in l entry.at
found_in l None = cleared

-- the numbers of a table that a layout has filled; none changes where it is a refusal
abbrev pub filled_as : List ℤ → List ℤ → List ℤ → Result Layout Refusal → List ℤ
filled_as table a b (Ok l) = flat_table (filled_by (table_in a) (table_in b) l)
filled_as table a b (Err r) = table
