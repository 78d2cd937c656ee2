-- A lent table with its count, and what the entry points say of it: lookup, join and place.
use Rattle.std.specs.Prelude.{ℕ, ◌≡◌, true, List, ℤ, length}
use Rattle.std.proofs.Math.Option.{Option, none, some}
use Rattle.track.specs.declared.Point.{Point}
use Rattle.track.specs.declared.Placed.{Placed}
use Rattle.track.specs.declared.InForce.{InForce}
use Rattle.track.specs.declared.Joined.{Joined}
use Rattle.track.specs.Track.{number, is_track, lookup_answer, join_answer, join_table, place_answer, place_table, points_of, point_in_force}

-- a lent table with its count
pub record Table : Type 0 where
  pub entries : List Point
  pub count : ℕ

abbrev pub table_of : List Point → ℕ → Table
table_of entries count = record { entries = entries; count = count }

-- the table and the count are a track
abbrev pub Track : Table → Type 0
Track t = is_track t.entries t.count ≡ true

-- its points: what lies past the count is ignored
abbrev pub points_in : Table → List Point
points_in t = points_of t.entries t.count

-- what a lookup answers
abbrev pub shown_at : Table → ℤ → InForce
shown_at t picture = lookup_answer t.entries t.count picture

abbrev pub start_of : Option Point → Option ℤ
start_of none = none
start_of (some x) = some (number x)

-- a track's start at a picture: the number of the point in force there; a track with no such point has not started
abbrev pub start_at : Table → ℤ → Option ℤ
start_at t picture = start_of (point_in_force picture (points_in t))

-- what a join of a and b into a lent table answers
abbrev pub answer_into : Table → Table → List Point → Joined
answer_into a b result = join_answer a.entries a.count b.entries b.count (length result)

-- the lent table afterwards, with the count that was answered
abbrev pub joined_into : Table → Table → List Point → Table
joined_into a b result = table_of (join_table result a.entries a.count b.entries b.count) (answer_into a b result).count

-- what a placing into a lent table answers
abbrev pub placing_into : Point → List Point → Placed
placing_into x old = place_answer x (length old)

-- the lent table afterwards, with the count that was answered
abbrev pub placed_into : Point → List Point → Table
placed_into x old = table_of (place_table old x) (placing_into x old).count
