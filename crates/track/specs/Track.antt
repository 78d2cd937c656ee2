-- Tracks, and what the three entry points answer and leave in a lent table (01, Tracks; Refusal numbers).
use Rattle.std.specs.Prelude.{ℕ, Bool, true, false, cond, ◌&&◌, List, [], ◌∷◌, ◌++◌, ℤ, pos, length, take, drop, replicate, eqb, leb}
use Rattle.std.proofs.Math.Option.{Option, none, some}
use Rattle.std.specs.Int.Signed.{lt_z}
use Rattle.refusals.specs.Refusals.{unfit_output, not_valid, too_many_points, not_a_track}
use Rattle.record.specs.declared.Record.{Record}
use Rattle.record.specs.Blocks.{empty_record}
use Rattle.valid.specs.Valid.{valid}
use Rattle.keyed.specs.Keyed.{join, held_at, Agree, Rising, in_force}
use Rattle.plan.specs.Limit.{most_points}
use Rattle.plan.specs.Pictures.{pictures}
use Rattle.track.specs.declared.Point.{Point}
use Rattle.track.specs.declared.Placed.{Placed}
use Rattle.track.specs.declared.InForce.{InForce}
use Rattle.track.specs.declared.Joined.{Joined}

-- ---- points

-- a point's key is its picture number
abbrev pub number : Point → ℤ
number p = p.picture

-- a record of a segment, at a picture
abbrev pub point_with : Record → ℤ → ℕ → Point
point_with r picture segment = record { picture = picture; segment = segment; «record» = r }

-- in a placing and in a join, entries past the new count become picture 0 and segment 0 with the empty record
unfoldable pub cleared : Point
cleared = record { picture = pos 0; segment = 0; «record» = empty_record }

-- a whole table: the points, and cleared entries past them
abbrev pub padded : List Point → List Point
padded l = l ++ drop (length l) (replicate most_points cleared)

-- ---- tracks

-- a valid record with the refresh flag 1
abbrev pub may_stand : Record → Bool
may_stand r = r.refresh && valid r

abbrev pub all_stand : List Point → Bool
all_stand [] = true
all_stand (x ∷ xs) = may_stand x.«record» && all_stand xs

-- the numbers rise strictly, from above `last` on
abbrev pub rise_after : ℤ → List Point → Bool
rise_after last [] = true
rise_after last (x ∷ xs) = lt_z last x.picture && rise_after x.picture xs

-- the numbers rise strictly
abbrev pub rise : List Point → Bool
rise [] = true
rise (x ∷ xs) = rise_after x.picture xs

-- a track's points are the first count of its table: what lies past them is ignored
abbrev pub points_of : List Point → ℕ → List Point
points_of table count = take count table

-- 16 otherwise: the table has exactly 64 entries, the count is not above 64, the numbers rise, and each record is valid with flag 1
abbrev pub is_track : List Point → ℕ → Bool
is_track table count = eqb (length table) most_points && leb count most_points && (rise (points_of table count) && all_stand (points_of table count))

-- ---- the theory of keyed lists, at points and picture numbers
abbrev pub join_points : List Point → List Point → List Point
join_points = join pictures number

abbrev pub RisingPoints : List Point → Type 0
RisingPoints = Rising pictures number

-- in force at a picture: the point with the greatest number not above it, or nothing
abbrev pub point_in_force : ℤ → List Point → Option Point
point_in_force = in_force pictures number

-- the point that a track holds at a number
abbrev pub point_at_number : ℤ → List Point → Option Point
point_at_number = held_at pictures number

-- both hold equal points at every number that they share
abbrev pub AgreePoints : List Point → List Point → Type 0
AgreePoints = Agree pictures number

-- ---- lookup: the point in force, so its record, its segment and its number, which is the start; 0 and the empty record with nothing
abbrev pub none_in_force : ℕ → InForce
none_in_force result = record { result = result; found = false; point = cleared }

abbrev pub shown : Option Point → InForce
shown none = none_in_force 0
shown (some x) = record { result = 0; found = true; point = x }

-- lookup refuses only with 16; "nothing" is found false, which no point is
abbrev pub lookup_answer : List Point → ℕ → ℤ → InForce
lookup_answer table count picture = cond (is_track table count) (shown (point_in_force picture (points_of table count))) (none_in_force not_a_track)

-- ---- join
abbrev pub join_of : List Point → ℕ → List Point → ℕ → List Point
join_of a n b m = join_points (points_of a n) (points_of b m)

-- first track 16, second track 16, result table 13, then 15; 0 means done
abbrev pub join_refusal : List Point → ℕ → List Point → ℕ → ℕ → ℕ
join_refusal a n b m entries =
    cond (is_track a n) (cond (is_track b m) (cond (eqb entries most_points) (cond (leb (length (join_of a n b m)) most_points) 0 too_many_points) unfit_output) not_a_track) not_a_track

-- on a refusal the count is 0
abbrev pub joined_at : ℕ → List Point → Joined
joined_at result l = record { result = result; count = cond (eqb result 0) (length l) 0 }

abbrev pub join_answer : List Point → ℕ → List Point → ℕ → ℕ → Joined
join_answer a n b m entries = joined_at (join_refusal a n b m entries) (join_of a n b m)

-- a refused join changes no entry
abbrev pub join_table : List Point → List Point → ℕ → List Point → ℕ → List Point
join_table table a n b m = cond (eqb (join_refusal a n b m (length table)) 0) (padded (join_of a n b m)) table

-- ---- placing

-- a valid record placed at a picture makes a track of one point; with the flag 0 it makes the empty track
abbrev pub placed_points : Point → List Point
placed_points x = cond x.«record».refresh (x ∷ []) []

-- 14, then 13; 0 means done
abbrev pub place_refusal : Point → ℕ → ℕ
place_refusal x entries = cond (valid x.«record») (cond (eqb entries most_points) 0 unfit_output) not_valid

-- on a refusal the count is 0
abbrev pub place_answer : Point → ℕ → Placed
place_answer x entries = record { result = place_refusal x entries; count = cond (eqb (place_refusal x entries) 0) (length (placed_points x)) 0 }

-- a refused placing changes no entry
abbrev pub place_table : List Point → Point → List Point
place_table table x = cond (eqb (place_refusal x (length table)) 0) (padded (placed_points x)) table
