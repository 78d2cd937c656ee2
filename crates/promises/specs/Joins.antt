-- Joins of lent tables: what the promises say of them beyond the entry points' answers (track/specs/Lent).
use Rattle.std.specs.Prelude.{ℕ, ◌≡◌, Bool, true, false, cond, List, [], ◌∷◌, ◌++◌, map, ◌⊎◌, eqb, ℤ, length}
use Rattle.std.proofs.Math.Option.{Option, none, some}
use Rattle.std.specs.Int.Signed.{lt_z}
use Rattle.keyed.specs.Keyed.{different, NotAbove}
use Rattle.plan.specs.Pictures.{Before, pictures}
use Rattle.track.specs.declared.Point.{Point}
use Rattle.track.specs.declared.Joined.{Joined}
use Rattle.track.specs.Track.{number, point_at_number}
use Rattle.track.specs.Lent.{Table, points_in, answer_into, joined_into}

-- two tables of one length, with one count and the same points: they differ in what lies past the count, if at all
pub record Alike (s t : Table) : Type 0 where
  pub length_same : length s.entries ≡ length t.entries
  pub count_same : s.count ≡ t.count
  pub points_same : points_in s ≡ points_in t

-- two tracks are the same: one count, and the same points
pub record Same (s t : Table) : Type 0 where
  pub same_count : s.count ≡ t.count
  pub same_points : points_in s ≡ points_in t

-- x is one of the points
infix 50 ◌∈◌
abbrev pub ◌∈◌ : Point → List Point → Type 0
x ∈ [] = ⊥
x ∈ (y ∷ ys) = (x ≡ y) ⊎ (x ∈ ys)

-- of the track's points x is the one with the greatest number not above the picture
pub record Greatest (t : Table) (picture : ℤ) (x : Point) : Type 0 where
  pub is_a_point : x ∈ points_in t
  pub not_above : NotAbove pictures (number x) picture
  pub none_is_greater : (y : Point) → y ∈ points_in t → NotAbove pictures (number y) picture → NotAbove pictures (number y) (number x)

-- every number of the track is above the picture
abbrev pub AllAbove : Table → ℤ → Type 0
AllAbove t picture = (y : Point) → y ∈ points_in t → Before picture (number y)

-- the first of two starts is the later or the only one
abbrev pub is_later : Option ℤ → Option ℤ → Bool
is_later none v = false
is_later (some x) none = true
is_later (some x) (some y) = lt_z y x

-- how many different picture numbers two tracks have
abbrev pub different_numbers : Table → Table → ℕ
different_numbers a b = different pictures (map number (points_in a) ++ map number (points_in b))

-- two joins in turn: the second is made where the first is done
abbrev pub in_turn : Joined → Joined → Joined
in_turn x y = cond (eqb x.result 0) y x

-- a and b first, into s, then with c, into t
abbrev pub left_first : Table → Table → Table → List Point → List Point → Joined
left_first a b c s t = in_turn (answer_into a b s) (answer_into (joined_into a b s) c t)

-- b and c first, into s, then with a, into t
abbrev pub right_first : Table → Table → Table → List Point → List Point → Joined
right_first a b c s t = in_turn (answer_into b c s) (answer_into a (joined_into b c s) t)

-- two points are equal: number, segment and record are
pub record EqualPoints (x y : Point) : Type 0 where
  pub equal_numbers : x.picture ≡ y.picture
  pub equal_segments : x.segment ≡ y.segment
  pub equal_records : x.«record» ≡ y.«record»

-- both hold equal points at every number that they share
abbrev pub EqualWhereShared : Table → Table → Type 0
EqualWhereShared a b = (k : ℤ) (x y : Point) → point_at_number k (points_in a) ≡ some x → point_at_number k (points_in b) ≡ some y → EqualPoints x y

-- ---- segments

abbrev pub segment_of : Option Point → Option ℕ
segment_of none = none
segment_of (some x) = some x.segment

-- the segment of the point that a track holds at a number
abbrev pub segment_at : ℤ → Table → Option ℕ
segment_at k t = segment_of (point_at_number k (points_in t))
