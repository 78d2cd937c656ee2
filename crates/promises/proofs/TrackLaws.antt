-- What the promises on tracks rest on: what it is to be a track, and what a join that is done has made.
use Prim.Native.Nat.{ℕ, ◌≤◌}
use mathlib.Core.Path.{◌≡◌, refl, ap, sym, ◌∙◌}
use mathlib.Core.List.{List, [], ◌∷◌}
use mathlib.Core.Bool.{Bool, true, false, cond}
use mathlib.Core.Option.{Option, some}
use native.Mathlib.Omega.{arith}
use borrow.Author.Tests.{eqb-true, eq-eqb, leb-true}
use lib.Dec.{eqb, leb}
use lib.IntN.{ℤ}
use lib.ListN.{length, drop, replicate, length-append, length-drop, length-replicate}
use lib.Seq.{take_at, length-take-le}
use Rattle.refusals.specs.Refusals.{unfit_output, too_many_points, not_a_track}
use Rattle.record.proofs.Laws.{and_left, and_right, and_both}
use Rattle.keyed.specs.Keyed.{Compared, less, same, greater, held_at_by}
use Rattle.keyed.proofs.Laws.{some_one, some_none}
use Rattle.keyed.proofs.Mapped.{All, join_all}
use Rattle.plan.specs.Limit.{most_points}
use Rattle.plan.specs.Pictures.{Before, order, pictures}
use Rattle.track.specs.declared.Point.{Point}
use Rattle.track.specs.declared.Joined.{Joined}
use Rattle.track.specs.Track.{number, cleared, padded, may_stand, all_stand, rise, points_of, is_track, join_points, RisingPoints, point_at_number, join_refusal, joined_at}
use Rattle.track.specs.Lent.{Table, table_of, Track, points_in, answer_into, joined_into}
use Rattle.track.proofs.Tracks.{Is-track, is_track_lem, track_is, rise_rising, rising_rise}

-- ---- every record may stand
abbrev Stands : Point → Type 0
Stands p = may_stand p.«record» ≡ true

all_of : (l : List Point) → all_stand l ≡ true → All pictures number Stands l
all_of [] e = tt
all_of (x ∷ xs) e = (and_left (may_stand x.«record») (all_stand xs) e, all_of xs (and_right (may_stand x.«record») (all_stand xs) e))

of_all : (l : List Point) → All pictures number Stands l → all_stand l ≡ true
of_all [] h = refl
of_all (x ∷ xs) h = and_both _ _ h.0 (of_all xs h.1)

-- ---- a track, and a table that holds one
pub parts : (t : Table) → Track t → Is-track t.entries t.count
parts t v = is_track_lem t.entries t.count v

pub in_order : (t : Table) → Track t → RisingPoints (points_in t)
in_order t v = rise_rising (points_in t) (parts t v).rises

pub points_padded : (l : List Point) → points_of (padded l) (length l) ≡ l
points_padded l = take_at l (drop (length l) (replicate most_points cleared)) (length l) refl

length-padded : (l : List Point) → length l ≤ most_points → length (padded l) ≡ most_points
length-padded l h =
    omega (arith, length-append l (drop (length l) (replicate most_points cleared)), length-drop (length l) (replicate most_points cleared), length-replicate most_points cleared)

pub made_track : (l : List Point) → length l ≤ most_points → RisingPoints l → all_stand l ≡ true → Track (table_of (padded l) (length l))
made_track l h r s =
    track_is (padded l) (length l) record { full = length-padded l h; few = h; rises = ap rise (points_padded l) ∙ rising_rise l r; stand = ap all_stand (points_padded l) ∙ s }

pub as_many_as_counted : (t : Table) → Track t → length (points_in t) ≡ t.count
as_many_as_counted t v = let p = parts t v in length-take-le t.count t.entries (let f = p.full in let g = p.few in omega arith)

-- ---- a join that is done
done : (p q s t : Bool) → ◌≡◌ {A = ℕ} (cond p (cond q (cond s (cond t 0 too_many_points) unfit_output) not_a_track) not_a_track) 0 → (p ≡ true) × ((q ≡ true) × ((s ≡ true) × (t ≡ true)))
done true true true true e = (refl, (refl, (refl, refl)))
done true true true false e = absurd (omega arith)
done true true false t e = absurd (omega arith)
done true false s t e = absurd (omega arith)
done false q s t e = absurd (omega arith)

pub record Done (a b : Table) (result : List Point) : Type 0 where
  pub first : Track a
  pub second : Track b
  pub sized : length result ≡ most_points
  pub within : length (join_points (points_in a) (points_in b)) ≤ most_points

pub done_means : (a b : Table) (result : List Point) → (answer_into a b result).result ≡ 0 → Done a b result
done_means a b result e =
    let d = done (is_track a.entries a.count) (is_track b.entries b.count) (eqb (length result) most_points) (leb (length (join_points (points_in a) (points_in b))) most_points) e in
    record { first = d.0; second = d.1.0; sized = eqb-true (length result) most_points d.1.1.0; within = leb-true _ _ d.1.1.1 }

table_at : (r : ℕ) (l old : List Point) → r ≡ 0 → table_of (cond (eqb r 0) (padded l) old) (joined_at r l).count ≡ table_of (padded l) (length l)
table_at r l old e = ap (λ (k : ℕ). table_of (cond (eqb k 0) (padded l) old) (joined_at k l).count) e

-- the whole table that it leaves, and the count that it answers
pub joined_is : (a b : Table) (result : List Point) → (answer_into a b result).result ≡ 0
    → joined_into a b result ≡ table_of (padded (join_points (points_in a) (points_in b))) (length (join_points (points_in a) (points_in b)))
joined_is a b result e = table_at (join_refusal a.entries a.count b.entries b.count (length result)) (join_points (points_in a) (points_in b)) result e

pub joined_points : (a b : Table) (result : List Point) → (answer_into a b result).result ≡ 0 → points_in (joined_into a b result) ≡ join_points (points_in a) (points_in b)
joined_points a b result e = ap points_in (joined_is a b result e) ∙ points_padded (join_points (points_in a) (points_in b))

pub join_stands : (a b : List Point) → all_stand a ≡ true → all_stand b ≡ true → all_stand (join_points a b) ≡ true
join_stands a b ea eb = of_all (join_points a b) (join_all pictures number Stands a b (all_of a ea) (all_of b eb))

-- ---- a join of tracks, into a table of 64 entries
-- 0 and the count where the list is within the limit, and else 15
abbrev pub outcome : List Point → Joined
outcome l = joined_at (cond (leb (length l) most_points) 0 too_many_points) l

answer_at : (p q s : Bool) (l : List Point) → p ≡ true → q ≡ true → s ≡ true
    → joined_at (cond p (cond q (cond s (cond (leb (length l) most_points) 0 too_many_points) unfit_output) not_a_track) not_a_track) l ≡ outcome l
answer_at true true true l ep eq es = refl
answer_at true true false l ep eq es = let z : ◌≡◌ {A = ℕ} 0 1 = cc in absurd (omega arith)
answer_at true false s l ep eq es = let z : ◌≡◌ {A = ℕ} 0 1 = cc in absurd (omega arith)
answer_at false q s l ep eq es = let z : ◌≡◌ {A = ℕ} 0 1 = cc in absurd (omega arith)

pub answer_is : (a b : Table) (result : List Point) → Track a → Track b → length result ≡ most_points → answer_into a b result ≡ outcome (join_points (points_in a) (points_in b))
answer_is a b result va vb e = answer_at _ _ _ (join_points (points_in a) (points_in b)) va vb (eq-eqb (length result) most_points e)

-- ---- the point held at a number has that number
held_by : (k : ℤ) (x y : Point) (rest : Option Point) (t : Compared Before k (number y)) → (rest ≡ some x → number x ≡ k) → held_at_by pictures number y rest t ≡ some x → number x ≡ k
held_by k x y rest (less _) h e = h e
held_by k x y rest (same q) h e = ap number (sym (some_one pictures number e)) ∙ sym q
held_by k x y rest (greater _) h e = h e

pub held_number : (k : ℤ) (l : List Point) (x : Point) → point_at_number k l ≡ some x → number x ≡ k
held_number k [] x e = absurd (some_none pictures number (sym e))
held_number k (y ∷ ys) x e = held_by k x y (point_at_number k ys) (order k (number y)) (held_number k ys x) e
