-- The segment, and the start, that stand beside a record: the lemmas behind Tracks, request g.
use Prim.Native.Nat.{ℕ, ◌+◌, ◌-◌, ◌<◌, ◌≤◌}
use mathlib.Core.Path.{◌≡◌, refl, ap, sym, subst, ◌∙◌}
use mathlib.Core.Bool.{Bool, true, false, cond}
use mathlib.Core.List.{List}
use mathlib.Core.Option.{Option, none, some}
use native.Mathlib.Omega.{arith}
use lib.IntN.{ℤ, pos}
use lib.ListN.{length, get_or, drop, replicate, get_or-replicate}
use lib.Seq.{get_or-drop, get_or-append-add}
use Rattle.record.specs.Blocks.{empty_record}
use Rattle.keyed.specs.Keyed.{or_else}
use Rattle.plan.specs.Limit.{most_points}
use Rattle.track.specs.declared.Point.{Point}
use Rattle.track.specs.declared.InForce.{InForce}
use Rattle.track.specs.Track.{cleared, padded, is_track, join_points, point_in_force, point_at_number, none_in_force, shown, placed_points}
use Rattle.track.specs.Lent.{Table, Track, points_in, shown_at, start_of, start_at, answer_into, joined_into, placing_into, placed_into}
use Rattle.promises.specs.Joins.{Greatest, segment_of, segment_at}
use Rattle.promises.proofs.TrackLaws.{joined_is}
use Rattle.promises.proofs.Shown.{track_shows, held_in_joined}
use Rattle.promises.proofs.Members.{the_greatest_is_found}
use Rattle.promises.proofs.Placing.{placed_is}

-- ---- a join

segment_else : (o p : Option Point) → segment_of (or_else o p) ≡ or_else (segment_of o) (segment_of p)
segment_else none p = refl
segment_else (some x) p = refl

pub segment_in_joined : (a b : Table) (result : List Point) (k : ℤ) → (answer_into a b result).result ≡ 0 → segment_at k (joined_into a b result) ≡ or_else (segment_at k b) (segment_at k a)
segment_in_joined a b result k e = ap segment_of (held_in_joined a b result k e) ∙ segment_else (point_at_number k (points_in b)) (point_at_number k (points_in a))

-- ---- a lookup

pub segment_of_greatest : (t : Table) (p : ℤ) → Track t → (x : Point) → Greatest t p x → ((shown_at t p).point.segment ≡ x.segment) × ((shown_at t p).point.picture ≡ x.picture)
segment_of_greatest t p v x g =
    let e = the_greatest_is_found t p v x g in
    (ap (λ (f : InForce). f.point.segment) e, ap (λ (f : InForce). f.point.picture) e)

true_false : {X : Type 0} → ◌≡◌ {A = Bool} false true → X
true_false e = let q : ◌≡◌ {A = ℕ} 0 1 = cc in absurd (omega arith)

start_by : (o : Option Point) → (shown o).found ≡ true → start_of o ≡ some (shown o).point.picture
start_by none e = true_false e
start_by (some x) e = refl

pub start_given : (t : Table) (p : ℤ) → Track t → (shown_at t p).found ≡ true → start_at t p ≡ some (shown_at t p).point.picture
start_given t p v f =
    let e = track_shows t p v in
    start_by (point_in_force p (points_in t)) (sym (ap (λ (a : InForce). a.found) e) ∙ f) ∙ ap (λ (a : InForce). some a.point.picture) (sym e)

abbrev AllZero : InForce → Type 0
AllZero a = (a.point.segment ≡ 0) × (a.point.picture ≡ pos 0) × (a.point.«record» ≡ empty_record)

none_by : (o : Option Point) → (shown o).found ≡ false → AllZero (shown o)
unfolding cleared
none_by none e = (refl, refl, refl)
none_by (some x) e = true_false (sym e)

pub segment_of-nothing : (t : Table) (p : ℤ) → (shown_at t p).found ≡ false → AllZero (shown_at t p)
unfolding cleared
segment_of-nothing t p f = go (is_track t.entries t.count) f
  where
    go : (b : Bool) → (cond b (shown (point_in_force p (points_in t))) (none_in_force 16)).found ≡ false → AllZero (cond b (shown (point_in_force p (points_in t))) (none_in_force 16))
    go true e = none_by (point_in_force p (points_in t)) e
    go false e = (refl, refl, refl)

-- ---- past the count

padded_past : (l : List Point) (i : ℕ) (d : Point) → length l ≤ i → i < most_points → get_or (padded l) i d ≡ cleared
padded_past l i d h k =
    let n = i - length l in
    let e : i ≡ length l + n = omega (arith, h) in
    ap (λ (j : ℕ). get_or (padded l) j d) e ∙ get_or-append-add l (drop (length l) (replicate most_points cleared)) n d ∙ get_or-drop (length l) (replicate most_points cleared) n d
    ∙ get_or-replicate most_points (length l + n) cleared d (omega (arith, e, k))

pub joined_cleared : (a b : Table) (result : List Point) → (answer_into a b result).result ≡ 0
    → (i : ℕ) (d : Point) → (joined_into a b result).count ≤ i → i < most_points → get_or (joined_into a b result).entries i d ≡ cleared
joined_cleared a b result e i d h k =
    let q = joined_is a b result e in
    ap (λ (t : Table). get_or t.entries i d) q ∙ padded_past (join_points (points_in a) (points_in b)) i d (subst (λ (t : Table). t.count ≤ i) q h) k

pub placed-cleared : (x : Point) (old : List Point) → (placing_into x old).result ≡ 0
    → (i : ℕ) (d : Point) → (placed_into x old).count ≤ i → i < most_points → get_or (placed_into x old).entries i d ≡ cleared
placed-cleared x old e i d h k =
    let q = placed_is x old e in
    ap (λ (t : Table). get_or t.entries i d) q ∙ padded_past (placed_points x) i d (subst (λ (t : Table). t.count ≤ i) q h) k
