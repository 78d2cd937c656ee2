-- What a lookup and a join show: the lemmas behind Tracks.
use Prim.Native.Nat.{ℕ}
use mathlib.Core.Path.{◌≡◌, refl, ap, sym, subst, ◌∙◌}
use mathlib.Core.List.{List}
use mathlib.Core.Bool.{Bool, true, false, cond, ◌&&◌}
use mathlib.Core.Option.{Option, none, some}
use native.Mathlib.Omega.{arith}
use lib.Dec.{T, eqb, leb}
use lib.IntN.{ℤ}
use lib.Signed.{lt_z}
use lib.ListN.{length}
use Rattle.refusals.specs.Refusals.{unfit_output, too_many_points, not_a_track}
use Rattle.keyed.specs.Keyed.{or_else, later_by, Compared, less, same, greater, later}
use Rattle.keyed.proofs.Laws.{held_in_join, join_rising, joined_shows_the_later_start}
use Rattle.plan.specs.Limit.{most_points}
use Rattle.plan.specs.Pictures.{Before, order, pictures, before_irreflexive, before_transitive}
use Rattle.track.specs.declared.Point.{Point}
use Rattle.track.specs.declared.Joined.{Joined}
use Rattle.track.specs.declared.InForce.{InForce}
use Rattle.track.specs.Track.{number, padded, all_stand, rise, is_track, join_points, point_in_force, point_at_number, none_in_force, shown, joined_at}
use Rattle.track.specs.Lent.{Table, table_of, Track, points_in, shown_at, start_of, start_at, answer_into, joined_into}
use Rattle.promises.specs.Joins.{Alike, is_later}
use Rattle.promises.proofs.TrackLaws.{parts, in_order, made_track, done_means, joined_is, joined_points, join_stands}

-- ---- a lookup

pub no_track_is_refused : (t : Table) (p : ℤ) → is_track t.entries t.count ≡ false → shown_at t p ≡ none_in_force not_a_track
no_track_is_refused t p e = ap (λ (b : Bool). cond b (shown (point_in_force p (points_in t))) (none_in_force not_a_track)) e

-- a lookup in a track shows the record in force, or nothing: "nothing" is `found` false, which no record has, one without blocks neither
pub track_shows : (t : Table) (p : ℤ) → Track t → shown_at t p ≡ shown (point_in_force p (points_in t))
track_shows t p v = ap (λ (b : Bool). cond b (shown (point_in_force p (points_in t))) (none_in_force not_a_track)) v

-- a track that has not started at a picture shows nothing there
pub not_started : (t : Table) (p : ℤ) → Track t → start_at t p ≡ none → shown_at t p ≡ none_in_force 0
not_started t p v e = track_shows t p v ∙ go (point_in_force p (points_in t)) e
  where
    there : Option ℤ → Bool
    there none = false
    there (some z) = true

    go : (o : Option Point) → start_of o ≡ none → shown o ≡ none_in_force 0
    go none e = refl
    go (some x) e = let w : ◌≡◌ {A = Bool} true false = ap there e in let q : ◌≡◌ {A = ℕ} 0 1 = cc in absurd (omega arith)

pub none_is_not_some : (x : Point) → shown none ≡ shown (some x) → ⊥
none_is_not_some x e = let w : ◌≡◌ {A = Bool} false true = ap (λ (r : InForce). r.found) e in let q : ◌≡◌ {A = ℕ} 0 1 = cc in absurd (omega arith)

-- ---- what lies past the count is ignored, whatever it is

tracked : ℕ → ℕ → List Point → Bool
tracked entries count l = eqb entries most_points && leb count most_points && (rise l && all_stand l)

one_track : (s t : Table) → Alike s t → is_track s.entries s.count ≡ is_track t.entries t.count
unfolding tracked
one_track s t e =
    ap (λ (n : ℕ). tracked n s.count (points_in s)) e.length_same ∙ ap (λ (n : ℕ). tracked (length t.entries) n (points_in s)) e.count_same
    ∙ ap (tracked (length t.entries) t.count) e.points_same

pub lookup_past : (s t : Table) (p : ℤ) → Alike s t → shown_at s p ≡ shown_at t p
lookup_past s t p e =
    ap (λ (b : Bool). cond b (shown (point_in_force p (points_in s))) (none_in_force not_a_track)) (one_track s t e)
    ∙ ap (λ (l : List Point). cond (is_track t.entries t.count) (shown (point_in_force p l)) (none_in_force not_a_track)) e.points_same

pub join_past : (a b s t : Table) (result : List Point) → Alike a s → Alike b t → (answer_into a b result ≡ answer_into s t result) × (joined_into a b result ≡ joined_into s t result)
join_past a b s t result e f =
    let l : join_points (points_in a) (points_in b) ≡ join_points (points_in s) (points_in t) =
    ap (λ (k : List Point). join_points k (points_in b)) e.points_same ∙ ap (join_points (points_in s)) f.points_same in
    let number_of_lem : Bool → Bool → List Point → ℕ = (λ p q k. cond p (cond q (cond (eqb (length result) most_points) (cond (leb (length k) most_points) 0 too_many_points) unfit_output) not_a_track) not_a_track) in
    let made : Bool → Bool → List Point → Table = (λ p q k. table_of (cond (eqb (number_of_lem p q k) 0) (padded k) result) (joined_at (number_of_lem p q k) k).count) in
    let told : Bool → Bool → List Point → Joined = (λ p q k. joined_at (number_of_lem p q k) k) in
    let u = one_track a s e in
    let v = one_track b t f in
    let ta : Bool = is_track a.entries a.count in
    let tb : Bool = is_track b.entries b.count in
    let ts : Bool = is_track s.entries s.count in
    let tt' : Bool = is_track t.entries t.count in (
      ap (λ (p : Bool). told p tb (join_points (points_in a) (points_in b))) u ∙ ap (λ (q : Bool). told ts q (join_points (points_in a) (points_in b))) v ∙ ap (told ts tt') l,
      ap (λ (p : Bool). made p tb (join_points (points_in a) (points_in b))) u ∙ ap (λ (q : Bool). made ts q (join_points (points_in a) (points_in b))) v ∙ ap (made ts tt') l,
    )

-- ---- what a join shows

-- a join that is done makes a track
pub joined_track : (a b : Table) (result : List Point) → (answer_into a b result).result ≡ 0 → Track (joined_into a b result)
joined_track a b result e =
    let d = done_means a b result e in
    let pa = parts a d.first in
    let pb = parts b d.second in
    subst Track (sym (joined_is a b result e))
    (made_track (join_points (points_in a) (points_in b)) d.within (join_rising pictures number (points_in a) (points_in b) (in_order a d.first)) (join_stands (points_in a) (points_in b) pa.stand pb.stand))

-- it holds every number of either track, with the second's point where both hold the number, and no other
pub held_in_joined : (a b : Table) (result : List Point) (k : ℤ) → (answer_into a b result).result ≡ 0
    → point_at_number k (points_in (joined_into a b result)) ≡ or_else (point_at_number k (points_in b)) (point_at_number k (points_in a))
held_in_joined a b result k e =
    ap (point_at_number k) (joined_points a b result e) ∙ held_in_join pictures number k (points_in a) (points_in b) (in_order a (done_means a b result e).first)

by_start : (b : Bool) (u v : InForce) (c : Bool) → b ≡ c → cond b u v ≡ cond c u v
by_start b u v c e = ap (λ (d : Bool). cond d u v) e

not_so : (b : Bool) → (T b → ⊥) → b ≡ false
not_so true n = absurd (n tt)
not_so false n = refl

so : (b : Bool) → T b → b ≡ true
so true t = refl
so false t = absurd t

later_by_lem : (x y : Point) (t : Compared Before (number x) (number y)) → shown (later_by pictures number x y t) ≡ cond (lt_z (number y) (number x)) (shown (some x)) (shown (some y))
later_by_lem x y (less h) =
    by_start false (shown (some x)) (shown (some y)) _ (sym (not_so (lt_z (number y) (number x)) (λ g. before_irreflexive (number x) (before_transitive (number x) (number y) (number x) h g))))
later_by_lem x y (same e) =
    by_start false (shown (some x)) (shown (some y)) _ (sym (not_so (lt_z (number y) (number x)) (λ g. before_irreflexive (number y) (subst (λ (z : ℤ). Before (number y) z) e g))))
later_by_lem x y (greater h) = by_start true (shown (some x)) (shown (some y)) _ (sym (so (lt_z (number y) (number x)) h))

later_shows : (u v : Option Point) → shown (later pictures number u v) ≡ cond (is_later (start_of u) (start_of v)) (shown u) (shown v)
later_shows none v = refl
later_shows (some x) none = refl
later_shows (some x) (some y) = later_by_lem x y (order (number x) (number y))

-- at every picture it shows what is in force in whichever has the later or only start there, and the second's if both start together:
-- what the first shows where its start is the later or only one, and else what the second shows
pub joined_shows : (a b : Table) (result : List Point) (p : ℤ) → (answer_into a b result).result ≡ 0
    → shown_at (joined_into a b result) p ≡ cond (is_later (start_at a p) (start_at b p)) (shown_at a p) (shown_at b p)
joined_shows a b result p e =
    let d = done_means a b result e in
    track_shows (joined_into a b result) p (joined_track a b result e)
    ∙ ap (λ (l : List Point). shown (point_in_force p l)) (joined_points a b result e)
    ∙ ap shown (joined_shows_the_later_start pictures number (points_in a) (points_in b) (in_order a d.first) p (in_order b d.second))
    ∙ later_shows (point_in_force p (points_in a)) (point_in_force p (points_in b))
    ∙ ap (λ (r : InForce). cond (is_later (start_at a p) (start_at b p)) r (shown (point_in_force p (points_in b)))) (sym (track_shows a p d.first))
    ∙ ap (λ (r : InForce). cond (is_later (start_at a p) (start_at b p)) (shown_at a p) r) (sym (track_shows b p d.second))
