-- What a placing leaves and shows: the lemmas behind Tracks.
use Prim.Native.Nat.{ℕ, ◌≤◌}
use mathlib.Core.Path.{◌≡◌, refl, ap, sym, subst, ◌∙◌}
use mathlib.Core.List.{List, [], ◌∷◌}
use mathlib.Core.Bool.{Bool, true, false, cond}
use mathlib.Core.Option.{none, some}
use native.Mathlib.Omega.{arith}
use lib.Dec.{eqb}
use lib.IntN.{ℤ}
use lib.ListN.{length}
use Rattle.refusals.specs.Refusals.{unfit_output, not_valid}
use Rattle.record.proofs.Laws.{and_both}
use Rattle.valid.specs.Valid.{valid}
use Rattle.keyed.specs.Keyed.{Compared, less, same, greater, in_force_by}
use Rattle.plan.specs.Limit.{most_points}
use Rattle.plan.specs.Pictures.{Before, order, pictures, before_irreflexive, before_transitive}
use Rattle.track.specs.declared.Point.{Point}
use Rattle.track.specs.Track.{number, padded, all_stand, RisingPoints, point_in_force, none_in_force, shown, placed_points, place_refusal, place_table}
use Rattle.track.specs.Lent.{Table, table_of, Track, points_in, shown_at, placing_into, placed_into}
use Rattle.promises.proofs.TrackLaws.{points_padded, made_track}
use Rattle.promises.proofs.Shown.{track_shows}
use Rattle.promises.proofs.Joining.{refused_at}

-- a refused placing changes no entry, and its count is 0
pub refused_placing : (x : Point) (old : List Point) → ((placing_into x old).result ≡ 0 → ⊥) → (place_table old x ≡ old) × ((placing_into x old).count ≡ 0)
refused_placing x old h = refused_at (place_refusal x (length old)) (padded (placed_points x)) old (length (placed_points x)) h

placed_at : (p q : Bool) → ◌≡◌ {A = ℕ} (cond p (cond q 0 unfit_output) not_valid) 0 → (p ≡ true) × (q ≡ true)
placed_at true true e = (refl, refl)
placed_at true false e = absurd (omega arith)
placed_at false q e = absurd (omega arith)

module _ (x : Point) (old : List Point) (go : (placing_into x old).result ≡ 0) where
  pub placed_is : placed_into x old ≡ table_of (padded (placed_points x)) (length (placed_points x))
  placed_is = ap (λ (k : ℕ). table_of (cond (eqb k 0) (padded (placed_points x)) old) (cond (eqb k 0) (length (placed_points x)) 0)) go

  is_valid_lem : valid x.«record» ≡ true
  is_valid_lem = (placed_at (valid x.«record») (eqb (length old) most_points) go).0

  one_or_none : (f : Bool) → x.«record».refresh ≡ f → let l : List Point = cond f (x ∷ []) [] in (length l ≤ most_points) × (RisingPoints l × (all_stand l ≡ true))
  one_or_none true e = (omega arith, ((tt, tt), and_both _ _ (and_both _ _ e is_valid_lem) refl))
  one_or_none false e = (omega arith, (tt, refl))

  pub placed_track : Track (placed_into x old)
  placed_track = let y = one_or_none x.«record».refresh refl in subst Track (sym placed_is) (made_track (placed_points x) y.0 y.1.0 y.1.1)

  placed_shows : (q : ℤ) → shown_at (placed_into x old) q ≡ shown (point_in_force q (placed_points x))
  placed_shows q =
      track_shows (placed_into x old) q placed_track
      ∙ ap (λ (l : List Point). shown (point_in_force q l)) (ap points_in placed_is ∙ points_padded (placed_points x))

  from_there : (q : ℤ) (t : Compared Before q (number x)) → (Before q (number x) → ⊥) → in_force_by pictures number x none t ≡ some x
  from_there q (less h) n = absurd (n h)
  from_there q (same _) n = refl
  from_there q (greater _) n = refl

  before_there : (q : ℤ) (t : Compared Before q (number x)) → Before q (number x) → in_force_by pictures number x none t ≡ none
  before_there q (less _) h = refl
  before_there q (same e) h = absurd (before_irreflexive (number x) (subst (λ (z : ℤ). Before z (number x)) e h))
  before_there q (greater g) h = absurd (before_irreflexive q (before_transitive q (number x) q h g))

  with_flag : (f : Bool) → x.«record».refresh ≡ f → (q : ℤ) → point_in_force q (placed_points x) ≡ point_in_force q (cond f (x ∷ []) [])
  with_flag f e q = ap (λ (g : Bool). point_in_force q (cond g (x ∷ []) [])) e

  pub placed_shows_from : x.«record».refresh ≡ true → (q : ℤ) → (Before q (number x) → ⊥) → shown_at (placed_into x old) q ≡ shown (some x)
  placed_shows_from e q n = placed_shows q ∙ ap shown (with_flag true e q ∙ from_there q (order q (number x)) n)

  pub placed_shows_before : x.«record».refresh ≡ true → (q : ℤ) → Before q (number x) → shown_at (placed_into x old) q ≡ none_in_force 0
  placed_shows_before e q h = placed_shows q ∙ ap shown (with_flag true e q ∙ before_there q (order q (number x)) h)

  pub flag_0 : x.«record».refresh ≡ false → ((placed_into x old).count ≡ 0) × ((q : ℤ) → shown_at (placed_into x old) q ≡ none_in_force 0)
  flag_0 e = (ap (λ (t : Table). t.count) placed_is ∙ ap (λ (f : Bool). length (cond f (x ∷ []) [])) e, (λ q. placed_shows q ∙ ap shown (with_flag false e q)))
