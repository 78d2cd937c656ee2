-- What is in force, by membership: the lemmas behind Tracks.
use Prim.Native.Nat.{ℕ}
use mathlib.Core.Path.{◌≡◌, refl, ap, sym, subst, ◌∙◌}
use mathlib.Core.Bool.{Bool, true, false}
use mathlib.Core.List.{List, [], ◌∷◌}
use mathlib.Core.Logic.{inl, inr, ⊎_elim}
use mathlib.Core.Option.{Option, none, some}
use native.Mathlib.Omega.{arith}
use lib.IntN.{ℤ}
use Rattle.keyed.specs.Keyed.{Compared, less, same, greater, NotAbove, Above, InForceAt, held_at_by}
use Rattle.keyed.proofs.Laws.{some_one, some_none, not_eq, held_head, held_tail, in_force_is, in_force_one}
use Rattle.plan.specs.Pictures.{Before, order, pictures, before_irreflexive, before_transitive}
use Rattle.track.specs.declared.Point.{Point}
use Rattle.track.specs.declared.InForce.{InForce}
use Rattle.track.specs.Track.{number, RisingPoints, point_in_force, point_at_number, shown}
use Rattle.track.specs.Lent.{Table, Track, points_in, shown_at}
use Rattle.promises.specs.Joins.{◌∈◌, Greatest, AllAbove}
use Rattle.promises.proofs.TrackLaws.{in_order, held_number}
use Rattle.promises.proofs.Shown.{track_shows}

-- ---- held at its number, or one of the points

held_by_one : (k : ℤ) (x y : Point) (ys : List Point) (rest : Option Point) (t : Compared Before k (number y)) → (rest ≡ some x → x ∈ ys) → held_at_by pictures number y rest t ≡ some x → x ∈ (y ∷ ys)
held_by_one k x y ys rest (less _) h e = inr (h e)
held_by_one k x y ys rest (same _) h e = inl (sym (some_one pictures number e))
held_by_one k x y ys rest (greater _) h e = inr (h e)

held_is_one : (k : ℤ) (x : Point) (l : List Point) → point_at_number k l ≡ some x → x ∈ l
held_is_one k x [] e = absurd (some_none pictures number (sym e))
held_is_one k x (y ∷ ys) e = held_by_one k x y ys (point_at_number k ys) (order k (number y)) (held_is_one k x ys) e

above_one : (k : ℤ) (x : Point) (l : List Point) → Above pictures number k l → x ∈ l → Before k (number x)
above_one k x [] a m = absurd m
above_one k x (y ∷ ys) a m = ⊎_elim (λ e. subst (λ (z : Point). Before k (number z)) (sym e) a.0) (λ n. above_one k x ys a.1 n) m

one_is_held : (x : Point) (l : List Point) → RisingPoints l → x ∈ l → point_at_number (number x) l ≡ some x
one_is_held x [] r m = absurd m
one_is_held x (y ∷ ys) r m =
    ⊎_elim (λ e. subst (λ (z : Point). point_at_number (number z) (y ∷ ys) ≡ some z) (sym e) (held_head pictures number y ys))
    (λ n. held_tail pictures number (number x) y ys (λ e. not_eq pictures number (above_one (number y) x ys r.0 n) (sym e)) ∙ one_is_held x ys r.1 n) m

-- ---- the point in force

module _ (t : Table) (p : ℤ) (v : Track t) where
  rising : RisingPoints (points_in t)
  rising = in_order t v

  not_none : (y : Point) → y ∈ points_in t → point_at_number (number y) (points_in t) ≡ none → ⊥
  not_none y m e = some_none pictures number (sym (one_is_held y (points_in t) rising m) ∙ e)

  found_greatest : (x : Point) → InForceAt pictures number p (points_in t) (some x) → Greatest t p x
  found_greatest x i = record {
    is_a_point = held_is_one (number x) x (points_in t) i.0;
    not_above = i.1.0;
    none_is_greater = λ y m n h. not_none y m (i.1.1 (number y) h n);
  }

  found_none : InForceAt pictures number p (points_in t) none → AllAbove t p
  found_none i y m = by (order p (number y))
    where
      by : Compared Before p (number y) → Before p (number y)
      by (less h) = h
      by (same e) = absurd (not_none y m (i (number y) (λ h. not_eq pictures number h e)))
      by (greater h) = absurd (not_none y m (i (number y) (λ g. before_irreflexive p (before_transitive p (number y) p g h))))

  is_in_force : (o : Option Point) → point_in_force p (points_in t) ≡ o → InForceAt pictures number p (points_in t) o
  is_in_force o e = subst (λ (q : Option Point). InForceAt pictures number p (points_in t) q) e (in_force_is pictures number p (points_in t) rising)

  true_false : ◌≡◌ {A = Bool} true false → ⊥
  true_false e = let q : ◌≡◌ {A = ℕ} 0 1 = cc in omega arith

  -- what is found is the record of the greatest
  pub found_is_the_greatest : (shown_at t p).found ≡ true → (x : Point) × Greatest t p x × (shown_at t p ≡ record { result = 0; found = true; point = x })
  found_is_the_greatest f = go (point_in_force p (points_in t)) refl
    where
      go : (o : Option Point) → point_in_force p (points_in t) ≡ o → (x : Point) × Greatest t p x × (shown_at t p ≡ record { result = 0; found = true; point = x })
      go none e = absurd (true_false (sym f ∙ ap (λ (r : InForce). r.found) (track_shows t p v) ∙ ap (λ (o : Option Point). (shown o).found) e))
      go (some x) e = (x, found_greatest x (is_in_force (some x) e), track_shows t p v ∙ ap shown e)

  -- the greatest is the point in force
  greatest_in_force : (x : Point) → Greatest t p x → point_in_force p (points_in t) ≡ some x
  greatest_in_force x g =
      in_force_one pictures number p (points_in t) (point_in_force p (points_in t)) (some x) (in_force_is pictures number p (points_in t) rising)
      (one_is_held x (points_in t) rising g.is_a_point, (g.not_above, (λ j h n. go j h n (point_at_number j (points_in t)) refl)))
    where
      go : (j : ℤ) → Before (number x) j → NotAbove pictures j p → (o : Option Point) → point_at_number j (points_in t) ≡ o → point_at_number j (points_in t) ≡ none
      go j h n none e = e
      go j h n (some y) e =
          let q : number y ≡ j = held_number j (points_in t) y e in
          absurd (g.none_is_greater y (held_is_one j y (points_in t) e) (subst (λ (k : ℤ). NotAbove pictures k p) (sym q) n) (subst (λ (k : ℤ). Before (number x) k) (sym q) h))

  pub the_greatest_is_found : (x : Point) → Greatest t p x → shown_at t p ≡ record { result = 0; found = true; point = x }
  the_greatest_is_found x g = track_shows t p v ∙ ap shown (greatest_in_force x g)

  pub not_found_all_above : (shown_at t p).found ≡ false → AllAbove t p
  not_found_all_above f = go (point_in_force p (points_in t)) refl
    where
      go : (o : Option Point) → point_in_force p (points_in t) ≡ o → AllAbove t p
      go none e = found_none (is_in_force none e)
      go (some x) e = absurd (true_false (sym (ap (λ (o : Option Point). (shown o).found) e) ∙ sym (ap (λ (r : InForce). r.found) (track_shows t p v)) ∙ f))

  pub all_above_not_found : AllAbove t p → shown_at t p ≡ shown none
  all_above_not_found h = track_shows t p v ∙ go (point_in_force p (points_in t)) refl
    where
      go : (o : Option Point) → point_in_force p (points_in t) ≡ o → shown (point_in_force p (points_in t)) ≡ shown none
      go none e = ap shown e
      go (some x) e = let g = found_greatest x (is_in_force (some x) e) in absurd (g.not_above (h x g.is_a_point))
