-- A join of points is the join of their numbers, with each number's source kept beside it.
use mathlib.Core.Path.{◌≡◌, refl, sym, ◌∙◌, ap, subst}
use mathlib.Core.List.{List, [], ◌∷◌, ◌++◌, map}
use Prim.Native.Nat.{ℕ, suc, ◌+◌, ◌-◌, ◌<◌, ◌≤◌}
use native.Mathlib.Nat.{zero-add}
use native.Mathlib.Omega.{arith}
use Rattle.std.proofs.lemmas.List.{map-append, drop-map}
use Rattle.std.proofs.lemmas.Simd.{map-map}
use lib.ListN.{length, take, drop, get_or, replicate, length-map}
use lib.Seq.{length-take-le, get_or-take}
use Rattle.keyed.specs.Keyed.{join}
use Rattle.keyed.proofs.Mapped.{join_map, rising_to, rising_from, All, join_all}
use Rattle.plan.specs.Limit.{most_points}
use Rattle.plan.specs.Pictures.{pictures}
use Rattle.plan.specs.Entries.{clamped}
use Rattle.plan.proofs.Chosen.{clamped_in, named_first, named_second}
use Rattle.plan.specs.Planning.{named, Tag, tag, source_of, picture_of, tags_from, join_tags, RisingTags, no_sources}
use Rattle.track.specs.declared.Point.{Point}
use Rattle.track.specs.Track.{cleared, number, join_points, RisingPoints, padded}
use Rattle.track.specs.Inner.{unfilled, point_at, chosen_of}

-- ---- a point, and where it stands
record Sourced : Type 0 where
  pub source : ℕ
  pub point : Point

abbrev sourced : ℕ → Point → Sourced
sourced c p = record { source = c; point = p }

abbrev point_of : Sourced → Point
point_of q = q.point

abbrev source_in : Sourced → ℕ
source_in q = q.source

abbrev stripped : Sourced → Tag
stripped q = tag q.source (number q.point)

abbrev sourced_from : ℕ → List Point → List Sourced
sourced_from c [] = []
sourced_from c (x ∷ xs) = sourced c x ∷ sourced_from (suc c) xs

points_of_lem : (c : ℕ) (l : List Point) → map point_of (sourced_from c l) ≡ l
points_of_lem c [] = refl
points_of_lem c (x ∷ xs) = ap (λ (u : List Point). x ∷ u) (points_of_lem (suc c) xs)

tags_of : (c : ℕ) (l : List Point) → map stripped (sourced_from c l) ≡ tags_from c (map number l)
tags_of c [] = refl
tags_of c (x ∷ xs) = ap (λ (u : List Tag). tag c (number x) ∷ u) (tags_of (suc c) xs)

sources_of : (l : List Sourced) → map source_of (map stripped l) ≡ map source_in l
sources_of [] = refl
sources_of (q ∷ qs) = ap (λ (u : List ℕ). q.source ∷ u) (sources_of qs)

abbrev join_sourced : List Sourced → List Sourced → List Sourced
join_sourced = join pictures (λ q. number q.point)

pub rising_tags : (c : ℕ) (l : List Point) → RisingPoints l → RisingTags (tags_from c (map number l))
rising_tags c l r =
    subst RisingTags (tags_of c l)
    (rising_to pictures picture_of stripped (sourced_from c l) (rising_from pictures number point_of (sourced_from c l) (subst RisingPoints (sym (points_of_lem c l)) r)))

module _ (a b : List Point) where
  -- the point that a source's number names
  abbrev pub by_number : ℕ → Point
  by_number source = chosen_of a b (named source)

  abbrev Names : Sourced → Type 0
  Names q = by_number q.source ≡ q.point

  abbrev AllNamed : List Sourced → Type 0
  AllNamed = All pictures (λ q. number q.point) Names

  named_points : (l : List Sourced) → AllNamed l → map by_number (map source_in l) ≡ map point_of l
  named_points [] h = refl
  named_points (q ∷ qs) h = ap (λ (p : Point). p ∷ map by_number (map source_in qs)) h.0 ∙ ap (λ (u : List Point). q.point ∷ u) (named_points qs h.1)

  -- a list whose entries from c on are named by the sources from c on
  all_named : (c : ℕ) (l : List Point) → ((i : ℕ) → i < length l → by_number (c + i) ≡ get_or l i unfilled) → AllNamed (sourced_from c l)
  all_named c [] h = tt
  all_named c (x ∷ xs) h =
      let here : c ≡ c + 0 = omega arith in
      let on : (i : ℕ) → suc c + i ≡ c + suc i = (λ i. omega arith) in
      (ap by_number here ∙ h 0 (omega arith), all_named (suc c) xs (λ i g. ap by_number (on i) ∙ h (suc i) (omega arith)))

  of_left : (i : ℕ) → i < most_points → by_number i ≡ point_at a i
  of_left i h = ap (chosen_of a b) (named_first i h) ∙ ap (point_at a) (clamped_in i h)

  of_right : (j : ℕ) → j < most_points → by_number (most_points + j) ≡ point_at b j
  of_right j h =
      let e : most_points + j - most_points ≡ j = omega arith in
      ap (chosen_of a b) (named_second (most_points + j) (omega arith) (omega arith)) ∙ ap (λ (k : ℕ). point_at b (clamped k)) e ∙ ap (point_at b) (clamped_in j h)

  module _ (n m : ℕ) (hn : n ≤ most_points) (hm : m ≤ most_points) (la : length a ≡ most_points) (lb : length b ≡ most_points) where
    abbrev A : List Point
    A = take n a

    abbrev B : List Point
    B = take m b

    abbrev J : List Sourced
    J = join_sourced (sourced_from 0 A) (sourced_from most_points B)

    named_a : AllNamed (sourced_from 0 A)
    named_a =
        let e : length A ≡ n = length-take-le n a (omega arith) in
        all_named 0 A (λ i g. ap by_number (zero-add i) ∙ of_left i (omega (arith, e)) ∙ sym (get_or-take n a i unfilled (omega (arith, e))))

    named_b : AllNamed (sourced_from most_points B)
    named_b =
        let e : length B ≡ m = length-take-le m b (omega arith) in
        all_named most_points B (λ j g. of_right j (omega (arith, e)) ∙ sym (get_or-take m b j unfilled (omega (arith, e))))

    J-points : map point_of J ≡ join_points A B
    J-points = join_map pictures number point_of (sourced_from 0 A) (sourced_from most_points B) ∙ ap (λ (u : List Point). join_points u (map point_of (sourced_from most_points B))) (points_of_lem 0 A) ∙ ap (join_points A) (points_of_lem most_points B)

    J-sources : map source_of (join_tags (tags_from 0 (map number A)) (tags_from most_points (map number B))) ≡ map source_in J
    J-sources =
        ap (λ (u : List Tag). map source_of (join_tags u (tags_from most_points (map number B)))) (sym (tags_of 0 A)) ∙ ap (λ (u : List Tag). map source_of (join_tags (map stripped (sourced_from 0 A)) u)) (sym (tags_of most_points B))
        ∙ ap (map source_of) (sym (join_map pictures picture_of stripped (sourced_from 0 A) (sourced_from most_points B))) ∙ sources_of J

    pub named_join : map by_number (map source_of (join_tags (tags_from 0 (map number A)) (tags_from most_points (map number B)))) ≡ join_points A B
    named_join = ap (map by_number) J-sources ∙ named_points J (join_all pictures (λ q. number q.point) Names (sourced_from 0 A) (sourced_from most_points B) named_a named_b) ∙ J-points

  -- and what stands past it
  pub padded_join : (l : List ℕ) → map (chosen_of a b) (map named (l ++ drop (length l) no_sources)) ≡ padded (map by_number l)
  padded_join l =
      map-map (chosen_of a b) named (l ++ drop (length l) no_sources) ∙ map-append by_number l (drop (length l) no_sources) ∙ ap (λ (u : List Point). map by_number l ++ u) (sym (drop-map by_number (length l) no_sources))
      ∙ ap (λ (k : ℕ). map by_number l ++ drop k (replicate most_points cleared)) (sym (length-map l by_number))
