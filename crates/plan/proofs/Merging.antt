-- `merge`: one turn takes the next point of a join off the two tracks and puts it behind those that are there.
use mathlib.Core.Path.{◌≡◌, refl, sym, ◌∙◌, ap, subst}
use mathlib.Core.Bool.{Bool, true, false, cond}
use mathlib.Core.List.{List, [], ◌∷◌, ◌++◌, map, append_assoc, append-nil}
use Prim.Native.Nat.{ℕ, zero, suc, ◌+◌, ◌≤◌, ◌<◌}
use native.Mathlib.Nat.{zero-add, le_of_suc-le-suc, not-suc-le-zero}
use native.Mathlib.Numerals.{add-one}
use native.Mathlib.Omega.{arith}
use borrow.Author.Tests.{ltb-true, ltb-false, le-leb, lt-leb}
use lib.Dec.{ltb}
use lib.ListN.{length, take, drop, get_or, set, length-set, length-append}
use lib.Seq.{drop-cons, drop-drop, drop-set-lt, take-suc-set, length-take-le, take_all}
use lib.IntN.{ℤ, pos}
use Rattle.std.specs.Prelude.{Option, Some, None, Result, Ok, Err, is_some, unwrap_or, option_map, option_copied}
use Rattle.std.specs.Borrow.{Bor}
use Rattle.std.proofs.lemmas.List.{map-set, take-append-drop}
use Rattle.refusals.specs.declared.Refusal.{Refusal}
use Rattle.refusals.specs.declared.Refusal.TheVariants.{TooManyPoints}
use Rattle.keyed.specs.Keyed.{Compared, less, same, greater}
use Rattle.keyed.proofs.Laws.{front_by, join_front, nothing_joined}
use Rattle.plan.specs.Limit.{most_points}
use Rattle.plan.specs.Pictures.{Before, order, pictures}
use Rattle.plan.specs.declared.Layout.{Layout}
use Rattle.plan.specs.declared.Source.{Source}
use Rattle.plan.specs.declared.entry.Entry.{Entry}
use Rattle.plan.specs.Entries.{clamped, entry_at}
use Rattle.plan.proofs.Chosen.{clamped_in}
use Rattle.plan.specs.Planning.{named, Tag, tag, source_of, picture_of, tags_from, join_tags, RisingTags, NextTag, next, next_by, next_of, no_sources, layout_of}

abbrev none : Tag
none = tag 0 (pos 0)

abbrev tag_at : List Tag → ℕ → Tag
tag_at l i = get_or l i none

split-on {ℓ} : {X : Type ℓ} (b : Bool) → (b ≡ true → X) → (b ≡ false → X) → X
split-on true f g = f refl
split-on false f g = g refl

rising_drop : (l : List Tag) (i : ℕ) → RisingTags l → RisingTags (drop i l)
rising_drop l zero r = r
rising_drop [] (suc i) r = tt
rising_drop (x ∷ xs) (suc i) r = rising_drop xs i r.1

gone : (l : List Tag) (i : ℕ) → length l ≤ i → drop i l ≡ []
gone [] zero h = refl
gone [] (suc i) h = refl
gone (x ∷ xs) zero h = absurd (not-suc-le-zero h)
gone (x ∷ xs) (suc i) h = gone xs i (omega arith)

record Fronted (A B : List Tag) (i j : ℕ) (N : NextTag) : Type 0 where
  pub front : join_tags (drop i A) (drop j B) ≡ N.tag ∷ join_tags (drop (i + N.left) A) (drop (j + N.right) B)
  pub left : i + N.left ≤ length A
  pub right : j + N.right ≤ length B
  pub on : i + j < i + N.left + (j + N.right)

module _ (A B : List Tag) (ra : RisingTags A) (rb : RisingTags B) (i j : ℕ) where
  -- by the fronts of what is left
  fronted : (N : NextTag) (xs ys : List Tag) → drop i A ≡ xs → drop j B ≡ ys → join_tags xs ys ≡ N.tag ∷ join_tags (drop N.left xs) (drop N.right ys)
      → i + N.left ≤ length A → j + N.right ≤ length B → i + j < i + N.left + (j + N.right) → Fronted A B i j N
  fronted N xs ys ea eb f l r o = record {
    front = ap (λ (u : List Tag). join_tags u (drop j B)) ea ∙ ap (join_tags xs) eb ∙ f
        ∙ ap (λ (u : List Tag). N.tag ∷ join_tags (drop N.left u) (drop N.right ys)) (sym ea)
        ∙ ap (λ (u : List Tag). N.tag ∷ join_tags (drop N.left (drop i A)) (drop N.right u)) (sym eb)
        ∙ ap (λ (u : List Tag). N.tag ∷ join_tags u (drop N.right (drop j B))) (drop-drop N.left i A)
        ∙ ap (λ (u : List Tag). N.tag ∷ join_tags (drop (i + N.left) A) u) (drop-drop N.right j B);
    left = l;
    right = r;
    on = o;
  }

  both_by : (x y : Tag) (t : Compared Before (picture_of x) (picture_of y)) → i < length A → j < length B → drop i A ≡ x ∷ drop (suc i) A → drop j B ≡ y ∷ drop (suc j) B
      → join_tags (x ∷ drop (suc i) A) (y ∷ drop (suc j) B) ≡ front_by pictures picture_of x (drop (suc i) A) y (drop (suc j) B) t → Fronted A B i j (next_by x y t)
  both_by x y (less h) ia jb ea eb f = fronted _ _ _ ea eb f (omega arith) (omega arith) (omega arith)
  both_by x y (same e) ia jb ea eb f = fronted _ _ _ ea eb f (omega arith) (omega arith) (omega arith)
  both_by x y (greater h) ia jb ea eb f = fronted _ _ _ ea eb f (omega arith) (omega arith) (omega arith)

  module _ (x y : Tag) (hx : i < length A → x ≡ tag_at A i) (hy : j < length B → y ≡ tag_at B j) where
    open_a : i < length A → drop i A ≡ x ∷ drop (suc i) A
    open_a h = drop-cons A i none h ∙ ap (λ (p : Tag). p ∷ drop (suc i) A) (sym (hx h))

    open_b : j < length B → drop j B ≡ y ∷ drop (suc j) B
    open_b h = drop-cons B j none h ∙ ap (λ (p : Tag). p ∷ drop (suc j) B) (sym (hy h))

    both_case : i < length A → j < length B → Fronted A B i j (next_by x y (order (picture_of x) (picture_of y)))
    both_case h g =
        both_by x y (order (picture_of x) (picture_of y)) h g (open_a h) (open_b g)
        (join_front pictures picture_of x (drop (suc i) A) y (drop (suc j) B) (subst RisingTags (open_a h) (rising_drop A i ra)) (subst RisingTags (open_b g) (rising_drop B j rb)))

    only_a : i < length A → length B ≤ j → j ≤ length B → Fronted A B i j (next x 1 0)
    only_a h g k = fronted (next x 1 0) (x ∷ drop (suc i) A) [] (open_a h) (gone B j g) refl (omega arith) (omega arith) (omega arith)

    only_b : length A ≤ i → i ≤ length A → j < length B → Fronted A B i j (next y 0 1)
    only_b g k h =
        let rs : RisingTags (y ∷ drop (suc j) B) = subst RisingTags (open_b h) (rising_drop B j rb) in
        fronted (next y 0 1) [] (y ∷ drop (suc j) B) (gone A i g) (open_b h)
        (nothing_joined pictures picture_of (y ∷ drop (suc j) B) rs ∙ ap (λ (u : List Tag). y ∷ u) (sym (nothing_joined pictures picture_of (drop (suc j) B) rs.1)))
        (omega arith) (omega arith) (omega arith)

    by_tests : (p q : Bool) → ltb i (length A) ≡ p → ltb j (length B) ≡ q → i ≤ length A → j ≤ length B → i + j < length A + length B → Fronted A B i j (next_of p x q y)
    by_tests true true ep eq la lb h = both_case (ltb-true i (length A) ep) (ltb-true j (length B) eq)
    by_tests true false ep eq la lb h = only_a (ltb-true i (length A) ep) (ltb-false j (length B) eq) lb
    by_tests false true ep eq la lb h = only_b (ltb-false i (length A) ep) la (ltb-true j (length B) eq)
    by_tests false false ep eq la lb h = let u = ltb-false i (length A) ep in let v = ltb-false j (length B) eq in absurd (omega (arith, u, v))

    fronts : i ≤ length A → j ≤ length B → i + j < length A + length B → Fronted A B i j (next_of (ltb i (length A)) x (ltb j (length B)) y)
    fronts la lb h = by_tests (ltb i (length A)) (ltb j (length B)) refl refl la lb h

-- ---- the same, of the sources alone
pub record Comes (A B : List Tag) (i j : ℕ) (N : NextTag) : Type 0 where
  pub front : map source_of (join_tags (drop i A) (drop j B)) ≡ N.tag.source ∷ map source_of (join_tags (drop (i + N.left) A) (drop (j + N.right) B))
  pub left : i + N.left ≤ length A
  pub right : j + N.right ≤ length B
  pub on : i + j < i + N.left + (j + N.right)

comes : (A B : List Tag) (i j : ℕ) (N : NextTag) → Fronted A B i j N → Comes A B i j N
comes A B i j N f = record { front = ap (map source_of) f.front; left = f.left; right = f.right; on = f.on }

-- ---- the loop's invariant: what stands in `out` are the sources that numbers name
pub record Merging (J : List ℕ) (A B : List Tag) (out : List Source) (i j k : ℕ) : Type 0 where
  pub numbers : List ℕ
  pub named_by : out ≡ map named numbers
  pub left : i ≤ length A
  pub right : j ≤ length B
  pub count : k ≤ most_points
  pub size : length numbers ≡ most_points
  pub so_far : J ≡ take k numbers ++ map source_of (join_tags (drop i A) (drop j B))
  pub rest : drop k numbers ≡ drop k no_sources

pub begins : (A B : List Tag) → Merging (map source_of (join_tags A B)) A B (map named no_sources) 0 0 0
begins A B = record { numbers = no_sources; named_by = refl; left = omega arith; right = omega arith; count = omega arith; size = refl; so_far = refl; rest = refl }

pub turns : (J : List ℕ) (A B : List Tag) (out : List Source) (i j k : ℕ) (N : NextTag) → Merging J A B out i j k → Comes A B i j N → k < most_points
    → Merging J A B (set out k (named N.tag.source)) (i + N.left) (j + N.right) (k + 1)
turns J A B out i j k N m f h =
    let p = N.tag.source in
    let l = m.numbers in
    let r = map source_of (join_tags (drop (i + N.left) A) (drop (j + N.right) B)) in
    let inside : k < length l = subst (λ (n : ℕ). k < n) (sym m.size) h in
    record {
      numbers = set l k p;
      named_by = ap (λ (u : List Source). set u k (named p)) m.named_by ∙ sym (map-set named l k p);
      left = f.left;
      right = f.right;
      count = omega arith;
      size = length-set l k p ∙ m.size;
      so_far = m.so_far ∙ ap (λ (u : List ℕ). take k l ++ u) f.front ∙ sym (append_assoc (take k l) (p ∷ []) r)
          ∙ ap (λ (u : List ℕ). u ++ r) (sym (take-suc-set l k p inside)) ∙ ap (λ (n : ℕ). take n (set l k p) ++ r) (sym (add-one k));
      rest = drop-set-lt (k + 1) l k p (omega arith) ∙ sym (drop-drop 1 k l) ∙ ap (drop 1) m.rest ∙ drop-drop 1 k no_sources;
    }

abbrev fitting : List ℕ → Result Layout Refusal
fitting J = Ok (record { count = length J; sources = map named (J ++ drop (length J) no_sources) })

-- the join is longer than 64
pub too_long : (J : List ℕ) (A B : List Tag) (out : List Source) (i j k : ℕ) (N : NextTag) → Merging J A B out i j k → Comes A B i j N → k ≡ most_points → Err TooManyPoints ≡ layout_of J
too_long J A B out i j k N m f e =
    let l = m.numbers in
    let r = map source_of (join_tags (drop (i + N.left) A) (drop (j + N.right) B)) in
    let whole : take k l ≡ l = take_all k l (let s = m.size in omega (arith, s, e)) in
    let long : length J ≡ length l + suc (length r) =
    (ap length (m.so_far ∙ ap (λ (u : List ℕ). u ++ map source_of (join_tags (drop i A) (drop j B))) whole ∙ ap (λ (u : List ℕ). l ++ u) f.front) ∙ length-append l (N.tag.source ∷ r)) in
    sym (ap (λ (b : Bool). cond b (fitting J) (Err TooManyPoints)) (lt-leb (length J) most_points (let s = m.size in omega (arith, s, long))))

same_layout : {k n : ℕ} {u v : List Source} → k ≡ n → u ≡ v → ◌≡◌ {A = Result Layout Refusal} (Ok (record { count = k; sources = u })) (Ok (record { count = n; sources = v }))
same_layout e f = rw (e, f)

pub ends : (J : List ℕ) (A B : List Tag) (out : List Source) (i j k : ℕ) → Merging J A B out i j k → length A + length B ≤ i + j → Ok (record { count = k; sources = out }) ≡ layout_of J
ends J A B out i j k m h =
    let l = m.numbers in
    let la = m.left in
    let lb = m.right in
    let ea : drop i A ≡ [] = gone A i (omega arith) in
    let eb : drop j B ≡ [] = gone B j (omega arith) in
    let all : J ≡ take k l = (m.so_far ∙ ap (λ (u : List Tag). take k l ++ map source_of (join_tags u (drop j B))) ea ∙ ap (λ (u : List Tag). take k l ++ map source_of (join_tags [] u)) eb ∙ append-nil (take k l)) in
    let len : length J ≡ k = (ap length all ∙ length-take-le k l (let c = m.count in let s = m.size in omega (arith, c, s))) in
    let pads : J ++ drop (length J) no_sources ≡ l =
    (ap (λ (n : ℕ). J ++ drop n no_sources) len ∙ ap (λ (u : List ℕ). J ++ u) (sym m.rest) ∙ ap (λ (u : List ℕ). u ++ drop k l) all ∙ take-append-drop k l) in
    same_layout (sym len) (m.named_by ∙ ap (map named) (sym pads)) ∙ ap (λ (b : Bool). cond b (fitting J) (Err TooManyPoints)) (sym (le-leb (length J) most_points (let c = m.count in omega (arith, c, len))))

-- ---- as `merge` has it: by what `get` gives, and by the places that are clamped
pub tags_length : (c : ℕ) (l : List ℤ) → length (tags_from c l) ≡ length l
tags_length c [] = refl
tags_length c (z ∷ zs) = ap suc (tags_length (suc c) zs)

tags_at : (c : ℕ) (l : List ℤ) (i : ℕ) → i < length l → tag_at (tags_from c l) i ≡ tag (c + i) (get_or l i (pos 0))
tags_at c [] i h = absurd (not-suc-le-zero h)
tags_at c (z ∷ zs) zero h = ap (λ (n : ℕ). tag n z) (omega arith)
tags_at c (z ∷ zs) (suc i) h = tags_at (suc c) zs i (le_of_suc-le-suc h) ∙ ap (λ (n : ℕ). tag n (get_or zs i (pos 0))) (omega arith)

got_at : (c : ℕ) (l : List ℤ) (i : ℕ) → length l ≤ most_points → i < length l → tag (c + clamped i) (get_or l i (pos 0)) ≡ tag_at (tags_from c l) i
got_at c l i h g = ap (λ (m : ℕ). tag (c + m) (get_or l i (pos 0))) (clamped_in i (omega arith)) ∙ sym (tags_at c l i g)

-- what comes next, as `choose` is asked for it
abbrev pub next_at : List ℤ → List ℤ → ℕ → ℕ → NextTag
next_at a b i j = next_of (ltb i (length a)) (tag (clamped i) (get_or a i (pos 0))) (ltb j (length b)) (tag (most_points + clamped j) (get_or b j (pos 0)))

pub comes_at : (a b : List ℤ) (i j : ℕ) → length a ≤ most_points → length b ≤ most_points → RisingTags (tags_from 0 a) → RisingTags (tags_from most_points b)
    → i ≤ length a → j ≤ length b → i + j < length a + length b → Comes (tags_from 0 a) (tags_from most_points b) i j (next_at a b i j)
comes_at a b i j la lb ra rb hi hj h =
    let x = tag (clamped i) (get_or a i (pos 0)) in
    let y = tag (most_points + clamped j) (get_or b j (pos 0)) in
    let A = tags_from 0 a in
    let B = tags_from most_points b in
    let ea : length A ≡ length a = tags_length 0 a in
    let eb : length B ≡ length b = tags_length most_points b in
    comes A B i j (next_at a b i j)
    (subst (λ (u : ℕ). Fronted A B i j (next_of (ltb i u) x (ltb j (length b)) y)) ea
    (subst (λ (u : ℕ). Fronted A B i j (next_of (ltb i (length A)) x (ltb j u) y)) eb
    (fronts A B ra rb i j x y
    (λ g. ap (λ (k : ℕ). tag k (get_or a i (pos 0))) (sym (zero-add (clamped i))) ∙ got_at 0 a i la (omega (arith, ea))) (λ g. got_at most_points b j lb (omega (arith, eb)))
    (omega (arith, ea)) (omega (arith, eb)) (omega (arith, ea, eb)))))

-- what `get` and `copied` give, as `choose` is told it
pub told : (a b : List ℤ) (i j : ℕ) (p q : Option (Bor ℤ)) (x y : Option ℤ) (e f : Entry) → x ≡ option_copied p → y ≡ option_copied q → e ≡ entry_at i → f ≡ entry_at j
    → is_some p ≡ ltb i (length a) → is_some q ≡ ltb j (length b)
    → unwrap_or (option_map (λ r. r.now) p) (pos 0) ≡ get_or a i (pos 0) → unwrap_or (option_map (λ r. r.now) q) (pos 0) ≡ get_or b j (pos 0)
    → next_of (is_some x) (tag e.at (unwrap_or x (pos 0))) (is_some y) (tag (most_points + f.at) (unwrap_or y (pos 0))) ≡ next_at a b i j
told a b i j p q x y e f ex ey ee ef tp tq np nq =
    rw (ex, ey, ee, ef, is_copied p, is_copied q, tp, tq, np, nq)
  where
    is_copied : (r : Option (Bor ℤ)) → is_some (option_copied r) ≡ is_some r
    is_copied None = refl
    is_copied (Some r) = refl
