-- The laws of rising lists.
use mathlib.Core.Path.{◌≡◌, refl, sym, ◌∙◌, ap, subst}
use mathlib.Core.List.{List, [], ◌∷◌}
use mathlib.Core.Logic.{◌⊎◌, inl, inr, ⊎_elim}
use mathlib.Core.Option.{Option, none, some}
use Rattle.keyed.specs.Keyed.{or_else, Compared, less, same, greater, Order, insert_by, insert, join, held_at_by, held_at, Agree, Above, Rising, NotAbove, in_force_by, in_force, InForceAt, later_by, later}

or_assoc : {A : Type 0} (x y z : Option A) → or_else x (or_else y z) ≡ or_else (or_else x y) z
or_assoc none y z = refl
or_assoc (some x) y z = refl

module _ {K P : Type 0} (O : Order K) (key : P → K) where
  pub above_trans : {j k : K} (l : List P) → O.Before j k → Above O key k l → Above O key j l
  above_trans [] h t = tt
  above_trans {j} {k} (x ∷ xs) h t = (O.transitive j k (key x) h t.0, above_trans xs h t.1)

  insert_above_by : (k : K) (p x : P) (xs rest : List P) (t : Compared O.Before (key p) (key x)) → O.Before k (key p) → Above O key k (x ∷ xs) → Above O key k rest
      → Above O key k (insert_by O key p x xs rest t)
  insert_above_by k p x xs rest (less _) h t r = (h, t)
  insert_above_by k p x xs rest (same _) h t r = (h, t.1)
  insert_above_by k p x xs rest (greater _) h t r = (t.0, r)

  insert_above : (k : K) (p : P) (l : List P) → O.Before k (key p) → Above O key k l → Above O key k (insert O key p l)
  insert_above k p [] h t = (h, tt)
  insert_above k p (x ∷ xs) h t = insert_above_by k p x xs (insert O key p xs) (O.compare (key p) (key x)) h t (insert_above k p xs h t.1)

  insert_rising_by : (p x : P) (xs : List P) (t : Compared O.Before (key p) (key x)) → Rising O key (x ∷ xs) → Rising O key (insert O key p xs)
      → Rising O key (insert_by O key p x xs (insert O key p xs) t)
  insert_rising_by p x xs (less h) r s = ((h, above_trans xs h r.0), r)
  insert_rising_by p x xs (same e) r s = (subst (λ (k : K). Above O key k xs) (sym e) r.0, r.1)
  insert_rising_by p x xs (greater h) r s = (insert_above (key x) p xs h r.0, s)

  pub insert_rising : (p : P) (l : List P) → Rising O key l → Rising O key (insert O key p l)
  insert_rising p [] r = (tt, tt)
  insert_rising p (x ∷ xs) r = insert_rising_by p x xs (O.compare (key p) (key x)) r (insert_rising p xs r.1)

  -- a join rises where the first does
  pub join_rising : (a b : List P) → Rising O key a → Rising O key (join O key a b)
  join_rising a [] r = r
  join_rising a (y ∷ ys) r = insert_rising y (join O key a ys) (join_rising a ys r)

  -- ---- the point at a key
  held_by_not : {k : K} (x : P) (r : Option P) (t : Compared O.Before k (key x)) → (k ≡ key x → ⊥) → held_at_by O key x r t ≡ r
  held_by_not x r (less _) n = refl
  held_by_not x r (same e) n = absurd (n e)
  held_by_not x r (greater _) n = refl

  held_by_yes : {k : K} (x : P) (r : Option P) (t : Compared O.Before k (key x)) → k ≡ key x → held_at_by O key x r t ≡ some x
  held_by_yes x r (less h) e = absurd (O.irreflexive (key x) (subst (λ (j : K). O.Before j (key x)) e h))
  held_by_yes x r (same _) e = refl
  held_by_yes x r (greater h) e = absurd (O.irreflexive (key x) (subst (λ (j : K). O.Before (key x) j) e h))

  pub not_eq : {a b : K} → O.Before a b → a ≡ b → ⊥
  not_eq {a} {b} h e = O.irreflexive b (subst (λ (j : K). O.Before j b) e h)

  pub held_above : (k : K) (l : List P) → Above O key k l → held_at O key k l ≡ none
  held_above k [] t = refl
  held_above k (x ∷ xs) t = held_by_not x (held_at O key k xs) (O.compare k (key x)) (not_eq t.0) ∙ held_above k xs t.1

  -- the two ways to ask for k in a list with p put in front of x
  held_insert_by : (k : K) (p x : P) (xs : List P) (t : Compared O.Before (key p) (key x)) (u : Compared O.Before k (key p)) → Rising O key (x ∷ xs)
      → held_at O key k (insert O key p xs) ≡ held_at_by O key p (held_at O key k xs) u
      → held_at O key k (insert_by O key p x xs (insert O key p xs) t) ≡ held_at_by O key p (held_at O key k (x ∷ xs)) u
  held_insert_by k p x xs (less h) (less g) r ih = held_by_not p _ (O.compare k (key p)) (not_eq g)
  held_insert_by k p x xs (less h) (same e) r ih = held_by_yes p _ (O.compare k (key p)) e
  held_insert_by k p x xs (less h) (greater g) r ih = held_by_not p _ (O.compare k (key p)) (λ e. not_eq g (sym e))
  held_insert_by k p x xs (same q) (less g) r ih =
      held_by_not p _ (O.compare k (key p)) (not_eq g) ∙ sym (held_by_not x (held_at O key k xs) (O.compare k (key x)) (λ e. not_eq g (e ∙ sym q)))
  held_insert_by k p x xs (same q) (same e) r ih = held_by_yes p _ (O.compare k (key p)) e
  held_insert_by k p x xs (same q) (greater g) r ih =
      held_by_not p _ (O.compare k (key p)) (λ e. not_eq g (sym e)) ∙ sym (held_by_not x (held_at O key k xs) (O.compare k (key x)) (λ e. not_eq g (sym (e ∙ sym q))))
  held_insert_by k p x xs (greater h) (less g) r ih = ap (λ (o : Option P). held_at_by O key x o (O.compare k (key x))) ih
  held_insert_by k p x xs (greater h) (same e) r ih = held_by_not x _ (O.compare k (key x)) (λ d. not_eq h (sym d ∙ e)) ∙ ih
  held_insert_by k p x xs (greater h) (greater g) r ih = ap (λ (o : Option P). held_at_by O key x o (O.compare k (key x))) ih

  pub held_insert : (k : K) (p : P) (l : List P) → Rising O key l → held_at O key k (insert O key p l) ≡ held_at_by O key p (held_at O key k l) (O.compare k (key p))
  held_insert k p [] r = refl
  held_insert k p (x ∷ xs) r = held_insert_by k p x xs (O.compare (key p) (key x)) (O.compare k (key p)) r (held_insert k p xs r.1)

  or_held_by : {k : K} (y : P) (r s : Option P) (t : Compared O.Before k (key y)) → held_at_by O key y (or_else r s) t ≡ or_else (held_at_by O key y r t) s
  or_held_by y r s (less _) = refl
  or_held_by y r s (same _) = refl
  or_held_by y r s (greater _) = refl

  -- the second's point where it holds the key, and else the first's
  pub held_in_join : (k : K) (a b : List P) → Rising O key a → held_at O key k (join O key a b) ≡ or_else (held_at O key k b) (held_at O key k a)
  held_in_join k a [] r = refl
  held_in_join k a (y ∷ ys) r =
      held_insert k y (join O key a ys) (join_rising a ys r)
      ∙ ap (λ (o : Option P). held_at_by O key y o (O.compare k (key y))) (held_in_join k a ys r)
      ∙ or_held_by y (held_at O key k ys) (held_at O key k a) (O.compare k (key y))

  -- ---- two rising lists that hold the same points are one
  pub held_head : (x : P) (xs : List P) → held_at O key (key x) (x ∷ xs) ≡ some x
  held_head x xs = held_by_yes x (held_at O key (key x) xs) (O.compare (key x) (key x)) refl

  pub held_tail : (k : K) (x : P) (xs : List P) → (k ≡ key x → ⊥) → held_at O key k (x ∷ xs) ≡ held_at O key k xs
  held_tail k x xs n = held_by_not x (held_at O key k xs) (O.compare k (key x)) n

  pub some_one : {x y : P} → some x ≡ some y → x ≡ y
  some_one e = cc

  pub some_none : {x : P} → some x ≡ none → ⊥
  some_none e = absurd (subst (λ (o : Option P). Has o) e tt)
    where
      Has : Option P → Type 0
      Has none = ⊥
      Has (some z) = Unit {0}

  -- the heads agree
  heads : (x y : P) (xs ys : List P) → Compared O.Before (key x) (key y) → Above O key (key x) xs → Above O key (key y) ys
      → ((k : K) → held_at O key k (x ∷ xs) ≡ held_at O key k (y ∷ ys)) → x ≡ y
  heads x y xs ys (less h) ax ay f = absurd (some_none (sym (held_head x xs) ∙ f (key x) ∙ held_above (key x) (y ∷ ys) (h, above_trans ys h ay)))
  heads x y xs ys (same e) ax ay f = some_one (sym (held_head x xs) ∙ f (key x) ∙ held_by_yes y (held_at O key (key x) ys) (O.compare (key x) (key y)) e)
  heads x y xs ys (greater h) ax ay f = absurd (some_none (sym (held_head y ys) ∙ sym (f (key y)) ∙ held_above (key y) (x ∷ xs) (h, above_trans xs h ax)))

  tails_by : (x : P) (xs ys : List P) (k : K) → Above O key (key x) xs → Above O key (key x) ys → Compared O.Before k (key x)
      → held_at O key k (x ∷ xs) ≡ held_at O key k (x ∷ ys) → held_at O key k xs ≡ held_at O key k ys
  tails_by x xs ys k ax ay (less h) f = sym (held_tail k x xs (not_eq h)) ∙ f ∙ held_tail k x ys (not_eq h)
  tails_by x xs ys k ax ay (same e) f =
      held_above k xs (subst (λ (j : K). Above O key j xs) (sym e) ax) ∙ sym (held_above k ys (subst (λ (j : K). Above O key j ys) (sym e) ay))
  tails_by x xs ys k ax ay (greater h) f = sym (held_tail k x xs (λ e. not_eq h (sym e))) ∙ f ∙ held_tail k x ys (λ e. not_eq h (sym e))

  pub same_points : (a b : List P) → Rising O key a → Rising O key b → ((k : K) → held_at O key k a ≡ held_at O key k b) → a ≡ b
  same_points [] [] ra rb f = refl
  same_points [] (y ∷ ys) ra rb f = absurd (some_none (sym (held_head y ys) ∙ sym (f (key y))))
  same_points (x ∷ xs) [] ra rb f = absurd (some_none (sym (held_head x xs) ∙ f (key x)))
  same_points (x ∷ xs) (y ∷ ys) ra rb f =
      let e : x ≡ y = heads x y xs ys (O.compare (key x) (key y)) ra.0 rb.0 f in
      let ay : Above O key (key x) ys = subst (λ (z : P). Above O key (key z) ys) (sym e) rb.0 in
      let g : (k : K) → held_at O key k (x ∷ xs) ≡ held_at O key k (x ∷ ys) = (λ k. f k ∙ ap (λ (z : P). held_at O key k (z ∷ ys)) (sym e)) in
      ap (λ (z : P). z ∷ xs) e ∙ ap (λ (l : List P). y ∷ l) (same_points xs ys ra.1 rb.1 (λ k. tails_by x xs ys k ra.0 ay (O.compare k (key x)) (g k)))

  -- ---- grouping: joining three gives the same list in both groupings
  pub join_groups : (a b c : List P) → Rising O key a → Rising O key b → join O key (join O key a b) c ≡ join O key a (join O key b c)
  join_groups a b c ra rb =
      same_points _ _ (join_rising (join O key a b) c (join_rising a b ra)) (join_rising a (join O key b c) ra)
      (λ k. held_in_join k (join O key a b) c (join_rising a b ra)
      ∙ ap (or_else (held_at O key k c)) (held_in_join k a b ra)
      ∙ or_assoc (held_at O key k c) (held_at O key k b) (held_at O key k a)
      ∙ ap (λ (o : Option P). or_else o (held_at O key k a)) (sym (held_in_join k b c rb))
      ∙ sym (held_in_join k a (join O key b c) ra))

  -- ---- swapping gives the same list exactly where both hold equal points at every key that they share
  pub agreeing_swaps : (a b : List P) → Rising O key a → Rising O key b
      → Agree O key a b → join O key a b ≡ join O key b a
  agreeing_swaps a b ra rb agree =
      same_points _ _ (join_rising a b ra) (join_rising b a rb)
      (λ k. held_in_join k a b ra ∙ either (held_at O key k a) (held_at O key k b) (agree k) ∙ sym (held_in_join k b a rb))
    where
      either : (u v : Option P) → ((x y : P) → u ≡ some x → v ≡ some y → x ≡ y) → or_else v u ≡ or_else u v
      either none none f = refl
      either none (some y) f = refl
      either (some x) none f = refl
      either (some x) (some y) f = ap some (sym (f x y refl refl))

  pub swapping_agrees : (a b : List P) → Rising O key a → Rising O key b → join O key a b ≡ join O key b a
      → Agree O key a b
  swapping_agrees a b ra rb e k x y ea eb =
      some_one (sym (ap (λ (o : Option P). or_else o (held_at O key k b)) ea) ∙ sym (held_in_join k b a rb) ∙ ap (held_at O key k) (sym e) ∙ held_in_join k a b ra ∙ ap (λ (o : Option P). or_else o (held_at O key k a)) eb)

  -- ---- the point in force
  -- j is not above k, and k is below m: j is below m
  below_by : (j k m : K) → NotAbove O j k → O.Before k m → Compared O.Before j m → O.Before j m
  below_by j k m n h (less g) = g
  below_by j k m n h (same e) = absurd (n (subst (λ (i : K). O.Before k i) (sym e) h))
  below_by j k m n h (greater g) = absurd (n (O.transitive k m j h g))

  all_above : (j k : K) (l : List P) → NotAbove O j k → Above O key k l → Above O key j l
  all_above j k [] n t = tt
  all_above j k (x ∷ xs) n t = (below_by j k (key x) n t.0 (O.compare j (key x)), all_above j k xs n t.1)

  held_by_key : (k : K) (x y : P) (r : Option P) (t : Compared O.Before k (key x)) → held_at_by O key x r t ≡ some y → ((k ≡ key x) × (x ≡ y)) ⊎ (r ≡ some y)
  held_by_key k x y r (less _) e = inr e
  held_by_key k x y r (same q) e = inl (q, some_one e)
  held_by_key k x y r (greater _) e = inr e

  above_held : (k j : K) (l : List P) (y : P) → Above O key k l → held_at O key j l ≡ some y → O.Before k j
  above_held k j [] y t e = absurd (some_none (sym e))
  above_held k j (x ∷ xs) y t e =
      ⊎_elim (λ q. subst (λ (i : K). O.Before k i) (sym q.0) t.0) (λ q. above_held k j xs y t.1 q) (held_by_key j x y (held_at O key j xs) (O.compare j (key x)) e)

  in_force_by_lem : (k : K) (x : P) (xs : List P) (r : Option P) (t : Compared O.Before k (key x)) → Rising O key (x ∷ xs) → InForceAt O key k xs r → InForceAt O key k (x ∷ xs) (in_force_by O key x r t)
  in_force_by_lem k x xs r (less h) ri ih = λ j n. held_above j (x ∷ xs) (all_above j k (x ∷ xs) n (h, above_trans xs h ri.0))
  in_force_by_lem k x xs r (same e) ri ih =
      (held_head x xs, ((λ h. not_eq h e), (λ j h n. absurd (n (subst (λ (i : K). O.Before i j) (sym e) h)))))
  in_force_by_lem k x xs none (greater h) ri ih =
      (held_head x xs, ((λ g. O.irreflexive k (O.transitive k (key x) k g h)), (λ j g n. held_tail j x xs (λ e. not_eq g (sym e)) ∙ ih j n)))
  in_force_by_lem k x xs (some y) (greater h) ri ih =
      let up : O.Before (key x) (key y) = above_held (key x) (key y) xs y ri.0 ih.0 in
      (held_tail (key y) x xs (λ e. not_eq up (sym e)) ∙ ih.0, (ih.1.0, (λ j g n. held_tail j x xs (λ e. not_eq (O.transitive (key x) (key y) j up g) (sym e)) ∙ ih.1.1 j g n)))

  -- `in_force` gives the point in force
  pub in_force_is : (k : K) (l : List P) → Rising O key l → InForceAt O key k l (in_force O key k l)
  in_force_is k [] ri = λ j n. refl
  in_force_is k (x ∷ xs) ri = in_force_by_lem k x xs (in_force O key k xs) (O.compare k (key x)) ri (in_force_is k xs ri.1)

  two_forces : (k : K) (l : List P) (x y : P) → Compared O.Before (key x) (key y) → InForceAt O key k l (some x) → InForceAt O key k l (some y) → x ≡ y
  two_forces k l x y (less h) f g = absurd (some_none (sym g.0 ∙ f.1.1 (key y) h g.1.0))
  two_forces k l x y (same e) f g = some_one (sym f.0 ∙ ap (λ (i : K). held_at O key i l) e ∙ g.0)
  two_forces k l x y (greater h) f g = absurd (some_none (sym f.0 ∙ g.1.1 (key x) h f.1.0))

  -- and there is no other
  pub in_force_one : (k : K) (l : List P) (r s : Option P) → InForceAt O key k l r → InForceAt O key k l s → r ≡ s
  in_force_one k l none none f g = refl
  in_force_one k l none (some y) f g = absurd (some_none (sym g.0 ∙ f (key y) g.1.0))
  in_force_one k l (some x) none f g = absurd (some_none (sym f.0 ∙ g (key x) f.1.0))
  in_force_one k l (some x) (some y) f g = ap some (two_forces k l x y (O.compare (key x) (key y)) f g)

  module _ (a b : List P) (ra : Rising O key a) (k : K) where
    joined_at : (j : K) (u v : Option P) → held_at O key j a ≡ u → held_at O key j b ≡ v → held_at O key j (join O key a b) ≡ or_else v u
    joined_at j u v ea eb = held_in_join j a b ra ∙ ap (λ (o : Option P). or_else o (held_at O key j a)) eb ∙ ap (or_else v) ea

    second : (j : K) (y : P) → held_at O key j b ≡ some y → held_at O key j (join O key a b) ≡ some y
    second j y eb = joined_at j (held_at O key j a) (some y) refl eb

    later_by_lem : (x y : P) (t : Compared O.Before (key x) (key y)) → InForceAt O key k a (some x) → InForceAt O key k b (some y) → InForceAt O key k (join O key a b) (later_by O key x y t)
    later_by_lem x y (less h) f g = (second (key y) y g.0, (g.1.0, (λ j i n. joined_at j none none (f.1.1 j (O.transitive (key x) (key y) j h i) n) (g.1.1 j i n))))
    later_by_lem x y (same e) f g = (second (key y) y g.0, (g.1.0, (λ j i n. joined_at j none none (f.1.1 j (subst (λ (z : K). O.Before z j) (sym e) i) n) (g.1.1 j i n))))
    later_by_lem x y (greater h) f g =
        (joined_at (key x) (some x) none f.0 (g.1.1 (key x) h f.1.0), (f.1.0, (λ j i n. joined_at j none none (f.1.1 j i n) (g.1.1 j (O.transitive (key y) (key x) j h i) n))))

    later_is : (u v : Option P) → InForceAt O key k a u → InForceAt O key k b v → InForceAt O key k (join O key a b) (later O key u v)
    later_is none none f g = λ j n. joined_at j none none (f j n) (g j n)
    later_is none (some y) f g = (second (key y) y g.0, (g.1.0, (λ j i n. joined_at j none none (f j n) (g.1.1 j i n))))
    later_is (some x) none f g = (joined_at (key x) (some x) none f.0 (g (key x) f.1.0), (f.1.0, (λ j i n. joined_at j none none (f.1.1 j i n) (g j n))))
    later_is (some x) (some y) f g = later_by_lem x y (O.compare (key x) (key y)) f g

    -- the point in force in a join is the one with the later or only start, the second's where both start together, nothing where neither has started
    pub joined_shows_the_later_start : Rising O key b → in_force O key k (join O key a b) ≡ later O key (in_force O key k a) (in_force O key k b)
    joined_shows_the_later_start rb =
        in_force_one k (join O key a b) _ _ (in_force_is k (join O key a b) (join_rising a b ra)) (later_is (in_force O key k a) (in_force O key k b) (in_force_is k a ra) (in_force_is k b rb))

  -- ---- a join, from the front
  join_above : (k : K) (a b : List P) → Above O key k a → Above O key k b → Above O key k (join O key a b)
  join_above k a [] ha hb = ha
  join_above k a (y ∷ ys) ha hb = insert_above k y (join O key a ys) hb.0 (join_above k a ys ha hb.1)

  -- an empty list changes nothing: on the right by definition, on the left by this law
  pub nothing_joined : (b : List P) → Rising O key b → join O key [] b ≡ b
  nothing_joined b rb = same_points _ _ (join_rising [] b tt) rb (λ k. held_in_join k [] b tt ∙ or_none (held_at O key k b))
    where
      or_none : (o : Option P) → or_else o none ≡ o
      or_none none = refl
      or_none (some x) = refl

  abbrev pub front_by : (x : P) (xs : List P) (y : P) (ys : List P) → Compared O.Before (key x) (key y) → List P
  front_by x xs y ys (less _) = x ∷ join O key xs (y ∷ ys)
  front_by x xs y ys (same _) = y ∷ join O key xs ys
  front_by x xs y ys (greater _) = y ∷ join O key (x ∷ xs) ys

  module _ (x : P) (xs : List P) (y : P) (ys : List P) (ra : Rising O key (x ∷ xs)) (rb : Rising O key (y ∷ ys)) where
    abbrev both : K → Option P
    both k = or_else (held_at O key k (y ∷ ys)) (held_at O key k (x ∷ xs))

    at_less : (k : K) → O.Before (key x) (key y) → (t : Compared O.Before k (key x)) → both k ≡ held_at_by O key x (or_else (held_at O key k (y ∷ ys)) (held_at O key k xs)) t
    at_less k h (less g) = ap (or_else (held_at O key k (y ∷ ys))) (held_tail k x xs (not_eq g))
    at_less k h (same e) =
        ap (λ (o : Option P). or_else o (held_at O key k (x ∷ xs))) (held_above k (y ∷ ys) (subst (λ (j : K). Above O key j (y ∷ ys)) (sym e) (h, above_trans ys h rb.0)))
        ∙ held_by_yes x (held_at O key k xs) (O.compare k (key x)) e
    at_less k h (greater g) = ap (or_else (held_at O key k (y ∷ ys))) (held_tail k x xs (λ e. not_eq g (sym e)))

    at_same : (k : K) → key x ≡ key y → (t : Compared O.Before k (key y)) → both k ≡ held_at_by O key y (or_else (held_at O key k ys) (held_at O key k xs)) t
    at_same k q (less g) = ap (λ (o : Option P). or_else o (held_at O key k (x ∷ xs))) (held_tail k y ys (not_eq g)) ∙ ap (or_else (held_at O key k ys)) (held_tail k x xs (λ e. not_eq g (e ∙ q)))
    at_same k q (same e) = ap (λ (o : Option P). or_else o (held_at O key k (x ∷ xs))) (held_by_yes y (held_at O key k ys) (O.compare k (key y)) e)
    at_same k q (greater g) = ap (λ (o : Option P). or_else o (held_at O key k (x ∷ xs))) (held_tail k y ys (λ e. not_eq g (sym e))) ∙ ap (or_else (held_at O key k ys)) (held_tail k x xs (λ e. not_eq g (sym (e ∙ q))))

    front_by_lem : (t : Compared O.Before (key x) (key y)) → join O key (x ∷ xs) (y ∷ ys) ≡ front_by x xs y ys t
    front_by_lem (less h) =
        same_points _ _ (join_rising (x ∷ xs) (y ∷ ys) ra) (join_above (key x) xs (y ∷ ys) ra.0 (h, above_trans ys h rb.0), join_rising xs (y ∷ ys) ra.1)
        (λ k. held_in_join k (x ∷ xs) (y ∷ ys) ra ∙ at_less k h (O.compare k (key x)) ∙ ap (λ (o : Option P). held_at_by O key x o (O.compare k (key x))) (sym (held_in_join k xs (y ∷ ys) ra.1)))
    front_by_lem (same q) =
        same_points _ _ (join_rising (x ∷ xs) (y ∷ ys) ra) (join_above (key y) xs ys (subst (λ (j : K). Above O key j xs) q ra.0) rb.0, join_rising xs ys ra.1)
        (λ k. held_in_join k (x ∷ xs) (y ∷ ys) ra ∙ at_same k q (O.compare k (key y)) ∙ ap (λ (o : Option P). held_at_by O key y o (O.compare k (key y))) (sym (held_in_join k xs ys ra.1)))
    front_by_lem (greater h) =
        same_points _ _ (join_rising (x ∷ xs) (y ∷ ys) ra) (join_above (key y) (x ∷ xs) ys (h, above_trans xs h ra.0) rb.0, join_rising (x ∷ xs) ys ra)
        (λ k. held_in_join k (x ∷ xs) (y ∷ ys) ra ∙ sym (or_held_by y (held_at O key k ys) (held_at O key k (x ∷ xs)) (O.compare k (key y))) ∙ ap (λ (o : Option P). held_at_by O key y o (O.compare k (key y))) (sym (held_in_join k (x ∷ xs) ys ra)))

    pub join_front : join O key (x ∷ xs) (y ∷ ys) ≡ front_by x xs y ys (O.compare (key x) (key y))
    join_front = front_by_lem (O.compare (key x) (key y))
