-- How many points a join has: as many as both lists have different keys.
use mathlib.Core.Path.{◌≡◌, refl, sym, ◌∙◌, ap}
use mathlib.Core.Bool.{Bool, true, false, cond}
use mathlib.Core.List.{List, [], ◌∷◌, ◌++◌, map}
use mathlib.Core.Option.{Option, none, some}
use Prim.Native.Nat.{ℕ, suc, ◌≤◌}
use native.Mathlib.Omega.{arith}
use lib.ListN.{length, length-map}
use Rattle.keyed.specs.Keyed.{or_else, Compared, less, same, greater, Order, or_same, among_keys, different, insert_by, insert, join, held_at_by, held_at, Rising}
use Rattle.keyed.proofs.Laws.{join_rising, held_in_join, same_points, held_above, held_insert, insert_rising, above_trans}
use Rattle.keyed.proofs.Mapped.{rising_to}

-- ---- whether there is something
abbrev has : {A : Type 0} → Option A → Bool
has none = false
has (some x) = true

abbrev either : Bool → Bool → Bool
either b c = cond b true c

or_has : {A : Type 0} (x y : Option A) → has (or_else x y) ≡ either (has x) (has y)
or_has none y = refl
or_has (some x) y = refl

either_turned : (b c : Bool) → either b c ≡ either c b
either_turned true true = refl
either_turned true false = refl
either_turned false true = refl
either_turned false false = refl

module _ {K P : Type 0} (O : Order K) (key : P → K) where
  has_by : (k : K) (x : P) (r : Option P) (t : Compared O.Before k (key x)) → has (held_at_by O key x r t) ≡ or_same O (has r) t
  has_by k x r (less _) = refl
  has_by k x r (same _) = refl
  has_by k x r (greater _) = refl

  -- a list holds a key exactly if it is among its keys
  pub held_is_among : (k : K) (l : List P) → has (held_at O key k l) ≡ among_keys O k (map key l)
  unfolding among_keys
  held_is_among k [] = refl
  held_is_among k (x ∷ xs) = has_by k x (held_at O key k xs) (O.compare k (key x)) ∙ ap (λ (b : Bool). or_same O b (O.compare k (key x))) (held_is_among k xs)

  -- ---- insertion adds one key, unless it is there
  abbrev longer : Bool → ℕ → ℕ
  longer b n = cond b n (suc n)

  longer_suc : (b : Bool) (n : ℕ) → suc (longer b n) ≡ longer b (suc n)
  longer_suc true n = refl
  longer_suc false n = refl

  length_by : (p x : P) (xs : List P) (t : Compared O.Before (key p) (key x)) → Rising O key (x ∷ xs)
      → length (insert O key p xs) ≡ longer (has (held_at O key (key p) xs)) (length xs)
      → length (insert_by O key p x xs (insert O key p xs) t) ≡ longer (has (held_at_by O key x (held_at O key (key p) xs) t)) (suc (length xs))
  length_by p x xs (less h) r e =
      ap (λ (o : Option P). longer (has o) (suc (length xs))) (sym (held_above O key (key p) xs (above_trans O key xs h r.0)))
  length_by p x xs (same h) r e = refl
  length_by p x xs (greater h) r e = ap suc e ∙ longer_suc (has (held_at O key (key p) xs)) (length xs)

  insert_length : (p : P) (l : List P) → Rising O key l → length (insert O key p l) ≡ longer (has (held_at O key (key p) l)) (length l)
  insert_length p [] r = refl
  insert_length p (x ∷ xs) r = length_by p x xs (O.compare (key p) (key x)) r (insert_length p xs r.1)

-- ---- the different keys of a list, in rising order
module _ {K : Type 0} (O : Order K) where
  abbrev self : K → K
  self k = k

  abbrev sorted : List K → List K
  sorted [] = []
  sorted (k ∷ ks) = insert O self k (sorted ks)

  sorted_rising : (ks : List K) → Rising O self (sorted ks)
  sorted_rising [] = tt
  sorted_rising (k ∷ ks) = insert_rising O self k (sorted ks) (sorted_rising ks)

  kept_by : (j k : K) (r : Option K) (b : Bool) (t : Compared O.Before j k) → has r ≡ b → has (held_at_by O self k r t) ≡ or_same O b t
  kept_by j k r b (less _) h = h
  kept_by j k r b (same _) h = refl
  kept_by j k r b (greater _) h = h

  -- the same keys are among both
  sorted_holds : (j : K) (ks : List K) → has (held_at O self j (sorted ks)) ≡ among_keys O j ks
  unfolding among_keys
  sorted_holds j [] = refl
  sorted_holds j (k ∷ ks) =
      ap has (held_insert O self j k (sorted ks) (sorted_rising ks)) ∙ kept_by j k (held_at O self j (sorted ks)) (among_keys O j ks) (O.compare j k) (sorted_holds j ks)

  -- and there are as many
  sorted_length : (ks : List K) → length (sorted ks) ≡ different O ks
  unfolding different
  sorted_length [] = refl
  sorted_length (k ∷ ks) =
      insert_length O self k (sorted ks) (sorted_rising ks)
      ∙ ap (λ (b : Bool). cond b (length (sorted ks)) (suc (length (sorted ks)))) (sorted_holds k ks)
      ∙ ap (λ (n : ℕ). cond (among_keys O k ks) n (suc n)) (sorted_length ks)

  -- what a list of keys holds at a key is that key
  own_by : (j k : K) (t : Compared O.Before j k) (r : Option K) → r ≡ cond (has r) (some j) none → held_at_by O self k r t ≡ cond (has (held_at_by O self k r t)) (some j) none
  own_by j k (less _) r h = h
  own_by j k (same e) r h = ap some (sym e)
  own_by j k (greater _) r h = h

  own_key : (j : K) (ks : List K) → held_at O self j ks ≡ cond (has (held_at O self j ks)) (some j) none
  own_key j [] = refl
  own_key j (k ∷ ks) = own_by j k (O.compare j k) (held_at O self j ks) (own_key j ks)

  -- a rising list of keys has as many as are different in any list that has the same among it
  pub as_many : (l ks : List K) → Rising O self l → ((j : K) → has (held_at O self j l) ≡ among_keys O j ks) → length l ≡ different O ks
  as_many l ks r h =
      ap length (same_points O self l (sorted ks) r (sorted_rising ks)
      (λ j. own_key j l ∙ ap (λ (b : Bool). cond b (some j) none) (h j ∙ sym (sorted_holds j ks)) ∙ sym (own_key j (sorted ks))))
      ∙ sorted_length ks

  among_by : (k j : K) (b c : Bool) (t : Compared O.Before k j) → or_same O (either b c) t ≡ either (or_same O b t) c
  among_by k j b c (less _) = refl
  among_by k j b c (same _) = refl
  among_by k j b c (greater _) = refl

  pub among-append : (k : K) (js ks : List K) → among_keys O k (js ++ ks) ≡ either (among_keys O k js) (among_keys O k ks)
  unfolding among_keys
  among-append k [] ks = refl
  among-append k (j ∷ js) ks = ap (λ (b : Bool). or_same O b (O.compare k j)) (among-append k js ks) ∙ among_by k j (among_keys O k js) (among_keys O k ks) (O.compare k j)

  step_by : (b : Bool) (m n : ℕ) → m ≤ n → m ≤ cond b n (suc n)
  step_by true m n h = h
  step_by false m n h = omega arith

  -- more keys are no fewer different ones
  pub different_more : (js ks : List K) → different O ks ≤ different O (js ++ ks)
  unfolding different
  different_more [] ks = omega arith
  different_more (j ∷ js) ks = step_by (among_keys O j (js ++ ks)) (different O ks) (different O (js ++ ks)) (different_more js ks)

module _ {K P : Type 0} (O : Order K) (key : P → K) where
  abbrev keys : List P → List K
  keys l = map key l

  self_has : (j : K) (l : List P) → has (held_at O (self O) j (keys l)) ≡ has (held_at O key j l)
  self_has j [] = refl
  self_has j (x ∷ xs) =
      has_by O (self O) j (key x) (held_at O (self O) j (keys xs)) (O.compare j (key x)) ∙ ap (λ (b : Bool). or_same O b (O.compare j (key x))) (self_has j xs)
      ∙ sym (has_by O key j x (held_at O key j xs) (O.compare j (key x)))

  -- a join has as many points as there are different keys in the two lists
  pub join_length : (a b : List P) → Rising O key a → length (join O key a b) ≡ different O (keys a ++ keys b)
  join_length a b ra =
      sym (length-map (join O key a b) key)
      ∙ as_many O (keys (join O key a b)) (keys a ++ keys b) (rising_to O (self O) key (join O key a b) (join_rising O key a b ra))
      (λ j. self_has j (join O key a b) ∙ ap has (held_in_join O key j a b ra) ∙ or_has (held_at O key j b) (held_at O key j a)
      ∙ either_turned (has (held_at O key j b)) (has (held_at O key j a))
      ∙ ap (λ (c : Bool). either c (has (held_at O key j b))) (held_is_among O key j a)
      ∙ ap (either (among_keys O j (keys a))) (held_is_among O key j b)
      ∙ sym (among-append O j (keys a) (keys b)))

  -- a rising list has as many different keys as points
  pub rising_length : (a : List P) → Rising O key a → length a ≡ different O (keys a)
  rising_length a ra =
      sym (length-map a key) ∙ as_many O (keys a) (keys a) (rising_to O (self O) key a ra) (λ j. self_has j a ∙ held_is_among O key j a)

  -- a join is no shorter than its second list
  pub second_length : (a b : List P) → Rising O key a → Rising O key b → length b ≤ length (join O key a b)
  second_length a b ra rb = let e = join_length a b ra in let f = rising_length b rb in let h = different_more O (keys a) (keys b) in omega arith

  -- nor than its first
  insert_by_lem : (p x : P) (xs rest : List P) (t : Compared O.Before (key p) (key x)) → length xs ≤ length rest → length (x ∷ xs) ≤ length (insert_by O key p x xs rest t)
  insert_by_lem p x xs rest (less _) h = omega arith
  insert_by_lem p x xs rest (same _) h = omega arith
  insert_by_lem p x xs rest (greater _) h = omega arith

  insert_longer : (p : P) (l : List P) → length l ≤ length (insert O key p l)
  insert_longer p [] = omega arith
  insert_longer p (x ∷ xs) = insert_by_lem p x xs (insert O key p xs) (O.compare (key p) (key x)) (insert_longer p xs)

  pub first_length : (a b : List P) → length a ≤ length (join O key a b)
  first_length a [] = omega arith
  first_length a (y ∷ ys) = let h = first_length a ys in let g = insert_longer y (join O key a ys) in omega arith
