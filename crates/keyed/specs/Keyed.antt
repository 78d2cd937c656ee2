-- Lists of points in rising order of their keys: join, the point held at a key, the point in force, how many keys differ.
-- Over any key with a strict total order, and any point.
use Rattle.std.specs.Prelude.{ℕ, suc, ◌≡◌, Bool, true, false, cond, List, [], ◌∷◌}
use Rattle.std.proofs.Math.Option.{Option, none, some}

-- the first where there is one, and else the second
abbrev pub or_else : {A : Type 0} → Option A → Option A → Option A
or_else none y = y
or_else (some x) y = some x

-- how two keys stand to each other
pub data Compared {K : Type 0} (Before : K → K → Type 0) (a b : K) : Type 0 where
  less : Before a b → Compared Before a b
  same : a ≡ b → Compared Before a b
  greater : Before b a → Compared Before a b

-- a strict total order of keys
pub record Order (K : Type 0) : Type 1 where
  pub Before : K → K → Type 0
  pub compare : (a b : K) → Compared Before a b
  pub irreflexive : (a : K) → Before a a → ⊥
  pub transitive : (a b c : K) → Before a b → Before b c → Before a c

module _ {K : Type 0} (O : Order K) where
  abbrev pub or_same : {a b : K} → Bool → Compared O.Before a b → Bool
  or_same r (less _) = r
  or_same r (same _) = true
  or_same r (greater _) = r

  -- k is one of the keys
  unfoldable pub among_keys : K → List K → Bool
  among_keys k [] = false
  among_keys k (j ∷ js) = or_same (among_keys k js) (O.compare k j)

  -- how many different keys there are: each is counted where it stands last
  unfoldable pub different : List K → ℕ
  different [] = 0
  different (k ∷ ks) = cond (among_keys k ks) (different ks) (suc (different ks))

  -- j is not above k
  abbrev pub NotAbove : K → K → Type 0
  NotAbove j k = O.Before k j → ⊥

module _ {K P : Type 0} (O : Order K) (key : P → K) where
  abbrev pub insert_by : (p x : P) (xs rest : List P) → Compared O.Before (key p) (key x) → List P
  insert_by p x xs rest (less _) = p ∷ x ∷ xs
  insert_by p x xs rest (same _) = p ∷ xs
  insert_by p x xs rest (greater _) = x ∷ rest

  -- p at its place, in the stead of a point that has its key
  abbrev pub insert : P → List P → List P
  insert p [] = p ∷ []
  insert p (x ∷ xs) = insert_by p x xs (insert p xs) (O.compare (key p) (key x))

  -- every key of either, in rising order, with the second's point where both hold the key
  abbrev pub join : List P → List P → List P
  join a [] = a
  join a (y ∷ ys) = insert y (join a ys)

  abbrev pub held_at_by : {k : K} (x : P) → Option P → Compared O.Before k (key x) → Option P
  held_at_by x r (less _) = r
  held_at_by x r (same _) = some x
  held_at_by x r (greater _) = r

  -- the point that a list holds at the key k
  abbrev pub held_at : K → List P → Option P
  held_at k [] = none
  held_at k (x ∷ xs) = held_at_by x (held_at k xs) (O.compare k (key x))

  -- both hold equal points at every key that they share
  abbrev pub Agree : List P → List P → Type 0
  Agree a b = (k : K) (x y : P) → held_at k a ≡ some x → held_at k b ≡ some y → x ≡ y

  -- every key is above k
  abbrev pub Above : K → List P → Type 0
  Above k [] = Unit {0}
  Above k (x ∷ xs) = (O.Before k (key x)) × Above k xs

  -- the keys rise strictly
  abbrev pub Rising : List P → Type 0
  Rising [] = Unit {0}
  Rising (x ∷ xs) = Above (key x) xs × Rising xs

  abbrev pub in_force_by : {k : K} (x : P) → Option P → Compared O.Before k (key x) → Option P
  in_force_by x r (less _) = none
  in_force_by x r (same _) = some x
  in_force_by x r (greater _) = or_else r (some x)

  -- the point with the greatest key not above k, or nothing
  abbrev pub in_force : K → List P → Option P
  in_force k [] = none
  in_force k (x ∷ xs) = in_force_by x (in_force k xs) (O.compare k (key x))

  -- what "in force" means, whatever finds it: the point is held, its key is not above k, and no key between is held;
  -- nothing is in force where no key that is not above k is held
  abbrev pub InForceAt : K → List P → Option P → Type 0
  InForceAt k l none = (j : K) → NotAbove O j k → held_at j l ≡ none
  InForceAt k l (some x) = (held_at (key x) l ≡ some x) × (NotAbove O (key x) k × ((j : K) → O.Before (key x) j → NotAbove O j k → held_at j l ≡ none))

  abbrev pub later_by : (x y : P) → Compared O.Before (key x) (key y) → Option P
  later_by x y (less _) = some y
  later_by x y (same _) = some y
  later_by x y (greater _) = some x

  -- of the points in force in two lists the one with the later or only start, the second's where both start together
  abbrev pub later : Option P → Option P → Option P
  later none v = v
  later (some x) none = some x
  later (some x) (some y) = later_by x y (O.compare (key x) (key y))
