-- Joins of lists that a function takes to points, and what holds of all points of a join.
use mathlib.Core.Path.{◌≡◌, refl, ◌∙◌, ap}
use mathlib.Core.List.{List, [], ◌∷◌, map}
use Rattle.keyed.specs.Keyed.{Compared, less, same, greater, Order, insert_by, insert, join, Above, Rising}

module _ {K P Q : Type 0} (O : Order K) (key : P → K) (f : Q → P) where
  abbrev key_of : Q → K
  key_of q = key (f q)

  insert_by_lem : (p x : Q) (xs rest : List Q) (t : Compared O.Before (key_of p) (key_of x)) → map f (insert_by O key_of p x xs rest t) ≡ insert_by O key (f p) (f x) (map f xs) (map f rest) t
  insert_by_lem p x xs rest (less _) = refl
  insert_by_lem p x xs rest (same _) = refl
  insert_by_lem p x xs rest (greater _) = refl

  insert_map : (p : Q) (l : List Q) → map f (insert O key_of p l) ≡ insert O key (f p) (map f l)
  insert_map p [] = refl
  insert_map p (x ∷ xs) =
      insert_by_lem p x xs (insert O key_of p xs) (O.compare (key_of p) (key_of x))
      ∙ ap (λ (r : List P). insert_by O key (f p) (f x) (map f xs) r (O.compare (key_of p) (key_of x))) (insert_map p xs)

  -- a join of points is made by their keys alone
  pub join_map : (a b : List Q) → map f (join O key_of a b) ≡ join O key (map f a) (map f b)
  join_map a [] = refl
  join_map a (y ∷ ys) = insert_map y (join O key_of a ys) ∙ ap (insert O key (f y)) (join_map a ys)

  above_to : (k : K) (l : List Q) → Above O key_of k l → Above O key k (map f l)
  above_to k [] h = tt
  above_to k (x ∷ xs) h = (h.0, above_to k xs h.1)

  above_from : (k : K) (l : List Q) → Above O key k (map f l) → Above O key_of k l
  above_from k [] h = tt
  above_from k (x ∷ xs) h = (h.0, above_from k xs h.1)

  pub rising_to : (l : List Q) → Rising O key_of l → Rising O key (map f l)
  rising_to [] h = tt
  rising_to (x ∷ xs) h = (above_to (key_of x) xs h.0, rising_to xs h.1)

  pub rising_from : (l : List Q) → Rising O key (map f l) → Rising O key_of l
  rising_from [] h = tt
  rising_from (x ∷ xs) h = (above_from (key_of x) xs h.0, rising_from xs h.1)

-- ---- what holds of all of two lists holds of all of their join
module _ {K P : Type 0} (O : Order K) (key : P → K) (G : P → Type 0) where
  abbrev pub All : List P → Type 0
  All [] = Unit {0}
  All (x ∷ xs) = G x × All xs

  insert_all_by : (p x : P) (xs rest : List P) (t : Compared O.Before (key p) (key x)) → G p → G x → All xs → All rest → All (insert_by O key p x xs rest t)
  insert_all_by p x xs rest (less _) gp gx gs gr = (gp, (gx, gs))
  insert_all_by p x xs rest (same _) gp gx gs gr = (gp, gs)
  insert_all_by p x xs rest (greater _) gp gx gs gr = (gx, gr)

  insert_all : (p : P) (l : List P) → G p → All l → All (insert O key p l)
  insert_all p [] gp gl = (gp, tt)
  insert_all p (x ∷ xs) gp gl = insert_all_by p x xs (insert O key p xs) (O.compare (key p) (key x)) gp gl.0 gl.1 (insert_all p xs gp gl.1)

  pub join_all : (a b : List P) → All a → All b → All (join O key a b)
  join_all a [] ga gb = ga
  join_all a (y ∷ ys) ga gb = insert_all y (join O key a ys) gb.0 (join_all a ys ga gb.1)
