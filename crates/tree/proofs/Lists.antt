-- Laws of lists that the kit has not.
use Prim.Native.Nat.{ℕ, zero, suc, ◌+◌, ◌-◌, ◌<◌, ◌≤◌}
use mathlib.Core.Path.{◌≡◌, ap, sym, ◌∙◌}
use mathlib.Core.List.{List, [], ◌∷◌, ◌++◌}
use native.Mathlib.Omega.{arith}
use lib.ListN.{take, drop, get_or}
use lib.Seq.{drop-drop}
use Rattle.tree.specs.Bits.{Bytes}

-- what is the same from n on is the same from later on
pub later_on : {A : Type 0} (n m : ℕ) (a b : List A) → n ≤ m → drop n a ≡ drop n b → drop m a ≡ drop m b
later_on {A} n m a b h e = sym (deep a) ∙ ap (drop (m - n)) e ∙ deep b
  where
    deep : (l : List A) → drop (m - n) (drop n l) ≡ drop m l
    deep l = let k : n + (m - n) ≡ m = omega arith in drop-drop (m - n) n l ∙ ap (λ (i : ℕ). drop i l) k

pub bytes_take : (n : ℕ) (s : List ℕ) → Bytes s → Bytes (take n s)
bytes_take zero s h = tt
bytes_take (suc n) [] h = tt
bytes_take (suc n) (b ∷ s) h = (h.0, bytes_take n s h.1)

pub bytes_drop : (n : ℕ) (s : List ℕ) → Bytes s → Bytes (drop n s)
bytes_drop zero s h = h
bytes_drop (suc n) [] h = tt
bytes_drop (suc n) (b ∷ s) h = bytes_drop n s h.1

pub bytes_append : (a b : List ℕ) → Bytes a → Bytes b → Bytes (a ++ b)
bytes_append [] b p q = q
bytes_append (x ∷ a) b p q = (p.0, bytes_append a b p.1 q)

-- a list whose every number is a byte
pub all_bytes : (l : List ℕ) → ((i : ℕ) → get_or l i 0 < 256) → Bytes l
all_bytes [] h = tt
all_bytes (b ∷ l) h = (h 0, all_bytes l (λ i. h (suc i)))
