-- A reader at a position and the one code of each value that it takes.
use Rattle.std.specs.Prelude.{ℕ, zero, suc, ◌+◌, ◌-◌, ◌/◌, ◌^◌, ◌≡◌, List, ◌∷◌, ◌++◌, Bool, true, false, cond, ltb, length, drop, replicate}
use Rattle.tree.specs.Bits.{code}
use Rattle.tree.specs.Reading.{Out, ok}

-- p takes exactly the codes e of the values that Fit: each, whatever follows it, and from nothing else
pub record Codes {N A : Type 0} (p : List Bool → Out N A) (e : A → List Bool) (Fit : A → Type 0) : Type 0 where
  pub takes : (v : A) → Fit v → (rest : List Bool) → p (e v ++ rest) ≡ ok v (length (e v))
  pub only : (s : List Bool) (v : A) (n : ℕ) → p s ≡ ok v n → Fit v × (s ≡ e v ++ drop n s) × (n ≡ length (e v))

-- how often x can be halved until it is 1, within f times
unfoldable pub halvings : ℕ → ℕ → ℕ
halvings zero x = 0
halvings (suc f) x = cond (ltb x 2) 0 (suc (halvings f (x / 2)))

-- the zeros of v's ue(v) code: the k with 2^k ≤ v + 1 < 2^(k+1)
abbrev pub zeros_of : ℕ → ℕ
zeros_of v = halvings v (v + 1)

-- the one ue(v) code of v: k zeros, a one, then v − (2^k − 1) in k bits
unfoldable pub ue_code : ℕ → List Bool
ue_code v = replicate (zeros_of v) false ++ (true ∷ code (zeros_of v) (v + 1 - 2 ^ zeros_of v))
