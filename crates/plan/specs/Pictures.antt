-- The order of picture numbers.
use Rattle.std.proofs.Common.{ap, le_antisymm, lt_trans, lt_irrefl, ltb→lt, lt→ltb, nltb→le}
use Rattle.std.specs.Prelude.{Bool, true, false, not, T, ltb, ℤ, pos, negsuc}
use Rattle.std.specs.Int.Signed.{lt_z}
use Rattle.keyed.specs.Keyed.{Order, Compared, less, same, greater}

-- a picture comes before another in output order
abbrev pub Before : ℤ → ℤ → Type 0
Before a b = T (lt_z a b)

abbrev by {ℓ} : {X : Type ℓ} (b : Bool) → (T b → X) → (T (not b) → X) → X
by true f g = f tt
by false f g = g tt

-- which of two numbers is the lesser
unfoldable pub order : (a b : ℤ) → Compared Before a b
order (pos a) (pos b) = by (ltb a b) (λ t. less t) (λ f. by (ltb b a) (λ t. greater t) (λ g. same (ap pos (le_antisymm (nltb→le b a g) (nltb→le a b f)))))
order (pos a) (negsuc b) = greater tt
order (negsuc a) (pos b) = less tt
order (negsuc a) (negsuc b) = by (ltb b a) (λ t. less t) (λ f. by (ltb a b) (λ t. greater t) (λ g. same (ap negsuc (le_antisymm (nltb→le b a f) (nltb→le a b g)))))

pub before_irreflexive : (a : ℤ) → Before a a → ⊥
before_irreflexive (pos a) h = lt_irrefl a (ltb→lt a a h)
before_irreflexive (negsuc a) h = lt_irrefl a (ltb→lt a a h)

pub before_transitive : (a b c : ℤ) → Before a b → Before b c → Before a c
before_transitive (pos a) (pos b) (pos c) h g = lt→ltb a c (lt_trans (ltb→lt a b h) (ltb→lt b c g))
before_transitive (pos a) (pos b) (negsuc c) h g = absurd g
before_transitive (pos a) (negsuc b) c h g = absurd h
before_transitive (negsuc a) (pos b) (pos c) h g = tt
before_transitive (negsuc a) (pos b) (negsuc c) h g = absurd g
before_transitive (negsuc a) (negsuc b) (pos c) h g = tt
before_transitive (negsuc a) (negsuc b) (negsuc c) h g = lt→ltb c a (lt_trans (ltb→lt c b g) (ltb→lt b a h))

-- picture numbers are keys
abbrev pub pictures : Order ℤ
pictures = record { Before = Before; compare = order; irreflexive = before_irreflexive; transitive = before_transitive }
