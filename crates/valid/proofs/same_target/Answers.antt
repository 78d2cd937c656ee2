-- `valid::same_target` meets its contract.
use Rattle.std.proofs.Common.{◌≡◌, refl, ℕ, ℤ, [], ◌∷◌}
use mathlib.Core.Bool.{or-false, not-not}
use Rattle.record.specs.declared.Block.{Block}
use Rattle.record.specs.declared.Block.TheVariants.{Nothing, Level1, Level2, Level5}
use Rattle.record.proofs.Laws.{eqb_turned}
use Rattle.valid.specs.Valid.{targets, among}
use Rattle.valid.proofs.Laws.{new_target_none}
use Rattle.valid.proofs.same_target.Goals as goal

-- no level 2 block has a target
no_target : (a : Block) → ((t s o p c g : ℕ) (m : ℤ) → a ≡ Level2 t s o p c g m → ⊥) → targets (a ∷ []) ≡ []
unfolding targets
no_target Nothing n = refl
no_target (Level1 min max avg) n = refl
no_target (Level2 t s o p c g m) n = absurd (n t s o p c g m refl)
no_target (Level5 l r t b) n = refl

pub returns-in-Level2-Level2 : goal.returns-in-Level2-Level2
unfolding targets among
returns-in-Level2-Level2 c = let h = c.in-Level2-Level2 in rw (h.is-0, h.is-1, not-not, or-false, eqb_turned h.x)

pub returns-in_default-2 : goal.returns-in_default-2
returns-in_default-2 c =
    let a = c.args.a in
    rw (new_target_none (a ∷ []) c.args.b (no_target a c.in_default.not-Level2-0))
