-- The three answers of a write.
use Prim.Native.Nat.{ℕ, ◌<◌, ◌≤◌}
use mathlib.Core.Path.{◌≡◌, refl}
use mathlib.Core.List.{List, ◌++◌}
use mathlib.Core.Bool.{Bool, true, false, cond}
use native.Mathlib.Omega.{arith}
use borrow.Author.Tests.{le-leb, lt-leb, leb-true}
use lib.ListN.{length, drop}
use Rattle.refusals.specs.Refusals.{unfit_output, not_valid}
use Rattle.output.specs.Output.{written, fits, written_as, buffer_as, outcome_as, answered}
use Rattle.std.specs.Prelude.{Ok, Err}
use Rattle.refusals.specs.declared.Refusal.TheVariants.{UnfitOutput, NotValid}

module _ (bytes : List ℕ) (good : Bool) (out : List ℕ) where
  pub done : good ≡ true → length bytes ≤ length out → (written 0 (length bytes) ≡ written_as bytes good out) × (bytes ++ drop (length bytes) out ≡ buffer_as bytes good out)
  done v h = rw (v, le-leb (length bytes) (length out) h) (refl, refl)

  pub short : good ≡ true → length out < length bytes → (written unfit_output 0 ≡ written_as bytes good out) × (out ≡ buffer_as bytes good out)
  short v h = rw (v, lt-leb (length bytes) (length out) h) (refl, refl)

  pub bad : good ≡ false → (written not_valid 0 ≡ written_as bytes good out) × (out ≡ buffer_as bytes good out)
  bad v = rw v (refl, refl)

  -- what was written lies in the buffer
  pub inside : (written_as bytes good out).bytes ≤ length out
  inside = go good (fits bytes out) refl
    where
      go : (t u : Bool) → fits bytes out ≡ u → (cond t (cond u (written 0 (length bytes)) (written unfit_output 0)) (written not_valid 0)).bytes ≤ length out
      go true true e = leb-true (length bytes) (length out) e
      go true false e = omega arith
      go false u e = omega arith

  -- the outcome says what the answer says
  pub answered_as : answered (outcome_as bytes good out) ≡ written_as bytes good out
  answered_as = go good (fits bytes out)
    where
      go : (t u : Bool) → answered (cond t (cond u (Ok (length bytes)) (Err UnfitOutput)) (Err NotValid)) ≡ cond t (cond u (written 0 (length bytes)) (written unfit_output 0)) (written not_valid 0)
      go true true = refl
      go true false = refl
      go false u = refl

  -- the three outcomes
  pub ends_done : good ≡ true → length bytes ≤ length out → (Ok (length bytes) ≡ outcome_as bytes good out) × (bytes ++ drop (length bytes) out ≡ buffer_as bytes good out)
  ends_done v h = rw (v, le-leb (length bytes) (length out) h) (refl, refl)

  pub ends_short : good ≡ true → length out < length bytes → (Err UnfitOutput ≡ outcome_as bytes good out) × (out ≡ buffer_as bytes good out)
  ends_short v h = rw (v, lt-leb (length bytes) (length out) h) (refl, refl)

  pub ends_bad : good ≡ false → (Err NotValid ≡ outcome_as bytes good out) × (out ≡ buffer_as bytes good out)
  ends_bad v = rw v (refl, refl)
