-- `Met::nothing` meets its contract.
use mathlib.Core.Path.{refl}
use Rattle.valid.specs.Valid.{many, targets}
use Rattle.met.proofs.Met.nothing.Goals as goal

pub returns : goal.returns
unfolding many targets
returns c = refl
