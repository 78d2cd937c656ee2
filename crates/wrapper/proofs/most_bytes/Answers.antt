-- `wrapper::most_bytes` meets its contract.
use mathlib.Core.Path.{sym}
use Rattle.syntax.proofs.Largest.{largest-length}
use Rattle.wrapper.proofs.most_bytes.Goals as goal

pub returns : goal.returns
returns c = sym largest-length
