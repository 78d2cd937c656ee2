-- `reason::most_bytes` meets its contract.
use mathlib.Core.Path.{sym}
use Rattle.reason.proofs.Longest.{longest_bytes}
use Rattle.reason.proofs.most_bytes.Goals as goal

pub returns : goal.returns
returns c = sym longest_bytes
