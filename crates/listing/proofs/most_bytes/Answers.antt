-- `listing::most_bytes` meets its contract.
use mathlib.Core.Path.{sym}
use Rattle.listing.proofs.Longest.{longest_bytes}
use Rattle.listing.proofs.most_bytes.Goals as goal

pub returns : goal.returns
returns c = sym longest_bytes
