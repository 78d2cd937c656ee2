-- `wrapper::most_wrapped_bytes` meets its contract.
use Prim.Native.Nat.{◌+◌}
use mathlib.Core.Path.{sym, ap, ◌∙◌}
use lib.ListN.{length-append}
use Rattle.syntax.specs.Element.{payload}
use Rattle.syntax.specs.Largest.{largest}
use Rattle.syntax.specs.Wrapper.{wrapper_bytes}
use Rattle.syntax.proofs.Largest.{largest-length}
use Rattle.wrapper.proofs.most_wrapped_bytes.Goals as goal

pub returns : goal.returns
returns c = sym (length-append wrapper_bytes (payload largest) ∙ ap (λ n. 8 + n) largest-length)
