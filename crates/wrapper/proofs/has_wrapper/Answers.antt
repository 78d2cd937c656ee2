-- `wrapper::has_wrapper` meets its contract.
use mathlib.Core.Path.{ap, ◌∙◌}
use Rattle.std.specs.Result.{is_ok}
use Rattle.tree.proofs.Lists.{all_bytes}
use Rattle.wrapper.proofs.Laws.{begins_is}
use Rattle.wrapper.proofs.has_wrapper.Goals as goal

pub returns : goal.returns
returns c =
    let s = c.args.input.now in
    c.is_ok.ensures.value ∙ ap is_ok c.check_wrapper.ensures ∙ begins_is s (all_bytes s (λ i. (c.type_inv.input i).fits))
