-- `wrapper::try_write` meets its contract: where the data is refused, no byte has changed.
use native.Mathlib.Omega.{arith}
use mathlib.Core.Path.{sym, ◌∙◌}
use Rattle.valid.specs.Valid.{valid}
use Rattle.syntax.specs.Element.{payload}
use Rattle.wrapper.proofs.Laws.{refused_behind}
use Rattle.wrapper.proofs.try_write.Goals as goal

pub returns-in_err-bytes-clause-buffer : goal.returns-in_err-bytes-clause-buffer
returns-in_err-bytes-clause-buffer c =
    let a = c.args in
    let d = c.try_write in
    refused_behind (payload a.r) (valid a.r) a.out.now d.new.out c.in_err-bytes.field-0.0 (omega arith) (sym c.in_err-bytes.was ∙ d.ensures.result) d.ensures.buffer
