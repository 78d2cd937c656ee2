-- `reason::put_range` meets its contract: the lowest, a hyphen and the highest, or the word none.
use native.Mathlib.Omega.{arith}
use Rattle.text.specs.Text.{ascii}
use Rattle.text.proofs.Typing.{typed_on_then}
use Rattle.reason.proofs.Laws.{some_range}
use Rattle.reason.proofs.put_range.Goals as goal

pub returns-then-lowest-highest : goal.returns-then-lowest-highest
unfolding ascii
returns-then-lowest-highest c =
    rw (some_range c.args.lowest c.args.highest (omega arith))
    (typed_on_then c.put_decimal.ensures (typed_on_then c.put_text.ensures c.put_decimal-then-lowest-highest.ensures))
