-- `block::read_body` meets its contract: by the level, the length is checked, then the content.
use mathlib.Core.Path.{◌≡◌}
use mathlib.Core.Bool.{true, false}
use borrow.Author.Tests.{lt-leb, le-leb}
use Rattle.std.proofs.Common.{rules}
use Rattle.block.proofs.Laws.{is_length, body_no, body_is, body-reserved}
use Rattle.block.proofs.read_body.Goals as goal

pub returns-then-not-fits : goal.returns-then-not-fits
returns-then-not-fits c = search (rules, body_no)

pub returns-then-is_known : goal.returns-then-is_known
returns-then-is_known c = search (rules, body_is)

pub returns-then-size-gt-MOST_RESERVED : goal.returns-then-size-gt-MOST_RESERVED
returns-then-size-gt-MOST_RESERVED c =
    let long : is_length c.args.size c.args.level ≡ false = search (rules, lt-leb) in
    search (rules, body_no)

pub returns : goal.returns
returns c =
    let own : is_length c.args.size c.args.level ≡ true = search (rules, le-leb) in
    search (rules, body-reserved)
