-- `flat::get_block` meets its contract.
use Rattle.std.proofs.Common.{◌≡◌, ap, ◌∙◌, true, false, take, drop}
use Rattle.flat.specs.Flat.{place_length, block_said, names_block, block_named}
use Rattle.flat.proofs.Rows.{same_by_eq}
use Rattle.flat.proofs.get_block.Goals as goal

pub returns-then-eq : goal.returns-then-eq
unfolding block_named
returns-then-eq c =
    let l = take place_length (drop c.args.at c.args.row.now) in
    let s = same_by_eq c.eight_at-eight.result c.eight_of.result in
    let e : names_block l ≡ true = cc (s) in
    rw e (c.block_of-block.ensures ∙ ap block_said c.eight_at-eight.ensures)

pub returns : goal.returns
unfolding block_named
returns c =
    let l = take place_length (drop c.args.at c.args.row.now) in
    let s = same_by_eq c.eight_at-eight.result c.eight_of.result in
    let e : names_block l ≡ false = cc (s) in
    rw e
