-- `flat::get_beside` meets its contract: the first i places are read, and it is known whether they, and what stands beside them, are named.
use Rattle.std.proofs.Common.{◌≡◌, ℕ, ◌+◌, ◌*◌, pos, sym, ap, ◌∙◌, Bool, ◌&&◌, take, drop, arith, rules, w32, to_z, of_z, SFits}
use mathlib.Core.Bool.{and-true}
use Rattle.flat.specs.Flat.{flat_length, number_at, each, always, block_said, place_numbers, names_block, unsigned_in, same_number}
use Rattle.flat.proofs.Rows.{same_by_eq}
use Rattle.flat.proofs.Places.{named_to, part_of, flag_read, count_read, head_read, places_more, named_more, read_beside, not_beside}
use Rattle.flat.proofs.get_beside.Goals as goal

pub loop-i-init : goal.loop-i-init
unfolding each always
loop-i-init c =
    let row = c.args.row.now in
    let at = c.args.at in
    let f : SFits w32 (number_at row at) = search rules in
    let g : SFits w32 (number_at row (at + 1)) = search rules in
    let count : c.unwrap_or-count.result ≡ unsigned_in 8 (to_z w32 (of_z w32 (number_at row (at + 1)))) = search rules in (
      rw c.without_blocks-r.ensures,
      ap (λ (t : Bool). c.args.beside && t) (head_read row at c.requires f g c.unwrap_or-count.result c.unwrap_or-count.type_inv count c.from.result c.from-2.result c.from.ensures c.from-2.ensures ∙ sym (and-true _)),
    )

pub loop-i-preserved : goal.loop-i-preserved
loop-i-preserved c =
    let v = c.loop-i in
    let row = c.args.row.now in
    let at = c.args.at in
    let l = take flat_length (drop at row) in
    let n : at + (2 + 8 * v.i) ≡ at + 2 + 8 * v.i = omega arith in
    let eight : c.eight_at-eight.result ≡ place_numbers l v.i =
    c.eight_at-eight.ensures ∙ ap (λ (k : ℕ). take 8 (drop k row)) (sym n) ∙ sym (part_of at flat_length (2 + 8 * v.i) 8 row (omega arith)) in
    let block : c.block_of-block.result ≡ block_said (place_numbers l v.i) = c.block_of-block.ensures ∙ ap block_said eight in
    let named : c.eq-named.result ≡ names_block (place_numbers l v.i) =
    c.eq-named.ensures ∙ same_by_eq c.eight_at-eight.result c.eight_of.result ∙ rw (eight, c.eight_of.ensures, block) in (
      places_more l v.i v.place-items c.block_of-block.result (omega arith) v.invariant.0 block,
      named_more c.args.beside l v.i v.named c.eq-named.result v.invariant.1 named,
    )

pub returns-then-named : goal.returns-then-named
returns-then-named c =
    let row = c.args.row.now in
    let at = c.args.at in
    let l = take flat_length (drop at row) in
    let v = c.loop-i in
    let f : SFits w32 (number_at row at) = search rules in
    let g : SFits w32 (number_at row (at + 1)) = search rules in
    let count : c.unwrap_or-count.result ≡ unsigned_in 8 (to_z w32 (of_z w32 (number_at row (at + 1)))) = search rules in
    let flag : c.without_blocks-r.result.refresh ≡ same_number (number_at l 0) (pos 1) = rw c.without_blocks-r.ensures (flag_read row at c.requires f g) in
    let e : v.i ≡ 18 = omega arith in
    read_beside c.args.beside l c.without_blocks-r.result.refresh c.unwrap_or-count.result v.place-items flag
    (count_read row at c.requires f g c.unwrap_or-count.result c.unwrap_or-count.type_inv count)
    (rw e at v.invariant.0)
    (rw e at (sym v.invariant.1 ∙ c.if-named.true))

pub returns : goal.returns
returns c =
    let a = c.args in
    let l = take flat_length (drop a.at a.row.now) in
    let v = c.loop-i in
    let e : v.i ≡ 18 = omega arith in
    c.not_valid.ensures ∙ not_beside a.beside l (sym (v.invariant.1 ∙ ap (λ (k : ℕ). a.beside && named_to l k) e) ∙ c.if-named.false)
