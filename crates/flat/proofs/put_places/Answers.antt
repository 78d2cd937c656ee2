-- `flat::put_places` meets its contract: the first i places are pasted.
use Rattle.std.proofs.Common.{◌≡◌, ◌+◌, ◌*◌, length, List, ℤ, take, drop, get_or, sym, ap, ◌∙◌, arith, rules}
use Rattle.std.proofs.Math.Seq.{paste, paste-zero, take_all}
use Rattle.record.specs.Blocks.{block_in, empty_place}
use Rattle.flat.specs.Flat.{flat_block, flat_places}
use Rattle.flat.proofs.Rows.{paste_more}
use Rattle.flat.proofs.Places.{length_eight, length-places, places_at}
use Rattle.flat.proofs.put_places.Goals as goal

pub loop-i-init : goal.loop-i-init
loop-i-init c = paste-zero c.args.row.now (c.args.at + 2) (flat_places c.args.r.places)

pub loop-i-preserved : goal.loop-i-preserved
loop-i-preserved c =
    let l = c.loop-i in
    let d = c.args.row.now in
    let ps = c.args.r.places in
    let start = c.args.at + 2 + 8 * l.i in
    let b = block_in (get_or ps l.i empty_place) in
    let long : length ps ≡ 18 = search rules in
    let k : 8 * l.i + 8 ≡ 8 * (l.i + 1) = omega arith in
    let e : take 8 c.eight_of.result ≡ take 8 (drop (8 * l.i) (flat_places ps)) =
    ap (take 8) c.eight_of.ensures ∙ take_all 8 (flat_block b) (omega (arith, length_eight b)) ∙ sym (places_at ps l.i (omega arith)) in
    c.put_eight.ensures ∙ ap (λ (r : List ℤ). paste r start c.eight_of.result 8) l.invariant
    ∙ paste_more d (c.args.at + 2) (flat_places ps) (8 * l.i) c.eight_of.result 8 (omega (arith, c.requires)) (omega (arith, length-places ps)) e
    ∙ ap (paste d (c.args.at + 2) (flat_places ps)) k

pub returns : goal.returns
returns c =
    let l = c.loop-i in
    let e : l.i ≡ 18 = omega arith in
    rw e at l.invariant
