-- `messages::read_number` meets its contract.
use Rattle.std.proofs.Common.{rules, ◌≡◌, sym, ◌∙◌, ◌+◌, ◌-◌, ◌≤◌, length, take_all, drop, length-drop, tests, arith}
use Rattle.std.proofs.lemmas.Iterator.{YieldsList-from_slice}
use Rattle.std.proofs.lemmas.Iterator.Search.{position_from_yields_List}
use Rattle.messages.proofs.Reading.{is_last, last_place, number_none, number_some}
use Rattle.messages.proofs.read_number.Goals as goal

pub returns-in_err-n : goal.returns-in_err-n
returns-in_err-n c =
    let s = c.args.s.now in
    let p : c.position.result ≡ last_place s = position_from_yields_List is_last _ _ _ c.position.ensures.ran (YieldsList-from_slice s cc) (λ x b q k. search (rules, tests)) in
    let e = number_none s (sym c.in_err-n.was ∙ p) in
    rw c.from_residual.ensures e

pub returns : goal.returns
returns c =
    let s = c.args.s.now in
    let p : c.position.result ≡ last_place s = position_from_yields_List is_last _ _ _ c.position.ensures.ran (YieldsList-from_slice s cc) (λ x b q k. search (rules, tests)) in
    let e = number_some s c.in_ok-n.n (sym c.in_ok-n.was ∙ p) in
    let h : length (drop (c.in_ok-n.n + 1) s) ≤ length s - (c.in_ok-n.n + 1) = omega (arith, length-drop (c.in_ok-n.n + 1) s) in
    rw (c.from.ensures, take_all (length s - (c.in_ok-n.n + 1)) (drop (c.in_ok-n.n + 1) s) h) e.1
