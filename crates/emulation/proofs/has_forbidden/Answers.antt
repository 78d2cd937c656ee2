-- `emulation::has_forbidden` meets its contract: at each place the bytes from there on are looked at.
use Rattle.std.proofs.Common.{rules, ◌≡◌, refl, ◌∙◌, ℕ, zero, suc, ◌+◌, ◌-◌, ◌≤◌, ◌<◌, List, length, take, take_all, drop, length-drop, tests, arith}
use lib.ListN.{drop_of_length-le}
use Rattle.std.specs.List.{list_any, range_with_len}
use Rattle.std.proofs.lemmas.Iterator.{YieldsList-from_range}
use Rattle.std.proofs.lemmas.Iterator.Search.{any_from_yields_List}
use Rattle.emulation.specs.Emulation.{begins_forbidden, forbidden}
use Rattle.emulation.proofs.Loops.{forbidden_step}
use Rattle.emulation.proofs.has_forbidden.Goals as goal

-- the bytes from place i on, as the code takes them
abbrev from_place : List ℕ → ℕ → List ℕ
from_place s i = take (length s - i) (drop i s)

-- they begin with bytes that may not stand at one of the places from a on
any_from : (s : List ℕ) (a n : ℕ) → a + n ≡ length s → list_any (λ i. begins_forbidden (from_place s i)) (range_with_len a n) ≡ forbidden (drop a s)
unfolding forbidden
any_from s a zero e = let h : length s ≤ a = omega arith in rw (drop_of_length-le s h)
any_from s a (suc n) e =
    let h : a < length s = omega arith in
    let k : length (drop a s) ≤ length s - a = omega (arith, length-drop a s) in
    rw (forbidden_step s a h, any_from s (a + 1) n (omega arith), take_all (length s - a) (drop a s) k)

pub returns : goal.returns
returns c =
    let s = c.args.s.now in
    any_from_yields_List (λ i. begins_forbidden (from_place s i)) _ _ _ c.any.ensures.ran (YieldsList-from_range 0 (length s) (length s) refl (omega arith)) (λ x b q k. search (rules, tests))
    ∙ any_from s 0 (length s) (omega arith)
