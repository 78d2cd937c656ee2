-- `text::Page::put_decimal` meets its contract: the part of the buffer from the place on that is as long as the digits is filled with them.
use Prim.Native.Nat.{ℕ, ◌+◌, ◌-◌}
use mathlib.Core.Path.{◌≡◌, refl, ap, ◌∙◌}
use native.Mathlib.Omega.{arith}
use lib.ListN.{length, take, drop, length-take, length-drop}
use Rattle.text.specs.Text.{size, digits, decimal}
use Rattle.text.proofs.Typing.{typed_mid}
use Rattle.text.proofs.Decimals.{length-decimal}
use Rattle.text.proofs.Page.put_decimal.Goals as goal

pub returns : goal.returns
returns c =
    let page = c.args.self.now in
    let n = c.args.n in
    let k = c.digits_of.result in
    let long : k ≡ length (decimal n) = c.digits_of.ensures.0 in
    let same : page.at + k - page.at ≡ k = omega arith in
    let part : length (take (page.at + k - page.at) (drop page.at page.out.now)) ≡ size n =
    omega (arith, same, long, length-decimal n, c.requires, length-take (page.at + k - page.at) (drop page.at page.out.now), length-drop page.at page.out.now) in
    let filled : c.fill_with_digits.new.place ≡ decimal n = c.fill_with_digits.ensures ∙ ap (λ (m : ℕ). digits m n) part in
    record { typed = rw (same, filled, long) (typed_mid page.out.now (decimal n) page.at c.requires); same = refl }
