-- What was read of a table lies within what the table reaches, whatever comes next.
use Prim.Native.Nat.{ℕ, ◌+◌, ◌≤◌}
use mathlib.Core.Path.{◌≡◌, refl, ap}
use mathlib.Core.List.{List, [], ◌∷◌}
use mathlib.Core.Bool.{Bool, true, false, cond}
use native.Mathlib.Omega.{arith}
use Rattle.tree.specs.Reading.{meets}
use Rattle.tree.specs.Coding.{width_in}
use Rattle.tree.specs.Syntax.{Syntax, done, reads, checks, here}
use Rattle.tree.specs.Meaning.{Element, width, sum_of_widths, Next, broken, Follow}
use Rattle.tree.proofs.Widths.{EndsBy}

pub followed_within : {N A : Type 0} (k : ℕ) (p : Syntax N A) (at : ℕ) (es : List (Element N)) (x : Next N A) → EndsBy k at p → at ≤ k → Follow p at es x → at + sum_of_widths es ≤ k
unfolding Follow sum_of_widths
followed_within k (done a) at es x h b f = omega (arith, ap sum_of_widths f.0)
followed_within k (reads n d g) at [] x h b f = omega arith
followed_within k (reads n d g) at (e ∷ es) x h b f =
    let here_it_is : width e ≡ width_in d e.value = ap (λ c. width_in c e.value) f.0.1 in
    let last : at + 0 + width_in d e.value ≤ k = h [] n d refl e.value f.0.2 in
    let behind : EndsBy k (at + width e) (g e.value) = λ fs m c q z y. (let t = h (e ∷ fs) m c (f.0, q) z y in omega (arith, t)) in
    let rest = followed_within k (g e.value) (at + width e) es x behind (omega (arith, here_it_is, last)) f.1 in
    omega (arith, rest)
followed_within {N} {A} k (checks r p) at es x h b f = go (λ l q. followed_within k p at es x l b q) (meets r) refl f
  where
    go : (EndsBy k at p → Follow p at es x → at + sum_of_widths es ≤ k) → (t : Bool) → meets r ≡ t → cond t (Follow p at es x) ((es ≡ []) × (x ≡ broken r)) → at + sum_of_widths es ≤ k
    go ih true m q = ih (λ fs n d y. h fs n d (rw m y)) q
    go ih false m q = omega (arith, ap sum_of_widths q.0)
followed_within k (here g) at es x h b f = followed_within k (g at) at es x h b f
