-- Laws of text typed into a buffer: a whole text, and one text behind another.
use Prim.Native.Nat.{ℕ, ◌+◌, ◌≤◌}
use mathlib.Core.Path.{◌≡◌, refl, ap, sym, ◌∙◌}
use mathlib.Core.List.{List, [], ◌++◌, append_assoc, append-nil}
use native.Mathlib.Omega.{arith}
use native.Mathlib.Nat.{add-zero}
use lib.ListN.{length, take, drop, length-append, take-append-drop}
use lib.Seq.{take-length, drop-drop, paste, take-paste, drop-paste, length-paste}
use Rattle.tree.proofs.Lists.{later_on}
use Rattle.text.specs.Typing.{Typed}
use Rattle.text.specs.Page.{HasRoom, TypedOn}
use Rattle.text.specs.declared.Page.{Page}

-- nothing
pub typed_nothing : (out : List ℕ) (at : ℕ) → Typed out at [] out at
typed_nothing out at = record { up_to = sym (append-nil (take at out)); later = refl; same = refl; place = sym (add-zero at) }

-- a copied text
typed_paste : (out s : List ℕ) (at : ℕ) → at + length s ≤ length out → Typed out at s (paste out at s (length s)) (at + length s)
typed_paste out s at h = record {
  up_to = take-paste out at s (length s) (omega arith) (omega arith) ∙ ap (λ (t : List ℕ). take at out ++ t) (take-length s);
  later = drop-paste out at s (length s) (omega arith) (omega arith);
  same = length-paste out at s (length s) h (omega arith);
  place = refl;
}

-- a text that was copied into the part of the buffer that is as long, from place at on
pub typed_mid : (out s : List ℕ) (at : ℕ) → at + length s ≤ length out → Typed out at s (take at out ++ (s ++ drop (length s) (drop at out))) (at + length s)
typed_mid out s at h =
    rw (drop-drop (length s) at out, ← append_assoc (take at out) s (drop (at + length s) out), ← ap (λ (t : List ℕ). take at out ++ t ++ drop (at + length s) out) (take-length s)) (typed_paste out s at h)

-- one text behind another
pub typed_then : {o₀ o₁ o₂ : List ℕ} {p₀ p₁ p₂ : ℕ} {s t : List ℕ} → Typed o₀ p₀ s o₁ p₁ → Typed o₁ p₁ t o₂ p₂ → Typed o₀ p₀ (s ++ t) o₂ p₂
typed_then {o₀} {o₁} {o₂} {p₀} {p₁} {p₂} {s} {t} p q = record {
  up_to = q.up_to ∙ rw p.up_to (append_assoc (take p₀ o₀) s t);
  later = q.later ∙ later_on p₁ p₂ o₁ o₀ (omega (arith, q.place)) p.later;
  same = q.same ∙ p.same;
  place = omega (arith, p.place, q.place, length-append s t);
}

-- room for what follows is left
pub room_left : {o₀ o₁ : List ℕ} {p₀ p₁ : ℕ} {s : List ℕ} → Typed o₀ p₀ s o₁ p₁ → (t : List ℕ) → p₀ + length (s ++ t) ≤ length o₀ → p₁ + length t ≤ length o₁
room_left {s = s} p t h = omega (arith, p.place, p.same, length-append s t)

pub room_first : (p n : ℕ) (s t : List ℕ) → p + length (s ++ t) ≤ n → p + length s ≤ n
room_first p n s t h = omega (arith, h, length-append s t)

-- what was typed determines the buffer, and the place behind it
pub one_typing : {out s o₁ o₂ : List ℕ} {at p₁ p₂ : ℕ} → Typed out at s o₁ p₁ → Typed out at s o₂ p₂ → (p₁ ≡ p₂) × (o₁ ≡ o₂)
one_typing {out} {o₁ = o₁} {o₂} {p₁ = p₁} {p₂} t u =
    let e : p₁ ≡ p₂ = t.place ∙ sym u.place in
    (e, sym (take-append-drop p₁ o₁) ∙ rw (t.up_to, t.later, e, ← u.up_to, ← u.later) (take-append-drop p₂ o₂))

-- ---- on a page

-- one text behind another
pub typed_on_then : {p q r : Page} {s t : List ℕ} → TypedOn p s q → TypedOn q t r → TypedOn p (s ++ t) r
typed_on_then a b = record { typed = typed_then a.typed b.typed; same = b.same ∙ a.same }

-- nothing
pub typed_on_nothing : (p : Page) → TypedOn p [] p
typed_on_nothing p = record { typed = typed_nothing p.out.now p.at; same = refl }

-- room for what follows is left
pub room_after : {p q : Page} {s : List ℕ} → TypedOn p s q → (t : List ℕ) → HasRoom p (s ++ t) → HasRoom q t
room_after a t h = room_left a.typed t h
