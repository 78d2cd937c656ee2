-- No value of a refusal and no limit has a sign, so that the numbers tell all of it.
use Prim.Native.Nat.{ℕ}
use mathlib.Core.Path.{◌≡◌, refl, subst}
use mathlib.Core.List.{List, [], ◌∷◌}
use mathlib.Core.Bool.{Bool, true, false, cond}
use mathlib.Core.Logic.{inl, inr}
use lib.IntN.{ℤ, pos, negsuc}
use Rattle.refusals.specs.Refusals.{wrapper_differs}
use Rattle.tree.specs.Reading.{Allowed, between, other_than, Rule, Fault, cut_off, overlong, breaks, no}
use Rattle.tree.specs.Coding.{unsigned, variable, fixed, holds_in, natural}
use Rattle.tree.specs.Syntax.{ranged}
use Rattle.tree.specs.Meaning.{Element, broken, Breaks, Means}
use Rattle.tree.specs.Wrapper.{wrapper_table}
use Rattle.tree.proofs.Truth.{clash}
use Rattle.tree.proofs.Breaks.{breaks_done, breaks_ranged, breaks_then}
use Rattle.tree.proofs.Held.{AllHeld, follow_held, held_later}
use Rattle.record.specs.Name.{Name, «wrapper»}
use Rattle.record.specs.Level.{level, known}
use Rattle.syntax.specs.Data.{most_reserved, lengths, bare_data, ST2094-10_data}
use Rattle.syntax.specs.Wrapper.{wrapper_bytes, wrapped_data}
use Rattle.syntax.specs.Reason.{About, identifier, version, count, alignment_bit, block_alignment_bit, other_length, average, surplus, target, Reason, WrappedReason}
use Rattle.syntax.proofs.Reasons.{the_reason_is_true}
use Rattle.syntax.proofs.Wrapped.{the_wrapped_reason_is_true}

-- a number without sign
abbrev pub Unsigned : ℤ → Type 0
Unsigned z = z ≡ pos (natural z)

abbrev pub PlainLimits : Allowed → Type 0
PlainLimits (between low high) = Unsigned low × Unsigned high
PlainLimits (other_than zs) = Unit {0}

abbrev pub PlainRule : Rule Name → Type 0
PlainRule r = Unsigned r.value × PlainLimits r.allowed

abbrev pub Plain : Fault Name → Type 0
Plain (cut_off at n) = Unit {0}
Plain (overlong at n) = Unit {0}
Plain (breaks r) = PlainRule r

-- what ue(v) and u(n) hold has none
variable_unsigned : (z : ℤ) → holds_in variable z ≡ true → Unsigned z
variable_unsigned (pos v) h = refl
variable_unsigned (negsuc v) h = let z : ◌≡◌ {A = ℕ} 0 1 = cc in clash z

fixed_unsigned : (n : ℕ) (z : ℤ) → holds_in (fixed (unsigned n)) z ≡ true → Unsigned z
fixed_unsigned n (pos v) h = refl
fixed_unsigned n (negsuc v) h = let z : ◌≡◌ {A = ℕ} 0 1 = cc in clash z

lengths_plain : (l : ℕ) → PlainLimits (lengths l)
lengths_plain l = go (known l)
  where
    go : (b : Bool) → PlainLimits (cond b (between (pos (level l).bytes) (pos (level l).bytes)) (between (pos 0) (pos most_reserved)))
    go true = (refl, refl)
    go false = (refl, refl)

rule_plain : (earlier theirs : List (Element Name)) (r : Rule Name) → About earlier theirs r → AllHeld theirs → PlainRule r
rule_plain earlier theirs r (identifier at z) h = (variable_unsigned z h.0, (refl, refl))
rule_plain earlier theirs r (version at z) h = (variable_unsigned z h.0, (refl, refl))
rule_plain earlier theirs r (count at z) h = (variable_unsigned z h.0, (refl, refl))
rule_plain earlier theirs r (alignment_bit at z) h = (fixed_unsigned 1 z h.0, (refl, refl))
rule_plain earlier theirs r (block_alignment_bit at z) h = (fixed_unsigned 1 z h.0, (refl, refl))
rule_plain earlier theirs r (other_length at n l) h = (variable_unsigned n h.0, lengths_plain (natural l))
rule_plain earlier theirs r (average at min max avg) h = (refl, (refl, refl))
rule_plain earlier theirs r (surplus at b opening is e f) h = (refl, tt)
rule_plain earlier theirs r (target at t s o p c g m opening is e f k) h = (refl, tt)

pub data_is_plain : (s : List Bool) (f : Fault Name) → Reason s f → Plain f
data_is_plain s (cut_off at n) m = tt
data_is_plain s (overlong at n) m = tt
data_is_plain s (breaks r) (es, t, b, bad, inl k) =
    let sp = k.1 in
    rule_plain sp.earlier sp.theirs r sp.about (held_later sp.earlier sp.theirs (subst AllHeld sp.all (follow_held ST2094-10_data 0 es (broken r) k.0)))
data_is_plain s (breaks r) (es, t, b, bad, inr k) = rw k.2 (refl, (refl, refl))

-- a byte of the wrapper
abbrev IfHeld : ℕ → List (Element Name) → Rule Name → Type 0
IfHeld at es r = AllHeld es → PlainRule r

wrapper_plain : (bs : List ℕ) → Breaks IfHeld (wrapper_table «wrapper» bs)
unfolding wrapper_table
wrapper_plain [] = breaks_done IfHeld tt
wrapper_plain (b ∷ bs) =
    breaks_then IfHeld (λ at es fs r k h. k (held_later es fs h)) (ranged «wrapper» (fixed (unsigned 8)) wrapper_differs (pos b) (pos b)) (λ z. wrapper_table «wrapper» bs)
    (breaks_ranged IfHeld «wrapper» (fixed (unsigned 8)) wrapper_differs (pos b) (pos b) (λ at z h. (fixed_unsigned 8 z h.0, (refl, refl)))) (λ z. wrapper_plain bs)

wrapper_fault_is_plain : (s : List Bool) (f : Fault Name) → Means (wrapper_table «wrapper» wrapper_bytes) 0 s (no f) → Plain f
wrapper_fault_is_plain s (cut_off at n) m = tt
wrapper_fault_is_plain s (overlong at n) m = tt
wrapper_fault_is_plain s (breaks r) (es, t, h, e) = wrapper_plain wrapper_bytes 0 es r h (follow_held (wrapper_table «wrapper» wrapper_bytes) 0 es (broken r) h)

-- THE LAW, of bare and of wrapped data
pub a_fault_is_plain : (s : List Bool) (f : Fault Name) → bare_data s ≡ no f → Plain f
a_fault_is_plain s f e = data_is_plain s f (the_reason_is_true s f e)

pub a_wrapped_fault_is_plain : (s : List Bool) (f : Fault Name) → wrapped_data s ≡ no f → Plain f
a_wrapped_fault_is_plain s f e = go (the_wrapped_reason_is_true s f e)
  where
    go : WrappedReason s f → Plain f
    go (inl m) = wrapper_fault_is_plain s f m
    go (inr (t, b, m)) = data_is_plain t f m
