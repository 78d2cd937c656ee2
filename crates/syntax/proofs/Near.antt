-- Data is refused within the longest data: so where a refused element begins fits 32 bits.
use Prim.Native.Nat.{◌^◌, ◌<◌, ◌≤◌}
use mathlib.Core.Path.{◌≡◌, ap}
use mathlib.Core.List.{List}
use mathlib.Core.Bool.{Bool}
use mathlib.Core.Logic.{inl, inr}
use native.Mathlib.Omega.{arith}
use Rattle.tree.specs.Reading.{Rule, Fault, cut_off, overlong, breaks, offset_in, no}
use Rattle.tree.specs.Meaning.{Element, sum_of_widths, Next, awaits, broken, complete, Follow}
use Rattle.tree.proofs.Meaning.{widths_append}
use Rattle.tree.proofs.Reached.{followed_within}
use Rattle.element.specs.declared.Refused.{Refused}
use Rattle.record.specs.Name.{Name}
use Rattle.syntax.specs.Data.{Data, ST2094-10_data, bare_data}
use Rattle.syntax.specs.Reason.{Reason}
use Rattle.syntax.specs.Told.{Tells}
use Rattle.syntax.proofs.Largest.{most_bits}
use Rattle.syntax.proofs.Reasons.{the_reason_is_true}
use Rattle.syntax.proofs.Stands.{BrokenBy, data_ends}

within : (es : List (Element Name)) (x : Next Name Data) → Follow ST2094-10_data 0 es x → sum_of_widths es ≤ most_bits
within es x q = omega (arith, followed_within most_bits ST2094-10_data 0 es x data_ends (omega arith) q)

pub refused_within : (s : List Bool) (f : Fault Name) → bare_data s ≡ no f → offset_in f ≤ most_bits
refused_within s f e = go f (the_reason_is_true s f e)
  where
    go : (f : Fault Name) → Reason s f → offset_in f ≤ most_bits
    go (cut_off at n) m = omega (arith, m.5, within m.0 (awaits n m.2) m.3)
    go (overlong at n) m = omega (arith, m.5, within m.0 (awaits n m.2) m.3)
    go (breaks r) m = by m.4
      where
        by : BrokenBy m.0 m.1 r → r.offset ≤ most_bits
        by (inl k) = omega (arith, k.1.offset, ap sum_of_widths k.1.all, widths_append k.1.earlier k.1.theirs, within m.0 (broken r) k.0)
        by (inr k) = omega (arith, ap (λ (q : Rule Name). q.offset) k.2, within m.0 (complete k.0) k.1)

pub told_near : (s : List Bool) (r : Refused) → Tells (bare_data s) r → r.offset < 2 ^ 32
told_near s r (f, e, q) = omega (arith, ap (λ (x : Refused). x.offset) q, refused_within s f e)
