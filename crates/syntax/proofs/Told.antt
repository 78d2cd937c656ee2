-- A refusal of data is named by its number, and the number by the refusal.
use Prim.Native.Nat.{ℕ}
use mathlib.Core.Path.{◌≡◌, refl}
use mathlib.Core.List.{List, [], ◌∷◌}
use mathlib.Core.Bool.{Bool, true, false, ◌&&◌}
use borrow.Author.Tests.{clash, eqb-true}
use Rattle.std.specs.Prelude.{eqb}
use Rattle.refusals.specs.Numbered.{number_of, refusal_of}
use Rattle.tree.specs.Reading.{Fault, cut_off, overlong, breaks, number_in, no}
use Rattle.tree.specs.Syntax.{Syntax, row, read}
use Rattle.tree.specs.Meaning.{Means, Breaks}
use Rattle.tree.proofs.Meaning.{every_answer_is_true}
use Rattle.tree.proofs.Breaks.{breaks_row}
use Rattle.element.specs.declared.Refused.{Refused}
use Rattle.record.specs.Name.{Name}
use Rattle.record.specs.Level.{fields_of}
use Rattle.valid.specs.Valid.{among}
use Rattle.syntax.specs.Data.{block, bare_data}
use Rattle.syntax.specs.Reason.{Speaks, rule_numbers, data_numbers}
use Rattle.syntax.specs.Told.{ToldAs, Tells}
use Rattle.syntax.proofs.Reasons.{grow, one_block, listed, data_gets_a_listed_number}

-- what holds of each of these numbers
abbrev all_of : (ℕ → Bool) → List ℕ → Bool
all_of p [] = true
all_of p (n ∷ ns) = p n && all_of p ns

both : (b c : Bool) → b && c ≡ true → (b ≡ true) × (c ≡ true)
both true c e = (refl, e)
both false c e = (e, absurd (clash e))

holds_of : (p : ℕ → Bool) (n : ℕ) (ns : List ℕ) → all_of p ns ≡ true → among n ns ≡ true → p n ≡ true
unfolding among
holds_of p n [] a h = absurd (clash h)
holds_of p n (y ∷ ys) a h = go (eqb n y) refl (holds_of p n ys (both (p y) (all_of p ys) a).1)
  where
    go : (q : Bool) → eqb n y ≡ q → (among n ys ≡ true → p n ≡ true) → p n ≡ true
    go true e k = rw (eqb-true n y e) (both (p y) (all_of p ys) a).0
    go false e k = k (rw e at h)

abbrev named : ℕ → Bool
named n = eqb (number_of (refusal_of n)) n

pub each_is_named : (s : List Bool) (f : Fault Name) → bare_data s ≡ no f → number_of (refusal_of (number_in f)) ≡ number_in f
each_is_named s f e = eqb-true (number_of (refusal_of (number_in f))) (number_in f) (holds_of named (number_in f) data_numbers refl (data_gets_a_listed_number s f e))

pub told_by_number : (s : List Bool) (r : Refused) → Tells (bare_data s) r → ToldAs (bare_data s) (number_of r.refusal) r.element r.offset
told_by_number s r (f, e, t) = rw t (f, e, each_is_named s f e, refl, refl)

-- a part of the data, whose broken rules are rows of the table of reasons, is refused by a number that has its own refusal
pub part_is_named : {A : Type 0} (p : Syntax Name A) → Breaks Speaks p → (at : ℕ) (s : List Bool) (f : Fault Name) → read p at s ≡ no f → number_of (refusal_of (number_in f)) ≡ number_in f
part_is_named p h at s (cut_off offset name) e = refl
part_is_named p h at s (overlong offset name) e = refl
part_is_named p h at s (breaks r) e =
    let m : Means p at s (no (breaks r)) = rw e at (every_answer_is_true p at s) in
    let k = h at m.0 r m.2 in
    eqb-true (number_of (refusal_of r.number)) r.number (holds_of named r.number rule_numbers refl (listed k.earlier k.theirs r k.about))

-- so is a block
pub block_is_named : (at : ℕ) (s : List Bool) (f : Fault Name) → read block at s ≡ no f → number_of (refusal_of (number_in f)) ≡ number_in f
block_is_named = part_is_named block one_block

-- and so are the fields of a level
pub fields_are_named : (l at : ℕ) (s : List Bool) (f : Fault Name) → read (row (fields_of l)) at s ≡ no f → number_of (refusal_of (number_in f)) ≡ number_in f
fields_are_named l = part_is_named (row (fields_of l)) (breaks_row Speaks grow (fields_of l))
