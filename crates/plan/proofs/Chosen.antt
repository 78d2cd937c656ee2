-- What `choose` answers, by what is there and by the order of the numbers.
use Rattle.std.proofs.Common.{◌≡◌, refl, sym, ◌∙◌, ap, subst, arith, ltb, cond, true, Bool}
use Rattle.std.proofs.lemmas.Int.{ints}
use Rattle.std.proofs.Math.Bridge.{le_prop}
use Rattle.std.proofs.Common.{Ordering, Less, Equal, Greater, int_cmp}
use Rattle.std.proofs.lemmas.Cmp.{int_ranked}
use Rattle.std.specs.Prelude.{ℕ, ◌+◌, ◌-◌, ◌<◌, ◌≤◌, ◌<ℤ◌, ℤ}
use Rattle.std.specs.Ordering.{MatchOrdering}
use Rattle.std.specs.Int.Signed.{lt_z_yes}
use borrow.Author.Tests.{lt-ltb, le-ltb}
use Rattle.keyed.specs.Keyed.{Compared, less, same, greater}
use Rattle.plan.specs.declared.Source.{Source}
use Rattle.plan.specs.declared.Source.TheVariants.{First, Second, Neither}
use Rattle.plan.specs.declared.Turn.{Turn}
use Rattle.plan.specs.declared.entry.Entry.{Entry}
use Rattle.plan.specs.Entries.{clamped, entry_at}
use Rattle.plan.specs.Limit.{most_points}
use Rattle.plan.specs.Pictures.{Before, order}
use Rattle.plan.specs.Planning.{named, neither, Tag, tag, NextTag, next, picture_of, next_by, next_of, turn_of}

-- entries with one index are one entry
entry_same : (d e : Entry) → d.at ≡ e.at → d ≡ e
entry_same d e p =
    subst (λ (n : ℕ). (h : n < most_points) → d ≡ record { at = n; in_table = h }) p
    (λ h. ap (λ (q : d.at < most_points). record { at = d.at; in_table = q }) (le_prop d.in_table h)) e.in_table

-- an index that is there stays as it is
pub clamped_in : (i : ℕ) → i < most_points → clamped i ≡ i
clamped_in i h = ap (λ (b : Bool). cond b i (most_points - 1)) (lt-ltb i most_points h)

-- an entry is the one at its index
entry_again : (e : Entry) → entry_at e.at ≡ e
entry_again e = entry_same (entry_at e.at) e (clamped_in e.at e.in_table)

-- ---- what a source's number names
module _ (source : ℕ) where
  abbrev first : Source
  first = First (entry_at source)

  abbrev second : Source
  second = Second (entry_at (source - most_points))

  pub named_first : source < most_points → named source ≡ first
  named_first h = ap (λ (b : Bool). cond b first (cond (ltb source neither) second Neither)) (lt-ltb source most_points h)

  pub named_second : most_points ≤ source → source < neither → named source ≡ second
  named_second g h = ap (λ (b : Bool). cond b first (cond (ltb source neither) second Neither)) (le-ltb source most_points g) ∙ ap (λ (b : Bool). cond b second Neither) (lt-ltb source neither h)

pub first_named : (e : Entry) → named e.at ≡ First e
first_named e = named_first e.at e.in_table ∙ ap First (entry_again e)

pub second_named : (e : Entry) → named (most_points + e.at) ≡ Second e
second_named e =
    let h : e.at < most_points = e.in_table in
    let i : most_points + e.at - most_points ≡ e.at = omega arith in
    named_second (most_points + e.at) (omega arith) (omega arith) ∙ ap (λ (n : ℕ). Second (entry_at n)) i ∙ ap Second (entry_again e)

-- by the order that `cmp` finds
abbrev next_as : Tag → Tag → Ordering → NextTag
next_as x y Less = next x 1 0
next_as x y Equal = next y 1 1
next_as x y Greater = next y 0 1

compared : (x y : Tag) (t : Compared Before (picture_of x) (picture_of y)) (r : Ordering)
    → MatchOrdering r (picture_of x <ℤ picture_of y) (picture_of x ≡ picture_of y) (picture_of y <ℤ picture_of x) → next_by x y t ≡ next_as x y r
compared x y (less h) Less g = refl
compared x y (less h) Equal g = let f : picture_of x <ℤ picture_of y = lt_z_yes h in absurd (omega (arith, ints))
compared x y (less h) Greater g = let f : picture_of x <ℤ picture_of y = lt_z_yes h in absurd (omega (arith, ints))
compared x y (same e) Less g = absurd (omega (arith, ints))
compared x y (same e) Equal g = refl
compared x y (same e) Greater g = absurd (omega (arith, ints))
compared x y (greater h) Less g = let f : picture_of y <ℤ picture_of x = lt_z_yes h in absurd (omega (arith, ints))
compared x y (greater h) Equal g = let f : picture_of y <ℤ picture_of x = lt_z_yes h in absurd (omega (arith, ints))
compared x y (greater h) Greater g = refl

-- what comes next where both numbers are there
abbrev turn_as : Entry → Entry → Ordering → Turn
turn_as e f Less = record { source = First e; left = 1; right = 0 }
turn_as e f Equal = record { source = Second f; left = 1; right = 1 }
turn_as e f Greater = record { source = Second f; left = 0; right = 1 }

pub both_there : (e f : Entry) (x y : ℤ) (r : Ordering) → r ≡ int_cmp x y → turn_as e f r ≡ turn_of (next_of true (tag e.at x) true (tag (most_points + f.at) y))
both_there e f x y r h =
    let v = tag e.at x in
    let w = tag (most_points + f.at) y in
    named_as r ∙ ap turn_of (sym (compared v w (order x y) r (int_ranked x y r h)))
  where
    named_as : (o : Ordering) → turn_as e f o ≡ turn_of (next_as (tag e.at x) (tag (most_points + f.at) y) o)
    named_as Less = rw (first_named e)
    named_as Equal = rw (second_named f)
    named_as Greater = rw (second_named f)
