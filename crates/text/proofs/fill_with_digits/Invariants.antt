use mathlib.Core.Path.{◌≡◌}
use mathlib.Core.List.{◌++◌}
use lib.ListN.{length, drop}
use Rattle.text.specs.Text.{digits}
use Rattle.text.proofs.fill_with_digits.Given as goal

-- the last digits stand, and the digits of the rest are those before them
abbrev pub invariant-loop-i : goal.invariant-loop-i
invariant-loop-i l = digits l.i l.rest ++ drop l.i l.place ≡ digits (length l.place) l.n
