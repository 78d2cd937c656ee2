use mathlib.Core.Path.{◌≡◌}
use mathlib.Core.List.{map}
use lib.ListN.{length, take}
use Rattle.track.specs.Inner.{chosen_of}
use Rattle.track.proofs.fill.Given as goal

abbrev pub invariant-loop-k : goal.invariant-loop-k
invariant-loop-k l = record { size : length l.res ≡ length l.fn.res; filled : take l.k l.res ≡ map (chosen_of l.first l.second) (take l.k l.layout.sources) }
