use Rattle.std.proofs.Common.{length}
use Rattle.messages.specs.Answer.{first_read}
use Rattle.messages.proofs.Reading.{Reached}
use Rattle.messages.proofs.find_ours.Given as goal

abbrev pub invariant-loop-kind : goal.invariant-loop-kind
invariant-loop-kind l = Reached l.s (first_read l.first) l.rest

abbrev pub decreases-loop-kind : goal.decreases-loop-kind
decreases-loop-kind l = length l.rest
