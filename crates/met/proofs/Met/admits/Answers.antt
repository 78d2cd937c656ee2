-- `Met::admits` meets its contract.
use mathlib.Core.Path.{◌≡◌, ◌∙◌}
use mathlib.Core.List.{List}
use mathlib.Core.Bool.{Bool, true}
use Rattle.record.specs.declared.Block.{Block}
use Rattle.record.specs.Blocks.{in_range}
use Rattle.valid.specs.Valid.{may_follow}
use Rattle.met.specs.declared.Met.{Met}
use Rattle.met.specs.Met.{met_of}
use Rattle.met.proofs.Laws.{follows, met_decides}
use Rattle.met.proofs.Met.admits.Goals as goal

-- an answer that is the code's test is right for all blocks that it can stand for
answered : {r : Bool} {m : Met} (b : Block) → in_range b ≡ true → r ≡ follows m b → (before : List Block) → m ≡ met_of before → r ≡ may_follow before b
answered b h a before e = a ∙ rw e (met_decides before b h)

pub returns-in-Nothing : goal.returns-in-Nothing
returns-in-Nothing c = answered c.args.b c.requires (rw c.in-Nothing.is)

pub returns-in-Level1 : goal.returns-in-Level1
returns-in-Level1 c = answered c.args.b c.requires (rw c.in-Level1.is)

pub returns-in-Level2 : goal.returns-in-Level2
returns-in-Level2 c = answered c.args.b c.requires (rw (c.in-Level2.is, c.has_target.ensures))

pub returns-in-Level5 : goal.returns-in-Level5
returns-in-Level5 c = answered c.args.b c.requires (rw c.in-Level5.is)
