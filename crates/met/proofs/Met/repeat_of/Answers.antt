-- `Met::repeat_of` meets its contract.
use mathlib.Core.Path.{◌≡◌, refl, ◌∙◌}
use mathlib.Core.List.{List}
use mathlib.Core.Bool.{false}
use Rattle.std.proofs.Common.{Option}
use Rattle.refusals.specs.declared.Refusal.{Refusal}
use Rattle.record.specs.declared.Block.{Block}
use Rattle.valid.specs.Valid.{may_follow}
use Rattle.met.specs.declared.Met.{Met}
use Rattle.met.specs.Met.{Counts, repeat_of}
use Rattle.met.proofs.Laws.{repeats, counts_repeat}
use Rattle.met.proofs.Met.repeat_of.Goals as goal

-- the refusal that the code gives is that of b behind the blocks that were met
answered : {r : Option Refusal} (m : Met) (b : Block) → r ≡ repeats m b → (before : List Block) → Counts m before → may_follow before b ≡ false → r ≡ repeat_of before b
answered m b a before e h = a ∙ counts_repeat m before b e h

pub returns-in-Level1 : goal.returns-in-Level1
returns-in-Level1 c = answered c.args.self.now c.args.b (rw c.in-Level1.is refl)

pub returns-in-Level5 : goal.returns-in-Level5
returns-in-Level5 c = answered c.args.self.now c.args.b (rw c.in-Level5.is refl)
