-- What is kept of the blocks that were met: by it alone it is decided whether one more may follow.
use Rattle.std.specs.Prelude.{ℕ, ◌≡◌, ◌+◌, ◌-◌, Option, Some, None, List, ◌++◌, ltb, length, replicate}
use Rattle.refusals.specs.Numbered.{refusal_of}
use Rattle.refusals.specs.declared.Refusal.{Refusal}
use Rattle.record.specs.declared.Block.{Block}
use Rattle.record.specs.declared.Block.TheVariants.{Nothing, Level1, Level2, Level5}
use Rattle.record.specs.Level.{level}
use Rattle.valid.specs.Valid.{many, targets, repeat_number}
use Rattle.met.specs.declared.Met.{Met}

-- as many as there may be blocks of level 2
abbrev pub most_targets : ℕ
most_targets = (level 2).most

-- the entries in which they are kept: one more, so that a block has a place whether it may follow or not
abbrev pub entries : ℕ
entries = most_targets + 1

-- no target_max_PQ
abbrev pub no_target : ℕ
no_target = 65535

-- the target_max_PQ of a level 2 block
abbrev pub target_of : Block → Option ℕ
target_of Nothing = None
target_of (Level1 min max avg) = None
target_of (Level2 t s o p c g m) = Some t
target_of (Level5 l r t b) = None

-- the target_max_PQ values that were met, and none in the entries behind them
abbrev pub targets_met : List Block → List ℕ
targets_met bs = targets bs ++ replicate (entries - length (targets bs)) no_target

-- that one of level 1 and one of level 5 were met, or none, and how many of level 2; it says nothing of the targets
abbrev pub Counts : Met → List Block → Type 0
Counts m bs = (m.one ≡ ltb 0 (many 1 bs)) × (m.five ≡ ltb 0 (many 5 bs)) × (m.twos ≡ many 2 bs)

-- whether one of level 1 and one of level 5 were met, how many of level 2, and the targets of these
abbrev pub met_of : List Block → Met
met_of bs = record { one = ltb 0 (many 1 bs); five = ltb 0 (many 5 bs); twos = many 2 bs; targets = targets_met bs }

-- 02, e: which repeat a block is that may not follow those before it; nothing is none
abbrev pub repeat_of : List Block → Block → Option Refusal
repeat_of before Nothing = None
repeat_of before (Level1 min max avg) = Some (refusal_of (repeat_number before (Level1 min max avg)))
repeat_of before (Level2 t s o p c g m) = Some (refusal_of (repeat_number before (Level2 t s o p c g m)))
repeat_of before (Level5 l r t b) = Some (refusal_of (repeat_number before (Level5 l r t b)))
