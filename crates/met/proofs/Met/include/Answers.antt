-- `Met::include` meets its contract.
use Prim.Native.Nat.{ℕ, ◌+◌, ◌≤◌}
use mathlib.Core.Path.{◌≡◌, refl, sym, ◌∙◌}
use mathlib.Core.List.{List, [], ◌∷◌, ◌++◌}
use lib.ListN.{set}
use Rattle.std.proofs.Common.{Some, None, rules, true}
use Rattle.record.specs.declared.Block.{Block}
use Rattle.record.specs.declared.Block.TheVariants.{Nothing, Level1, Level2, Level5}
use Rattle.met.specs.declared.Met.{Met}
use Rattle.met.specs.Met.{most_targets, target_of, Counts, met_of}
use Rattle.met.proofs.Laws.{included, met_included, counts_more, store}
use Rattle.met.proofs.Met.include.Goals.{Joined-b, in-Level1, in-Level5, in_default}
use Rattle.met.proofs.Met.include.Goals as goal

-- what the code keeps is kept of the blocks that were met, and b
answered : {r m : Met} (b : Block) → m.twos ≤ most_targets → r ≡ included m b → (before : List Block) → m ≡ met_of before → r ≡ met_of (before ++ (b ∷ []))
answered b h a before e = a ∙ rw e (met_included before b (rw e at h))

-- the counts too, whatever is kept of the targets
counting : (r m : Met) (b : Block) → r ≡ included m b → (before : List Block) → Counts m before → Counts r (before ++ (b ∷ []))
counting r m b a before e = rw a (counts_more m (store m.targets m.twos (target_of b)) before b e)

-- the flags, before the target
abbrev flagged : Met → Block → Met
flagged m Nothing = m
flagged m (Level1 min max avg) = record { one = true; five = m.five; twos = m.twos; targets = m.targets }
flagged m (Level2 t s o p c g w) = m
flagged m (Level5 l r t b) = record { one = m.one; five = true; twos = m.twos; targets = m.targets }

-- a block of neither level changes none
no_flag : (m : Met) (b : Block) → ((min max avg : ℕ) → b ≡ Level1 min max avg → ⊥) → ((l r t u : ℕ) → b ≡ Level5 l r t u → ⊥) → m ≡ flagged m b
no_flag m Nothing h k = refl
no_flag m (Level1 min max avg) h k = absurd (h min max avg refl)
no_flag m (Level2 t s o p c g w) h k = refl
no_flag m (Level5 l r t b) h k = absurd (k l r t b refl)

-- with a target, and with none
aimed : (m : Met) (b : Block) (t : ℕ) → target_of b ≡ Some t
    → ◌≡◌ {A = Met} (record { one = (flagged m b).one; five = (flagged m b).five; twos = (flagged m b).twos + 1; targets = set (flagged m b).targets (flagged m b).twos t }) (included m b)
aimed m Nothing t e = search (rules, e)
aimed m (Level1 min max avg) t e = search (rules, e)
aimed m (Level2 u s o p c g w) t e = let f : u ≡ t = cc in rw f
aimed m (Level5 l r u b) t e = search (rules, e)

unaimed : (m : Met) (b : Block) → target_of b ≡ None → flagged m b ≡ included m b
unaimed m Nothing e = refl
unaimed m (Level1 min max avg) e = refl
unaimed m (Level2 t s o p c g w) e = search (rules, e)
unaimed m (Level5 l r t b) e = refl

noted : (c : Joined-b) → c.match-b.self ≡ flagged c.args.self.now c.args.b
noted c =
    elim c.match-b.branch [
      | in-Level1 w ↦ w.self-is ∙ rw w.in-Level1.is refl
      | in-Level5 w ↦ w.self-is ∙ rw w.in-Level5.is refl
      | in_default w ↦ w.self-is ∙ no_flag c.args.self.now c.args.b w.in_default.not-Level1 w.in_default.not-Level5
    ]

-- with a target, and with none
pub returns-in-Some-clause-counts : goal.returns-in-Some-clause-counts
returns-in-Some-clause-counts c =
    let m = c.args.self.now in
    let b = c.args.b in
    let t = c.in-Some.t in
    let r : Met = record { one = (flagged m b).one; five = (flagged m b).five; twos = (flagged m b).twos + 1; targets = set (flagged m b).targets (flagged m b).twos t } in
    rw (noted (goal.at.returns-in-Some-clause-counts c).Joined-b) (counting r m b (aimed m b t (sym c.target_of.ensures ∙ c.in-Some.is)))

pub returns-in_default-target_of-clause-counts : goal.returns-in_default-target_of-clause-counts
returns-in_default-target_of-clause-counts c =
    counting c.match-b.self c.args.self.now c.args.b (noted (goal.at.returns-in_default-target_of-clause-counts c).Joined-b ∙ unaimed c.args.self.now c.args.b (sym c.target_of.ensures ∙ c.in_default-target_of.is))

pub returns-in-Some-clause-kept : goal.returns-in-Some-clause-kept
returns-in-Some-clause-kept c =
    answered c.args.b c.requires (rw (noted (goal.at.returns-in-Some-clause-kept c).Joined-b) (aimed c.args.self.now c.args.b c.in-Some.t (sym c.target_of.ensures ∙ c.in-Some.is)))

pub returns-in_default-target_of-clause-kept : goal.returns-in_default-target_of-clause-kept
returns-in_default-target_of-clause-kept c =
    answered c.args.b c.requires (noted (goal.at.returns-in_default-target_of-clause-kept c).Joined-b ∙ unaimed c.args.self.now c.args.b (sym c.target_of.ensures ∙ c.in_default-target_of.is))
