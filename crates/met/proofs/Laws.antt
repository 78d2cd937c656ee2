-- What is kept of the blocks that were met, block by block; that it decides whether one more may follow; and which repeat one is that may not.
use Prim.Native.Nat.{ℕ, zero, suc, ◌+◌, ◌-◌, ◌<◌, ◌≤◌}
use mathlib.Core.Path.{◌≡◌, refl, ap, sym, ◌∙◌}
use mathlib.Core.List.{List, [], ◌∷◌, ◌++◌, append-nil}
use mathlib.Core.Bool.{Bool, true, false, cond, not, ◌&&◌, ◌||◌, and-true, or-false, or_assoc}
use native.Mathlib.Nat.{add-zero}
use native.Mathlib.Numerals.{unary_clauses}
use native.Mathlib.Omega.{arith}
use borrow.Author.Tests.{ltb-true, lt-ltb, le-ltb, ne_eqb}
use lib.Dec.{ltb, eqb}
use lib.ListN.{length, take, set, replicate, length-append, length-replicate}
use Rattle.std.proofs.Common.{Option, Some, None, fold}
use Rattle.refusals.specs.Refusals.{repeated_target, second_level1, second_level5, seventeenth_level2}
use Rattle.refusals.specs.Numbered.{number_of, refusal_of}
use Rattle.refusals.specs.declared.Refusal.{Refusal}
use Rattle.refusals.specs.declared.Refusal.TheVariants.{RepeatedTarget, SecondLevel1, SecondLevel5, SeventeenthLevel2}
use Rattle.tree.specs.Coding.{hold_all}
use Rattle.record.specs.declared.Block.{Block}
use Rattle.record.specs.declared.Block.TheVariants.{Nothing, Level1, Level2, Level5}
use Rattle.record.specs.Blocks.{in_range}
use Rattle.record.proofs.Laws.{and_left, eqb_turned}
use Rattle.valid.specs.Valid.{many, targets, among, may_follow, repeat_number}
use Rattle.valid.proofs.Laws.{many_more, targets-append}
use Rattle.met.specs.declared.Met.{Met}
use Rattle.met.specs.Met.{most_targets, entries, no_target, target_of, Counts, met_of, targets_met, repeat_of}

-- ---- the targets that are kept

-- each level 2 block has one target
pub targets-many : (bs : List Block) → length (targets bs) ≡ many 2 bs
unfolding targets many
targets-many [] = refl
targets-many (Nothing ∷ bs) = omega (arith, targets-many bs)
targets-many (Level1 min max avg ∷ bs) = omega (arith, targets-many bs)
targets-many (Level2 t s o p c g m ∷ bs) = omega (arith, targets-many bs)
targets-many (Level5 l r t b ∷ bs) = omega (arith, targets-many bs)

-- of no block, none is kept
pub met_none : targets_met [] ≡ replicate entries no_target
unfolding targets
met_none = refl

-- with what stands behind them they fill the entries
pub length_met : (bs : List Block) → many 2 bs ≤ entries → length (targets_met bs) ≡ entries
length_met bs h =
    omega (arith, targets-many bs, length-append (targets bs) (replicate (entries - length (targets bs)) no_target), length-replicate (entries - length (targets bs)) no_target)

-- targets in n entries, and no_target behind them
abbrev in_entries : ℕ → List ℕ → List ℕ
in_entries n ts = ts ++ replicate (n - length ts) no_target

-- one more is stored behind those that are kept
stored : (n t : ℕ) (ts : List ℕ) → length ts < n → set (in_entries n ts) (length ts) t ≡ in_entries n (ts ++ (t ∷ []))
stored zero t ts h = absurd (omega arith)
stored (suc n) t [] h = simp unary_clauses
stored (suc n) t (x ∷ ts) h = simp unary_clauses (ap (λ (us : List ℕ). x ∷ us) (stored n t ts (omega arith)))

-- a target, where a block has one, is stored at this entry
abbrev pub store : List ℕ → ℕ → Option ℕ → List ℕ
store ts k None = ts
store ts k (Some t) = set ts k t

-- the next block's target, put behind those that are kept, makes them those of one block more
pub met_store : (bs : List Block) (b : Block) → many 2 bs ≤ most_targets → store (targets_met bs) (many 2 bs) (target_of b) ≡ targets_met (bs ++ (b ∷ []))
unfolding targets
met_store bs Nothing h = rw (targets-append, append-nil)
met_store bs (Level1 min max avg) h = rw (targets-append, append-nil)
met_store bs (Level2 t s o p c g m) h = rw (targets-append, ← targets-many bs) (stored entries t (targets bs) (omega (arith, targets-many bs)))
met_store bs (Level5 l r t b) h = rw (targets-append, append-nil)

-- ---- which are among them

-- all are looked at, and it is said whether one of them is t
pub among_all : (t : ℕ) (xs : List ℕ) (met : Bool) → fold (λ (met : Bool) (target : ℕ). met || eqb target t) met xs ≡ met || among t xs
unfolding among
among_all t [] met = sym (or-false met)
among_all t (x ∷ xs) met = rw (among_all t xs (met || eqb x t), eqb_turned t x, or_assoc)

-- ---- what they decide

-- a target of 12 bits is found in the first n places exactly if it is one of those that were met, which the places hold
found : (t : ℕ) (ts : List ℕ) (n k : ℕ) → t < 4096 → length ts ≤ n → among t (take n (ts ++ replicate k no_target)) ≡ among t ts
unfolding among
found t [] zero k h l = refl
found t [] (suc n) zero h l = refl
found t [] (suc n) (suc k) h l = rw (ne_eqb t no_target (λ e. omega arith)) (found t [] n k h (omega arith))
found t (x ∷ ts) zero k h l = absurd (omega arith)
found t (x ∷ ts) (suc n) k h l = ap (λ (p : Bool). eqb t x || p) (found t ts n k h (omega arith))

-- a second test counts only where the first passes
pub and_where : (p q r : Bool) → (p ≡ true → q ≡ r) → p && q ≡ p && r
and_where true q r h = h refl
and_where false q r h = refl

-- a level that takes one block has room exactly if none was met
room_for_one : (n : ℕ) → not (ltb 0 n) ≡ ltb n 1
room_for_one zero = refl
room_for_one (suc n) = rw (lt-ltb 0 (suc n) (omega arith), le-ltb (suc n) 1 (omega arith))

-- the test that the code makes, over what is kept
abbrev pub follows : Met → Block → Bool
follows m Nothing = false
follows m (Level1 min max avg) = not m.one
follows m (Level2 t s o p c g w) = ltb m.twos most_targets && not (among t (take most_targets m.targets))
follows m (Level5 l r t b) = not m.five

-- it decides whether a block may follow those that were met
pub met_decides : (bs : List Block) (b : Block) → in_range b ≡ true → follows (met_of bs) b ≡ may_follow bs b
unfolding may_follow hold_all
met_decides bs Nothing h = rw (le-ltb (many 0 bs) 0 (omega arith))
met_decides bs (Level1 min max avg) h = rw (and-true, room_for_one)
met_decides bs (Level2 t s o p c g m) h =
    and_where (ltb (many 2 bs) most_targets) _ _
    (λ k. let f = ltb-true (many 2 bs) most_targets k in ap not (found t (targets bs) most_targets (entries - length (targets bs)) (ltb-true t 4096 (and_left (ltb t 4096) _ h)) (omega (arith, targets-many bs))))
met_decides bs (Level5 l r t b) h = rw (and-true, room_for_one)

-- ---- one block more

-- the counts that the code makes, over those that were kept, beside these targets
abbrev pub counted : Met → List ℕ → Block → Met
counted m ts Nothing = record { one = m.one; five = m.five; twos = m.twos; targets = ts }
counted m ts (Level1 min max avg) = record { one = true; five = m.five; twos = m.twos; targets = ts }
counted m ts (Level2 t s o p c g w) = record { one = m.one; five = m.five; twos = m.twos + 1; targets = ts }
counted m ts (Level5 l r t b) = record { one = m.one; five = true; twos = m.twos; targets = ts }

-- they are those of the blocks that were met, and one more
pub met_more : (bs : List Block) (b : Block) → counted (met_of bs) (targets_met (bs ++ (b ∷ []))) b ≡ met_of (bs ++ (b ∷ []))
met_more bs Nothing = simp (many_more, add-zero)
met_more bs (Level1 min max avg) = simp (many_more, add-zero, lt-ltb 0 (many 1 bs + 1) (omega arith))
met_more bs (Level2 t s o p c g m) = simp (many_more, add-zero)
met_more bs (Level5 l r t b) = simp (many_more, add-zero, lt-ltb 0 (many 5 bs + 1) (omega arith))

-- the counts hang on no target
same_counts : (m : Met) (ts us : List ℕ) (bs : List Block) (b : Block) → Counts m bs
    → ((counted m ts b).one ≡ (counted (met_of bs) us b).one) × ((counted m ts b).five ≡ (counted (met_of bs) us b).five) × ((counted m ts b).twos ≡ (counted (met_of bs) us b).twos)
same_counts m ts us bs Nothing c = c
same_counts m ts us bs (Level1 min max avg) c = (refl, c.1, c.2)
same_counts m ts us bs (Level2 t s o p k g w) c = (c.0, c.1, ap (λ (n : ℕ). n + 1) c.2)
same_counts m ts us bs (Level5 l r t b) c = (c.0, refl, c.2)

-- so they are right whatever is kept of the targets
pub counts_more : (m : Met) (ts : List ℕ) (bs : List Block) (b : Block) → Counts m bs → Counts (counted m ts b) (bs ++ (b ∷ []))
counts_more m ts bs b c =
    let s = same_counts m ts (targets_met (bs ++ (b ∷ []))) bs b c in
    let q = met_more bs b in (s.0 ∙ ap (λ (k : Met). k.one) q, s.1 ∙ ap (λ (k : Met). k.five) q, s.2 ∙ ap (λ (k : Met). k.twos) q)

-- what the code keeps of it
abbrev pub included : Met → Block → Met
included m b = counted m (store m.targets m.twos (target_of b)) b

pub met_included : (bs : List Block) (b : Block) → many 2 bs ≤ most_targets → included (met_of bs) b ≡ met_of (bs ++ (b ∷ []))
met_included bs b h = ap (λ (ts : List ℕ). counted (met_of bs) ts b) (met_store bs b h) ∙ met_more bs b

-- ---- which repeat

-- the refusal that the code gives, over what is kept
abbrev pub repeats : Met → Block → Option Refusal
repeats m Nothing = None
repeats m (Level1 min max avg) = Some SecondLevel1
repeats m (Level2 t s o p c g w) = Some (cond (ltb m.twos most_targets) RepeatedTarget SeventeenthLevel2)
repeats m (Level5 l r t b) = Some SecondLevel5

-- a test that does not pass, where a second one does
pub not_first : (p : Bool) → p && true ≡ false → p ≡ false
not_first true h = h
not_first false h = refl

-- a refusal is chosen as its number is
chosen : (p : Bool) → cond p RepeatedTarget SeventeenthLevel2 ≡ refusal_of (cond p repeated_target seventeenth_level2)
chosen true = refl
chosen false = refl

-- it is that of a block that may not follow those that were met
pub met_repeats : (bs : List Block) (b : Block) → may_follow bs b ≡ false → repeats (met_of bs) b ≡ repeat_of bs b
unfolding may_follow
met_repeats bs Nothing h = refl
met_repeats bs (Level1 min max avg) h = rw (not_first (ltb (many 1 bs) 1) h)
met_repeats bs (Level2 t s o p c g m) h = ap Some (chosen (ltb (many 2 bs) most_targets))
met_repeats bs (Level5 l r t b) h = rw (not_first (ltb (many 5 bs) 1) h)

-- which it is hangs on the counts alone
pub counts_repeat : (m : Met) (bs : List Block) (b : Block) → Counts m bs → may_follow bs b ≡ false → repeats m b ≡ repeat_of bs b
counts_repeat m bs b c h = same m bs b c ∙ met_repeats bs b h
  where
    same : (m : Met) (bs : List Block) (b : Block) → Counts m bs → repeats m b ≡ repeats (met_of bs) b
    same m bs Nothing c = refl
    same m bs (Level1 min max avg) c = refl
    same m bs (Level2 t s o p k g w) c = ap (λ (n : ℕ). Some (cond (ltb n most_targets) RepeatedTarget SeventeenthLevel2)) c.2
    same m bs (Level5 l r t b) c = refl

-- the number of a repeat, 0 for none
abbrev pub number_for : Option Refusal → ℕ
number_for None = 0
number_for (Some r) = number_of r

-- it is the number that 02, e gives
pub repeat_numbered : (bs : List Block) (b : Block) → number_for (repeat_of bs b) ≡ repeat_number bs b
repeat_numbered bs Nothing = rw (le-ltb (many 0 bs) 0 (omega arith))
repeat_numbered bs (Level1 min max avg) = go (ltb (many 1 bs) 1)
  where
    go : (room : Bool) → number_of (refusal_of (cond room repeated_target second_level1)) ≡ cond room repeated_target second_level1
    go true = refl
    go false = refl
repeat_numbered bs (Level2 t s o p c g m) = go (ltb (many 2 bs) most_targets)
  where
    go : (room : Bool) → number_of (refusal_of (cond room repeated_target seventeenth_level2)) ≡ cond room repeated_target seventeenth_level2
    go true = refl
    go false = refl
repeat_numbered bs (Level5 l r t b) = go (ltb (many 5 bs) 1)
  where
    go : (room : Bool) → number_of (refusal_of (cond room repeated_target second_level5)) ≡ cond room repeated_target second_level5
    go true = refl
    go false = refl
