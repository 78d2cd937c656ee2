-- How far `reach` comes: the first number above the picture, or all of them.
use Rattle.std.proofs.Common.{◌≡◌, refl, sym, ◌∙◌, ap, arith, ltb, cond, true, false, Bool, length, Some, None}
use Rattle.std.proofs.lemmas.List.Recursion.{is_position_or_len}
use Rattle.std.specs.Prelude.{ℕ, suc, ◌+◌, ◌≤◌, List, [], ◌∷◌, ℤ, Option, unwrap_or}
use Rattle.std.specs.Int.Signed.{lt_z}
use Rattle.std.specs.List.{position_or_len}
use borrow.Author.Tests.{ltb-false}
use Rattle.plan.specs.Seeking.{reach_of}

reach_by : (r n : ℕ) (b : Bool) → r ≤ n → cond b 0 (suc r) ≤ suc n
reach_by r n true h = omega arith
reach_by r n false h = omega arith

pub reach_le : (k : ℤ) (l : List ℤ) → reach_of k l ≤ length l
reach_le k [] = omega arith
reach_le k (z ∷ zs) = reach_by (reach_of k zs) (length zs) (lt_z k z) (reach_le k zs)

one_more : (n : ℕ) → suc n ≡ 1 + n
one_more n = omega arith

or_all : (r n : ℕ) (b : Bool) → r ≤ n → ltb r n ≡ b → unwrap_or (cond b (Some r) None) n ≡ r
or_all r n true h e = refl
or_all r n false h e = let g = ltb-false r n e in omega arith

-- by what `position` finds
pub found : (k : ℤ) (l : List ℤ) (o : Option ℕ) → o ≡ cond (ltb (position_or_len (lt_z k) l) (length l)) (Some (position_or_len (lt_z k) l)) None → unwrap_or o (length l) ≡ reach_of k l
found k l o e =
    let p : reach_of k l ≡ position_or_len (lt_z k) l = is_position_or_len (reach_of k) (lt_z k) refl (λ z zs. ap (cond (lt_z k z) 0) (one_more (reach_of k zs))) l in
    let h = reach_le k l in
    ap (λ (q : Option ℕ). unwrap_or q (length l)) e ∙ or_all (position_or_len (lt_z k) l) (length l) (ltb (position_or_len (lt_z k) l) (length l)) (omega arith) refl ∙ sym p
