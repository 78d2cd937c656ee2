-- What it is that a contract over a page admits one answer; and that each public one does: said of the contract itself, as the check reads it.
use Prim.Native.Nat.{ℕ}
use mathlib.Core.Path.{◌≡◌, sym, ◌∙◌}
use mathlib.Core.List.{List}
use contract.Lifetimes.{Lfts}
use denote.Triple.Clauses.{AtExit}
use borrow.Fn.Kinds.{ParamKind, ResultKind, Out, Dens, res_t, ended_of}
use Rattle.text.specs.declared.Page.{Page}
use Rattle.text.specs.Page.{TypedOn}
use Rattle.text.proofs.Page.put_text.Kinds as put-text
use Rattle.text.proofs.Page.put_text.Reads as put-text-contract
use Rattle.text.proofs.Page.put_decimal.Kinds as put-decimal
use Rattle.text.proofs.Page.put_decimal.Reads as put-decimal-contract
use Rattle.text.proofs.Page.put_line.Kinds as put-line
use Rattle.text.proofs.Page.put_line.Reads as put-line-contract
use Rattle.text.proofs.Page.put_two.Kinds as put_two
use Rattle.text.proofs.Page.put_two.Reads as put-two-contract
use Rattle.text.proofs.Page.put_signed.Kinds as put-signed
use Rattle.text.proofs.Page.put_signed.Reads as put-signed-contract
use Rattle.text.proofs.Typing.{one_typing}

-- the same buffer with the same bytes, and the same place in it
pub record SamePage (p q : Page) : Type 0 where
  pub place : p.at ≡ q.at
  pub bytes : p.out.now ≡ q.out.now
  pub buffer : p.out.ghost_name ≡ q.out.ghost_name

-- no two pages meet the contract at exit
abbrev pub OnePage : {n : ℕ} (ps : List (ParamKind n)) (r : ResultKind n) → Out n ps r → ((κs : Lfts n) → AtExit (ended_of n ps r) κs → Page) → Type 0
OnePage {n} ps r post page =
    (κs : Lfts n) (a : Dens κs ps) (x y : (res_t r κs).Denot) (s t : AtExit (ended_of n ps r) κs) → post κs a x s → post κs a y t → SamePage (page κs s) (page κs t)

-- what was typed determines the page
pub one_page : {p q r : Page} {s : List ℕ} → TypedOn p s q → TypedOn p s r → SamePage q r
one_page a b =
    let t = one_typing a.typed b.typed in
    record { place = t.0; bytes = t.1; buffer = a.same ∙ sym b.same }

pub put_text_one : OnePage put-text.ps put-text.r put-text-contract.Post (λ κs s. s.0.now)
put_text_one κs a x y s t e f = one_page e f

pub put_decimal_one : OnePage put-decimal.ps put-decimal.r put-decimal-contract.Post (λ κs s. s.0.now)
put_decimal_one κs a x y s t e f = one_page e f

pub put_line_one : OnePage put-line.ps put-line.r put-line-contract.Post (λ κs s. s.0.now)
put_line_one κs a x y s t e f = one_page e f

pub put_two_one : OnePage put_two.ps put_two.r put-two-contract.Post (λ κs s. s.0.now)
put_two_one κs a x y s t e f = one_page e f

pub put_signed_one : OnePage put-signed.ps put-signed.r put-signed-contract.Post (λ κs s. s.0.now)
put_signed_one κs a x y s t e f = one_page e f
