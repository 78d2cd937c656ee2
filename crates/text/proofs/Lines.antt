-- Laws of lines typed one behind another.
use Prim.Native.Nat.{◌+◌}
use mathlib.Core.Path.{◌≡◌, refl, ap, sym, ◌∙◌}
use mathlib.Core.List.{List, [], ◌∷◌, ◌++◌, append_assoc, append-nil}
use native.Mathlib.Omega.{arith}
use lib.ListN.{length, length-append}
use Rattle.text.specs.Text.{ascii, numeral, Line, line_text, text}
use Rattle.text.specs.declared.Page.{Page}
use Rattle.text.specs.Page.{TypedOn}
use Rattle.text.proofs.Typing.{typed_on_nothing, typed_on_then}

pub text-append : (ls ms : List Line) → text (ls ++ ms) ≡ text ls ++ text ms
unfolding text
text-append [] ms = refl
text-append (l ∷ ls) ms = rw (text-append ls ms) (sym (append_assoc (line_text l) (text ls) (text ms)))

-- lines behind lines
pub length-text-append : (ls ms : List Line) → length (text (ls ++ ms)) ≡ length (text ls) + length (text ms)
length-text-append ls ms = ap length (text-append ls ms) ∙ length-append (text ls) (text ms)

-- a line is its key, an equals sign, its number and a line feed
pub length-line : (l : Line) (ls : List Line) → length (text (l ∷ ls)) ≡ length (ascii l.key) + length (numeral l.value) + 2 + length (text ls)
unfolding text ascii
length-line l ls =
    omega (
      arith,
      length-append (line_text l) (text ls),
      length-append (ascii l.key) (ascii "=" ++ (numeral l.value ++ ascii "\n")),
      length-append (numeral l.value) (ascii "\n"),
    )

-- no line
pub typed_none : (p : Page) → TypedOn p (text []) p
unfolding text
typed_none p = typed_on_nothing p

-- one line before others
pub typed_one : (l : Line) (ls : List Line) {p q r : Page} → TypedOn p (line_text l) q → TypedOn q (text ls) r → TypedOn p (text (l ∷ ls)) r
unfolding text
typed_one l ls a b = typed_on_then a b

-- a line that is the last one
pub typed_last : (l : Line) {p q : Page} → TypedOn p (line_text l) q → TypedOn p (text (l ∷ [])) q
unfolding text
typed_last l a = rw (append-nil (line_text l)) a

-- two lines before others
pub typed_two : (l m : Line) (ls : List Line) {p q r : Page} → TypedOn p (line_text l ++ line_text m) q → TypedOn q (text ls) r → TypedOn p (text (l ∷ m ∷ ls)) r
unfolding text
typed_two l m ls a b = rw (← append_assoc (line_text l) (line_text m) (text ls)) (typed_on_then a b)
