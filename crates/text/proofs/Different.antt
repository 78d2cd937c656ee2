-- A text tells its lines: numbers have one numeral each, and a text is that of one list of lines with plain keys.
use Prim.Native.Nat.{ℕ, zero, suc, ◌+◌, ◌-◌, ◌*◌, ◌/◌, ◌%◌, ◌^◌, ◌<◌}
use Prim.Native.Char.{code}
use Prim.Native.String.{String}
use Prim.Native.String as S
use mathlib.Core.Path.{◌≡◌, refl, ap, sym, ◌∙◌}
use mathlib.Core.List.{List, [], ◌∷◌, ◌++◌, append_assoc}
use mathlib.Core.Bool.{true, not, ◌&&◌, and_assoc, and-eq-true_iff}
use native.Mathlib.Omega.{arith}
use native.Mathlib.Nat.{pow-succ'}
use package.text.Mathlib.TextEquality.{Char-path}
use borrow.Author.Tests.{eqb-false, ne_eqb, not-true}
use lib.Dec.{eqb}
use lib.IntN.{ℤ, pos, negsuc}
use lib.ListN.{length, length-append}
use Rattle.text.specs.Text.{ascii, size, digits, decimal, numeral, Line, line_text, text}
use Rattle.text.specs.Told.{decimal_after, decimal_value, equals_sign, without, plain_key, plain_keys}
use Rattle.text.proofs.Decimals.{below_ten_to_size}

-- ---- numbers

-- digits behind digits
number_append : (n : ℕ) (ds es : List ℕ) → decimal_after n (ds ++ es) ≡ decimal_after (decimal_after n ds) es
unfolding decimal_after
number_append n [] es = refl
number_append n (d ∷ ds) es = number_append (n * 10 + (d - 48)) ds es

-- k digits tell a number below 10 ^ k
number_digits : (k n : ℕ) → n < 10 ^ k → decimal_value (digits k n) ≡ n
unfolding decimal_after digits
number_digits zero n h = omega arith
number_digits (suc k) n h =
    let m = number_digits k (n / 10) (omega (arith, pow-succ' 10 k)) in
    number_append 0 (digits k (n / 10)) ((48 + n % 10) ∷ []) ∙ omega (arith, m)

-- plain decimal tells the number
pub number_of-decimal : (n : ℕ) → decimal_value (decimal n) ≡ n
number_of-decimal n = number_digits (size n) n (below_ten_to_size n)

-- a number in plain decimal is that of one number
pub one_decimal : (m n : ℕ) → decimal m ≡ decimal n → m ≡ n
one_decimal m n e = sym (number_of-decimal m) ∙ ap decimal_value e ∙ number_of-decimal n

-- ---- bytes that a text is without

abbrev line_feed : ℕ
line_feed = 10

abbrev minus_sign : ℕ
minus_sign = 45

-- the first byte is another one, and the rest is without it
module _ (b x : ℕ) (xs : List ℕ) (h : without b (x ∷ xs) ≡ true) where
  other_first : b ≡ x → ⊥
  unfolding without
  other_first = eqb-false b x (not-true _ ((and-eq-true_iff (not (eqb b x)) (without b xs)).0 h).0)

  without_rest : without b xs ≡ true
  unfolding without
  without_rest = ((and-eq-true_iff (not (eqb b x)) (without b xs)).0 h).1

without-append : (b : ℕ) (xs ys : List ℕ) → without b (xs ++ ys) ≡ without b xs && without b ys
unfolding without
without-append b [] ys = refl
without-append b (x ∷ xs) ys = rw (without-append b xs ys, and_assoc)

-- a sign that stands before the digits in ASCII is none of them
no_digit : (b k n : ℕ) → b < 48 → without b (digits k n) ≡ true
unfolding digits without
no_digit b zero n h = refl
no_digit b (suc k) n h =
    rw (without-append b (digits k (n / 10)) ((48 + n % 10) ∷ []), no_digit b k (n / 10) h, ne_eqb b (48 + n % 10) (λ e. omega arith))

-- a number ends before the first line feed
no_line_feed : (z : ℤ) → without line_feed (numeral z) ≡ true
unfolding ascii without
no_line_feed (pos n) = no_digit line_feed (size n) n (omega arith)
no_line_feed (negsuc n) = no_digit line_feed (size (suc n)) (suc n) (omega arith)

-- a list is told by what stands before its first b and what stands behind it
split_at_first : (b : ℕ) (xs ys : List ℕ) {us vs : List ℕ} → without b xs ≡ true → without b ys ≡ true → xs ++ (b ∷ us) ≡ ys ++ (b ∷ vs) → (xs ≡ ys) × (us ≡ vs)
split_at_first b [] [] h k e = (refl, cc)
split_at_first b [] (y ∷ ys) h k e = let c : b ≡ y = cc in absurd (other_first b y ys k c)
split_at_first b (x ∷ xs) [] h k e = let c : x ≡ b = cc in absurd (other_first b x xs h (sym c))
split_at_first b (x ∷ xs) (y ∷ ys) {us} {vs} h k e =
    let c : x ≡ y = cc in
    let t : xs ++ (b ∷ us) ≡ ys ++ (b ∷ vs) = cc in
    let r = split_at_first b xs ys (without_rest b x xs h) (without_rest b y ys k) t in
    (cc r.0, r.1)

-- ---- numerals

-- plain decimal begins with no minus sign
no_minus : (n : ℕ) {ds : List ℕ} {A : Type 0} → decimal n ≡ minus_sign ∷ ds → A
no_minus n {ds} e = absurd (other_first minus_sign minus_sign ds (ap (without minus_sign) (sym e) ∙ no_digit minus_sign (size n) n (omega arith)) refl)

-- what stands for a number stands for no other, whatever their signs
pub one_number : (y z : ℤ) → numeral y ≡ numeral z → y ≡ z
unfolding ascii
one_number (pos m) (pos n) e = ap pos (one_decimal m n e)
one_number (pos m) (negsuc n) e = no_minus m e
one_number (negsuc m) (pos n) e = no_minus n (sym e)
one_number (negsuc m) (negsuc n) e =
    let d : decimal (suc m) ≡ decimal (suc n) = cc in
    let s = one_decimal (suc m) (suc n) d in
    ap negsuc (omega arith)

-- ---- lines

-- the bytes of a text are those of one text
pub one_ascii : (s t : String) → ascii s ≡ ascii t → s ≡ t
unfolding ascii
one_ascii S.[] S.[] e = refl
one_ascii S.[] (S.◌∷◌ d t) e = cc
one_ascii (S.◌∷◌ c s) S.[] e = cc
one_ascii (S.◌∷◌ c s) (S.◌∷◌ d t) e =
    let h : code c ≡ code d = cc in
    let r : ascii s ≡ ascii t = cc in
    cc (Char-path c d h, one_ascii s t r)

-- a line and what follows it
line_then : (l : Line) (bytes : List ℕ) → line_text l ++ bytes ≡ ascii l.key ++ (equals_sign ∷ (numeral l.value ++ (line_feed ∷ bytes)))
unfolding ascii
line_then l bytes = simp append_assoc

-- no line is empty
some_bytes : (l : Line) (bytes : List ℕ) {A : Type 0} → line_text l ++ bytes ≡ [] → A
some_bytes l bytes e =
    let n = length-append (ascii l.key) (equals_sign ∷ (numeral l.value ++ (line_feed ∷ bytes))) in
    let z = ap length (sym (line_then l bytes) ∙ e) in
    absurd (omega arith)

-- of lines with plain keys the first one's key is plain, and so are the others'
module _ (l : Line) (ls : List Line) (h : plain_keys (l ∷ ls) ≡ true) where
  plain_first : plain_key l ≡ true
  unfolding plain_keys
  plain_first = ((and-eq-true_iff (plain_key l) (plain_keys ls)).0 h).0

  plain_rest : plain_keys ls ≡ true
  unfolding plain_keys
  plain_rest = ((and-eq-true_iff (plain_key l) (plain_keys ls)).0 h).1

-- a key ends at the first equals sign, and a number at the first line feed behind it: a text is that of one list of lines
pub one_text : (ls ms : List Line) → plain_keys ls ≡ true → plain_keys ms ≡ true → text ls ≡ text ms → ls ≡ ms
unfolding text
one_text [] [] h k e = refl
one_text [] (m ∷ ms) h k e = some_bytes m (text ms) (sym e)
one_text (l ∷ ls) [] h k e = some_bytes l (text ls) e
one_text (l ∷ ls) (m ∷ ms) h k e =
    let f = sym (line_then l (text ls)) ∙ e ∙ line_then m (text ms) in
    let x = split_at_first equals_sign (ascii l.key) (ascii m.key) (plain_first l ls h) (plain_first m ms k) f in
    let y = split_at_first line_feed (numeral l.value) (numeral m.value) (no_line_feed l.value) (no_line_feed m.value) x.1 in
    let s : l ≡ m = λ i. record { key = one_ascii l.key m.key x.0 i; value = one_number l.value m.value y.0 i } in
    let t = one_text ls ms (plain_rest l ls h) (plain_rest m ms k) y.1 in
    cc
