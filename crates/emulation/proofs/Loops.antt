-- Steps of the loops: what is to come from place i on is the byte there and what is to come behind it; and a buffer that is filled byte by byte.
use Prim.Native.Nat.{ℕ, suc, ◌+◌, ◌<◌, ◌≤◌}
use mathlib.Core.Path.{◌≡◌, refl, ap, sym, ◌∙◌}
use mathlib.Core.List.{List, [], ◌∷◌, ◌++◌, append_assoc, append-nil}
use mathlib.Core.Bool.{Bool, true, false, cond, not, ◌&&◌, ◌||◌}
use native.Mathlib.Omega.{arith}
use native.Mathlib.Numerals.{add-one}
use borrow.Author.Tests.{leb-true, leb-false, lt-ltb, le-ltb}
use lib.Dec.{eqb, leb, ltb}
use lib.ListN.{length, get_or, take, drop, set, length-set, take-append-drop}
use lib.Seq.{drop-cons, take-suc-set, drop-set-lt, drop-drop, length-take-le}
use Rattle.emulation.specs.Emulation.{zeros_behind, is_emulation, left_out, removed_behind, needs_emulation, put_before, escaped_behind, begins_forbidden, forbidden}

-- ---- tests

-- fewer than two is not two or more
fewer_than_two : (n : ℕ) → ltb n 2 ≡ not (leb 2 n)
fewer_than_two n = go (leb 2 n) refl
  where
    go : (t : Bool) → leb 2 n ≡ t → ltb n 2 ≡ not t
    go true e = le-ltb n 2 (leb-true 2 n e)
    go false e = lt-ltb n 2 (leb-false 2 n e)

-- two tests hold unless one of them does not
not_both : (a b t : Bool) → (not a || not b) ≡ t → a && b ≡ not t
not_both true true t e = ap not e
not_both true false t e = ap not e
not_both false b t e = ap not e

-- ---- the byte at place i, and what comes behind it

module _ (s : List ℕ) (i : ℕ) (h : i < length s) where
  abbrev byte : ℕ
  byte = get_or s i 0

  abbrev behind : List ℕ
  behind = drop (i + 1) s

  -- the byte comes first
  byte_first : drop i s ≡ byte ∷ behind
  byte_first = rw (add-one, drop-cons s i 0)

  -- bytes that may not stand begin here, or stand behind
  pub forbidden_step : forbidden (drop i s) ≡ begins_forbidden (drop i s) || forbidden behind
  unfolding forbidden
  forbidden_step = rw byte_first

  module _ (zeros : ℕ) where
    -- a byte that is kept, and one that is left out
    pub removed_step : (keep : Bool) → (ltb zeros 2 || not (eqb byte 3)) ≡ keep → removed_behind zeros (drop i s) ≡ left_out (not keep) byte (removed_behind (zeros_behind zeros byte) behind)
    unfolding removed_behind
    removed_step keep e =
        let t : is_emulation zeros byte ≡ not keep = not_both (leb 2 zeros) (eqb byte 3) keep (rw fewer_than_two at e) in
        rw (byte_first, t)

    -- a byte, with the emulation byte before it or without
    pub escaped_step : (put : Bool) (z : ℕ) → put ≡ needs_emulation zeros byte → z ≡ zeros_behind (cond (needs_emulation zeros byte) 0 zeros) byte
        → escaped_behind zeros (drop i s) ≡ put_before put (byte ∷ escaped_behind z behind)
    unfolding escaped_behind
    escaped_step put z e f = rw (byte_first, e, f)

-- at most one byte is put before
one_longer : (t : Bool) (b : ℕ) (s : List ℕ) → length (left_out t b s) ≤ length s + 1
one_longer true b s = omega arith
one_longer false b s = omega arith

-- removing makes no bytes
pub removed_shorter : (zeros : ℕ) (s : List ℕ) → length (removed_behind zeros s) ≤ length s
unfolding removed_behind
removed_shorter n [] = omega arith
removed_shorter n (b ∷ s) =
    let rest = removed_behind (zeros_behind n b) s in
    omega (arith, one_longer (is_emulation n b) b rest, removed_shorter (zeros_behind n b) s)

-- the zero bytes in a row are one more at most
pub one_more_zero : (zeros b : ℕ) → zeros_behind zeros b ≤ zeros + 1
one_more_zero zeros b = go (eqb b 0)
  where
    go : (t : Bool) → cond t (suc zeros) 0 ≤ zeros + 1
    go true = omega arith
    go false = omega arith

-- the same where they may count anew
pub few_zeros : (zeros : ℕ) (anew : Bool) (b : ℕ) → zeros_behind (cond anew 0 zeros) b ≤ zeros + 1
few_zeros z true b = omega (arith, one_more_zero 0 b)
few_zeros z false b = one_more_zero z b

-- ---- a buffer that is filled byte by byte

-- n bytes of the whole are written into a buffer that was `before`; `coming` is what is left of the whole, and has room
pub record Filled (before whole now : List ℕ) (n : ℕ) (coming : List ℕ) : Type 0 where
  pub room : n + length coming ≤ length before
  pub same_length : length now ≡ length before
  pub whole_is : whole ≡ take n now ++ coming
  pub rest_is : drop n now ≡ drop n before

module _ {before whole : List ℕ} where
  -- nothing is written yet
  pub none_filled : length whole ≤ length before → Filled before whole before 0 whole
  none_filled h = record { room = omega arith; same_length = refl; whole_is = refl; rest_is = refl }

  -- one byte more
  pub one_filled : {now : List ℕ} {n b : ℕ} {coming : List ℕ} → Filled before whole now n (b ∷ coming) → Filled before whole (set now n b) (n + 1) coming
  one_filled {now} {n} {b} {coming} f =
      let h : n < length now = omega arith in
      let w : take (n + 1) (set now n b) ++ coming ≡ take n now ++ b ∷ coming =
      rw (add-one, take-suc-set now n b h) (append_assoc (take n now) (b ∷ []) coming) in
      let d : drop (n + 1) (set now n b) ≡ drop (n + 1) now = drop-set-lt (n + 1) now n b (omega arith) in
      let r : drop (n + 1) now ≡ drop (n + 1) before =
      sym (drop-drop 1 n now) ∙ ap (drop 1) f.rest_is ∙ drop-drop 1 n before in
      record { room = omega arith; same_length = length-set now n b ∙ f.same_length; whole_is = f.whole_is ∙ sym w; rest_is = d ∙ r }

  -- nothing is left
  pub all_filled : {now : List ℕ} {n : ℕ} → Filled before whole now n [] → (n ≡ length whole) × (now ≡ whole ++ drop (length whole) before)
  all_filled {now} {n} f =
      let w : whole ≡ take n now = f.whole_is ∙ append-nil (take n now) in
      let k : length whole ≡ n = ap length w ∙ length-take-le n now (omega arith) in
      (sym k, sym (rw (k, w, ← f.rest_is) (take-append-drop n now)))
