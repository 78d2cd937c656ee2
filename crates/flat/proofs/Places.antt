-- The places of a record in a row of numbers, one by one.
use Prim.Native.Nat.{ℕ, zero, suc, ◌+◌, ◌*◌, ◌<◌, ◌≤◌}
use mathlib.Core.Path.{◌≡◌, refl, sym, ap, ◌∙◌}
use mathlib.Core.Bool.{Bool, true, false, cond, ◌&&◌, and-true, and_assoc}
use mathlib.Core.List.{List, [], ◌∷◌, ◌++◌, append-nil, append_assoc}
use native.Mathlib.Nat.{not-suc-le-zero, mul-zero, mul-suc, add_comm}
use native.Mathlib.Numerals.{add-one}
use native.Mathlib.Omega.{arith}
use lib.Dec.{eqb}
use lib.IntN.{ℤ, pos}
use lib.ListN.{length, take, drop, get_or, set, replicate, length-append, length-drop}
use lib.Seq.{drop-drop, drop-append-add, take_at, drop-cons, set_at, append_snoc, get_or-take, get_or-drop, paste, paste-zero, paste-suc, length-take-le}
use mir.Facts.{sfits_lit}
use mir.Syntax.{w32}
use mir.Val.{to_z, of_z, bool_byte, SFits}
use mir.ValLaws.{to_z-of_z}
use Rattle.tree.specs.Bits.{bit}
use Rattle.record.specs.declared.Block.{Block}
use Rattle.record.specs.declared.Block.TheVariants.{Nothing, Level1, Level2, Level5}
use Rattle.record.specs.declared.Place.{Place}
use Rattle.record.specs.declared.Record.{Record}
use Rattle.record.specs.Made.{place_with}
use Rattle.record.specs.Blocks.{most_blocks, empty_place, block_in}
use Rattle.flat.specs.Flat.{place_length, flat_block, rows_of, flat_place, block_said, unnamed_record, names, said, record_in, record_beside, flat_places, flat, flat_length, same_row, place_numbers, place_in, each, always, names_head, names_block, same_number, number_at, unsigned_in}
use Rattle.flat.proofs.Rows.{same_bits, paste_more}

-- ---- eight numbers for each place

pub length_eight : (b : Block) → length (flat_block b) ≡ 8
length_eight Nothing = refl
length_eight (Level1 min max avg) = refl
length_eight (Level2 t s o p c g m) = refl
length_eight (Level5 l r t b) = refl

pub length-flat_place : (p : Place) → length (flat_place p) ≡ place_length
length-flat_place p = length_eight p.block

-- ---- rows of n numbers each

module _ {A : Type 0} (f : A → List ℤ) (n : ℕ) (d : A) where
  -- each of the list has n numbers
  abbrev pub Even : List A → Type 0
  Even l = (i : ℕ) → i < length l → length (f (get_or l i d)) ≡ n

  pub length_rows : (l : List A) → Even l → length (rows_of f l) ≡ n * length l
  unfolding rows_of
  length_rows [] e = sym (mul-zero n)
  length_rows (x ∷ xs) e =
      let t : length (rows_of f xs) ≡ n * length xs = length_rows xs (λ i h. e (suc i) (omega arith)) in
      omega (arith, length-append (f x) (rows_of f xs), e 0 (omega arith), mul-suc n (length xs))

  -- the n numbers behind those of i are the next one's
  pub rows_at : (l : List A) (i : ℕ) → i < length l → Even l → take n (drop (n * i) (rows_of f l)) ≡ f (get_or l i d)
  unfolding rows_of
  rows_at [] i h e = absurd (not-suc-le-zero h)
  rows_at (x ∷ xs) zero h e = ap (λ (j : ℕ). take n (drop j (f x ++ rows_of f xs))) (mul-zero n) ∙ take_at (f x) (rows_of f xs) n (e 0 (omega arith))
  rows_at (x ∷ xs) (suc i) h e =
      let k : n * suc i ≡ length (f x) + n * i = mul-suc n i ∙ rw (e 0 (omega arith)) (add_comm (n * i) n) in
      ap (λ (j : ℕ). take n (drop j (f x ++ rows_of f xs))) k ∙ ap (take n) (drop-append-add (f x) (rows_of f xs) (n * i)) ∙ rows_at xs i (omega arith) (λ j l. e (suc j) (omega arith))

  pub rows_snoc : (l : List A) (x : A) → rows_of f (l ++ (x ∷ [])) ≡ rows_of f l ++ f x
  unfolding rows_of
  rows_snoc [] x = append-nil (f x)
  rows_snoc (y ∷ l) x = ap (λ (r : List ℤ). f y ++ r) (rows_snoc l x) ∙ sym (append_assoc (f y) (rows_of f l) (f x))

pub length-places : (ps : List Place) → length (flat_places ps) ≡ place_length * length ps
length-places ps = length_rows flat_place place_length empty_place ps (λ i h. length-flat_place (get_or ps i empty_place))

pub places_at : (ps : List Place) (i : ℕ) → i < length ps → take place_length (drop (place_length * i) (flat_places ps)) ≡ flat_block (block_in (get_or ps i empty_place))
places_at ps i h = rows_at flat_place place_length empty_place ps i h (λ i h. length-flat_place (get_or ps i empty_place))

-- ---- a part of a part

pub part_of_front : {A : Type 0} (k m n : ℕ) (l : List A) → k + m ≤ n → take m (drop k (take n l)) ≡ take m (drop k l)
part_of_front zero zero n l h = refl
part_of_front zero (suc m) zero l h = absurd (omega arith)
part_of_front zero (suc m) (suc n) [] h = refl
part_of_front zero (suc m) (suc n) (x ∷ l) h = ap (λ (t : List _). x ∷ t) (part_of_front zero m n l (omega arith))
part_of_front (suc k) m zero l h = absurd (omega arith)
part_of_front (suc k) m (suc n) [] h = refl
part_of_front (suc k) m (suc n) (x ∷ l) h = part_of_front k m n l (omega arith)

pub part_of : (at n k m : ℕ) (l : List ℤ) → k + m ≤ n → take m (drop k (take n (drop at l))) ≡ take m (drop (at + k) l)
part_of at n k m l h = part_of_front k m n (drop at l) h ∙ ap (take m) (drop-drop k at l)

-- ---- what a walk over the places has read after i of them

pub length-each : {A : Type 0} (f : ℕ → A) (i : ℕ) → length (each f i) ≡ i
unfolding each
length-each f zero = refl
length-each f (suc i) = omega (arith, length-append (each f i) (f i ∷ []), length-each f i)

pub each_more : {A : Type 0} (f : ℕ → A) (b : List A) (d : A) (i : ℕ) → i < length b → set (each f i ++ drop i b) i (f i) ≡ each f (suc i) ++ drop (suc i) b
unfolding each
each_more f b d i h =
    ap (λ (t : List _). set (each f i ++ t) i (f i)) (drop-cons b i d h)
    ∙ set_at (each f i) (get_or b i d) (drop (suc i) b) (f i) i (length-each f i)
    ∙ sym (append_snoc (each f i) (f i) (drop (suc i) b))

abbrev pub read_to : List ℤ → ℕ → Record
read_to l i = record { refresh = same_number (number_at l 0) (pos 1); count = unsigned_in 8 (number_at l 1); places = each (place_in l) i ++ drop i (replicate most_blocks empty_place) }

abbrev pub named_to : List ℤ → ℕ → Bool
named_to l i = names_head l && always (λ j. names_block (place_numbers l j)) i

pub places_more : (l : List ℤ) (i : ℕ) (ps : List Place) (b : Block) → i < most_blocks → ps ≡ (read_to l i).places → b ≡ block_said (place_numbers l i)
    → set ps i (place_with b) ≡ (read_to l (i + 1)).places
places_more l i ps b h e f =
    rw (e, f, add-one i) (each_more (place_in l) (replicate most_blocks empty_place) empty_place i h)

pub named_more : (beside : Bool) (l : List ℤ) (i : ℕ) (t u : Bool) → t ≡ beside && named_to l i → u ≡ names_block (place_numbers l i) → t && u ≡ beside && named_to l (i + 1)
unfolding always
named_more beside l i t u e f =
    rw (e, f, add-one i) (and_assoc beside (named_to l i) (names_block (place_numbers l i))
    ∙ ap (λ (b : Bool). beside && b) (and_assoc (names_head l) (always (λ j. names_block (place_numbers l j)) i) (names_block (place_numbers l i))))

-- after all of them
not_named : (l : List ℤ) → named_to l most_blocks ≡ false → unnamed_record ≡ record_in l
unfolding record_in names
not_named l h = sym (ap (λ (t : Bool). cond t (said l) unnamed_record) h)

-- what is made of the flag, the count and the places that were read
abbrev pub made_of : Bool → ℕ → List Place → Record
made_of refresh count ps = record { refresh = refresh; count = count; places = ps }

read_named : (l : List ℤ) → named_to l most_blocks ≡ true → read_to l most_blocks ≡ record_in l
unfolding record_in names said
read_named l h =
    ap (made_of (same_number (number_at l 0) (pos 1)) (unsigned_in 8 (number_at l 1))) (append-nil (each (place_in l) most_blocks))
    ∙ sym (ap (λ (t : Bool). cond t (said l) unnamed_record) h)

pub read_beside : (beside : Bool) (l : List ℤ) (refresh : Bool) (count : ℕ) (ps : List Place)
    → refresh ≡ same_number (number_at l 0) (pos 1) → count ≡ unsigned_in 8 (number_at l 1) → ps ≡ (read_to l most_blocks).places
    → beside && named_to l most_blocks ≡ true → made_of refresh count ps ≡ record_beside beside l
read_beside true l refresh count ps e f g h = rw (e, f, g) (read_named l h)
read_beside false l refresh count ps e f g h = let z : ◌≡◌ {A = ℕ} 0 1 = cc in absurd (omega arith)

pub not_beside : (beside : Bool) (l : List ℤ) → beside && named_to l most_blocks ≡ false → unnamed_record ≡ record_beside beside l
not_beside true l h = not_named l h
not_beside false l h = refl

-- ---- the flag and the count

two_of : (l : List ℤ) → 2 ≤ length l → take 2 l ≡ number_at l 0 ∷ number_at l 1 ∷ []
two_of [] h = absurd (omega arith)
two_of (x ∷ []) h = absurd (omega arith)
two_of (x ∷ y ∷ l) h = refl

pub number_in : (row : List ℤ) (at k : ℕ) → k < flat_length → number_at (take flat_length (drop at row)) k ≡ number_at row (at + k)
number_in row at k h = get_or-take flat_length (drop at row) k (pos 0) h ∙ get_or-drop at row k (pos 0)

-- what the code reads of the flag and the count, and compares
module _ (row : List ℤ) (at : ℕ) (room : at + flat_length ≤ length row) (f : SFits w32 (number_at row at)) (g : SFits w32 (number_at row (at + 1))) where
  abbrev l : List ℤ
  l = take flat_length (drop at row)

  abbrev flag : ℕ
  flag = of_z w32 (number_at row at)

  first : number_at l 0 ≡ number_at row at
  first = let e : at + 0 ≡ at = omega arith in number_in row at 0 (omega arith) ∙ ap (number_at row) e

  second : number_at l 1 ≡ number_at row (at + 1)
  second = number_in row at 1 (omega arith)

  pub flag_read : eqb flag 1 ≡ same_number (number_at l 0) (pos 1)
  flag_read = rw first (same_bits (number_at row at) (pos 1) f (sfits_lit tt))

  by_flag : (t : Bool) (z : ℤ) → z ≡ pos (bool_byte t) → eqb flag (of_z w32 z) ≡ same_number (number_at row at) (pos (bit t))
  by_flag true z e = rw e (same_bits (number_at row at) (pos 1) f (sfits_lit tt))
  by_flag false z e = rw e (same_bits (number_at row at) (pos 0) f (sfits_lit tt))

  module _ (count : ℕ) (small : count < 256) (e : count ≡ unsigned_in 8 (to_z w32 (of_z w32 (number_at row (at + 1))))) where
    pub count_read : count ≡ unsigned_in 8 (number_at l 1)
    count_read = e ∙ ap (unsigned_in 8) (to_z-of_z w32 (number_at row (at + 1)) g ∙ sym second)

    pub head_read : (x y : ℤ) → x ≡ pos (bool_byte (eqb flag 1)) → y ≡ pos count
        → eqb flag (of_z w32 x) && eqb (of_z w32 (number_at row (at + 1))) (of_z w32 y) ≡ names_head l
    unfolding same_row
    head_read x y h k =
        let a : eqb flag (of_z w32 x) ≡ same_number (number_at l 0) (pos (bit (same_number (number_at l 0) (pos 1)))) =
        rw (← flag_read, first) (by_flag (eqb flag 1) x h) in
        let b : eqb (of_z w32 (number_at row (at + 1))) (of_z w32 y) ≡ same_number (number_at l 1) (pos (unsigned_in 8 (number_at l 1))) =
        rw (← count_read, second, k) (same_bits (number_at row (at + 1)) (pos count) g (record { sfits = omega arith })) in
        let long : 2 ≤ length l = omega (arith, length-take-le flat_length (drop at row) (omega (arith, length-drop at row))) in
        rw (a, b, two_of l long) (ap (λ (t : Bool). same_number (number_at l 0) (pos (bit (same_number (number_at l 0) (pos 1)))) && t) (sym (and-true _)))

pub flag_is : (t : Bool) → bool_byte t ≡ bit t
flag_is true = refl
flag_is false = refl

module _ (d : List ℤ) (at : ℕ) (r : Record) (room : at + flat_length ≤ length d) (x y : ℤ) (e : x ≡ pos (bool_byte r.refresh)) (f : y ≡ pos r.count) where
  abbrev headed : List ℤ
  headed = set (set d at x) (at + 1) y

  head_pasted : headed ≡ paste d at (flat r) 2
  unfolding flat
  head_pasted =
      let n : at + 0 ≡ at = omega arith in
      let one : set d at (pos (bit r.refresh)) ≡ paste d at (flat r) 1 =
      ap (λ (t : List ℤ). set t at (pos (bit r.refresh))) (paste-zero d at (flat r)) ∙ ap (λ (k : ℕ). set (paste d at (flat r) 0) k (pos (bit r.refresh))) (sym n)
      ∙ paste-suc d at (flat r) 0 (pos 0) (omega arith) (omega arith) in
      rw (e, f, flag_is r.refresh, one) (paste-suc d at (flat r) 1 (pos 0) (omega arith) (omega arith))

  pub record_pasted : paste headed (at + 2) (flat_places r.places) (8 * most_blocks) ≡ paste d at (flat r) flat_length
  unfolding flat
  record_pasted = rw head_pasted (paste_more d at (flat r) 2 (flat_places r.places) (8 * most_blocks) (omega arith) (omega arith) refl)
