-- Points in a row of numbers, one by one.
use Prim.Native.Nat.{ℕ, zero, suc, ◌+◌, ◌-◌, ◌*◌, ◌^◌, ◌<◌, ◌≤◌}
use mathlib.Core.Path.{◌≡◌, refl, sym, ap, ◌∙◌}
use mathlib.Core.Bool.{Bool, true, false, cond}
use mathlib.Core.List.{List, [], ◌∷◌, ◌++◌, map}
use native.Mathlib.Omega.{arith}
use borrow.Author.Tests.{ltb-true, ltb-false, eq-eqb, ne_eqb}
use lib.Dec.{eqb, ltb}
use lib.IntN.{ℤ, pos, negsuc}
use lib.ListN.{length, take, drop, get_or, set, replicate, length-map, get_or-map, length-replicate, replicate-append-replicate}
use lib.Seq.{paste, paste-zero, paste-suc, take_all, drop_at}
use mir.Syntax.{w32}
use mir.Val.{of_z, SFits}
use Rattle.std.proofs.lemmas.List.{get_or_default}
use Rattle.std.specs.Prelude.{Option, Some, None}
use Rattle.record.specs.Blocks.{most_blocks}
use Rattle.plan.specs.declared.entry.Entry.{Entry}
use Rattle.plan.specs.declared.Source.{Source}
use Rattle.plan.specs.declared.Source.TheVariants.{First, Second, Neither}
use Rattle.plan.specs.Limit.{most_points}
use Rattle.track.specs.declared.Point.{Point}
use Rattle.track.specs.Track.{cleared, padded}
use Rattle.track.specs.Inner.{unfilled, point_at, chosen_of}
use Rattle.flat.specs.Flat.{flat_length, rows_of, flat, number_at, same_number, unsigned_in, record_in, unnamed_record}
use Rattle.flat.proofs.Rows.{same_bits, paste_more}
use Rattle.flat.proofs.Places.{length-each, rows_at, length_rows, Even}
use Rattle.flat.proofs.Named.{each_at, length-flat, length_in, empty_is_zeros}
use Rattle.tables.specs.Table.{flat_point, point_length, flat_table, table_length, zero_row, is_segment, point_in, table_in, found_in}

pub length_table : (l : List ℤ) → length (table_in l) ≡ most_points
unfolding table_in
length_table l = length-each (point_in l) most_points

pub entry_is : (l : List ℤ) (i : ℕ) (d : Point) → i < most_points → get_or (table_in l) i d ≡ point_in l i
unfolding table_in
entry_is l i d h = each_at (point_in l) most_points i d h

pub table_at : (l : List ℤ) (i : ℕ) → i < most_points → point_at (table_in l) i ≡ point_in l i
table_at l i h = entry_is l i unfilled h

-- ---- zeros

pub length_zeros : (n : ℕ) → length (zero_row n) ≡ n
unfolding zero_row
length_zeros n = length-replicate n (pos 0)

-- ---- a segment's number

held_small : (v : ℕ) (b : Bool) → (b ≡ true → v < 2 ^ 16) → cond b v 0 < 2 ^ 16
held_small v true h = h refl
held_small v false h = omega arith

-- what is held of any number is one
pub segment_small : (z : ℤ) → unsigned_in 16 z < 2 ^ 16
segment_small (pos v) = held_small v (ltb v (2 ^ 16)) (ltb-true v (2 ^ 16))
segment_small (negsuc v) = omega arith

-- and of a segment's number it is that number
pub segment_said : (z : ℤ) → is_segment z ≡ true → pos (unsigned_in 16 z) ≡ z
segment_said (pos v) e = ap (λ (b : Bool). pos (cond b v 0)) e
segment_said (negsuc v) e = let q : ◌≡◌ {A = ℕ} 0 1 = cc in absurd (omega arith)

held_same : (v : ℕ) (b : Bool) → (b ≡ false → 2 ^ 16 ≤ v) → eqb v (cond b v 0) ≡ b
held_same v true h = eq-eqb v v refl
held_same v false h = let l = h refl in ne_eqb v 0 (λ e. omega (arith, e, l))

same_held : (z : ℤ) → same_number z (pos (unsigned_in 16 z)) ≡ is_segment z
same_held (pos v) = held_same v (ltb v (2 ^ 16)) (ltb-false v (2 ^ 16))
same_held (negsuc v) = refl

-- what the code compares: the number, and what is held of it
pub segment_test : (z y : ℤ) (n : ℕ) → SFits w32 z → y ≡ pos n → n ≡ unsigned_in 16 z → eqb (of_z w32 z) (of_z w32 y) ≡ is_segment z
segment_test z y n f h e =
    rw h (same_bits z (pos n) f (record { sfits = let k = segment_small z in omega (arith, k, e) }) ∙ ap (λ (k : ℕ). same_number z (pos k)) e ∙ same_held z)

-- ---- a point

pub point_pasted : (d : List ℤ) (at : ℕ) (p : Point) → at + point_length ≤ length d
    → paste (set (set d at p.picture) (at + 1) (pos p.segment)) (at + 2) (flat p.«record») flat_length ≡ paste d at (flat_point p) point_length
unfolding flat_point
point_pasted d at p room =
    let e : at + 0 ≡ at = omega arith in
    let one : set d at p.picture ≡ paste d at (flat_point p) 1 =
    ap (λ (t : List ℤ). set t at p.picture) (paste-zero d at (flat_point p)) ∙ ap (λ (k : ℕ). set (paste d at (flat_point p) 0) k p.picture) (sym e)
    ∙ paste-suc d at (flat_point p) 0 (pos 0) (omega arith) (omega arith) in
    let two : set (set d at p.picture) (at + 1) (pos p.segment) ≡ paste d at (flat_point p) 2 =
    ap (λ (t : List ℤ). set t (at + 1) (pos p.segment)) one ∙ paste-suc d at (flat_point p) 1 (pos 0) (omega arith) (omega arith) in
    ap (λ (t : List ℤ). paste t (at + 2) (flat p.«record») flat_length) two
    ∙ paste_more d at (flat_point p) 2 (flat p.«record») flat_length (omega arith) (omega arith) refl

pub length_point : (p : Point) → length p.«record».places ≡ most_blocks → length (flat_point p) ≡ point_length
unfolding flat_point
length_point p e = omega (arith, length-flat p.«record» e)

-- what an entry names has its 18 places
pub places_in : (l : List ℤ) (i : ℕ) → length (point_in l i).«record».places ≡ most_blocks
unfolding point_in unnamed_record
places_in l i = go (is_segment (number_at l (point_length * i + 1)))
  where
    go : (b : Bool) → length (cond b (record_in (take flat_length (drop (point_length * i + 2) l))) unnamed_record).places ≡ most_blocks
    go true = length_in (take flat_length (drop (point_length * i + 2) l))
    go false = refl

-- and its segment is one
pub segment_in : (l : List ℤ) (i : ℕ) → (point_in l i).segment < 2 ^ 16
unfolding point_in
segment_in l i = segment_small (number_at l (point_length * i + 1))

length_named : (l : List ℤ) (i : ℕ) → length (flat_point (point_in l i)) ≡ point_length
length_named l i = length_point (point_in l i) (places_in l i)

length-cleared : length (flat_point cleared) ≡ point_length
unfolding cleared
length-cleared = length_point cleared refl

pub length_found : (l : List ℤ) (found : Option Entry) → length (flat_point (found_in l found)) ≡ point_length
length_found l (Some entry) = length_named l entry.at
length_found l None = length-cleared

-- ---- the points that a layout names

module _ (a b : List ℤ) where
  abbrev pub chosen : Source → Point
  chosen source = chosen_of (table_in a) (table_in b) source

  length_at : (l : List ℤ) (i : ℕ) → i < most_points → length (flat_point (point_at (table_in l) i)) ≡ point_length
  length_at l i h = ap (λ (p : Point). length (flat_point p)) (table_at l i h) ∙ length_named l i

  pub length_chosen : (source : Source) → length (flat_point (chosen source)) ≡ point_length
  length_chosen (First entry) = length_at a entry.at entry.in_table
  length_chosen (Second entry) = length_at b entry.at entry.in_table
  length_chosen Neither = length-cleared

  abbrev pub laid_out : List Source → List ℤ
  laid_out sources = flat_table (map chosen sources)

  even : (sources : List Source) → Even flat_point point_length (chosen Neither) (map chosen sources)
  even sources i h = ap (λ (p : Point). length (flat_point p)) (get_or-map chosen sources i Neither) ∙ length_chosen (get_or sources i Neither)

  pub laid_at : (sources : List Source) (k : ℕ) (d : Source) → k < length sources → take point_length (drop (point_length * k) (laid_out sources)) ≡ flat_point (chosen (get_or sources k d))
  laid_at sources k d h =
      rows_at flat_point point_length (chosen Neither) (map chosen sources) k (omega (arith, length-map sources chosen)) (even sources)
      ∙ ap flat_point (get_or-map chosen sources k Neither ∙ ap chosen (get_or_default sources k Neither d h))

  pub laid_length : (sources : List Source) → length (laid_out sources) ≡ point_length * length sources
  laid_length sources = length_rows flat_point point_length (chosen Neither) (map chosen sources) (even sources) ∙ ap (λ (n : ℕ). point_length * n) (length-map sources chosen)

-- ---- cleared entries

join_zeros : (m n : ℕ) → zero_row m ++ zero_row n ≡ zero_row (m + n)
unfolding zero_row
join_zeros m n = replicate-append-replicate m n (pos 0)

drop_zeros : (m n : ℕ) → drop m (zero_row (m + n)) ≡ zero_row n
drop_zeros m n = ap (drop m) (sym (join_zeros m n)) ∙ drop_at (zero_row m) (zero_row n) m (length_zeros m)

-- picture 0 and segment 0 with the empty record is all zeros
pub cleared_is_zeros : flat_point cleared ≡ zero_row point_length
unfolding flat_point cleared zero_row
cleared_is_zeros = ap (λ (l : List ℤ). pos 0 ∷ pos 0 ∷ l) empty_is_zeros

pub cleared_are_zeros : (n : ℕ) → flat_table (replicate n cleared) ≡ zero_row (point_length * n)
unfolding rows_of zero_row
cleared_are_zeros zero = refl
cleared_are_zeros (suc n) =
    let e : point_length + point_length * n ≡ point_length * suc n = omega arith in
    ap (λ (l : List ℤ). l ++ flat_table (replicate n cleared)) cleared_is_zeros ∙ ap (λ (l : List ℤ). zero_row point_length ++ l) (cleared_are_zeros n)
    ∙ join_zeros point_length (point_length * n) ∙ ap zero_row e

-- what a placing leaves: no point, or one
pub placed_none : zero_row table_length ≡ flat_table (padded [])
placed_none = sym (cleared_are_zeros most_points)

pub placed_one : (p : Point) → length (flat_point p) ≡ point_length → paste (zero_row table_length) 0 (flat_point p) point_length ≡ flat_table (padded (p ∷ []))
unfolding rows_of
placed_one p e =
    ap (λ (l : List ℤ). l ++ drop (0 + point_length) (zero_row table_length)) (take_all point_length (flat_point p) (omega arith))
    ∙ ap (λ (l : List ℤ). flat_point p ++ l) (drop_zeros point_length (point_length * (most_points - 1)) ∙ sym (cleared_are_zeros (most_points - 1)))
