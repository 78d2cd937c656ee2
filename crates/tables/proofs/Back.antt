-- The numbers of a table are read back as that table, so what one call leaves is what the next one reads.
use Prim.Native.Nat.{ℕ, zero, suc, ◌+◌, ◌*◌, ◌^◌, ◌<◌, ◌≤◌}
use mathlib.Core.Path.{◌≡◌, refl, sym, ap, ◌∙◌}
use mathlib.Core.Bool.{Bool, true, false, cond, ◌&&◌}
use mathlib.Core.List.{List, [], ◌∷◌, ◌++◌}
use native.Mathlib.Nat.{not-suc-le-zero, le_of_suc-le-suc}
use native.Mathlib.Omega.{arith}
use borrow.Author.Tests.{lt-ltb}
use lib.IntN.{ℤ, pos}
use lib.ListN.{length, take, drop, get_or, replicate, length-append, length-drop, length-replicate}
use lib.Seq.{get_or-drop, get_or-take, take_all, length-take-le}
use Rattle.record.specs.declared.Record.{Record}
use Rattle.record.specs.Blocks.{empty_record}
use Rattle.record.proofs.Laws.{and_left, and_right}
use Rattle.valid.specs.Valid.{valid, every, many, targets, all_differ}
use Rattle.keyed.proofs.Mapped.{All}
use Rattle.plan.specs.Limit.{most_points}
use Rattle.plan.specs.Pictures.{pictures}
use Rattle.track.specs.declared.Point.{Point}
use Rattle.track.specs.Track.{number, point_with, cleared, padded, may_stand, all_stand, is_track}
use Rattle.track.proofs.Tracks.{is_track_lem}
use Rattle.flat.specs.Flat.{flat_length, flat, number_at, unsigned_in, names, record_in, unnamed_record, record_beside, FitsTypes}
use Rattle.flat.proofs.Places.{part_of, rows_at}
use Rattle.flat.proofs.Named.{each_is, flat-names, named_is_flat, unnamed_is_not_valid, length-flat, valid_is_typed}
use Rattle.tables.specs.Table.{flat_point, point_length, flat_table, is_segment, point_in, table_in}
use Rattle.tables.proofs.Laws.{length_point, length_table, entry_is, places_in, segment_in, segment_said}

-- every Point of a program is so: its segment fits a u16, and its record's fields fit their types
pub record TypedPoint (p : Point) : Type 0 where
  pub segment_fits : p.segment < 2 ^ 16
  pub fields_fit : FitsTypes p.«record»

module _ (ps : List Point) (typed : (i : ℕ) → i < length ps → TypedPoint (get_or ps i cleared)) where
  entry : (i : ℕ) → i < length ps → take point_length (drop (point_length * i) (flat_table ps)) ≡ flat_point (get_or ps i cleared)
  entry i h = rows_at flat_point point_length cleared ps i h (λ j k. length_point (get_or ps j cleared) (typed j k).fields_fit.places)

  -- a number of an entry
  number_back : (i k : ℕ) → i < length ps → k < point_length → number_at (flat_table ps) (point_length * i + k) ≡ number_at (flat_point (get_or ps i cleared)) k
  number_back i k h j =
      let n = point_length * i in
      sym (get_or-drop n (flat_table ps) k (pos 0)) ∙ sym (get_or-take point_length (drop n (flat_table ps)) k (pos 0) j) ∙ ap (λ (l : List ℤ). number_at l k) (entry i h)

  picture_back : (i : ℕ) → i < length ps → number_at (flat_table ps) (point_length * i) ≡ (get_or ps i cleared).picture
  unfolding flat_point
  picture_back i h =
      let n = point_length * i in
      let e : n ≡ n + 0 = omega arith in
      ap (number_at (flat_table ps)) e ∙ number_back i 0 h (omega arith)

  segment_back : (i : ℕ) → i < length ps → number_at (flat_table ps) (point_length * i + 1) ≡ pos (get_or ps i cleared).segment
  unfolding flat_point
  segment_back i h = number_back i 1 h (omega arith)

  record_back : (i : ℕ) → i < length ps → record_in (take flat_length (drop (point_length * i + 2) (flat_table ps))) ≡ (get_or ps i cleared).«record»
  unfolding flat_point
  record_back i h =
      let r = (get_or ps i cleared).«record» in
      let t = (typed i h).fields_fit in
      ap record_in
      (sym (part_of (point_length * i) point_length 2 flat_length (flat_table ps) (omega arith))
      ∙ ap (λ (l : List ℤ). take flat_length (drop 2 l)) (entry i h)
      ∙ take_all flat_length (flat r) (omega (arith, length-flat r t.places)))
      ∙ flat-names r t

  point_back : (i : ℕ) → i < length ps → point_in (flat_table ps) i ≡ get_or ps i cleared
  unfolding point_in
  point_back i h =
      let x = get_or ps i cleared in
      rw (picture_back i h, segment_back i h, record_back i h)
      (ap (λ (b : Bool). point_with (cond b x.«record» unnamed_record) x.picture (cond b x.segment 0)) (lt-ltb x.segment (2 ^ 16) (typed i h).segment_fits))

  -- exactly that table
  pub table_back : length ps ≡ most_points → table_in (flat_table ps) ≡ ps
  unfolding table_in
  table_back e = each_is (point_in (flat_table ps)) ps cleared most_points e (λ i h. point_back i (omega arith))

-- ---- exactly one row of numbers names each point

module _ (picture segment : ℤ) (numbers : List ℤ) (whole : length numbers ≡ flat_length) where
  abbrev row : List ℤ
  row = picture ∷ segment ∷ numbers

  -- what the row is
  entry_of_lem : point_in row 0 ≡ point_with (record_beside (is_segment segment) numbers) picture (unsigned_in 16 segment)
  unfolding point_in
  entry_of_lem = ap (λ (l : List ℤ). point_with (record_beside (is_segment segment) l) picture (unsigned_in 16 segment)) (take_all flat_length numbers (omega (arith, whole)))

  -- a row that names a point is the point's own
  pub named_point_is_flat : is_segment segment ≡ true → names numbers ≡ true → row ≡ flat_point (point_in row 0)
  unfolding flat_point
  named_point_is_flat s n =
      ap (λ (l : List ℤ). picture ∷ segment ∷ l) (named_is_flat numbers whole n)
      ∙ ap (λ (r : Record). picture ∷ segment ∷ flat r) (sym (ap (λ (b : Bool). cond b (record_in numbers) unnamed_record) s))
      ∙ ap (λ (z : ℤ). picture ∷ z ∷ flat (record_beside (is_segment segment) numbers)) (sym (segment_said segment s))
      ∙ ap flat_point (sym entry_of_lem)

  -- a row that names none is treated as a point whose record is not valid
  pub unnamed_point_is_not_valid : is_segment segment && names numbers ≡ false → valid (point_in row 0).«record» ≡ false
  unfolding unnamed_record valid every
  unnamed_point_is_not_valid h = ap (λ (p : Point). valid p.«record») entry_of_lem ∙ go (is_segment segment) h
    where
      go : (b : Bool) → b && names numbers ≡ false → valid (cond b (record_in numbers) unnamed_record) ≡ false
      go true e = unnamed_is_not_valid numbers e
      go false e = refl

-- ---- the tables that a placing and a join leave

abbrev pub AllTyped : List Point → Type 0
AllTyped = All pictures number TypedPoint

all_at : (l : List Point) (i : ℕ) → AllTyped l → i < length l → TypedPoint (get_or l i cleared)
all_at [] i g h = absurd (not-suc-le-zero h)
all_at (x ∷ xs) zero g h = g.0
all_at (x ∷ xs) (suc i) g h = all_at xs i g.1 (le_of_suc-le-suc h)

all_from : (l : List Point) → ((i : ℕ) → i < length l → TypedPoint (get_or l i cleared)) → AllTyped l
all_from [] f = tt
all_from (x ∷ xs) f = (f 0 (omega arith), all_from xs (λ i h. f (suc i) (omega arith)))

all_append : (l m : List Point) → AllTyped l → AllTyped m → AllTyped (l ++ m)
all_append [] m g k = k
all_append (x ∷ xs) m g k = (g.0, all_append xs m g.1 k)

all_drop : (n : ℕ) (l : List Point) → AllTyped l → AllTyped (drop n l)
all_drop zero l g = g
all_drop (suc n) [] g = g
all_drop (suc n) (x ∷ xs) g = all_drop n xs g.1

pub cleared-typed : TypedPoint cleared
unfolding cleared valid every many targets all_differ
cleared-typed = record { segment_fits = omega arith; fields_fit = valid_is_typed empty_record refl refl }

all-cleared : (n : ℕ) → AllTyped (replicate n cleared)
all-cleared zero = tt
all-cleared (suc n) = (cleared-typed, all-cleared n)

pub padded_back : (l : List Point) → length l ≤ most_points → AllTyped l → table_in (flat_table (padded l)) ≡ padded l
padded_back l h g =
    let whole = all_append l (drop (length l) (replicate most_points cleared)) g (all_drop (length l) (replicate most_points cleared) (all-cleared most_points)) in
    table_back (padded l) (λ i k. all_at (padded l) i whole k)
    (omega (arith, length-append l (drop (length l) (replicate most_points cleared)), length-drop (length l) (replicate most_points cleared), length-replicate most_points cleared))

stand_at : (l : List Point) (i : ℕ) (d : Point) → all_stand l ≡ true → i < length l → may_stand (get_or l i d).«record» ≡ true
stand_at [] i d e h = absurd (not-suc-le-zero h)
stand_at (x ∷ xs) zero d e h = and_left (may_stand x.«record») (all_stand xs) e
stand_at (x ∷ xs) (suc i) d e h = stand_at xs i d (and_right (may_stand x.«record») (all_stand xs) e) (le_of_suc-le-suc h)

-- a track's points are valid, so their own numbers name them
pub track_typed : (l : List ℤ) (n : ℕ) → is_track (table_in l) n ≡ true → AllTyped (take n (table_in l))
track_typed l n e =
    let t = is_track_lem (table_in l) n e in
    let size : length (take n (table_in l)) ≡ n = length-take-le n (table_in l) (omega (arith, length_table l, t.few)) in
    all_from (take n (table_in l))
    (λ i h. let k : i < most_points = omega (arith, t.few) in
    let at : get_or (take n (table_in l)) i cleared ≡ point_in l i = get_or-take n (table_in l) i cleared (omega arith) ∙ entry_is l i cleared k in
    let good = and_right (get_or (take n (table_in l)) i cleared).«record».refresh (valid (get_or (take n (table_in l)) i cleared).«record») (stand_at (take n (table_in l)) i cleared t.stand h) in
    let few : (get_or (take n (table_in l)) i cleared).segment < 2 ^ 16 = omega (arith, ap (λ (p : Point). p.segment) at, segment_in l i) in
    record { segment_fits = few; fields_fit = valid_is_typed (get_or (take n (table_in l)) i cleared).«record» (ap (λ (p : Point). length p.«record».places) at ∙ places_in l i) good })
