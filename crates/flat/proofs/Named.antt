-- Exactly one row of numbers names each record.
use Prim.Native.Nat.{ℕ, zero, suc, ◌+◌, ◌-◌, ◌*◌, ◌^◌, ◌<◌, ◌≤◌}
use mathlib.Core.Path.{◌≡◌, refl, sym, ap, ◌∙◌}
use mathlib.Core.Logic.{⊎_elim}
use mathlib.Core.Bool.{Bool, true, false, cond}
use mathlib.Core.List.{List, [], ◌∷◌, ◌++◌, map}
use native.Mathlib.Nat.{not-suc-le-zero, eq-or-lt_of_le, le_of_suc-le-suc}
use native.Mathlib.Omega.{arith}
use borrow.Author.Tests.{ltb-true, lt-ltb}
use lib.Dec.{ltb}
use lib.IntN.{ℤ, pos, negsuc}
use lib.ListN.{length, take, drop, get_or, replicate, take-append-drop, get_or-append, get_or-map, length-map, length-drop}
use lib.Pow.{pow_mono}
use lib.Seq.{ext_get_or, get_or_at, take-add, take_all, drop-drop, drop-append-add}
use Rattle.tree.specs.Bits.{bit}
use Rattle.tree.specs.Coding.{Coding, unsigned, signed, width_of, holds, hold_all}
use Rattle.tree.proofs.Elements.{other_half}
use Rattle.record.specs.declared.Block.{Block}
use Rattle.record.specs.declared.Block.TheVariants.{Nothing, Level1, Level2, Level5}
use Rattle.record.specs.declared.Record.{Record}
use Rattle.record.specs.Level.{codings, level_of, values_of}
use Rattle.record.specs.Made.{place_with}
use Rattle.record.specs.Blocks.{most_blocks, empty_place, block_in, all_blocks, blocks, beyond, in_range, empty_record}
use Rattle.record.proofs.Laws.{and_left, and_right, and_both}
use Rattle.valid.specs.Valid.{every, is_nothing, valid}
use Rattle.valid.proofs.Clauses.{valid_means}
use Rattle.flat.specs.Flat.{flat_length, flat_block, flat_place, rows_of, flat_places, flat_head, flat, same_row, same_number, unsigned_in, block_said, names_block, place_numbers, place_in, each, always, names_head, names, said, unnamed_record, record_in, type_of, fits_type, FitsTypes}
use Rattle.flat.proofs.Rows.{same_refl, same_true}
use Rattle.flat.proofs.Places.{length-places, places_at, length-each, rows_snoc}

-- ---- f 0 to f (n - 1)

pub each_at : {A : Type 0} (f : ℕ → A) (n i : ℕ) (d : A) → i < n → get_or (each f n) i d ≡ f i
unfolding each
each_at f zero i d h = absurd (not-suc-le-zero h)
each_at f (suc n) i d h =
    ⊎_elim
    (λ e. ap (λ (k : ℕ). get_or (each f n ++ (f n ∷ [])) k d) e ∙ get_or_at (each f n) (f n) [] d n (length-each f n) ∙ ap f (sym e))
    (λ l. get_or-append (each f n) (f n ∷ []) d i (omega (arith, length-each f n)) ∙ each_at f n i d l)
    (eq-or-lt_of_le (le_of_suc-le-suc h))

pub each_is : {A : Type 0} (f : ℕ → A) (l : List A) (d : A) (n : ℕ) → length l ≡ n → ((i : ℕ) → i < n → f i ≡ get_or l i d) → each f n ≡ l
each_is f l d n e g =
    ext_get_or d (each f n) l (length-each f n ∙ sym e)
    (λ i h. let k : i < n = omega (arith, length-each f n) in each_at f n i d k ∙ g i k)

always_is : (test : ℕ → Bool) (n : ℕ) → ((i : ℕ) → i < n → test i ≡ true) → always test n ≡ true
unfolding always
always_is test zero h = refl
always_is test (suc n) h = rw (always_is test n (λ i l. h i (omega arith)), h n (omega arith))

-- ---- a block

pub block_named_lem : (b : Block) → fits_type b ≡ true → block_said (flat_block b) ≡ b
unfolding hold_all
block_named_lem Nothing h = refl
block_named_lem (Level1 min max avg) h =
    let a = and_right (ltb min 65536) _ h in
    rw (and_left (ltb min 65536) _ h, and_left (ltb max 65536) _ a, and_left (ltb avg 65536) _ (and_right (ltb max 65536) _ a))
block_named_lem (Level2 t s o p c g m) h =
    let h₁ = and_right (ltb t 65536) _ h in
    let h₂ = and_right (ltb s 65536) _ h₁ in
    let h₃ = and_right (ltb o 65536) _ h₂ in
    let h₄ = and_right (ltb p 65536) _ h₃ in
    let h₅ = and_right (ltb c 65536) _ h₄ in
    let h₆ = and_right (ltb g 65536) _ h₅ in
    rw (
      and_left (ltb t 65536) _ h,
      and_left (ltb s 65536) _ h₁,
      and_left (ltb o 65536) _ h₂,
      and_left (ltb p 65536) _ h₃,
      and_left (ltb c 65536) _ h₄,
      and_left (ltb g 65536) _ h₅,
      and_left (holds (signed 16) m) _ h₆,
    )
block_named_lem (Level5 l r t b) h =
    let h₁ = and_right (ltb l 65536) _ h in
    let h₂ = and_right (ltb r 65536) _ h₁ in
    let h₃ = and_right (ltb t 65536) _ h₂ in
    rw (and_left (ltb l 65536) _ h, and_left (ltb r 65536) _ h₁, and_left (ltb t 65536) _ h₂, and_left (ltb b 65536) _ h₃)

-- ---- every record whose fields fit their types is named by its own numbers

every_at : (test : Block → Bool) (bs : List Block) (i : ℕ) (d : Block) → every test bs ≡ true → i < length bs → test (get_or bs i d) ≡ true
unfolding every
every_at test [] i d h l = absurd (not-suc-le-zero l)
every_at test (b ∷ bs) zero d h l = and_left (test b) (every test bs) h
every_at test (b ∷ bs) (suc i) d h l = every_at test bs i d (and_right (test b) (every test bs) h) (le_of_suc-le-suc l)

module _ (r : Record) (typed : FitsTypes r) where
  abbrev block_of_place : ℕ → Block
  block_of_place i = block_in (get_or r.places i empty_place)

  own : (i : ℕ) → i < most_blocks → place_numbers (flat r) i ≡ flat_block (block_of_place i)
  unfolding flat
  own i h = ap (take 8) (drop-append-add (flat_head r.refresh r.count) (flat_places r.places) (8 * i)) ∙ places_at r.places i (omega (arith, typed.places))

  own_block : (i : ℕ) → i < most_blocks → block_said (place_numbers (flat r) i) ≡ block_of_place i
  own_block i h =
      let n : i < length (all_blocks r) = omega (arith, typed.places, length-map r.places block_in) in
      let f : fits_type (block_of_place i) ≡ true = ap fits_type (sym (get_or-map block_in r.places i empty_place)) ∙ every_at fits_type (all_blocks r) i Nothing typed.fields n in
      ap block_said (own i h) ∙ block_named_lem (block_of_place i) f

  own_places : each (place_in (flat r)) most_blocks ≡ r.places
  own_places = each_is (place_in (flat r)) r.places empty_place most_blocks typed.places (λ i h. ap place_with (own_block i h))

  flag_own : (t : Bool) → same_number (pos (bit t)) (pos 1) ≡ t
  flag_own true = refl
  flag_own false = refl

  count_own : unsigned_in 8 (pos r.count) ≡ r.count
  count_own = ap (λ (t : Bool). cond t r.count 0) (lt-ltb r.count 256 typed.count)

  pub own_said : said (flat r) ≡ r
  unfolding said flat
  own_said = rw (flag_own r.refresh, count_own, own_places)

  own_head : names_head (flat r) ≡ true
  unfolding flat
  own_head = rw (flag_own r.refresh, count_own) (same_refl (flat_head r.refresh r.count))

  pub own_names : names (flat r) ≡ true
  unfolding names
  own_names =
      and_both (names_head (flat r)) (always (λ i. names_block (place_numbers (flat r) i)) most_blocks) own_head
      (always_is (λ i. names_block (place_numbers (flat r) i)) most_blocks
      (λ i h. ap (same_row (place_numbers (flat r) i)) (ap flat_block (own_block i h) ∙ sym (own i h)) ∙ same_refl (place_numbers (flat r) i)))

  -- a record's own numbers name it
  pub flat-names : record_in (flat r) ≡ r
  unfolding record_in
  flat-names = ap (λ (t : Bool). cond t (said (flat r)) unnamed_record) own_names ∙ own_said

-- ---- and no other numbers name it

places_are : (l : List ℤ) (n : ℕ) → always (λ i. names_block (place_numbers l i)) n ≡ true → take (8 * n) (drop 2 l) ≡ flat_places (each (place_in l) n)
unfolding always each rows_of
places_are l zero h = refl
places_are l (suc n) h =
    let e : 8 * suc n ≡ 8 * n + 8 = omega arith in
    let first = places_are l n (and_left (always (λ i. names_block (place_numbers l i)) n) (names_block (place_numbers l n)) h) in
    let last = same_true (place_numbers l n) (flat_block (block_said (place_numbers l n))) (and_right (always (λ i. names_block (place_numbers l i)) n) (names_block (place_numbers l n)) h) in
    ap (λ (k : ℕ). take k (drop 2 l)) e ∙ take-add (8 * n) 8 (drop 2 l)
    ∙ ap (λ (a : List ℤ). a ++ take 8 (drop (8 * n) (drop 2 l))) first
    ∙ ap (λ (a : List ℤ). flat_places (each (place_in l) n) ++ take 8 a) (drop-drop (8 * n) 2 l)
    ∙ ap (λ (a : List ℤ). flat_places (each (place_in l) n) ++ a) last
    ∙ sym (rows_snoc flat_place 8 empty_place (each (place_in l) n) (place_in l n))

module _ (l : List ℤ) (whole : length l ≡ flat_length) (named : names l ≡ true) where
  said-flat : l ≡ flat (said l)
  unfolding names said flat
  said-flat =
      let head = same_true (take 2 l) _ (and_left (names_head l) (always (λ i. names_block (place_numbers l i)) most_blocks) named) in
      let rest = places_are l most_blocks (and_right (names_head l) (always (λ i. names_block (place_numbers l i)) most_blocks) named) in
      let all : take (8 * most_blocks) (drop 2 l) ≡ drop 2 l = take_all (8 * most_blocks) (drop 2 l) (omega (arith, length-drop 2 l)) in
      sym (take-append-drop 2 l) ∙ ap (λ (a : List ℤ). a ++ drop 2 l) head ∙ ap (λ (a : List ℤ). flat_head (said l).refresh (said l).count ++ a) (sym all ∙ rest)

  -- numbers that name a record are its own
  pub named_is_flat : l ≡ flat (record_in l)
  unfolding record_in
  named_is_flat = said-flat ∙ ap flat (sym (ap (λ (t : Bool). cond t (said l) unnamed_record) named))

-- exactly one row names a record
pub one_row : (l m : List ℤ) → length l ≡ flat_length → length m ≡ flat_length → names l ≡ true → names m ≡ true → record_in l ≡ record_in m → l ≡ m
one_row l m p q h k e = named_is_flat l p h ∙ ap flat e ∙ sym (named_is_flat m q k)

-- numbers that name none are treated as a record that is not valid
pub unnamed_is_not_valid : (l : List ℤ) → names l ≡ false → valid (record_in l) ≡ false
unfolding record_in unnamed_record valid every
unnamed_is_not_valid l h = ap (λ (t : Bool). valid (cond t (said l) unnamed_record)) h

-- the empty record is all zeros
pub empty_is_zeros : flat empty_record ≡ replicate flat_length (pos 0)
unfolding flat rows_of
empty_is_zeros = refl

-- ---- lengths

pub length-flat : (r : Record) → length r.places ≡ most_blocks → length (flat r) ≡ flat_length
unfolding flat
length-flat r e = omega (arith, length-places r.places)

-- what numbers name has its 18 places
pub length_in : (l : List ℤ) → length (record_in l).places ≡ most_blocks
unfolding record_in said unnamed_record
length_in l = go (names l)
  where
    go : (t : Bool) → length (cond t (said l) unnamed_record).places ≡ most_blocks
    go true = length-each (place_in l) most_blocks
    go false = refl

-- ---- a valid record fits its types

abbrev Narrow : List Coding → Type 0
Narrow [] = Unit {0}
Narrow (c ∷ cs) = (width_of c ≤ 16) × Narrow cs

narrow_holds : (c : Coding) (z : ℤ) → width_of c ≤ 16 → holds c z ≡ true → holds (type_of c) z ≡ true
narrow_holds (unsigned n) (pos v) h e = lt-ltb v 65536 (omega (arith, ltb-true v (2 ^ n) e, pow_mono {j = 16} h))
narrow_holds (unsigned n) (negsuc v) h e = e
narrow_holds (signed n) (pos v) h e = lt-ltb v 32768 (omega (arith, ltb-true v (2 ^ (n - 1)) e, pow_mono {i = n - 1} {j = 15} (omega arith)))
narrow_holds (signed n) (negsuc v) h e = lt-ltb v 32768 (omega (arith, ltb-true v (2 ^ n - 2 ^ (n - 1)) e, other_half n, pow_mono {i = n - 1} {j = 15} (omega arith)))

narrow_all : (cs : List Coding) (zs : List ℤ) → Narrow cs → hold_all cs zs ≡ true → hold_all (map type_of cs) zs ≡ true
unfolding hold_all
narrow_all [] [] n h = refl
narrow_all [] (z ∷ zs) n h = h
narrow_all (c ∷ cs) [] n h = h
narrow_all (c ∷ cs) (z ∷ zs) n h =
    and_both (holds (type_of c) z) (hold_all (map type_of cs) zs) (narrow_holds c z n.0 (and_left (holds c z) (hold_all cs zs) h)) (narrow_all cs zs n.1 (and_right (holds c z) (hold_all cs zs) h))

in_range_fits : (b : Block) → in_range b ≡ true → fits_type b ≡ true
in_range_fits b h = narrow_all (codings (level_of b)) (values_of b) (narrow b) h
  where
    narrow : (b : Block) → Narrow (codings (level_of b))
    narrow Nothing = tt
    narrow (Level1 min max avg) = (omega arith, (omega arith, (omega arith, tt)))
    narrow (Level2 t s o p c g m) = (omega arith, (omega arith, (omega arith, (omega arith, (omega arith, (omega arith, (omega arith, tt)))))))
    narrow (Level5 l r t b) = (omega arith, (omega arith, (omega arith, (omega arith, tt))))

nothing_fits : (b : Block) → is_nothing b ≡ true → fits_type b ≡ true
unfolding hold_all
nothing_fits Nothing h = refl
nothing_fits (Level1 min max avg) h = let z : ◌≡◌ {A = ℕ} 0 1 = cc in absurd (omega arith)
nothing_fits (Level2 t s o p c g m) h = let z : ◌≡◌ {A = ℕ} 0 1 = cc in absurd (omega arith)
nothing_fits (Level5 l r t b) h = let z : ◌≡◌ {A = ℕ} 0 1 = cc in absurd (omega arith)

every_more : (f g : Block → Bool) (bs : List Block) → ((b : Block) → f b ≡ true → g b ≡ true) → every f bs ≡ true → every g bs ≡ true
unfolding every
every_more f g [] k h = refl
every_more f g (b ∷ bs) k h = and_both (g b) (every g bs) (k b (and_left (f b) (every f bs) h)) (every_more f g bs k (and_right (f b) (every f bs) h))

every_append : (f : Block → Bool) (bs cs : List Block) → every f bs ≡ true → every f cs ≡ true → every f (bs ++ cs) ≡ true
unfolding every
every_append f [] cs h k = k
every_append f (b ∷ bs) cs h k = and_both (f b) (every f (bs ++ cs)) (and_left (f b) (every f bs) h) (every_append f bs cs (and_right (f b) (every f bs) h) k)

-- so its own numbers name it
pub valid_is_typed : (r : Record) → length r.places ≡ most_blocks → valid r ≡ true → FitsTypes r
valid_is_typed r e h =
    let v = valid_means r h in
    record {
      places = e;
      count = omega (arith, v.few);
      fields = ap (every fits_type) (sym (take-append-drop r.count (all_blocks r))) ∙ every_append fits_type (blocks r) (beyond r) (every_more in_range fits_type (blocks r) in_range_fits v.ranges) (every_more is_nothing fits_type (beyond r) nothing_fits v.empty);
    }
