-- A record as a row of numbers, for callers that have no Record: which numbers stand for a record, and which record a row names.
use Rattle.std.specs.Prelude.{ℕ, zero, suc, ◌+◌, ◌-◌, ◌*◌, ◌^◌, ◌<◌, ◌≡◌, List, [], ◌∷◌, ◌++◌, map, Bool, true, false, cond, ◌&&◌, eqb, ltb, ℤ, pos, negsuc, length, take, drop, get_or, replicate}
use Rattle.tree.specs.Bits.{bit}
use Rattle.tree.specs.Coding.{Coding, unsigned, signed, holds, hold_all}
use Rattle.record.specs.declared.Block.{Block}
use Rattle.record.specs.declared.Block.TheVariants.{Nothing, Level1, Level2, Level5}
use Rattle.record.specs.declared.Place.{Place}
use Rattle.record.specs.declared.Record.{Record}
use Rattle.record.specs.Level.{codings, level_of, values_of}
use Rattle.record.specs.Made.{place_with}
use Rattle.record.specs.Blocks.{most_blocks, empty_place, all_blocks}
use Rattle.valid.specs.Valid.{every}

-- ---- from a record to numbers

-- a place has eight numbers
abbrev pub place_length : ℕ
place_length = 8

-- its level, or 0 for nothing, then its fields in syntax order, and zeros
abbrev pub flat_block : Block → List ℤ
flat_block b = pos (level_of b) ∷ (values_of b ++ replicate (7 - length (values_of b)) (pos 0))

-- the numbers of each, one behind the other
unfoldable pub rows_of : {A : Type 0} → (A → List ℤ) → List A → List ℤ
rows_of f [] = []
rows_of f (x ∷ xs) = f x ++ rows_of f xs

-- a place, by what it holds
abbrev pub flat_place : Place → List ℤ
flat_place p = flat_block p.block

-- the places in their order
abbrev pub flat_places : List Place → List ℤ
flat_places ps = rows_of flat_place ps

-- the flag as 0 or 1, and the count
abbrev pub flat_head : Bool → ℕ → List ℤ
flat_head refresh count = pos (bit refresh) ∷ pos count ∷ []

-- the refresh flag, the count, then the places
unfoldable pub flat : Record → List ℤ
flat r = flat_head r.refresh r.count ++ flat_places r.places

-- 146 for a record of 18 places
abbrev pub flat_length : ℕ
flat_length = 2 + place_length * most_blocks

-- ---- from numbers to a record

-- the number at a place of a row
abbrev pub number_at : List ℤ → ℕ → ℤ
number_at l i = get_or l i (pos 0)

-- two numbers are equal
abbrev pub same_number : ℤ → ℤ → Bool
same_number (pos a) (pos b) = eqb a b
same_number (pos a) (negsuc b) = false
same_number (negsuc a) (pos b) = false
same_number (negsuc a) (negsuc b) = eqb a b

-- equal, number by number
unfoldable pub same_row : List ℤ → List ℤ → Bool
same_row [] [] = true
same_row [] (y ∷ ys) = false
same_row (x ∷ xs) [] = false
same_row (x ∷ xs) (y ∷ ys) = same_number x y && same_row xs ys

-- a number, where n bits hold it, and else 0
abbrev pub unsigned_in : ℕ → ℤ → ℕ
unsigned_in n (pos v) = cond (ltb v (2 ^ n)) v 0
unsigned_in n (negsuc v) = 0

-- the same with a sign
abbrev pub signed_in : ℕ → ℤ → ℤ
signed_in n z = cond (holds (signed n) z) z (pos 0)

-- a field of 16 bits without a sign
abbrev pub field_at : List ℤ → ℕ → ℕ
field_at l i = unsigned_in 16 (number_at l i)

-- what eight numbers say by their level, each field as far as its type holds it
abbrev pub block_said : List ℤ → Block
block_said l =
    cond (same_number (number_at l 0) (pos 1)) (Level1 (field_at l 1) (field_at l 2) (field_at l 3))
    (cond (same_number (number_at l 0) (pos 2)) (Level2 (field_at l 1) (field_at l 2) (field_at l 3) (field_at l 4) (field_at l 5) (field_at l 6) (signed_in 16 (number_at l 7)))
    (cond (same_number (number_at l 0) (pos 5)) (Level5 (field_at l 1) (field_at l 2) (field_at l 3) (field_at l 4)) Nothing))

-- eight numbers name a block if they are its own
abbrev pub names_block : List ℤ → Bool
names_block l = same_row l (flat_block (block_said l))

-- the block that eight numbers name, or nothing
unfoldable pub block_named : List ℤ → Block
block_named l = cond (names_block l) (block_said l) Nothing

-- the eight numbers of the place i
abbrev pub place_numbers : List ℤ → ℕ → List ℤ
place_numbers l i = take place_length (drop (2 + place_length * i) l)

-- f 0 to f (n - 1)
unfoldable pub each : {A : Type 0} → (ℕ → A) → ℕ → List A
each f zero = []
each f (suc n) = each f n ++ (f n ∷ [])

-- the test passes at 0 to n - 1
unfoldable pub always : (ℕ → Bool) → ℕ → Bool
always test zero = true
always test (suc n) = always test n && test n

-- what the place i holds
abbrev pub place_in : List ℤ → ℕ → Place
place_in l i = place_with (block_said (place_numbers l i))

-- what the numbers say, each as far as its type holds it
unfoldable pub said : List ℤ → Record
said l = record { refresh = same_number (number_at l 0) (pos 1); count = unsigned_in 8 (number_at l 1); places = each (place_in l) most_blocks }

-- the flag and the count are their own
abbrev pub names_head : List ℤ → Bool
names_head l = same_row (take 2 l) (flat_head (same_number (number_at l 0) (pos 1)) (unsigned_in 8 (number_at l 1)))

-- numbers name a record if they are its own: each place's, and the flag and the count
unfoldable pub names : List ℤ → Bool
names l = names_head l && always (λ i. names_block (place_numbers l i)) most_blocks

-- a record that is not valid: flag 0 with count 1
unfoldable pub unnamed_record : Record
unnamed_record = record { refresh = false; count = 1; places = replicate most_blocks empty_place }

-- the record that numbers name; numbers that name none are treated as a record that is not valid
unfoldable pub record_in : List ℤ → Record
record_in l = cond (names l) (said l) unnamed_record

-- the record that numbers name beside others, which name something or not; where these do not, it is treated as one that is not valid
abbrev pub record_beside : Bool → List ℤ → Record
record_beside beside l = cond beside (record_in l) unnamed_record

-- ---- the records that numbers of 32 bits can name: each field fits its type

-- the type of a field: u16, and i16 where it has a sign
abbrev pub type_of : Coding → Coding
type_of (unsigned n) = unsigned 16
type_of (signed n) = signed 16

-- each field of a block fits its type
abbrev pub fits_type : Block → Bool
fits_type b = hold_all (map type_of (codings (level_of b))) (values_of b)

-- every Record of a program is so
pub record FitsTypes (r : Record) : Type 0 where
  pub places : length r.places ≡ most_blocks
  pub count : r.count < 256
  pub fields : every fits_type (all_blocks r) ≡ true
