-- The definitions, pinned in numbers: what document 01 says with a number is said here with that number, and not by a name of ours, so
-- that a definition, its code and its proof cannot be changed together unseen.
use Prim.Native.Nat.{ℕ, ◌<◌, ◌≤◌}
use mathlib.Core.Path.{◌≡◌, refl, ap, ◌∙◌}
use mathlib.Core.Bool.{Bool, true, false, cond}
use mathlib.Core.List.{List, [], ◌∷◌}
use mathlib.Core.Option.{none, some}
use native.Mathlib.Omega.{arith}
use borrow.Author.Tests.{eqb-true, eqb-false, leb-true, leb-false}
use lib.Dec.{eqb, leb}
use lib.IntN.{ℤ, pos, negsuc}
use lib.ListN.{length, get_or, replicate}
use Rattle.tree.specs.Coding.{hold_all}
use Rattle.record.specs.declared.Block.{Block}
use Rattle.record.specs.declared.Block.TheVariants.{Nothing, Level1, Level2, Level5}
use Rattle.record.specs.declared.Record.{Record}
use Rattle.record.specs.Blocks.{empty_record}
use Rattle.valid.specs.Valid.{valid}
use Rattle.keyed.proofs.Counted.{join_length}
use Rattle.plan.specs.Pictures.{order, pictures}
use Rattle.shader.specs.Shader.{convertible, conversion_result, conversion_bits}
use Rattle.track.specs.declared.Point.{Point}
use Rattle.track.specs.Track.{number, cleared, is_track, join_points, point_in_force, none_in_force, shown}
use Rattle.track.specs.Lent.{Table, Track, points_in, shown_at, answer_into, placing_into}
use Rattle.promises.specs.Joins.{different_numbers}
use Rattle.promises.proofs.TrackLaws.{parts, in_order}
use Rattle.promises.proofs.Shown.{track_shows}

-- ---- the empty record and a cleared entry

-- flag 0, count 0, and 18 places with nothing
abbrev blank : Record
blank = record { refresh = false; count = 0; places = replicate 18 (record { block = Nothing }) }

pub the_empty_record_in_numbers : empty_record ≡ blank
the_empty_record_in_numbers = refl

-- picture 0 and segment 0 with the empty record
abbrev nowhere : Point
nowhere = record { picture = pos 0; segment = 0; «record» = blank }

pub a_cleared_entry_in_numbers : cleared ≡ nowhere
unfolding cleared
a_cleared_entry_in_numbers = refl

-- ---- the shader's numbers

-- a block that is not convertible gives 14 and seven plus zeros
pub not_convertible_in_numbers : (b : Block) → convertible b ≡ false → (conversion_result b ≡ 14) × (conversion_bits b ≡ 0 ∷ 0 ∷ 0 ∷ 0 ∷ 0 ∷ 0 ∷ 0 ∷ [])
not_convertible_in_numbers b e = (rw e, rw e)

-- and any other gives 0; a block of another level is not convertible
pub convertible_in_numbers : (b : Block) → convertible b ≡ true → conversion_result b ≡ 0
convertible_in_numbers b e = rw e

pub only_level_2_in_numbers : (x y z t : ℕ)
    → (convertible Nothing ≡ false) × (convertible (Level1 x y z) ≡ false) × (convertible (Level5 x y z t) ≡ false)
only_level_2_in_numbers x y z t = (refl, refl, refl)

-- and of level 2 one with a code above 4,095, or a weight out of −4,096 to 4,095, is not
pub ranges_in_numbers :
    (convertible (Level2 4095 4095 4095 4095 4095 4095 (pos 4095)) ≡ true) × (convertible (Level2 0 0 0 0 0 0 (negsuc 4095)) ≡ true)
    × (convertible (Level2 4096 0 0 0 0 0 (pos 0)) ≡ false) × (convertible (Level2 0 0 0 0 0 4096 (pos 0)) ≡ false)
    × (convertible (Level2 0 0 0 0 0 0 (pos 4096)) ≡ false) × (convertible (Level2 0 0 0 0 0 0 (negsuc 4096)) ≡ false)
unfolding hold_all
ranges_in_numbers = (refl, refl, refl, refl, refl, refl)

-- ---- a track

-- 64 entries, and a count of 64 at most
pub a_track_in_numbers : (t : Table) → Track t → (length t.entries ≡ 64) × (t.count ≤ 64)
a_track_in_numbers t v = ((parts t v).full, (parts t v).few)

-- ---- a lookup

-- what is no track gives 16, found false, and a cleared point
pub no_track_in_numbers : (t : Table) (p : ℤ) → is_track t.entries t.count ≡ false → shown_at t p ≡ record { result = 16; found = false; point = nowhere }
unfolding cleared
no_track_in_numbers t p e = ap (λ (b : Bool). cond b (shown (point_in_force p (points_in t))) (none_in_force 16)) e

-- "nothing" is 0, found false, and a cleared point: picture 0, segment 0, the empty record
pub nothing_in_numbers : (t : Table) (p : ℤ) → Track t → point_in_force p (points_in t) ≡ none → shown_at t p ≡ record { result = 0; found = false; point = nowhere }
unfolding cleared
nothing_in_numbers t p v e = track_shows t p v ∙ ap shown e

-- and a point in force is 0, found true, and its number, its segment and its record
pub a_point_in_numbers : (t : Table) (p : ℤ) (x : Point) → Track t → point_in_force p (points_in t) ≡ some x → shown_at t p ≡ record { result = 0; found = true; point = record { picture = x.picture; segment = x.segment; «record» = x.«record» } }
a_point_in_numbers t p x v e = track_shows t p v ∙ ap shown e

-- ---- 02, g, by hand: segment 1 has points at 0 and 4, segment 2 at 4 and 6, of any records; at 4 both have the same one

module _ (r s t : Record) where
  abbrev from : ℕ → ℕ → Record → Point
  from segment picture shows = record { picture = pos picture; segment = segment; «record» = shows }

  abbrev first : List Point
  first = from 1 0 r ∷ from 1 4 s ∷ []

  abbrev second : List Point
  second = from 2 4 s ∷ from 2 6 t ∷ []

  -- the second's point where both hold the number, so the two joins are different tracks, though they show the same records
  pub segments_joined_in_numbers :
      (join_points first second ≡ from 1 0 r ∷ from 2 4 s ∷ from 2 6 t ∷ []) × (join_points second first ≡ from 1 0 r ∷ from 1 4 s ∷ from 2 6 t ∷ [])
  unfolding order
  segments_joined_in_numbers = (refl, refl)

  pub equal_records_do_not_swap : join_points first second ≡ join_points second first → ⊥
  unfolding order
  equal_records_do_not_swap e = let q : ◌≡◌ {A = ℕ} 2 1 = ap (λ (l : List Point). (get_or l 1 (from 0 0 r)).segment) e in omega (arith, q)

  -- at 5 the second's point from 4 on is in force, at 3 the first's from 0 on, and nothing at −1
  pub segments_in_force_in_numbers :
      (point_in_force (pos 5) (join_points first second) ≡ some (from 2 4 s)) × (point_in_force (pos 3) (join_points first second) ≡ some (from 1 0 r))
      × (point_in_force (negsuc 0) (join_points first second) ≡ none)
  unfolding order
  segments_in_force_in_numbers = (refl, refl, refl)

-- ---- a join: 16, then 13, then 15, else 0, and no other number

pub data JoinNumber (a b : Table) (entries n : ℕ) : Type 0 where
  first_is_no_track : is_track a.entries a.count ≡ false → n ≡ 16 → JoinNumber a b entries n
  second_is_no_track : Track a → is_track b.entries b.count ≡ false → n ≡ 16 → JoinNumber a b entries n
  not_64_entries : Track a → Track b → (entries ≡ 64 → ⊥) → n ≡ 13 → JoinNumber a b entries n
  more_than_64_numbers : Track a → Track b → entries ≡ 64 → 64 < different_numbers a b → n ≡ 15 → JoinNumber a b entries n
  it_is_done : Track a → Track b → entries ≡ 64 → different_numbers a b ≤ 64 → n ≡ 0 → JoinNumber a b entries n

join_by : (a b : Table) (entries made : ℕ) (p q s u : Bool) → is_track a.entries a.count ≡ p → is_track b.entries b.count ≡ q → eqb entries 64 ≡ s
    → leb made 64 ≡ u → (Track a → made ≡ different_numbers a b) → JoinNumber a b entries (cond p (cond q (cond s (cond u 0 15) 13) 16) 16)
join_by a b entries made false q s u ep eq es eu h = first_is_no_track ep refl
join_by a b entries made true false s u ep eq es eu h = second_is_no_track ep eq refl
join_by a b entries made true true false u ep eq es eu h = not_64_entries ep eq (eqb-false entries 64 es) refl
join_by a b entries made true true true false ep eq es eu h = more_than_64_numbers ep eq (eqb-true entries 64 es) (let x = leb-false made 64 eu in let y = h ep in omega arith) refl
join_by a b entries made true true true true ep eq es eu h = it_is_done ep eq (eqb-true entries 64 es) (let x = leb-true made 64 eu in let y = h ep in omega arith) refl

pub a_join_in_numbers : (a b : Table) (result : List Point) → JoinNumber a b (length result) (answer_into a b result).result
a_join_in_numbers a b result =
    join_by a b (length result) (length (join_points (points_in a) (points_in b))) _ _ _ _ refl refl refl refl (λ v. join_length pictures number (points_in a) (points_in b) (in_order a v))

-- ---- a placing: 14, then 13, else 0, and no other number

pub data PlacingNumber (x : Point) (entries n : ℕ) : Type 0 where
  not_valid : valid x.«record» ≡ false → n ≡ 14 → PlacingNumber x entries n
  not_64_entries : valid x.«record» ≡ true → (entries ≡ 64 → ⊥) → n ≡ 13 → PlacingNumber x entries n
  it_is_done : valid x.«record» ≡ true → entries ≡ 64 → n ≡ 0 → PlacingNumber x entries n

place_by : (x : Point) (entries : ℕ) (p q : Bool) → valid x.«record» ≡ p → eqb entries 64 ≡ q → PlacingNumber x entries (cond p (cond q 0 13) 14)
place_by x entries false q ep eq = not_valid ep refl
place_by x entries true false ep eq = not_64_entries ep (eqb-false entries 64 eq) refl
place_by x entries true true ep eq = it_is_done ep (eqb-true entries 64 eq) refl

pub a_placing_in_numbers : (x : Point) (old : List Point) → PlacingNumber x (length old) (placing_into x old).result
a_placing_in_numbers x old = place_by x (length old) _ _ refl refl
