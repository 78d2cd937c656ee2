-- A point in numbers, by hand: what stands where, and which numbers are a segment's.
use mathlib.Core.Path.{◌≡◌, refl}
use mathlib.Core.Bool.{true, false}
use mathlib.Core.List.{List, ◌∷◌, ◌++◌}
use lib.IntN.{ℤ, pos, negsuc}
use lib.ListN.{replicate}
use Rattle.record.specs.declared.Block.TheVariants.{Nothing}
use Rattle.record.specs.declared.Record.{Record}
use Rattle.valid.specs.Valid.{valid, every, many, targets, all_differ}
use Rattle.track.specs.declared.Point.{Point}
use Rattle.flat.specs.Flat.{rows_of, flat, each, always, said, names, same_row, unnamed_record, record_in}
use Rattle.tables.specs.Table.{flat_point, point_length, table_length, point_in}

-- a record that switches off: flag 1, no block
abbrev off : Record
off = record { refresh = true; count = 0; places = replicate 18 (record { block = Nothing }) }

-- it is placed at picture −5, of segment 3
abbrev there : Point
there = record { picture = negsuc 4; segment = 3; «record» = off }

-- 148 numbers: −5, 3, the flag, the count, and the places' zeros; with another number for the segment
abbrev row : ℤ → List ℤ
row segment = negsuc 4 ∷ segment ∷ pos 1 ∷ replicate 145 (pos 0)

pub sizes_in_numbers : (point_length ≡ 148) × (table_length ≡ 9472)
sizes_in_numbers = (refl, refl)

pub a_point_as_a_row : flat_point there ≡ row (pos 3)
unfolding flat_point flat rows_of
a_point_as_a_row = refl

-- and back; as the second entry of a row, too
pub numbers_name_a_point : (point_in (row (pos 3)) 0 ≡ there) × (point_in (row (pos 7) ++ row (pos 3)) 1 ≡ there)
unfolding point_in record_in names said each always same_row
numbers_name_a_point = (refl, refl)

-- 65,535 is a segment, and the greatest; −1 and 65,536 stand for no point, which then may not stand in a track
pub the_greatest_segment : point_in (row (pos 65535)) 0 ≡ record { picture = negsuc 4; segment = 65535; «record» = off }
unfolding point_in record_in names said each always same_row
the_greatest_segment = refl

pub no_segments : (valid (point_in (row (pos 65536)) 0).«record» ≡ false) × (valid (point_in (row (negsuc 0)) 0).«record» ≡ false)
unfolding point_in record_in names said each always same_row unnamed_record valid every many targets all_differ
no_segments = (refl, refl)
