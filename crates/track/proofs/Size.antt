-- The size of a record, of a point and of a table, and that a point of a table stands at an offset that fits.
use mathlib.Core.Path.{◌≡◌, refl}
use Prim.Native.Nat.{ℕ, ◌<◌, ◌*◌, ◌^◌}
use native.Mathlib.Omega.{arith}
use prog.Memory.{size}
use denote.Memory.{lone}
use Rattle.record.specs.contracts.Record as C
use Rattle.plan.specs.Limit.{most_points}
use Rattle.track.specs.contracts.Point as P

-- a record, a point and a table, in bytes
abbrev pub record_size : ℕ
record_size = 290

abbrev pub point_size : ℕ
point_size = 296

abbrev pub table_size : ℕ
table_size = 18944

-- as they lie in memory
pub sizes : (size (lone (C.the_row).mir) ≡ record_size) × (size (lone (P.the_row).mir) ≡ point_size) × (most_points * point_size ≡ table_size)
sizes = (refl, refl, refl)

pub offset_fits : (i n : ℕ) → i < n → n * point_size < 2 ^ 63 → i * point_size < 2 ^ 64
offset_fits i n l r = omega arith
