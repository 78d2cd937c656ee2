-- What a scan has seen of a table, point by point.
use Rattle.std.specs.Prelude.{ℕ, Bool, cond, ◌&&◌, ◌||◌, ℤ, pos, set, replicate, eqb, leb}
use Rattle.std.specs.Int.Signed.{lt_z}
use Rattle.plan.specs.declared.Scanned.{Scanned}
use Rattle.plan.specs.Limit.{most_points}

-- the table and the count may be a track's
abbrev pub sized : ℕ → ℕ → Bool
sized entries count = eqb entries most_points && leb count most_points

-- how many entries are looked at
abbrev pub extent_of : ℕ → ℕ → ℕ
extent_of entries count = cond (sized entries count) count 0

abbrev pub begun : ℕ → ℕ → Scanned
begun entries count = record { track = sized entries count; last = pos 0; pictures = replicate most_points (pos 0) }

-- the first number has none before it, and each other is above the last
abbrev pub rises_at : ℕ → ℤ → ℤ → Bool
rises_at index last picture = eqb index 0 || lt_z last picture

abbrev pub noted : Scanned → ℕ → ℤ → Bool → Scanned
noted seen index picture usable =
    record { track = seen.track && usable && rises_at index seen.last picture; last = picture; pictures = set seen.pictures index picture }
