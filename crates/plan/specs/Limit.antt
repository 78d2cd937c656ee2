-- The one limit of tracks.
use Rattle.std.specs.Prelude.{ℕ}

-- 01, Tracks: a lent table of 64 points
abbrev pub most_points : ℕ
most_points = 64
