-- What the inner functions of a track do.
use Rattle.std.specs.Prelude.{ℕ, zero, suc, true, false, Option, Some, None, Result, Ok, Err, List, [], map, pos, length, get_or}
use Rattle.refusals.specs.declared.Refusal.{Refusal}
use Rattle.refusals.specs.Numbered.{number_of}
use Rattle.plan.specs.declared.entry.Entry.{Entry}
use Rattle.plan.specs.declared.Scanned.{Scanned}
use Rattle.plan.specs.declared.Source.{Source}
use Rattle.plan.specs.declared.Source.TheVariants.{First, Second, Neither}
use Rattle.plan.specs.declared.Layout.{Layout}
use Rattle.plan.specs.Scanning.{extent_of, begun, noted}
use Rattle.track.specs.declared.Point.{Point}
use Rattle.track.specs.declared.Placed.{Placed}
use Rattle.track.specs.declared.InForce.{InForce}
use Rattle.track.specs.declared.Joined.{Joined}
use Rattle.track.specs.Track.{may_stand, cleared, none_in_force}

-- what `get_or` gives past a list's end: the value that the checker itself uses there
abbrev pub unfilled : Point
unfilled = record { picture = pos 0; segment = 0; «record» = record { refresh = false; count = 0; places = [] } }

abbrev pub point_at : List Point → ℕ → Point
point_at table i = get_or table i unfilled

-- ---- scan
abbrev pub noted_point : Scanned → ℕ → Point → Scanned
noted_point seen i p = noted seen i p.picture (may_stand p.«record»)

-- what has been seen after i points
abbrev pub scanned_to : Scanned → List Point → ℕ → Scanned
scanned_to seen table zero = seen
scanned_to seen table (suc i) = noted_point (scanned_to seen table i) i (point_at table i)

abbrev pub scan_of : List Point → ℕ → Scanned
scan_of table count = scanned_to (begun (length table) count) table (extent_of (length table) count)

-- ---- fill
-- the point that a source names
abbrev pub chosen_of : List Point → List Point → Source → Point
chosen_of a b (First entry) = point_at a entry.at
chosen_of a b (Second entry) = point_at b entry.at
chosen_of a b Neither = cleared

abbrev pub filled_by : List Point → List Point → Layout → List Point
filled_by a b l = map (chosen_of a b) l.sources

-- no entry where it is refused
abbrev pub filled_to : List Point → List Point → List Point → Result Layout Refusal → List Point
filled_to table a b (Ok l) = filled_by a b l
filled_to table a b (Err _) = table

-- ---- join
-- a join's outcome, as it is answered: on a refusal the count is 0
abbrev pub joined : Result ℕ Refusal → Joined
joined (Ok n) = record { result = 0; count = n }
joined (Err r) = record { result = number_of r; count = 0 }

abbrev pub answer_of : Result Layout Refusal → Joined
answer_of (Ok l) = joined (Ok l.count)
answer_of (Err r) = joined (Err r)

-- ---- lookup
abbrev pub held_of : Point → InForce
held_of p = record { result = 0; found = true; point = p }

abbrev pub look_from : List Point → Result (Option Entry) Refusal → InForce
look_from table (Ok (Some entry)) = held_of (point_at table entry.at)
look_from table (Ok None) = none_in_force 0
look_from table (Err r) = none_in_force (number_of r)

-- what is answered where so many points of a list of any length are reached: the last of them, or nothing where there is none
abbrev pub look_by : List Point → ℕ → InForce
look_by table zero = none_in_force 0
look_by table (suc i) = held_of (point_at table i)

-- ---- place
-- a placing's outcome, as it is answered: on a refusal the count is 0
abbrev pub placed : Result ℕ Refusal → Placed
placed (Ok n) = record { result = 0; count = n }
placed (Err r) = record { result = number_of r; count = 0 }
