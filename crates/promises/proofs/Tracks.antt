-- What is promised of tracks, under the customer's sentences: demand 1, demand 3, document 01, Tracks, and request g. Of lent tables with their
-- counts, over the contracts of track::lookup, track::join and track::place (track/specs/Lent; Tied says that they are the contracts),
-- and for every picture. Statements only: Shown, Members, Joining, Placing and Segments have the lemmas that show them.
use Prim.Native.Nat.{ℕ, ◌<◌, ◌≤◌}
use mathlib.Core.Path.{◌≡◌}
use mathlib.Core.List.{List}
use mathlib.Core.Bool.{true, false, cond}
use mathlib.Core.Option.{none, some}
use lib.Dec.{leb}
use lib.IntN.{ℤ, pos}
use lib.ListN.{length, get_or}
use Rattle.record.specs.declared.Record.{Record}
use Rattle.record.specs.Blocks.{empty_record}
use Rattle.keyed.specs.Keyed.{or_else, InForceAt, NotAbove}
use Rattle.keyed.proofs.Laws.{in_force_is}
use Rattle.plan.specs.Limit.{most_points}
use Rattle.plan.specs.Pictures.{Before, pictures}
use Rattle.track.specs.declared.Point.{Point}
use Rattle.track.specs.Track.{number, point_with, cleared, is_track, point_in_force, point_at_number, none_in_force, shown, place_table}
use Rattle.track.specs.Lent.{Table, table_of, Track, points_in, shown_at, start_at, answer_into, joined_into, placing_into, placed_into}
use Rattle.promises.specs.Joins.{Alike, Same, Greatest, AllAbove, is_later, different_numbers, left_first, right_first, EqualPoints, EqualWhereShared, segment_at}
use Rattle.promises.proofs.TrackLaws.{in_order}
use Rattle.promises.proofs.Shown.{no_track_is_refused, track_shows, not_started, none_is_not_some, lookup_past, join_past, joined_track, held_in_joined, joined_shows}
use Rattle.promises.proofs.Members.{found_is_the_greatest, the_greatest_is_found, not_found_all_above, all_above_not_found}
use Rattle.promises.proofs.Joining.{same_track, refused_join, done_or_fifteen, fifteen_means, fifteen_given, groupings_answer, groupings_leave, nothing_behind, nothing_before, equal_is, is_equal, same_held, shared_swaps, swaps_shared}
use Rattle.promises.proofs.Placing.{refused_placing, placed_track, placed_shows_from, placed_shows_before, flag_0}
use Rattle.promises.proofs.Segments.{segment_in_joined, segment_of_greatest, start_given, segment_of-nothing, joined_cleared, placed-cleared}

-- ---- Demand 1: "A refusal returns the empty answer with every lent buffer unchanged."

-- 01: "Lookup refuses only with 16"; then it shows nothing
pub lookup_refuses_only_what_is_no_track : (t : Table) (p : ℤ) → is_track t.entries t.count ≡ false → shown_at t p ≡ none_in_force 16
lookup_refuses_only_what_is_no_track = no_track_is_refused

-- 01: "A refused write, placing or join changes no byte or entry"; and the count is 0
pub a_refused_join_changes_nothing : (a b : Table) (result : List Point) → ((answer_into a b result).result ≡ 0 → ⊥) → joined_into a b result ≡ table_of result 0
a_refused_join_changes_nothing = refused_join

pub a_refused_placing_changes_nothing : (x : Point) (old : List Point) → ((placing_into x old).result ≡ 0 → ⊥)
    → (place_table old x ≡ old) × ((placing_into x old).count ≡ 0)
a_refused_placing_changes_nothing = refused_placing

-- ---- 01, Tracks: "The numbers in the first count points rise strictly; the rest is ignored."

-- two tables that differ past the count only give the same answers
pub a_lookup_ignores_what_lies_past : (s t : Table) (p : ℤ) → Alike s t → shown_at s p ≡ shown_at t p
a_lookup_ignores_what_lies_past = lookup_past

pub a_join_ignores_what_lies_past : (a b s t : Table) (result : List Point) → Alike a s → Alike b t
    → (answer_into a b result ≡ answer_into s t result) × (joined_into a b result ≡ joined_into s t result)
a_join_ignores_what_lies_past = join_past

-- ---- 01, Tracks: "In force at picture p: the record of the point with the greatest number not above p, or nothing."

-- a lookup in a track shows the point in force, with its record, or nothing
pub a_track_shows_what_is_in_force : (t : Table) (p : ℤ) → Track t → shown_at t p ≡ shown (point_in_force p (points_in t))
a_track_shows_what_is_in_force = track_shows

-- and that point is the one with the greatest number not above p; nothing is in force where every number is above p
pub in_force_is_the_greatest_not_above : (t : Table) (p : ℤ) → Track t → InForceAt pictures number p (points_in t) (point_in_force p (points_in t))
in_force_is_the_greatest_not_above t p v = in_force_is pictures number p (points_in t) (in_order t v)

-- the same of the table by membership, both ways. What is shown is one of the track's points, with its record: its number is not above p,
-- and no other such number is greater
pub what_is_shown_is_the_greatest_not_above : (t : Table) (p : ℤ) → Track t → (shown_at t p).found ≡ true
    → (x : Point) × Greatest t p x × (shown_at t p ≡ record { result = 0; found = true; point = x })
what_is_shown_is_the_greatest_not_above = found_is_the_greatest

-- and where a point is that, it is shown
pub the_greatest_not_above_is_shown : (t : Table) (p : ℤ) → Track t → (x : Point) → Greatest t p x → shown_at t p ≡ record { result = 0; found = true; point = x }
the_greatest_not_above_is_shown = the_greatest_is_found

-- nothing is shown exactly if every number is above p
pub nothing-shown_means_all_above : (t : Table) (p : ℤ) → Track t → (shown_at t p).found ≡ false → AllAbove t p
nothing-shown_means_all_above = not_found_all_above

pub all_above_shows_nothing : (t : Table) (p : ℤ) → Track t → AllAbove t p → shown_at t p ≡ none_in_force 0
all_above_shows_nothing = all_above_not_found

-- "a track with no such point has not started at p": where its start is none, a lookup answers "nothing"
pub not_started_shows_nothing : (t : Table) (p : ℤ) → Track t → start_at t p ≡ none → shown_at t p ≡ none_in_force 0
not_started_shows_nothing = not_started

-- "'Nothing' is a different answer from a record with no blocks", and from any other record
pub nothing_is_no_record : (x : Point) → shown none ≡ shown (some x) → ⊥
nothing_is_no_record = none_is_not_some

-- ---- 01, Tracks: "A valid record placed at a picture makes, in a lent table, a track of one point; with the flag 0 it makes the empty track."

module _ (x : Point) (old : List Point) (is-done : (placing_into x old).result ≡ 0) where
  -- a placing that is done makes a track
  pub a_placing_is_a_track : Track (placed_into x old)
  a_placing_is_a_track = placed_track x old is-done

  -- with the flag 1 it shows the point, with its record, from its picture on
  pub a_placed_record_shows_from_its_picture_on : x.«record».refresh ≡ true → (p : ℤ) → NotAbove pictures x.picture p → shown_at (placed_into x old) p ≡ shown (some x)
  a_placed_record_shows_from_its_picture_on = placed_shows_from x old is-done

  -- and nothing before it
  pub a_placed_record_shows_nothing_before : x.«record».refresh ≡ true → (p : ℤ) → Before p x.picture → shown_at (placed_into x old) p ≡ none_in_force 0
  a_placed_record_shows_nothing_before = placed_shows_before x old is-done

  -- with the flag 0 it makes the empty track, which shows nothing at any picture
  pub flag_0_makes_the_empty_track : x.«record».refresh ≡ false → ((placed_into x old).count ≡ 0) × ((p : ℤ) → shown_at (placed_into x old) p ≡ none_in_force 0)
  flag_0_makes_the_empty_track = flag_0 x old is-done

-- ---- 01, Tracks: "Join takes two tracks and a third table for the result: every number of either, in rising order, with the second
-- track's record where both hold the number."

-- a join that is done makes a track, so its numbers rise
pub a_join_is_a_track : (a b : Table) (result : List Point) → (answer_into a b result).result ≡ 0 → Track (joined_into a b result)
a_join_is_a_track = joined_track

-- it holds every number of either track, with the second's point where both hold the number, and no other
pub a_join_holds_every_number : (a b : Table) (result : List Point) (k : ℤ) → (answer_into a b result).result ≡ 0
    → point_at_number k (points_in (joined_into a b result)) ≡ or_else (point_at_number k (points_in b)) (point_at_number k (points_in a))
a_join_holds_every_number = held_in_joined

-- ---- Demand 3: "At every picture, two valid tracks joined show the record in force in whichever has the later or only start there, the
-- second's if both start together, nothing if neither has started."

-- what the first shows where its start is the later or only one, and else what the second shows, segment and start with it
pub a_join_shows_the_later_start : (a b : Table) (result : List Point) (p : ℤ) → (answer_into a b result).result ≡ 0
    → shown_at (joined_into a b result) p ≡ cond (is_later (start_at a p) (start_at b p)) (shown_at a p) (shown_at b p)
a_join_shows_the_later_start = joined_shows

-- ---- Demand 3: "Given result tables of the right size, a join is refused exactly when more than 64 different picture numbers result,"

module _ (a b : Table) (result : List Point) (va : Track a) (vb : Track b) (whole : length result ≡ most_points) where
  pub a_join_of_tracks_is_done_or_15 : (answer_into a b result).result ≡ cond (leb (different_numbers a b) most_points) 0 15
  a_join_of_tracks_is_done_or_15 = done_or_fifteen a b result va vb whole

  pub fifteen_means_more_than_64 : (answer_into a b result).result ≡ 15 → most_points < different_numbers a b
  fifteen_means_more_than_64 = fifteen_means a b result va vb whole

  pub more_than_64_gives_fifteen : most_points < different_numbers a b → (answer_into a b result).result ≡ 15
  more_than_64_gives_fifteen = fifteen_given a b result va vb whole

-- ---- Demand 3: "and joining three gives the same track in both groupings or is refused in both."

module _ (a b c : Table) (va : Track a) (vb : Track b) (vc : Track c) (s t u v : List Point) (es : length s ≡ most_points) (et : length t ≡ most_points) (eu : length u ≡ most_points) (ev : length v ≡ most_points) where
  -- the same answer: done with the same count, or refused with the same number
  pub both_groupings_answer_the_same : left_first a b c s t ≡ right_first a b c u v
  both_groupings_answer_the_same = groupings_answer a b c va vb vc s t u v es et eu ev

  -- and, where they are done, the same table to the last entry
  pub both_groupings_leave_the_same : (left_first a b c s t).result ≡ 0 → joined_into (joined_into a b s) c t ≡ joined_into a (joined_into b c u) v
  both_groupings_leave_the_same = groupings_leave a b c va vb vc s t u v es et eu ev

  -- so the same track
  pub both_groupings_give_the_same_track : (left_first a b c s t).result ≡ 0 → Same (joined_into (joined_into a b s) c t) (joined_into a (joined_into b c u) v)
  both_groupings_give_the_same_track e = same_track _ _ (both_groupings_leave_the_same e)

  -- and, as request g reads it, equal points at every number: number, segment and record
  pub both_groupings_hold_equal_points : (left_first a b c s t).result ≡ 0 → EqualWhereShared (joined_into (joined_into a b s) c t) (joined_into a (joined_into b c u) v)
  both_groupings_hold_equal_points e = same_held _ _ (both_groupings_leave_the_same e)

-- ---- Demand 3: "An empty track changes nothing."

module _ (a e : Table) (result : List Point) (va : Track a) (ve : Track e) (none-there : e.count ≡ 0) (whole : length result ≡ most_points) where
  -- joined behind a track
  pub nothing_behind_changes_nothing : (answer_into a e result ≡ record { result = 0; count = a.count }) × Same (joined_into a e result) a
  nothing_behind_changes_nothing = nothing_behind a e result va ve none-there whole

  -- joined before it
  pub nothing_before_changes_nothing : (answer_into e a result ≡ record { result = 0; count = a.count }) × Same (joined_into e a result) a
  nothing_before_changes_nothing = nothing_before a e result va ve none-there whole

-- ---- 02, g: "Points are then equal only if number, record and segment are;"

pub equal_points_are_the_same : (x y : Point) → EqualPoints x y → x ≡ y
equal_points_are_the_same = equal_is

pub the_same_points_are_equal : (x y : Point) → x ≡ y → EqualPoints x y
the_same_points_are_equal = is_equal

-- ---- 01, Tracks: "If a join fits, swapping its two tracks gives the same track exactly when both hold equal records at every number that
-- they share." 02, g: "the rule for swapping a join's tracks and the grouping law read them so": equal records are equal points, segment and
-- all; and so of the grouping law above (`both_groupings_hold_equal_points`).

module _ (a b : Table) (result : List Point) (fit : (answer_into a b result).result ≡ 0) where
  pub equal_where_shared_swaps : EqualWhereShared a b → (answer_into b a result ≡ answer_into a b result) × (joined_into b a result ≡ joined_into a b result)
  equal_where_shared_swaps = shared_swaps a b result fit

  pub swapping_gives_the_same_track : EqualWhereShared a b → Same (joined_into b a result) (joined_into a b result)
  swapping_gives_the_same_track h = same_track _ _ (shared_swaps a b result fit h).1

  pub swapping_shows_them_equal : (answer_into b a result).result ≡ 0 → Same (joined_into b a result) (joined_into a b result) → EqualWhereShared a b
  swapping_shows_them_equal = swaps_shared a b result fit

-- ---- 02, g: "Every point shall carry a segment number, 0 to 65,535, given when the payload is placed."

-- what is given with the record is shown with it, from its picture on
pub a_placed_segment_is_shown : (r : Record) (picture : ℤ) (segment : ℕ) (old : List Point) → (placing_into (point_with r picture segment) old).result ≡ 0 → r.refresh ≡ true
    → (p : ℤ) → NotAbove pictures picture p → shown_at (placed_into (point_with r picture segment) old) p ≡ record { result = 0; found = true; point = record { picture = picture; segment = segment; «record» = r } }
a_placed_segment_is_shown r picture segment old is-done = placed_shows_from (point_with r picture segment) old is-done

-- ---- 02, g: "Join keeps it with the point, the second track's where both hold the number;"

-- with the point: `a_join_holds_every_number`, of whole points. So of the segments
pub a_join_keeps_every_segment : (a b : Table) (result : List Point) (k : ℤ) → (answer_into a b result).result ≡ 0
    → segment_at k (joined_into a b result) ≡ or_else (segment_at k b) (segment_at k a)
a_join_keeps_every_segment = segment_in_joined

-- ---- 02, g: "lookup gives it, 0 with nothing."

-- the segment of the very point whose record is in force, and its number, at which the record started
pub a_lookup_gives_segment_and_start : (t : Table) (p : ℤ) → Track t → (x : Point) → Greatest t p x → ((shown_at t p).point.segment ≡ x.segment) × ((shown_at t p).point.picture ≡ x.picture)
a_lookup_gives_segment_and_start = segment_of_greatest

-- that number is the track's start there
pub the_start_is_given : (t : Table) (p : ℤ) → Track t → (shown_at t p).found ≡ true → start_at t p ≡ some (shown_at t p).point.picture
the_start_is_given = start_given

-- where nothing is found, refused or not, all is 0, and the record is empty
pub nothing_has_segment_0 : (t : Table) (p : ℤ) → (shown_at t p).found ≡ false → ((shown_at t p).point.segment ≡ 0) × ((shown_at t p).point.picture ≡ pos 0) × ((shown_at t p).point.«record» ≡ empty_record)
nothing_has_segment_0 = segment_of-nothing

-- ---- 02, g: "Cleared entries have segment 0."

-- each entry past the count of a join or a placing that is done is cleared, and a cleared entry is that of Pins
pub past_a_join_is_cleared : (a b : Table) (result : List Point) → (answer_into a b result).result ≡ 0
    → (i : ℕ) (d : Point) → (joined_into a b result).count ≤ i → i < most_points → get_or (joined_into a b result).entries i d ≡ cleared
past_a_join_is_cleared = joined_cleared

pub past_a_placing_is_cleared : (x : Point) (old : List Point) → (placing_into x old).result ≡ 0
    → (i : ℕ) (d : Point) → (placed_into x old).count ≤ i → i < most_points → get_or (placed_into x old).entries i d ≡ cleared
past_a_placing_is_cleared = placed-cleared
