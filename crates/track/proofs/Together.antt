-- `scan`, `plan` and `fill` together are the join.
use mathlib.Core.Path.{◌≡◌, refl, sym, ◌∙◌, ap, subst}
use mathlib.Core.Bool.{Bool, true, false, cond}
use mathlib.Core.List.{List, ◌++◌, map}
use Prim.Native.Nat.{ℕ, ◌≤◌}
use lib.Dec.{eqb, leb}
use lib.IntN.{ℤ}
use lib.ListN.{length, take, drop, length-map}
use Rattle.std.specs.Prelude.{Result, Ok, Err}
use Rattle.refusals.specs.Refusals.{unfit_output, too_many_points, not_a_track}
use Rattle.refusals.specs.declared.Refusal.{Refusal}
use Rattle.refusals.specs.declared.Refusal.TheVariants.{UnfitOutput, TooManyPoints, NotATrack}
use Rattle.plan.specs.Limit.{most_points}
use Rattle.plan.specs.declared.Layout.{Layout}
use Rattle.plan.specs.Planning.{named, RisingTags, tags_from, second_tags, join_tags, source_of, merged_sources, layout_of, no_sources, plan_of}
use Rattle.track.specs.declared.Point.{Point}
use Rattle.track.specs.Track.{number, is_track, join_of, joined_at, join_answer, padded, join_table}
use Rattle.track.specs.Inner.{scan_of, filled_to, answer_of}
use Rattle.track.proofs.Natural.{rising_tags, by_number, named_join, padded_join}
use Rattle.track.proofs.Tracks.{scan_track, is_track_lem, rise_rising, numbers}

-- what `plan` asks of a scan
pub rising_seen : (c : ℕ) (ys : List Point) (n : ℕ) → (scan_of ys n).track ≡ true → (n ≤ most_points) × RisingTags (tags_from c (take n (scan_of ys n).pictures))
rising_seen c ys n e =
    let h = is_track_lem ys n (sym (scan_track ys n) ∙ e) in
    (h.few, subst (λ (l : List ℤ). RisingTags (tags_from c l)) (sym (numbers ys n h)) (rising_tags c (take n ys) (rise_rising (take n ys) h.rises)))

module _ (a : List Point) (n : ℕ) (b : List Point) (m : ℕ) where
  abbrev pub laid : ℕ → Result Layout Refusal
  laid len = plan_of (scan_of a n) n (scan_of b m) m len

  abbrev C : List ℕ
  C = merged_sources (scan_of a n).pictures n (scan_of b m).pictures m

  abbrev J : List Point
  J = join_of a n b m

  abbrev shape : Bool → Bool → Bool → Result Layout Refusal
  shape u v w = cond u (cond v (cond w (layout_of C) (Err UnfitOutput)) (Err NotATrack)) (Err NotATrack)

  laid_is : (len : ℕ) → laid len ≡ shape (is_track a n) (is_track b m) (eqb len most_points)
  laid_is len = ap (λ (u : Bool). shape u (scan_of b m).track (eqb len most_points)) (scan_track a n) ∙ ap (λ (u : Bool). shape (is_track a n) u (eqb len most_points)) (scan_track b m)

  named_is : is_track a n ≡ true → is_track b m ≡ true → map (by_number a b) C ≡ J
  named_is u v =
      let h = is_track_lem a n u in
      let g = is_track_lem b m v in
      ap (λ (l : List ℤ). map (by_number a b) (map source_of (join_tags (tags_from 0 l) (second_tags m (scan_of b m).pictures)))) (numbers a n h)
      ∙ ap (λ (l : List ℤ). map (by_number a b) (map source_of (join_tags (tags_from 0 (map number (take n a))) (tags_from most_points l)))) (numbers b m g)
      ∙ named_join a b n m h.few g.few h.full g.full

  -- by the tests
  abbrev fitting : Result Layout Refusal
  fitting = Ok (record { count = length C; sources = map named (C ++ drop (length C) no_sources) })

  abbrev number_by : Bool → Bool → Bool → ℕ
  number_by u v w = cond u (cond v (cond w (cond (leb (length J) most_points) 0 too_many_points) unfit_output) not_a_track) not_a_track

  answer_fits : (k : Bool) → length C ≡ length J → answer_of (cond k fitting (Err TooManyPoints)) ≡ joined_at (cond k 0 too_many_points) J
  answer_fits true e = ap (λ (i : ℕ). record { result = 0; count = i }) e
  answer_fits false e = refl

  table_fits : (out : List Point) (k : Bool) → map (by_number a b) C ≡ J → filled_to out a b (cond k fitting (Err TooManyPoints)) ≡ cond (eqb (cond k 0 too_many_points) 0) (padded J) out
  table_fits out true e = padded_join a b C ∙ ap padded e
  table_fits out false e = refl

  same_length : map (by_number a b) C ≡ J → length C ≡ length J
  same_length e = sym (length-map C (by_number a b)) ∙ ap length e

  answer_by_lem : (u v w : Bool) → (u ≡ true → v ≡ true → map (by_number a b) C ≡ J) → answer_of (shape u v w) ≡ joined_at (number_by u v w) J
  answer_by_lem true true true f =
      let e = same_length (f refl refl) in
      ap (λ (i : ℕ). answer_of (cond (leb i most_points) fitting (Err TooManyPoints))) e ∙ answer_fits (leb (length J) most_points) e
  answer_by_lem true true false f = refl
  answer_by_lem true false w f = refl
  answer_by_lem false v w f = refl

  table_by : (out : List Point) (u v w : Bool) → (u ≡ true → v ≡ true → map (by_number a b) C ≡ J) → filled_to out a b (shape u v w) ≡ cond (eqb (number_by u v w) 0) (padded J) out
  table_by out true true true f =
      let e = f refl refl in
      ap (λ (i : ℕ). filled_to out a b (cond (leb i most_points) fitting (Err TooManyPoints))) (same_length e) ∙ table_fits out (leb (length J) most_points) e
  table_by out true true false f = refl
  table_by out true false w f = refl
  table_by out false v w f = refl

  pub answer_is : (len : ℕ) → answer_of (laid len) ≡ join_answer a n b m len
  answer_is len = ap answer_of (laid_is len) ∙ answer_by_lem (is_track a n) (is_track b m) (eqb len most_points) named_is

  pub table_is : (out : List Point) → filled_to out a b (laid (length out)) ≡ join_table out a n b m
  table_is out = ap (filled_to out a b) (laid_is (length out)) ∙ table_by out (is_track a n) (is_track b m) (eqb (length out) most_points) named_is
