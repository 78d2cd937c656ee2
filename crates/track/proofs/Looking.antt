-- `scan`, `seek` and one read together give the record in force.
use mathlib.Core.Path.{◌≡◌, refl, sym, ◌∙◌, ap, subst}
use mathlib.Core.Bool.{Bool, true, false, cond}
use mathlib.Core.List.{List, [], ◌∷◌, map}
use mathlib.Core.Option as starts
use mathlib.Core.Option.{none, some}
use Prim.Native.Nat.{ℕ, zero, suc, ◌-◌, ◌≤◌}
use native.Mathlib.Omega.{arith}
use borrow.Author.Tests.{ne_eqb}
use lib.Dec.{T}
use lib.IntN.{ℤ}
use lib.Signed.{lt_z}
use lib.ListN.{length, take, length-map}
use lib.Seq.{length-take-le, get_or-take}
use Rattle.std.specs.Prelude.{Option, Result, Err}
use Rattle.refusals.specs.Refusals.{not_a_track}
use Rattle.refusals.specs.declared.Refusal.{Refusal}
use Rattle.refusals.specs.declared.Refusal.TheVariants.{NotATrack}
use Rattle.keyed.specs.Keyed.{or_else, Compared, less, same, greater, Above, in_force_by}
use Rattle.plan.specs.Limit.{most_points}
use Rattle.plan.specs.declared.entry.Entry.{Entry}
use Rattle.plan.specs.Pictures.{Before, order, pictures, before_irreflexive, before_transitive}
use Rattle.plan.specs.Seeking.{reach_of, none_sought, sought_at, found_at, seek_of}
use Rattle.plan.proofs.Chosen.{clamped_in}
use Rattle.plan.proofs.Reaching.{reach_le}
use Rattle.track.specs.declared.Point.{Point}
use Rattle.track.specs.Track.{number, RisingPoints, is_track, point_in_force, none_in_force, shown, lookup_answer}
use Rattle.track.specs.Inner.{unfilled, point_at, scan_of, held_of, look_from, look_by}
use Rattle.track.proofs.Tracks.{scan_track, is_track_lem, rise_rising, numbers}

is : (b : Bool) → T b → b ≡ true
is true t = refl
is false t = absurd t

isn't : (b : Bool) → (T b → ⊥) → b ≡ false
isn't true t = absurd (t tt)
isn't false t = refl

-- ---- the point in force stands just before the reach's end
abbrev pick_at : List Point → ℕ → starts.Option Point
pick_at l zero = none
pick_at l (suc i) = some (point_at l i)

abbrev reached : ℤ → List Point → ℕ
reached k l = reach_of k (map number l)

none_reached : (k : ℤ) (l : List Point) → Above pictures number k l → reached k l ≡ 0
none_reached k [] h = refl
none_reached k (x ∷ xs) h = ap (λ (b : Bool). cond b 0 (suc (reached k xs))) (is (lt_z k (number x)) h.0)

next_pick : (x : Point) (xs : List Point) (r : ℕ) → or_else (pick_at xs r) (some x) ≡ pick_at (x ∷ xs) (suc r)
next_pick x xs zero = refl
next_pick x xs (suc i) = refl

in_force_by_lem : (k : ℤ) (x : Point) (xs : List Point) (t : Compared Before k (number x)) → Above pictures number (number x) xs → point_in_force k xs ≡ pick_at xs (reached k xs)
    → in_force_by pictures number x (point_in_force k xs) t ≡ pick_at (x ∷ xs) (reached k (x ∷ xs))
in_force_by_lem k x xs (less h) a ih = ap (λ (b : Bool). pick_at (x ∷ xs) (cond b 0 (suc (reached k xs)))) (sym (is (lt_z k (number x)) h))
in_force_by_lem k x xs (same e) a ih =
    let no : lt_z k (number x) ≡ false = isn't (lt_z k (number x)) (λ h. before_irreflexive (number x) (subst (λ (z : ℤ). Before z (number x)) e h)) in
    let none_left : reached k xs ≡ 0 = none_reached k xs (subst (λ (z : ℤ). Above pictures number z xs) (sym e) a) in
    ap (λ (r : ℕ). pick_at (x ∷ xs) (suc r)) (sym none_left) ∙ ap (λ (b : Bool). pick_at (x ∷ xs) (cond b 0 (suc (reached k xs)))) (sym no)
in_force_by_lem k x xs (greater h) a ih =
    let no : lt_z k (number x) ≡ false = isn't (lt_z k (number x)) (λ g. before_irreflexive k (before_transitive k (number x) k g h)) in
    ap (λ (o : starts.Option Point). or_else o (some x)) ih ∙ next_pick x xs (reached k xs) ∙ ap (λ (b : Bool). pick_at (x ∷ xs) (cond b 0 (suc (reached k xs)))) (sym no)

in_force_at : (k : ℤ) (l : List Point) → RisingPoints l → point_in_force k l ≡ pick_at l (reached k l)
in_force_at k [] r = refl
in_force_at k (x ∷ xs) r = in_force_by_lem k x xs (order k (number x)) r.0 (in_force_at k xs r.1)

-- ---- by the reach
found_suc : (i : ℕ) → found_at (suc i) ≡ sought_at i
found_suc i =
    let e : suc i - 1 ≡ i = omega arith in
    ap (λ (b : Bool). cond b none_sought (sought_at (suc i - 1))) (ne_eqb (suc i) 0 (λ e. omega (arith, e))) ∙ ap sought_at e

look_at : (ys : List Point) (n r : ℕ) → r ≤ n → look_by ys r ≡ shown (pick_at (take n ys) r)
look_at ys n zero h = refl
look_at ys n (suc i) h = ap held_of (sym (get_or-take n ys i unfilled h))

-- of a table's entries it is what the search gives
look_found : (ys : List Point) (r : ℕ) → r ≤ most_points → look_from ys (found_at r) ≡ look_by ys r
look_found ys zero g = refl
look_found ys (suc i) g = ap (look_from ys) (found_suc i) ∙ ap (λ (k : ℕ). held_of (point_at ys k)) (clamped_in i (omega arith))

looked_at : (ys : List Point) (n r : ℕ) → r ≤ n → n ≤ most_points → look_from ys (found_at r) ≡ shown (pick_at (take n ys) r)
looked_at ys n r h g = look_found ys r (omega arith) ∙ look_at ys n r h

module _ (ys : List Point) (n : ℕ) (p : ℤ) where
  abbrev r : ℕ
  r = reach_of p (take n (scan_of ys n).pictures)

  r_is : is_track ys n ≡ true → r ≡ reached p (take n ys)
  r_is e = ap (reach_of p) (numbers ys n (is_track_lem ys n e))

  r_le : is_track ys n ≡ true → reached p (take n ys) ≤ n
  r_le e =
      let t = is_track_lem ys n e in
      let h = reach_le p (map number (take n ys)) in
      let l : length (map number (take n ys)) ≡ n = length-map (take n ys) number ∙ length-take-le n ys (let f = t.full in let w = t.few in omega (arith, f, w)) in
      omega (arith, h, l)

  find_by : (b : Bool) → is_track ys n ≡ b → look_from ys (cond b (found_at r) (Err NotATrack)) ≡ cond b (shown (point_in_force p (take n ys))) (none_in_force not_a_track)
  find_by true e =
      let t = is_track_lem ys n e in
      ap (λ (k : ℕ). look_from ys (found_at k)) (r_is e) ∙ looked_at ys n (reached p (take n ys)) (r_le e) t.few ∙ ap shown (sym (in_force_at p (take n ys) (rise_rising (take n ys) t.rises)))
  find_by false e = refl

  abbrev pub seek : Result (Option Entry) Refusal
  seek = seek_of (scan_of ys n) n p

  seek_is : seek ≡ cond (is_track ys n) (found_at r) (Err NotATrack)
  seek_is = ap (λ (u : Bool). cond u (found_at r) (Err NotATrack)) (scan_track ys n)

  pub look_is : look_from ys seek ≡ lookup_answer ys n p
  look_is = ap (look_from ys) seek_is ∙ find_by (is_track ys n) refl

  -- what `seek` asks
  pub few : (scan_of ys n).track ≡ true → n ≤ most_points
  few e = (is_track_lem ys n (sym (scan_track ys n) ∙ e)).few
