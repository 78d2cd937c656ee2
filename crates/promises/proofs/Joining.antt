-- Joins that are refused, grouped, swapped, and with an empty track: the lemmas behind Tracks.
use Prim.Native.Nat.{ℕ, ◌≤◌, ◌<◌}
use mathlib.Core.Path.{◌≡◌, refl, ap, sym, ◌∙◌}
use mathlib.Core.List.{List, []}
use mathlib.Core.Bool.{Bool, true, false, cond}
use mathlib.Core.Option.{Option, none, some}
use native.Mathlib.Omega.{arith}
use borrow.Author.Tests.{eqb-true, eq-eqb, ne_eqb, leb-true, le-leb, leb-false, lt-leb}
use lib.Dec.{eqb, leb}
use lib.ListN.{length}
use Rattle.refusals.specs.Refusals.{too_many_points}
use Rattle.keyed.proofs.Laws.{join_rising, join_groups, nothing_joined, agreeing_swaps, swapping_agrees}
use Rattle.keyed.proofs.Counted.{join_length, first_length, second_length}
use Rattle.plan.specs.Limit.{most_points}
use Rattle.plan.specs.Pictures.{pictures}
use Rattle.track.specs.declared.Point.{Point}
use Rattle.track.specs.declared.Joined.{Joined}
use Rattle.track.specs.Track.{number, padded, points_of, join_points, RisingPoints, AgreePoints, point_at_number, join_refusal, joined_at}
use Rattle.track.specs.Lent.{Table, table_of, Track, points_in, answer_into, joined_into}
use Rattle.track.proofs.Tracks.{same_point}
use Rattle.promises.specs.Joins.{Same, different_numbers, in_turn, left_first, right_first, EqualPoints, EqualWhereShared}
use Rattle.promises.proofs.TrackLaws.{parts, in_order, as_many_as_counted, Done, done_means, joined_is, joined_points, outcome, answer_is}
use Rattle.promises.proofs.Shown.{joined_track}

-- ---- refused

pub refused_at : (r : ℕ) (made old : List Point) (n : ℕ) → (r ≡ 0 → ⊥) → (cond (eqb r 0) made old ≡ old) × (cond (eqb r 0) n 0 ≡ 0)
refused_at r made old n h = let e = ne_eqb r 0 h in (ap (λ (b : Bool). cond b made old) e, ap (λ (b : Bool). cond b n 0) e)

-- a refused join changes no entry, and its count is 0
pub refused_join : (a b : Table) (result : List Point) → ((answer_into a b result).result ≡ 0 → ⊥) → joined_into a b result ≡ table_of result 0
refused_join a b result h =
    let l = join_points (points_in a) (points_in b) in
    let x = refused_at (join_refusal a.entries a.count b.entries b.count (length result)) (padded l) result (length l) h in
    ap (λ (es : List Point). table_of es (answer_into a b result).count) x.0 ∙ ap (table_of result) x.1

-- ---- how many numbers

pub done_or_fifteen : (a b : Table) (result : List Point) → Track a → Track b → length result ≡ most_points
    → (answer_into a b result).result ≡ cond (leb (different_numbers a b) most_points) 0 too_many_points
done_or_fifteen a b result va vb e =
    ap (λ (j : Joined). j.result) (answer_is a b result va vb e)
    ∙ ap (λ (n : ℕ). cond (leb n most_points) 0 too_many_points) (join_length pictures number (points_in a) (points_in b) (in_order a va))

fifteen : (b : Bool) → ◌≡◌ {A = ℕ} (cond b 0 too_many_points) too_many_points → b ≡ false
fifteen true e = absurd (omega arith)
fifteen false e = refl

pub fifteen_means : (a b : Table) (result : List Point) → Track a → Track b → length result ≡ most_points → (answer_into a b result).result ≡ too_many_points → most_points < different_numbers a b
fifteen_means a b result va vb e h =
    leb-false (different_numbers a b) most_points (fifteen (leb (different_numbers a b) most_points) (sym (done_or_fifteen a b result va vb e) ∙ h))

pub fifteen_given : (a b : Table) (result : List Point) → Track a → Track b → length result ≡ most_points → most_points < different_numbers a b → (answer_into a b result).result ≡ too_many_points
fifteen_given a b result va vb e h =
    done_or_fifteen a b result va vb e ∙ ap (λ (c : Bool). cond c 0 too_many_points) (lt-leb (different_numbers a b) most_points h)

-- ---- the same track

pub same_track : (s t : Table) → s ≡ t → Same s t
same_track s t e = record { same_count = ap (λ (u : Table). u.count) e; same_points = ap points_in e }

-- ---- three tracks in both groupings

outcome_result : (b c : Bool) (l big : List Point) → leb (length l) most_points ≡ b → leb (length big) most_points ≡ c → length l ≤ length big
    → (y : Joined) → ((outcome l).result ≡ 0 → y ≡ outcome big) → in_turn (outcome l) y ≡ outcome big
outcome_result true c l big eb ec h y g =
    let z : (outcome l).result ≡ 0 = ap (λ (d : Bool). cond d 0 too_many_points) eb in
    ap (λ (n : ℕ). cond (eqb n 0) y (outcome l)) z ∙ g z
outcome_result false true l big eb ec h y g = let u = leb-false (length l) most_points eb in let v = leb-true (length big) most_points ec in absurd (omega arith)
outcome_result false false l big eb ec h y g =
    ap (λ (d : Bool). cond (eqb (cond d 0 too_many_points) 0) y (outcome l)) eb ∙ ap (λ (d : Bool). joined_at (cond d 0 too_many_points) l) eb ∙ sym (ap (λ (d : Bool). joined_at (cond d 0 too_many_points) big) ec)

in_turn_lem : (x y : Joined) (l big : List Point) → x ≡ outcome l → length l ≤ length big → (x.result ≡ 0 → y ≡ outcome big) → in_turn x y ≡ outcome big
in_turn_lem x y l big e h g =
    ap (λ (j : Joined). in_turn j y) e
    ∙ outcome_result (leb (length l) most_points) (leb (length big) most_points) l big refl refl h y (λ z. g (ap (λ (j : Joined). j.result) e ∙ z))

module _ (a b c : Table) (va : Track a) (vb : Track b) (vc : Track c) where
  left_is : (s t : List Point) → length s ≡ most_points → length t ≡ most_points → left_first a b c s t ≡ outcome (join_points (join_points (points_in a) (points_in b)) (points_in c))
  left_is s t es et =
      in_turn_lem (answer_into a b s) (answer_into (joined_into a b s) c t) (join_points (points_in a) (points_in b)) (join_points (join_points (points_in a) (points_in b)) (points_in c))
      (answer_is a b s va vb es) (first_length pictures number (join_points (points_in a) (points_in b)) (points_in c))
      (λ z. answer_is (joined_into a b s) c t (joined_track a b s z) vc et ∙ ap (λ (l : List Point). outcome (join_points l (points_in c))) (joined_points a b s z))

  right_is : (s t : List Point) → length s ≡ most_points → length t ≡ most_points → right_first a b c s t ≡ outcome (join_points (points_in a) (join_points (points_in b) (points_in c)))
  right_is s t es et =
      in_turn_lem (answer_into b c s) (answer_into a (joined_into b c s) t) (join_points (points_in b) (points_in c)) (join_points (points_in a) (join_points (points_in b) (points_in c)))
      (answer_is b c s vb vc es) (second_length pictures number (points_in a) (join_points (points_in b) (points_in c)) (in_order a va) (join_rising pictures number (points_in b) (points_in c) (in_order b vb)))
      (λ z. answer_is a (joined_into b c s) t va (joined_track b c s z) et ∙ ap (λ (l : List Point). outcome (join_points (points_in a) l)) (joined_points b c s z))

  one_list : join_points (join_points (points_in a) (points_in b)) (points_in c) ≡ join_points (points_in a) (join_points (points_in b) (points_in c))
  one_list = join_groups pictures number (points_in a) (points_in b) (points_in c) (in_order a va) (in_order b vb)

  module _ (s t u v : List Point) (es : length s ≡ most_points) (et : length t ≡ most_points) (eu : length u ≡ most_points) (ev : length v ≡ most_points) where
    -- the same answer: done with the same count, or refused with the same number
    pub groupings_answer : left_first a b c s t ≡ right_first a b c u v
    groupings_answer = left_is s t es et ∙ ap outcome one_list ∙ sym (right_is u v eu ev)

    both_done : (x y : Joined) (d : Bool) → eqb x.result 0 ≡ d → (cond d y x).result ≡ 0 → (x.result ≡ 0) × (y.result ≡ 0)
    both_done x y true e h = (eqb-true x.result 0 e, h)
    both_done x y false e h = let z = eq-eqb x.result 0 h in let w : ◌≡◌ {A = Bool} true false = sym z ∙ e in let q : ◌≡◌ {A = ℕ} 0 1 = cc in absurd (omega arith)

    -- and, where they are done, the same table to the last entry
    pub groupings_leave : (left_first a b c s t).result ≡ 0 → joined_into (joined_into a b s) c t ≡ joined_into a (joined_into b c u) v
    groupings_leave e =
        let l = both_done (answer_into a b s) (answer_into (joined_into a b s) c t) (eqb (answer_into a b s).result 0) refl e in
        let f : (right_first a b c u v).result ≡ 0 = ap (λ (j : Joined). j.result) (sym groupings_answer) ∙ e in
        let r = both_done (answer_into b c u) (answer_into a (joined_into b c u) v) (eqb (answer_into b c u).result 0) refl f in
        let w : List Point → Table = (λ k. table_of (padded k) (length k)) in
        joined_is (joined_into a b s) c t l.1 ∙ ap (λ (k : List Point). w (join_points k (points_in c))) (joined_points a b s l.0)
        ∙ ap w one_list
        ∙ sym (joined_is a (joined_into b c u) v r.1 ∙ ap (λ (k : List Point). w (join_points (points_in a) k)) (joined_points b c u r.0))

-- ---- an empty track

fits : (l : List Point) → length l ≤ most_points → outcome l ≡ record { result = 0; count = length l }
fits l h = ap (λ (d : Bool). joined_at (cond d 0 too_many_points) l) (le-leb (length l) most_points h)

module _ (a e : Table) (result : List Point) (va : Track a) (ve : Track e) (none-there : e.count ≡ 0) (whole : length result ≡ most_points) where
  no_points : points_in e ≡ []
  no_points = ap (λ (n : ℕ). points_of e.entries n) none-there

  as_it_was : (l : List Point) → l ≡ points_in a → outcome l ≡ record { result = 0; count = a.count }
  as_it_was l h =
      ap outcome h ∙ fits (points_in a) (let x = as_many_as_counted a va in let y = (parts a va).few in omega arith)
      ∙ ap (λ (n : ℕ). record { result = 0; count = n }) (as_many_as_counted a va)

  behind : join_points (points_in a) (points_in e) ≡ points_in a
  behind = ap (join_points (points_in a)) no_points

  before : join_points (points_in e) (points_in a) ≡ points_in a
  before = ap (λ (l : List Point). join_points l (points_in a)) no_points ∙ nothing_joined pictures number (points_in a) (in_order a va)

  answer_behind : answer_into a e result ≡ record { result = 0; count = a.count }
  answer_behind = answer_is a e result va ve whole ∙ as_it_was (join_points (points_in a) (points_in e)) behind

  answer_before : answer_into e a result ≡ record { result = 0; count = a.count }
  answer_before = answer_is e a result ve va whole ∙ as_it_was (join_points (points_in e) (points_in a)) before

  -- joined behind a track
  pub nothing_behind : (answer_into a e result ≡ record { result = 0; count = a.count }) × Same (joined_into a e result) a
  nothing_behind = (answer_behind, record { same_count = ap (λ (j : Joined). j.count) answer_behind; same_points = joined_points a e result (ap (λ (j : Joined). j.result) answer_behind) ∙ behind })

  -- joined before it
  pub nothing_before : (answer_into e a result ≡ record { result = 0; count = a.count }) × Same (joined_into e a result) a
  nothing_before = (answer_before, record { same_count = ap (λ (j : Joined). j.count) answer_before; same_points = joined_points e a result (ap (λ (j : Joined). j.result) answer_before) ∙ before })

-- ---- swapped

pub equal_is : (x y : Point) → EqualPoints x y → x ≡ y
equal_is x y e = same_point e.equal_numbers e.equal_segments e.equal_records

pub is_equal : (x y : Point) → x ≡ y → EqualPoints x y
is_equal x y e = record { equal_numbers = ap (λ (p : Point). p.picture) e; equal_segments = ap (λ (p : Point). p.segment) e; equal_records = ap (λ (p : Point). p.«record») e }

abbrev point_or : Point → Option Point → Point
point_or d none = d
point_or d (some x) = x

-- one table holds equal points with itself
pub same_held : (s t : Table) → s ≡ t → EqualWhereShared s t
same_held s t e k x y ex ey = is_equal x y (ap (point_or x) (sym ex ∙ ap (λ (u : Table). point_at_number k (points_in u)) e ∙ ey))

module _ (a b : Table) (result : List Point) (fit : (answer_into a b result).result ≡ 0) where
  d : Done a b result
  d = done_means a b result fit

  ra : RisingPoints (points_in a)
  ra = in_order a d.first

  rb : RisingPoints (points_in b)
  rb = in_order b d.second

  agree : EqualWhereShared a b → AgreePoints (points_in a) (points_in b)
  agree h = λ k x y ex ey. equal_is x y (h k x y ex ey)

  pub shared_swaps : EqualWhereShared a b → (answer_into b a result ≡ answer_into a b result) × (joined_into b a result ≡ joined_into a b result)
  shared_swaps h =
      let e : join_points (points_in a) (points_in b) ≡ join_points (points_in b) (points_in a) = agreeing_swaps pictures number (points_in a) (points_in b) ra rb (agree h) in
      let f : answer_into b a result ≡ answer_into a b result = answer_is b a result d.second d.first d.sized ∙ ap outcome (sym e) ∙ sym (answer_is a b result d.first d.second d.sized) in
      (f, joined_is b a result (ap (λ (j : Joined). j.result) f ∙ fit) ∙ ap (λ (k : List Point). table_of (padded k) (length k)) (sym e) ∙ sym (joined_is a b result fit))

  pub swaps_shared : (answer_into b a result).result ≡ 0 → Same (joined_into b a result) (joined_into a b result) → EqualWhereShared a b
  swaps_shared g h k x y ex ey =
      is_equal x y (swapping_agrees pictures number (points_in a) (points_in b) ra rb (sym (joined_points a b result fit) ∙ sym h.same_points ∙ joined_points b a result g) k x y ex ey)
