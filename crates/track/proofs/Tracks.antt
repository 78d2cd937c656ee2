-- What `scan` has seen: whether the table is a track, and its numbers.
use mathlib.Core.Path.{◌≡◌, refl, sym, ◌∙◌, ap, subst}
use mathlib.Core.Bool.{Bool, true, false, cond, ◌&&◌, ◌||◌, and-true}
use mathlib.Core.List.{List, [], ◌∷◌, ◌++◌, map}
use Prim.Native.Nat.{ℕ, zero, suc, ◌+◌, ◌<◌, ◌≤◌}
use native.Mathlib.Nat.{not-suc-le-zero}
use native.Mathlib.Omega.{arith}
use borrow.Author.Tests.{eq-eqb, ne_eqb, le-leb}
use lib.Dec.{T}
use lib.IntN.{ℤ, pos}
use lib.Signed.{lt_z}
use lib.ListN.{length, take, replicate, length-set}
use lib.Seq.{take-suc-set, length-take-le}
use Rattle.record.proofs.Laws.{and_left, and_right, and_both}
use Rattle.record.specs.declared.Record.{Record}
use Rattle.keyed.specs.Keyed.{Above}
use Rattle.plan.specs.declared.Scanned.{Scanned}
use Rattle.plan.specs.Limit.{most_points}
use Rattle.plan.specs.Pictures.{Before, pictures, before_transitive}
use Rattle.plan.specs.Scanning.{sized, extent_of, begun}
use Rattle.track.specs.declared.Point.{Point}
use Rattle.track.specs.Track.{number, point_with, may_stand, all_stand, rise_after, rise, is_track, RisingPoints}
use Rattle.track.specs.Inner.{point_at, noted_point, scanned_to, scan_of}
use Rattle.track.proofs.Within.{sized_means}

-- ---- points are equal if their numbers, their segments and their records are
pub same_point : {p q : ℤ} {j k : ℕ} {r s : Record} → p ≡ q → j ≡ k → r ≡ s → point_with r p j ≡ point_with s q k
same_point {p = p} {q = q} {j = j} {r = r} {s = s} e f g = ap (λ (x : Record). point_with x p j) g ∙ ap (λ (z : ℤ). point_with s z j) e ∙ ap (point_with s q) f

-- ---- the fold, by the list
abbrev folded : Scanned → ℕ → List Point → Scanned
folded t i [] = t
folded t i (x ∷ xs) = folded (noted_point t i x) (suc i) xs

take_snoc : (l : List Point) (n : ℕ) → n < length l → take (suc n) l ≡ take n l ++ (point_at l n ∷ [])
take_snoc [] n h = absurd (not-suc-le-zero h)
take_snoc (x ∷ xs) zero h = refl
take_snoc (x ∷ xs) (suc n) h = ap (λ (u : List Point). x ∷ u) (take_snoc xs n (omega arith))

folded_snoc : (t : Scanned) (i : ℕ) (l : List Point) (p : Point) → folded t i (l ++ (p ∷ [])) ≡ noted_point (folded t i l) (i + length l) p
folded_snoc t i [] p = let e : i ≡ i + 0 = omega arith in ap (λ (k : ℕ). noted_point t k p) e
folded_snoc t i (x ∷ xs) p =
    let e : suc i + length xs ≡ i + suc (length xs) = omega arith in
    folded_snoc (noted_point t i x) (suc i) xs p ∙ ap (λ (k : ℕ). noted_point (folded (noted_point t i x) (suc i) xs) k p) e

scanned_folded : (b : Scanned) (ys : List Point) (n : ℕ) → n ≤ length ys → scanned_to b ys n ≡ folded b 0 (take n ys)
scanned_folded b ys zero h = refl
scanned_folded b ys (suc n) h =
    let e : n ≡ 0 + length (take n ys) = (let l = length-take-le n ys (omega arith) in omega (arith, l)) in
    ap (λ (t : Scanned). noted_point t n (point_at ys n)) (scanned_folded b ys n (omega arith))
    ∙ ap (λ (k : ℕ). noted_point (folded b 0 (take n ys)) k (point_at ys n)) e
    ∙ sym (folded_snoc b 0 (take n ys) (point_at ys n)) ∙ ap (folded b 0) (sym (take_snoc ys n h))

-- ---- whether all is well
-- the tests of a turn, in the order of the definition
shuffle : (t u v r a : Bool) → (t && u && v) && (r && a) ≡ t && ((v && r) && (u && a))
shuffle true true true r a = refl
shuffle true true false r a = refl
shuffle true false true true a = refl
shuffle true false true false a = refl
shuffle true false false r a = refl
shuffle false u v r a = refl

folded_track : (t : Scanned) (i : ℕ) (l : List Point) → (folded t (suc i) l).track ≡ t.track && (rise_after t.last l && all_stand l)
folded_track t i [] = sym (and-true t.track)
folded_track t i (x ∷ xs) =
    folded_track (noted_point t (suc i) x) (suc i) xs
    ∙ ap (λ (b : Bool). (t.track && may_stand x.«record» && (b || lt_z t.last x.picture)) && (rise_after x.picture xs && all_stand xs)) (ne_eqb (suc i) 0 (λ e. omega (arith, e)))
    ∙ shuffle t.track (may_stand x.«record») (lt_z t.last x.picture) (rise_after x.picture xs) (all_stand xs)

all_track : (t : Scanned) (l : List Point) → (folded t 0 l).track ≡ t.track && (rise l && all_stand l)
all_track t [] = sym (and-true t.track)
all_track t (x ∷ xs) = folded_track (noted_point t 0 x) 0 xs ∙ shuffle t.track (may_stand x.«record») true (rise_after x.picture xs) (all_stand xs)

track_by : (ys : List Point) (n : ℕ) (b : Bool) → (b ≡ true → (length ys ≡ most_points) × (n ≤ most_points))
    → (scanned_to (record { track = b; last = pos 0; pictures = replicate most_points (pos 0) }) ys (cond b n 0)).track ≡ b && (rise (take n ys) && all_stand (take n ys))
track_by ys n true h =
    let e = (h refl).0 in
    let f = (h refl).1 in
    let t : Scanned = record { track = true; last = pos 0; pictures = replicate most_points (pos 0) } in
    ap (λ (s : Scanned). s.track) (scanned_folded t ys n (omega arith)) ∙ all_track t (take n ys)
track_by ys n false h = refl

-- a scan sees a track exactly where there is one
pub scan_track : (ys : List Point) (n : ℕ) → (scan_of ys n).track ≡ is_track ys n
scan_track ys n = track_by ys n (sized (length ys) n) (sized_means (length ys) n)

-- ---- what a track is
pub record Is-track (ys : List Point) (n : ℕ) : Type 0 where
  pub full : length ys ≡ most_points
  pub few : n ≤ most_points
  pub rises : rise (take n ys) ≡ true
  pub stand : all_stand (take n ys) ≡ true

pub is_track_lem : (ys : List Point) (n : ℕ) → is_track ys n ≡ true → Is-track ys n
is_track_lem ys n e =
    let s = sized_means (length ys) n (and_left (sized (length ys) n) (rise (take n ys) && all_stand (take n ys)) e) in
    let g = and_right (sized (length ys) n) (rise (take n ys) && all_stand (take n ys)) e in
    record { full = s.0; few = s.1; rises = and_left (rise (take n ys)) (all_stand (take n ys)) g; stand = and_right (rise (take n ys)) (all_stand (take n ys)) g }

pub track_is : (ys : List Point) (n : ℕ) → Is-track ys n → is_track ys n ≡ true
track_is ys n t = rw (eq-eqb (length ys) most_points t.full, le-leb n most_points t.few, t.rises, t.stand)

-- ---- a track's numbers rise
test : {b : Bool} → b ≡ true → T b
test e = subst T (sym e) tt

above_on : (k j : ℤ) (l : List Point) → Before k j → Above pictures number j l → Above pictures number k l
above_on k j [] h a = tt
above_on k j (x ∷ xs) h a = (before_transitive k j (number x) h a.0, above_on k j xs h a.1)

rise-after : (k : ℤ) (l : List Point) → rise_after k l ≡ true → Above pictures number k l × RisingPoints l
rise-after k [] e = (tt, tt)
rise-after k (x ∷ xs) e =
    let up : Before k (number x) = test (and_left (lt_z k x.picture) (rise_after x.picture xs) e) in
    let r = rise-after x.picture xs (and_right (lt_z k x.picture) (rise_after x.picture xs) e) in
    ((up, above_on k (number x) xs up r.0), (r.0, r.1))

pub rise_rising : (l : List Point) → rise l ≡ true → RisingPoints l
rise_rising [] e = tt
rise_rising (x ∷ xs) e = rise-after x.picture xs e

-- and a list that rises passes the test
tested : (b : Bool) → T b → b ≡ true
tested true t = refl
tested false t = absurd t

after-rise : (k : ℤ) (l : List Point) → Above pictures number k l → RisingPoints l → rise_after k l ≡ true
after-rise k [] a r = refl
after-rise k (x ∷ xs) a r = and_both (lt_z k x.picture) (rise_after x.picture xs) (tested (lt_z k x.picture) a.0) (after-rise x.picture xs r.0 r.1)

pub rising_rise : (l : List Point) → RisingPoints l → rise l ≡ true
rising_rise [] r = refl
rising_rise (x ∷ xs) r = after-rise x.picture xs r.0 r.1

-- ---- the numbers
seen_length : (b : Scanned) (ys : List Point) (n : ℕ) → length (scanned_to b ys n).pictures ≡ length b.pictures
seen_length b ys zero = refl
seen_length b ys (suc n) = length-set (scanned_to b ys n).pictures n (point_at ys n).picture ∙ seen_length b ys n

map_snoc : (l : List Point) (p : Point) → map number (l ++ (p ∷ [])) ≡ map number l ++ (number p ∷ [])
map_snoc [] p = refl
map_snoc (x ∷ xs) p = ap (λ (u : List ℤ). number x ∷ u) (map_snoc xs p)

seen_numbers : (b : Scanned) (ys : List Point) (n : ℕ) → n ≤ length ys → n ≤ length b.pictures → take n (scanned_to b ys n).pictures ≡ map number (take n ys)
seen_numbers b ys zero h g = refl
seen_numbers b ys (suc n) h g =
    let l = (scanned_to b ys n).pictures in
    take-suc-set l n (point_at ys n).picture (subst (λ (k : ℕ). n < k) (sym (seen_length b ys n)) g)
    ∙ ap (λ (u : List ℤ). u ++ ((point_at ys n).picture ∷ [])) (seen_numbers b ys n (omega arith) (omega arith))
    ∙ sym (ap (map number) (take_snoc ys n h) ∙ map_snoc (take n ys) (point_at ys n))

extent_is : (ys : List Point) (n : ℕ) → Is-track ys n → extent_of (length ys) n ≡ n
extent_is ys n h = rw (eq-eqb (length ys) most_points h.full, le-leb n most_points h.few)

pub numbers : (ys : List Point) (n : ℕ) → Is-track ys n → take n (scan_of ys n).pictures ≡ map number (take n ys)
numbers ys n h =
    ap (λ (k : ℕ). take n (scanned_to (begun (length ys) n) ys k).pictures) (extent_is ys n h)
    ∙ seen_numbers (begun (length ys) n) ys n (let e = h.full in let f = h.few in omega (arith, e, f)) h.few
