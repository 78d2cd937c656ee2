-- Calls in turn: what one call leaves is what the next one reads. A placing and a join leave exactly their track, a lookup the record in
-- force, a reading its record.
use Prim.Native.Nat.{ℕ, ◌+◌, ◌*◌, ◌/◌, ◌%◌, ◌^◌, ◌<◌, ◌≤◌}
use mathlib.Core.Path.{◌≡◌, refl, ap, ◌∙◌}
use mathlib.Core.Bool.{Bool, true, false, cond}
use mathlib.Core.List.{List, [], ◌∷◌}
use mathlib.Core.Option.{Option, none, some}
use native.Mathlib.Omega.{arith}
use borrow.Author.Tests.{leb-true}
use lib.Dec.{leb}
use lib.IntN.{ℤ}
use lib.ListN.{length, take, drop, get_or}
use Rattle.refusals.specs.Refusals.{not_valid, too_many_points, not_a_track}
use Rattle.tree.specs.Bits.{bits_of, Bytes}
use Rattle.tree.specs.Reading.{Out, ok, no}
use Rattle.element.specs.declared.Element.{Element}
use Rattle.element.specs.declared.Element.TheVariants.{Nothing, AppIdentifier, AppVersion, MetadataRefreshFlag, NumExtBlocks, DmAlignmentZeroBit, ExtBlockLength, ExtBlockLevel, MinPq, MaxPq, AvgPq, TargetMaxPq, TrimSlope, TrimOffset, TrimPower, TrimChromaWeight, TrimSaturationGain, MsWeight, ActiveAreaLeftOffset, ActiveAreaRightOffset, ActiveAreaTopOffset, ActiveAreaBottomOffset, ExtDmAlignmentZeroBit, End, Wrapper}
use Rattle.element.specs.Element.{number_of}
use Rattle.record.specs.Name.{Name}
use Rattle.record.specs.Blocks.{empty_record}
use Rattle.valid.specs.Valid.{every, many, targets, all_differ, valid}
use Rattle.syntax.specs.Data.{Data, record_from, bare_data}
use Rattle.syntax.proofs.Exact.{accepted_is_a_payload}
use Rattle.syntax.proofs.Records.{the_record_is_valid}
use Rattle.cause.specs.declared.Kind.{Kind}
use Rattle.cause.specs.declared.Kind.TheVariants.{Untold, Range, Other}
use Rattle.cause.specs.declared.Cause.{Cause}
use Rattle.reader.specs.declared.Reading.{Reading}
use Rattle.reader.specs.Reading.{reading_of, read_bare}
use Rattle.keyed.specs.Keyed.{Compared, less, same, greater, in_force_by}
use Rattle.keyed.proofs.Mapped.{join_all}
use Rattle.plan.specs.Limit.{most_points}
use Rattle.plan.specs.Pictures.{Before, order, pictures}
use Rattle.track.specs.declared.Point.{Point}
use Rattle.track.specs.Track.{number, cleared, padded, is_track, join_of, placed_points, point_in_force, none_in_force, shown}
use Rattle.reason.specs.Reason.{reason, reason_text}
use Rattle.flat.specs.Flat.{flat, record_in}
use Rattle.flat.proofs.Named.{length_in, flat-names, valid_is_typed}
use Rattle.tables.specs.Table.{flat_point, table_in}
use Rattle.tables.proofs.Back.{TypedPoint, AllTyped, cleared-typed, padded_back, track_typed}
use Rattle.pimlasut.specs.Boundary.{kind_number, facts_of, point_named, placing, placed_table, looking, joining, joined_table}

done_by : (u v w : Bool) → ◌≡◌ {A = ℕ} (cond u (cond v (cond w 0 too_many_points) not_a_track) not_a_track) 0 → (u ≡ true) × (v ≡ true) × (w ≡ true)
done_by true true true e = (refl, refl, refl)
done_by true true false e = absurd (omega (arith, e))
done_by true false w e = absurd (omega (arith, e))
done_by false v w e = absurd (omega (arith, e))

pub joined_is_read : (a : List ℤ) (n : ℕ) (b : List ℤ) (m : ℕ) → (joining a n b m).result ≡ 0 → table_in (joined_table a n b m) ≡ padded (join_of (table_in a) n (table_in b) m)
joined_is_read a n b m e =
    let d = done_by (is_track (table_in a) n) (is_track (table_in b) m) (leb (length (join_of (table_in a) n (table_in b) m)) most_points) e in
    padded_back (join_of (table_in a) n (table_in b) m) (leb-true (length (join_of (table_in a) n (table_in b) m)) most_points d.2)
    (join_all pictures number TypedPoint (take n (table_in a)) (take m (table_in b)) (track_typed a n d.0) (track_typed b m d.1))

placed_by : (t : Bool) (p : Point) → TypedPoint p → (length (cond t (p ∷ []) []) ≤ most_points) × AllTyped (cond t (p ∷ []) [])
placed_by true p g = (omega arith, (g, tt))
placed_by false p g = (omega arith, tt)

good_by : (u : Bool) → ◌≡◌ {A = ℕ} (cond u 0 not_valid) 0 → u ≡ true
good_by true e = refl
good_by false e = absurd (omega (arith, e))

pub placed_is_read : (numbers : List ℤ) (picture : ℤ) (segment : ℕ) → segment < 2 ^ 16 → (placing numbers picture segment).result ≡ 0
    → table_in (placed_table numbers picture segment) ≡ padded (placed_points (point_named numbers picture segment))
placed_is_read numbers picture segment h e =
    let r = record_in numbers in
    let x = point_named numbers picture segment in
    let g = placed_by r.refresh x (record { segment_fits = h; fields_fit = valid_is_typed r (length_in numbers) (good_by (valid r) e) }) in
    padded_back (placed_points x) g.0 g.1

-- and the record's numbers in the point that a lookup leaves name the record in force, or with nothing the empty one
abbrev TypedIf : Option Point → Type 0
TypedIf none = Unit {0}
TypedIf (some x) = TypedPoint x

in_force_typed : (k : ℤ) (l : List Point) → AllTyped l → TypedIf (point_in_force k l)
in_force_typed k [] g = tt
in_force_typed k (x ∷ xs) g = by (order k (number x)) (point_in_force k xs) (in_force_typed k xs g.1)
  where
    by : (t : Compared Before k (number x)) (o : Option Point) → TypedIf o → TypedIf (in_force_by pictures number x o t)
    by (less h) o i = tt
    by (same e) o i = g.0
    by (greater h) none i = g.0
    by (greater h) (some y) i = i

shown_named : (o : Option Point) → TypedIf o → record_in (drop 2 (flat_point (shown o).point)) ≡ (shown o).point.«record»
unfolding flat_point cleared
shown_named none i = flat-names empty_record cleared-typed.fields_fit
shown_named (some x) i = flat-names x.«record» i.fields_fit

pub looked_up_is_named : (table : List ℤ) (count : ℕ) (picture : ℤ) → record_in (drop 2 (flat_point (looking table count picture).point)) ≡ (looking table count picture).point.«record»
looked_up_is_named table count picture = go (is_track (table_in table) count) refl
  where
    go : (b : Bool) → is_track (table_in table) count ≡ b
        → let a = cond b (shown (point_in_force picture (take count (table_in table)))) (none_in_force not_a_track) in record_in (drop 2 (flat_point a.point)) ≡ a.point.«record»
    go true e = shown_named (point_in_force picture (take count (table_in table))) (in_force_typed picture (take count (table_in table)) (track_typed table count e))
    go false e = shown_named none tt

-- and the numbers that a reading leaves name the record that was read
pub reading_is_named : (s : List ℕ) → Bytes s → (read_bare s).result ≡ 0 → record_in (flat (read_bare s).«record») ≡ (read_bare s).«record»
unfolding valid every many targets all_differ
reading_is_named s h e = go (bare_data (bits_of s)) refl
  where
    go : (o : Out Name Data) → bare_data (bits_of s) ≡ o → record_in (flat (reading_of o).«record») ≡ (reading_of o).«record»
    go (ok d n) q = let p = the_record_is_valid d (accepted_is_a_payload s h d n q).0 in flat-names (record_from d) (valid_is_typed (record_from d) p.places p.valid_record)
    go (no f) q = flat-names empty_record (valid_is_typed empty_record refl refl)

-- and its facts name the cause: no two elements have one number, no two kinds, and no bit of the value is lost
abbrev pub elements : List Element
elements = Nothing ∷ AppIdentifier ∷ AppVersion ∷ MetadataRefreshFlag ∷ NumExtBlocks ∷ DmAlignmentZeroBit ∷ ExtBlockLength ∷ ExtBlockLevel ∷ MinPq ∷ MaxPq ∷ AvgPq ∷ TargetMaxPq ∷ TrimSlope ∷ TrimOffset ∷ TrimPower ∷ TrimChromaWeight ∷ TrimSaturationGain ∷ MsWeight ∷ ActiveAreaLeftOffset ∷ ActiveAreaRightOffset ∷ ActiveAreaTopOffset ∷ ActiveAreaBottomOffset ∷ ExtDmAlignmentZeroBit ∷ End ∷ Wrapper ∷ []

element_back : (e : Element) → get_or elements (number_of e) Nothing ≡ e
element_back Nothing = refl
element_back AppIdentifier = refl
element_back AppVersion = refl
element_back MetadataRefreshFlag = refl
element_back NumExtBlocks = refl
element_back DmAlignmentZeroBit = refl
element_back ExtBlockLength = refl
element_back ExtBlockLevel = refl
element_back MinPq = refl
element_back MaxPq = refl
element_back AvgPq = refl
element_back TargetMaxPq = refl
element_back TrimSlope = refl
element_back TrimOffset = refl
element_back TrimPower = refl
element_back TrimChromaWeight = refl
element_back TrimSaturationGain = refl
element_back MsWeight = refl
element_back ActiveAreaLeftOffset = refl
element_back ActiveAreaRightOffset = refl
element_back ActiveAreaTopOffset = refl
element_back ActiveAreaBottomOffset = refl
element_back ExtDmAlignmentZeroBit = refl
element_back End = refl
element_back Wrapper = refl

abbrev pub kinds : List Kind
kinds = Untold ∷ Range ∷ Other ∷ []

kind_back : (k : Kind) → get_or kinds (kind_number k) Untold ≡ k
kind_back Untold = refl
kind_back Range = refl
kind_back Other = refl

value_back : (v : ℕ) → v % 2 ^ 32 + v / 2 ^ 32 * 2 ^ 32 ≡ v
value_back v = omega arith

abbrev pub cause_by : Element → Kind → (value lowest highest : ℕ) → Cause
cause_by e k v low high = record { element = e; kind = k; value = v; lowest = low; highest = high }

abbrev pub cause_named : List ℕ → Cause
cause_named facts =
    cause_by (get_or elements (get_or facts 4 0) Nothing) (get_or kinds (get_or facts 5 0) Untold) (get_or facts 6 0 + get_or facts 7 0 * 2 ^ 32) (get_or facts 8 0) (get_or facts 9 0)

pub cause_is_named : (q : Reading) → cause_named (facts_of q) ≡ q.cause
cause_is_named q =
    let c = q.cause in
    let k = get_or kinds (kind_number c.kind) Untold in
    let v = c.value % 2 ^ 32 + c.value / 2 ^ 32 * 2 ^ 32 in
    ap (λ (e : Element). cause_by e k v c.lowest c.highest) (element_back c.element) ∙ ap (λ (k : Kind). cause_by c.element k v c.lowest c.highest) (kind_back c.kind)
    ∙ ap (λ (v : ℕ). cause_by c.element c.kind v c.lowest c.highest) (value_back c.value)

-- so the result and the facts of a reading tell the text that says why
pub why_is_told : (q : Reading) → reason q.result (get_or (facts_of q) 2 0) (cause_named (facts_of q)) ≡ reason_text q
why_is_told q = ap (λ (c : Cause). reason q.result q.offset c) (cause_is_named q)
