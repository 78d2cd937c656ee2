-- What the entry points' proofs share.
use Prim.Native.Nat.{ℕ, ◌<◌, ◌≤◌}
use mathlib.Core.Path.{◌≡◌, refl, sym, ap, subst, ◌∙◌}
use mathlib.Core.Bool.{Bool, true, false, cond, ◌&&◌}
use mathlib.Core.List.{List, ◌++◌, map}
use native.Mathlib.Omega.{arith}
use borrow.Author.Tests.{ne_eqb, eq-eqb, leb-true}
use lib.Dec.{eqb, leb}
use lib.IntN.{ℤ}
use lib.ListN.{length, take, drop}
use lib.Seq.{take_all}
use Rattle.std.specs.Prelude.{Option, Some, None, is_some, Result, Ok, Err}
use Rattle.refusals.specs.declared.Refusal.{Refusal}
use Rattle.refusals.specs.declared.Refusal.TheVariants.{UnfitOutput, TooManyPoints, NotATrack}
use Rattle.refusals.specs.Numbered.{number_of}
use Rattle.refusals.specs.Refusals.{unfit_output, not_valid}
use Rattle.output.specs.declared.Written.{Written}
use Rattle.output.specs.Output.{written_as, buffer_as, fits}
use Rattle.record.specs.declared.Record.{Record}
use Rattle.valid.specs.Valid.{valid, Proper}
use Rattle.syntax.specs.Element.{payload}
use Rattle.syntax.specs.Wrapper.{wrapped_payload}
use Rattle.syntax.proofs.Largest.{no_payload_is_longer, largest-length}
use Rattle.reader.specs.declared.Reading.{Reading}
use Rattle.messages.proofs.Writing.{wrapped_length}
use Rattle.sei.specs.SeiUnit.{unit_bytes}
use Rattle.sei.proofs.Functions.{most_unit_bytes_lem}
use Rattle.plan.specs.declared.Layout.{Layout}
use Rattle.plan.specs.declared.entry.Entry.{Entry}
use Rattle.plan.specs.declared.Scanned.{Scanned}
use Rattle.plan.specs.Limit.{most_points}
use Rattle.plan.specs.Planning.{no_sources, named, layout_of, merged_sources, plan_of}
use Rattle.plan.specs.Seeking.{seek_of}
use Rattle.track.specs.declared.InForce.{InForce}
use Rattle.track.specs.declared.Joined.{Joined}
use Rattle.track.specs.Track.{padded, join_of, join_refusal, join_answer, lookup_answer}
use Rattle.track.specs.Inner.{look_from, scan_of, filled_by, filled_to, answer_of}
use Rattle.track.proofs.Together.{laid, answer_is, table_is}
use Rattle.track.proofs.Looking.{look_is}
use Rattle.reason.specs.Reason.{reason_text, longest, write_reason}
use Rattle.reason.proofs.Longest.{longest_bytes}
use Rattle.flat.specs.Flat.{flat_length, record_in}
use Rattle.flat.proofs.Named.{length_in}
use Rattle.tables.specs.Table.{table_in, found_in}
use Rattle.tables.proofs.Laws.{length_table, table_at}
use Rattle.pimlasut.specs.Boundary.{if_sized, after, is_record}

-- ---- lengths, and what stays

module _ {A : Type 0} (n : ℕ) (new old : A) where
  pub kept : (n ≡ 0 → ⊥) → old ≡ after n new old
  kept h = sym (ap (λ (t : Bool). cond t new old) (ne_eqb n 0 h))

  pub given : n ≡ 0 → new ≡ after n new old
  given h = sym (ap (λ (t : Bool). cond t new old) (eq-eqb n 0 h))

pub right : (t : Bool) (n : ℕ) → t ≡ true → n ≡ if_sized t n
right t n h = sym (ap (λ (u : Bool). cond u n unfit_output) h)

-- a row that is a record's is read whole
pub whole_row : (l : List ℤ) (n : ℕ) → length l ≡ n → take n (drop 0 l) ≡ l
whole_row l n e = take_all n l (omega arith)

-- ---- writing

abbrev answer_by : List ℕ → Bool → Bool → Written
answer_by bytes t u = cond t (cond u (record { result = 0; bytes = length bytes }) (record { result = unfit_output; bytes = 0 })) (record { result = not_valid; bytes = 0 })

abbrev buffer_by : List ℕ → List ℕ → Bool → List ℕ
buffer_by bytes out t = cond t (bytes ++ drop (length bytes) out) out

buffer_kept : (bytes : List ℕ) (good : Bool) (out : List ℕ) (n : ℕ) → n ≡ (written_as bytes good out).result → buffer_as bytes good out ≡ after n (buffer_as bytes good out) out
buffer_kept bytes good out n e = go good (fits bytes out) e
  where
    go : (t u : Bool) → n ≡ (answer_by bytes t u).result → buffer_by bytes out (t && u) ≡ after n (buffer_by bytes out (t && u)) out
    go true true h = given n (buffer_by bytes out true) out h
    go true false h = kept n out out (λ z. omega (arith, h, z))
    go false u h = kept n out out (λ z. omega (arith, h, z))

few_as : (bytes : List ℕ) (good : Bool) (out : List ℕ) → (good ≡ true → length bytes < 4294967296) → (written_as bytes good out).bytes < 4294967296
few_as bytes good out few = go good (fits bytes out) few
  where
    go : (t u : Bool) → (t ≡ true → length bytes < 4294967296) → (answer_by bytes t u).bytes < 4294967296
    go true true h = h refl
    go true false h = omega arith
    go false u h = omega arith

-- bytes of something, written, as they are given
module _ (bytes : List ℕ) (good : Bool) (out : List ℕ) {w : Written} (f : w ≡ written_as bytes good out) where
  given_as : (k : ℕ) {out' : List ℕ} {n k' : ℕ} → out' ≡ buffer_as bytes good out → n ≡ w.result → k' ≡ after n w.bytes k
      → (n ≡ (written_as bytes good out).result) × ((out' ≡ after n (buffer_as bytes good out) out) × (k' ≡ after n (written_as bytes good out).bytes k))
  given_as k {n = n} g h i =
      let result = h ∙ ap (λ (w : Written). w.result) f in
      (result, (g ∙ buffer_kept bytes good out n result, i ∙ ap (λ (w : Written). after n w.bytes k) f))

-- a coding of records whose code has few bytes, if the record is proper
abbrev pub FewBytes : (Record → List ℕ) → Type 0
FewBytes code = (r : Record) → Proper r → length (code r) < 4294967296

pub few_payload_bytes : FewBytes payload
few_payload_bytes r p = omega (arith, no_payload_is_longer r p, largest-length)

pub few_wrapped_bytes : FewBytes wrapped_payload
few_wrapped_bytes r p = omega (arith, wrapped_length r p.places p.valid_record)

pub few_unit_bytes : FewBytes unit_bytes
few_unit_bytes r p = omega (arith, most_unit_bytes_lem r p)

-- a row's record, written in a coding, as it is given
module _ (code : Record → List ℕ) (row : List ℤ) (out : List ℕ) (l : length row ≡ flat_length) {r : Record} (e : r ≡ record_in (take flat_length (drop 0 row)))
    {w : Written} (f : w ≡ written_as (code r) (valid r) out) where
  abbrev bytes : List ℕ
  bytes = code (record_in row)

  abbrev good : Bool
  good = valid (record_in row)

  whole : r ≡ record_in row
  whole = e ∙ ap record_in (whole_row row flat_length l)

  answer : w ≡ written_as bytes good out
  answer = f ∙ ap (λ (r : Record). written_as (code r) (valid r) out) whole

  pub few_written : FewBytes code → w.bytes < 4294967296
  few_written few =
      omega (arith, ap (λ (w : Written). w.bytes) answer, few_as bytes good out (λ v. few (record_in row) (record { places = length_in row; valid_record = v })))

  pub given_written : (k : ℕ) {out' : List ℕ} {n k' : ℕ} → out' ≡ buffer_as (code r) (valid r) out → n ≡ w.result → k' ≡ after n w.bytes k
      → (n ≡ if_sized (is_record row) (written_as bytes good out).result) × ((out' ≡ after n (buffer_as bytes good out) out) × (k' ≡ after n (written_as bytes good out).bytes k))
  given_written k g h i =
      let p = given_as bytes good out answer k (g ∙ ap (λ (r : Record). buffer_as (code r) (valid r) out) whole) h i in
      (p.0 ∙ right (is_record row) (written_as bytes good out).result (eq-eqb (length row) flat_length l), p.1)

-- ---- a reason

-- a reading's reason, written, as it is given
module _ (expected : Reading) (out : List ℕ) {q : Reading} (e : q ≡ expected) {w : Written} (f : w ≡ write_reason q out) where
  pub few_reason : length (reason_text q) ≤ length longest → w.bytes < 4294967296
  few_reason h = omega (arith, ap (λ (w : Written). w.bytes) f, few_as (reason_text q) true out (λ t. omega (arith, h, longest_bytes)))

-- ---- a lookup

-- what a search has found is what the lookup answers
module _ (l : List ℤ) (n : ℕ) (p : ℤ) where
  abbrev pub sought : Result (Option Entry) Refusal
  sought = seek_of (scan_of (table_in l) n) n p

  pub sought_refused : (r : Refusal) → sought ≡ Err r → number_of r ≡ (lookup_answer (table_in l) n p).result
  sought_refused r e = ap (λ (f : Result (Option Entry) Refusal). (look_from (table_in l) f).result) (sym e) ∙ ap (λ (a : InForce). a.result) (look_is (table_in l) n p)

  point_by : (f : Option Entry) → found_in l f ≡ (look_from (table_in l) (Ok f)).point
  point_by (Some entry) = sym (table_at l entry.at entry.in_table)
  point_by None = refl

  result_by : (f : Option Entry) → 0 ≡ (look_from (table_in l) (Ok f)).result
  result_by (Some entry) = refl
  result_by None = refl

  found_by : (f : Option Entry) → is_some f ≡ (look_from (table_in l) (Ok f)).found
  found_by (Some entry) = refl
  found_by None = refl

  pub sought_answer : (f : Option Entry) → sought ≡ Ok f → look_from (table_in l) (Ok f) ≡ lookup_answer (table_in l) n p
  sought_answer f e = ap (look_from (table_in l)) (sym e) ∙ look_is (table_in l) n p

  pub sought_result : (f : Option Entry) → sought ≡ Ok f → 0 ≡ (lookup_answer (table_in l) n p).result
  sought_result f e = result_by f ∙ ap (λ (a : InForce). a.result) (sought_answer f e)

  pub sought_point : (f : Option Entry) → sought ≡ Ok f → found_in l f ≡ (lookup_answer (table_in l) n p).point
  sought_point f e = point_by f ∙ ap (λ (a : InForce). a.point) (sought_answer f e)

  pub sought_found : (f : Option Entry) → sought ≡ Ok f → is_some f ≡ (lookup_answer (table_in l) n p).found
  sought_found f e = found_by f ∙ ap (λ (a : InForce). a.found) (sought_answer f e)

-- ---- a join

-- how many points a join leaves: none where it is refused
abbrev pub count_in : Result Layout Refusal → ℕ
count_in (Ok l) = l.count
count_in (Err r) = 0

fitting_count : (c : List ℕ) (t : Bool) → (t ≡ true → length c ≤ most_points)
    → count_in (cond t (Ok (record { count = length c; sources = map named (c ++ drop (length c) no_sources) })) (Err TooManyPoints)) ≤ most_points
fitting_count c true h = h refl
fitting_count c false h = omega arith

pub few_points : (s : Scanned) (n : ℕ) (t : Scanned) (m k : ℕ) → count_in (plan_of s n t m k) ≤ most_points
few_points s n t m k = go s.track t.track (eqb k most_points)
  where
    go : (u v w : Bool) → count_in (cond u (cond v (cond w (layout_of (merged_sources s.pictures n t.pictures m)) (Err UnfitOutput)) (Err NotATrack)) (Err NotATrack)) ≤ most_points
    go true true true = fitting_count (merged_sources s.pictures n t.pictures m) (leb (length (merged_sources s.pictures n t.pictures m)) most_points) (leb-true (length (merged_sources s.pictures n t.pictures m)) most_points)
    go true true false = omega arith
    go true false w = omega arith
    go false v w = omega arith

module _ (a : List ℤ) (n : ℕ) (b : List ℤ) (m : ℕ) where
  abbrev pub planned : Result Layout Refusal
  planned = laid (table_in a) n (table_in b) m most_points

  abbrev pub expected : Joined
  expected = join_answer (table_in a) n (table_in b) m most_points

  pub planned_answer : (o : Result Layout Refusal) → planned ≡ o → answer_of o ≡ expected
  planned_answer o e = ap answer_of (sym e) ∙ answer_is (table_in a) n (table_in b) m most_points

  pub planned_refused : (r : Refusal) → planned ≡ Err r → number_of r ≡ expected.result
  planned_refused r e = ap (λ (j : Joined). j.result) (planned_answer (Err r) e)

  pub planned_result : (l : Layout) → planned ≡ Ok l → 0 ≡ expected.result
  planned_result l e = ap (λ (j : Joined). j.result) (planned_answer (Ok l) e)

  pub planned_count : (l : Layout) → planned ≡ Ok l → l.count ≡ expected.count
  planned_count l e = ap (λ (j : Joined). j.count) (planned_answer (Ok l) e)

  -- the entries are the join's
  pub planned_table : (l : Layout) → planned ≡ Ok l → filled_by (table_in a) (table_in b) l ≡ padded (join_of (table_in a) n (table_in b) m)
  planned_table l e =
      let t = table_in a in
      let J = join_of (table_in a) n (table_in b) m in
      let whole =
      subst (λ (j : ℕ). filled_to t (table_in a) (table_in b) (laid (table_in a) n (table_in b) m j) ≡ cond (eqb (join_refusal (table_in a) n (table_in b) m j) 0) (padded J) t) (length_table a)
      (table_is (table_in a) n (table_in b) m t) in
      ap (filled_to t (table_in a) (table_in b)) (sym e) ∙ whole ∙ ap (λ (k : ℕ). cond (eqb k 0) (padded J) t) (sym (planned_result l e))
