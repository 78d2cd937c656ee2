-- A listing tells the reading, but for the number of blocks passed over, which has no line: two readings that the reader gives have one
-- listing only if they have one result, one record and one number of bits read.
use Prim.Native.Nat.{ℕ, ◌+◌}
use mathlib.Core.Path.{◌≡◌, refl, ap, sym, ◌∙◌}
use mathlib.Core.List.{List, [], ◌∷◌, ◌++◌, map}
use mathlib.Core.Bool.{Bool, true, false, cond}
use native.Mathlib.Omega.{arith}
use borrow.Author.Tests.{eqb-true, eqb-false, eq-eqb}
use lib.Dec.{eqb}
use lib.IntN.{ℤ, pos}
use lib.ListN.{length, get_or, drop}
use Rattle.tree.specs.Bits.{bit, bits_of, Bytes}
use Rattle.tree.specs.Reading.{Out, ok, no}
use Rattle.tree.specs.Coding.{natural}
use Rattle.text.specs.Text.{ascii, Line}
use Rattle.text.specs.Told.{without, plain_keys}
use Rattle.text.proofs.Different.{one_text}
use Rattle.record.specs.Blocks.{empty_record, blocks}
use Rattle.record.specs.declared.Block.{Block}
use Rattle.record.specs.declared.Block.TheVariants.{Nothing, Level1, Level2, Level5}
use Rattle.record.specs.declared.Record.{Record}
use Rattle.record.specs.Level.{level}
use Rattle.record.specs.Name.{Name}
use Rattle.valid.specs.Valid.{Proper}
use Rattle.valid.proofs.Clauses.{empty_is_valid}
use Rattle.valid.proofs.Made.{valid_is_made}
use Rattle.syntax.specs.Data.{block_of, Data, record_from, bare_data}
use Rattle.syntax.proofs.Exact.{accepted_is_a_payload}
use Rattle.syntax.proofs.Records.{the_record_is_valid}
use Rattle.reader.specs.declared.Reading.{Reading}
use Rattle.reader.specs.Reading.{reading_of}
use Rattle.listing.specs.Listing.{field_lines, block_lines, blocks_lines, accepted_lines, refused_lines, lines, listing}

-- the keys of a listing are plain
plain_blocks : (bs : List Block) → plain_keys (blocks_lines bs) ≡ true
unfolding plain_keys ascii without blocks_lines field_lines
plain_blocks [] = refl
plain_blocks (Nothing ∷ bs) = plain_blocks bs
plain_blocks (Level1 min max avg ∷ bs) = plain_blocks bs
plain_blocks (Level2 t s o p c g m ∷ bs) = plain_blocks bs
plain_blocks (Level5 l r t b ∷ bs) = plain_blocks bs

plain_lines : (q : Reading) → plain_keys (lines q) ≡ true
unfolding plain_keys ascii without
plain_lines q = go (eqb q.result 0)
  where
    go : (t : Bool) → plain_keys (cond t (accepted_lines q.«record» q.bits) (refused_lines q.result)) ≡ true
    go true = plain_blocks (blocks q.«record»)
    go false = refl

-- ---- readings

-- the value of the line at place k
abbrev value_at : ℕ → List Line → ℤ
value_at k ls = get_or (map (λ l. l.value) ls) k (pos 0)

-- the first line of a block has its level, which says how many lines of fields follow: the block, and what stands behind it
abbrev first_block : List Line → Block
first_block ls = block_of (natural (value_at 0 ls)) (map (λ l. l.value) (drop 1 ls))

abbrev other_lines : List Line → List Line
other_lines ls = drop (1 + length (level (natural (value_at 0 ls))).fields) ls

first_block_lem : (b : Block) (ls : List Line) → first_block (block_lines b ++ ls) ≡ b
unfolding field_lines
first_block_lem Nothing ls = refl
first_block_lem (Level1 min max avg) ls = refl
first_block_lem (Level2 t s o p c g m) ls = refl
first_block_lem (Level5 l r t b) ls = refl

other-lines : (b : Block) (ls : List Line) → other_lines (block_lines b ++ ls) ≡ ls
unfolding field_lines
other-lines Nothing ls = refl
other-lines (Level1 min max avg) ls = refl
other-lines (Level2 t s o p c g m) ls = refl
other-lines (Level5 l r t b) ls = refl

-- lines of blocks are those of one list of blocks
one_list_of_blocks : (bs cs : List Block) → blocks_lines bs ≡ blocks_lines cs → bs ≡ cs
unfolding blocks_lines
one_list_of_blocks [] [] e = refl
one_list_of_blocks [] (c ∷ cs) e = cc
one_list_of_blocks (b ∷ bs) [] e = cc
one_list_of_blocks (b ∷ bs) (c ∷ cs) e =
    let x : b ≡ c = sym (first_block_lem b (blocks_lines bs)) ∙ ap first_block e ∙ first_block_lem c (blocks_lines cs) in
    let y : blocks_lines bs ≡ blocks_lines cs = sym (other-lines b (blocks_lines bs)) ∙ ap other_lines e ∙ other-lines c (blocks_lines cs) in
    cc (one_list_of_blocks bs cs y)

-- a flag's number is that of one flag
one_flag : (f g : Bool) → bit f ≡ bit g → f ≡ g
one_flag true true e = refl
one_flag true false e = absurd (omega arith)
one_flag false true e = absurd (omega arith)
one_flag false false e = refl

-- lines of an accepted reading are those of one valid record, with one number of bits read
one_record : (r s : Record) → Proper r → Proper s → {m n : ℕ} → accepted_lines r m ≡ accepted_lines s n → (r ≡ s) × (m ≡ n)
one_record r s p q e =
    let f = one_flag r.refresh s.refresh (ap (λ ls. natural (value_at 1 ls)) e) in
    let bs = one_list_of_blocks (blocks r) (blocks s) (ap (drop 4) e) in (
      valid_is_made r p.places p.valid_record ∙ rw (f, bs) (sym (valid_is_made s q.places q.valid_record)),
      ap (λ ls. natural (value_at 2 ls)) e,
    )

-- what the reader gives: a record that is valid, or a refusal beside the empty record and no bits (01, The record)
pub record Given (q : Reading) : Type 0 where
  pub accepted : q.result ≡ 0 → Proper q.«record»
  pub refused : (q.result ≡ 0 → ⊥) → (q.bits ≡ 0) × (q.«record» ≡ empty_record)

-- two readings with all that a listing shows in common
pub record ShownAlike (q p : Reading) : Type 0 where
  pub result : q.result ≡ p.result
  pub bits : q.bits ≡ p.bits
  pub «record» : q.«record» ≡ p.«record»

-- every valid record is given
pub accepted_is_given : (q : Reading) → q.result ≡ 0 → Proper q.«record» → Given q
accepted_is_given q e p = record { accepted = λ z. p; refused = λ f. absurd (f e) }

-- an answer is given, if the record of what it accepts is valid
pub answer_is_given : (o : Out Name Data) → ((d : Data) (n : ℕ) → o ≡ ok d n → Proper (record_from d)) → Given (reading_of o)
answer_is_given (ok d n) h = accepted_is_given (reading_of (ok d n)) refl (h d n refl)
answer_is_given (no q) h = record { accepted = λ e. record { places = refl; valid_record = empty_is_valid }; refused = λ f. (refl, refl) }

-- so is every answer to data
pub data_is_given : (s : List ℕ) → Bytes s → Given (reading_of (bare_data (bits_of s)))
data_is_given s h = answer_is_given (bare_data (bits_of s)) (λ d n e. the_record_is_valid d (accepted_is_a_payload s h d n e).0)

-- the first line is the result's
first_line : (q : Reading) → value_at 0 (lines q) ≡ pos q.result
first_line q = go (eqb q.result 0) refl
  where
    go : (t : Bool) → eqb q.result 0 ≡ t → value_at 0 (cond t (accepted_lines q.«record» q.bits) (refused_lines q.result)) ≡ pos q.result
    go true e = ap pos (sym (eqb-true q.result 0 e))
    go false e = refl

-- lines are those of one reading
one_reading : (q p : Reading) → Given q → Given p → lines q ≡ lines p → ShownAlike q p
one_reading q p g h e = go (eqb q.result 0) refl
  where
    r : q.result ≡ p.result
    r = ap natural (sym (first_line q) ∙ ap (value_at 0) e ∙ first_line p)

    go : (t : Bool) → eqb q.result 0 ≡ t → ShownAlike q p
    go true z =
        let a = eqb-true q.result 0 z in
        let b = sym r ∙ a in
        let y : eqb p.result 0 ≡ true = eq-eqb p.result 0 b in
        let same : accepted_lines q.«record» q.bits ≡ accepted_lines p.«record» p.bits = rw (z, y) at e in
        let s = one_record q.«record» p.«record» (g.accepted a) (h.accepted b) same in
        record { result = r; bits = s.1; «record» = s.0 }
    go false z =
        let f = eqb-false q.result 0 z in
        let x = g.refused f in
        let y = h.refused (λ b. f (r ∙ b)) in
        record { result = r; bits = x.0 ∙ sym y.0; «record» = x.1 ∙ sym y.1 }

-- THE THEOREM. Two readings that the reader gives, accepted or refused, have different listings, unless they differ in nothing but the
-- number of blocks passed over, or, both refused, in where.
pub one_listing_one_reading : (q p : Reading) → Given q → Given p → listing q ≡ listing p → ShownAlike q p
unfolding listing
one_listing_one_reading q p g h e = one_reading q p g h (one_text (lines q) (lines p) (plain_lines q) (plain_lines p) e)
