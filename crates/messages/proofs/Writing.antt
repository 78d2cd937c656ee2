-- Our message is written: its type and size before the wrapped payload, and the trailing byte behind it.
use Prim.Native.Nat.{ℕ, suc, ◌+◌, ◌-◌, ◌<◌, ◌≤◌}
use mathlib.Core.Path.{◌≡◌, refl, ap, sym, ◌∙◌}
use mathlib.Core.List.{List, [], ◌∷◌, ◌++◌, append_assoc, append-nil}
use mathlib.Core.Bool.{Bool, true, false}
use native.Mathlib.Omega.{arith}
use native.Mathlib.Numerals.{add-one}
use borrow.Author.Tests.{leb-true, leb-false}
use borrow.Rule.Slice.PartMut.{put_mid}
use lib.ListN.{length, take, drop, set, get_or, length-append, length-drop, take-append-drop}
use lib.Seq.{drop-append-le, drop-cons, drop-drop, length-take-le, set_at}
use Rattle.std.specs.Prelude.{Ok, Err}
use Rattle.refusals.specs.declared.Refusal.{Refusal}
use Rattle.tree.proofs.Truth.{clash}
use Rattle.output.specs.Output.{fits, outcome_as, buffer_as}
use Rattle.output.proofs.Output.{ends_done, ends_short, ends_bad}
use Rattle.record.specs.declared.Record.{Record}
use Rattle.record.specs.Blocks.{most_blocks}
use Rattle.valid.specs.Valid.{valid}
use Rattle.syntax.specs.Element.{payload}
use Rattle.syntax.specs.Wrapper.{wrapper_bytes, wrapped_payload}
use Rattle.syntax.proofs.Largest.{largest-length, no_payload_is_longer}
use Rattle.wrapper.specs.Wrapper.{without_room}
use Rattle.rbsp.specs.Message.{message, chained, all_messages, trailing, sei_rbsp, registered}
use Rattle.messages.specs.Answer.{message_rbsp}
use Rattle.rbsp.proofs.Laws.{gathered}

-- ---- the bytes of our message

-- a number below 255 is one byte
short_chain : (n : ℕ) → n < 255 → chained n ≡ n ∷ []
short_chain n h = gathered 0 n n (omega arith) (omega arith)

-- the bytes, one by one
abbrev pub rbsp_of : List ℕ → List ℕ
rbsp_of w = 4 ∷ length w ∷ (w ++ trailing)

-- one message of type 4 with fewer than 255 bytes
rbsp_of_one : (w : List ℕ) → length w < 255 → sei_rbsp (message registered w ∷ []) ≡ rbsp_of w
unfolding all_messages
rbsp_of_one w h = rw (short_chain 4 (omega arith), short_chain (length w) h, append-nil w) refl

-- a valid record's wrapped payload has at most 232 bytes
pub wrapped_length : (r : Record) → length r.places ≡ most_blocks → valid r ≡ true → length (wrapped_payload r) ≤ 232
wrapped_length r p v = omega (arith, length-append wrapper_bytes (payload r), no_payload_is_longer r record { places = p; valid_record = v }, largest-length)

-- and its message has its type and its size in a byte each
pub rbsp_is : (r : Record) → length r.places ≡ most_blocks → valid r ≡ true → message_rbsp r ≡ rbsp_of (wrapped_payload r)
rbsp_is r p v = rbsp_of_one (wrapped_payload r) (omega (arith, wrapped_length r p v))

-- ---- the buffer

-- the part that is lent for the wrapped payload: all but the first two bytes and the last
abbrev pub part_of : List ℕ → List ℕ
part_of out = take (length out - 1 - 2) (drop 2 out)

-- it is three bytes shorter than the buffer
length_part : (out : List ℕ) → 3 ≤ length out → length (part_of out) ≡ length out - 3
length_part out h = length-take-le (length out - 1 - 2) (drop 2 out) (omega (arith, length-drop 2 out)) ∙ omega arith

-- what was written into the part lies before the rest of the buffer
rest_is : (bytes rest : List ℕ) (k : ℕ) → length bytes ≤ k → k ≤ length rest → (bytes ++ drop (length bytes) (take k rest)) ++ drop k rest ≡ bytes ++ drop (length bytes) rest
rest_is bytes rest k h l =
    let m : length bytes ≤ length (take k rest) = omega (arith, length-take-le k rest l) in
    append_assoc bytes (drop (length bytes) (take k rest)) (drop k rest)
    ∙ ap (λ (x : List ℕ). bytes ++ x) (sym (drop-append-le (length bytes) (take k rest) (drop k rest) m) ∙ ap (drop (length bytes)) (take-append-drop k rest))

-- the trailing byte behind the payload
trailed : (a b : ℕ) (bytes rest : List ℕ) → length bytes < length rest → set (a ∷ b ∷ (bytes ++ drop (length bytes) rest)) (length bytes + 2) 0x80 ≡ (a ∷ b ∷ (bytes ++ trailing)) ++ drop (length bytes + 1) rest
trailed a b bytes rest h =
    let n = length bytes in
    rw (drop-cons rest n 0 h, add-one n) (set_at (a ∷ b ∷ bytes) (get_or rest n 0) (drop (suc n) rest) 0x80 (n + 2) (omega arith) ∙ sym (append_assoc (a ∷ b ∷ bytes) trailing (drop (suc n) rest)))

-- the payload in its part, and then the type, the size and the trailing byte, make the whole
stored : (bytes out : List ℕ) → length bytes + 3 ≤ length out
    → set (set (set (put_mid 2 (length out - 1 - 2) out (bytes ++ drop (length bytes) (part_of out))) 0 4) 1 (length bytes)) (length bytes + 2) 0x80 ≡ rbsp_of bytes ++ drop (length bytes + 3) out
stored bytes [] h = absurd (omega arith)
stored bytes (a ∷ []) h = absurd (omega arith)
stored bytes (a ∷ b ∷ rest) h =
    let n = length bytes in
    let out = a ∷ b ∷ rest in
    let k = length out - 1 - 2 in
    let e : 2 + (n + 1) ≡ n + 3 = omega arith in
    ap (λ (l : List ℕ). set (4 ∷ n ∷ l) (n + 2) 0x80) (rest_is bytes rest k (omega arith) (omega arith))
    ∙ trailed 4 n bytes rest (omega arith)
    ∙ ap (λ (l : List ℕ). rbsp_of bytes ++ l) (drop-drop (n + 1) 2 out ∙ ap (λ (m : ℕ). drop m out) e)

-- ---- the answers, for a payload whose message is `all` where it is valid

module _ (all bytes : List ℕ) (good : Bool) (is : good ≡ true → all ≡ rbsp_of bytes) where
  -- three bytes more than the payload
  length-all : good ≡ true → length all ≡ length bytes + 3
  length-all v = omega (arith, ap (length {A = ℕ}) (is v), length-append bytes trailing)

  -- without room for these three
  pub no_room : (out : List ℕ) → length out < 3 → (Err (without_room good) ≡ outcome_as all good out) × (out ≡ buffer_as all good out)
  no_room out h = go good refl
    where
      go : (t : Bool) → good ≡ t → (Err (without_room good) ≡ outcome_as all good out) × (out ≡ buffer_as all good out)
      go true v = let x = ends_short all good out v (omega (arith, length-all v)) in (ap (λ (t : Bool). Err (without_room t)) v ∙ x.0, x.1)
      go false v = let x = ends_bad all good out v in (ap (λ (t : Bool). Err (without_room t)) v ∙ x.0, x.1)

  module _ (out : List ℕ) (h : 3 ≤ length out) where
    -- where the payload is refused, so is the message, and no byte changes
    pub refused_within : (r : Refusal) → Err r ≡ outcome_as bytes good (part_of out) → (Err r ≡ outcome_as all good out) × (buffer_as bytes good (part_of out) ≡ part_of out) × (out ≡ buffer_as all good out)
    refused_within r e = go good refl (fits bytes (part_of out)) refl
      where
        go : (t : Bool) → good ≡ t → (u : Bool) → fits bytes (part_of out) ≡ u → (Err r ≡ outcome_as all good out) × (buffer_as bytes good (part_of out) ≡ part_of out) × (out ≡ buffer_as all good out)
        go true v true f =
            let x = ends_done bytes good (part_of out) v (leb-true (length bytes) (length (part_of out)) f) in
            let a = e ∙ sym x.0 in
            let z : ◌≡◌ {A = ℕ} 0 1 = cc in clash z
        go true v false f =
            let l = leb-false (length bytes) (length (part_of out)) f in
            let x = ends_short bytes good (part_of out) v l in
            let y = ends_short all good out v (omega (arith, l, length_part out h, length-all v)) in
            (e ∙ sym x.0 ∙ y.0, sym x.1, y.1)
        go false v u f =
            let x = ends_bad bytes good (part_of out) v in
            let y = ends_bad all good out v in
            (e ∙ sym x.0 ∙ y.0, sym x.1, y.1)

    module _ (n : ℕ) (e : Ok n ≡ outcome_as bytes good (part_of out)) where
      -- where it is written, it was valid, and it fits with the three bytes
      pub written_within : (good ≡ true) × (n ≡ length bytes) × (length bytes + 3 ≤ length out)
      written_within = go good refl (fits bytes (part_of out)) refl
        where
          go : (t : Bool) → good ≡ t → (u : Bool) → fits bytes (part_of out) ≡ u → (good ≡ true) × (n ≡ length bytes) × (length bytes + 3 ≤ length out)
          go true v true f =
              let l = leb-true (length bytes) (length (part_of out)) f in
              let a = e ∙ sym (ends_done bytes good (part_of out) v l).0 in
              (v, cc, omega (arith, l, length_part out h))
          go true v false f =
              let a = e ∙ sym (ends_short bytes good (part_of out) v (leb-false (length bytes) (length (part_of out)) f)).0 in
              let z : ◌≡◌ {A = ℕ} 0 1 = cc in clash z
          go false v u f =
              let a = e ∙ sym (ends_bad bytes good (part_of out) v).0 in
              let z : ◌≡◌ {A = ℕ} 0 1 = cc in clash z

      -- and the stores make the message of it
      pub message_stored : (p : List ℕ) → p ≡ buffer_as bytes good (part_of out)
          → (Ok (n + 3) ≡ outcome_as all good out)
          × (set (set (set (put_mid 2 (length out - 1 - 2) out p) 0 4) 1 n) (n + 2) 0x80 ≡ buffer_as all good out)
      message_stored p q =
          let x = written_within in
          let v = x.0 in
          let a = length-all v in
          let y = ends_done bytes good (part_of out) v (omega (arith, x.2, length_part out h)) in
          let z = ends_done all good out v (omega (arith, x.2, a)) in
          let c : n + 3 ≡ length all = omega (arith, x.1, a) in
          let m : length bytes + 3 ≡ length all = omega (arith, a) in (
            ap (λ (k : ℕ). Ok k) c ∙ z.0,
            ap (λ (k : ℕ). set (set (set (put_mid 2 (length out - 1 - 2) out p) 0 4) 1 k) (k + 2) 0x80) x.1
                ∙ ap (λ (l : List ℕ). set (set (set (put_mid 2 (length out - 1 - 2) out l) 0 4) 1 (length bytes)) (length bytes + 2) 0x80) (q ∙ sym y.1)
                ∙ stored bytes out x.2
                ∙ ap (λ (l : List ℕ). l ++ drop (length bytes + 3) out) (sym (is v))
                ∙ ap (λ (k : ℕ). all ++ drop k out) m
                ∙ z.1,
          )
