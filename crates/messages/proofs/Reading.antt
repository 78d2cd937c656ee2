-- Laws by which reading messages meets its definitions.
use Prim.Native.Nat.{ℕ, zero, suc, ◌+◌, ◌*◌, ◌-◌, ◌<◌, ◌≤◌}
use mathlib.Core.Path.{◌≡◌, refl, ap, sym, ◌∙◌}
use mathlib.Core.List.{List, [], ◌∷◌}
use mathlib.Core.Bool.{Bool, true, false, cond, not, ◌&&◌, and-true, and-false}
use mathlib.Core.Option.{Option as Maybe, none, some}
use native.Mathlib.Omega.{arith}
use borrow.Author.Tests.{ltb-true, ltb-false, lt-ltb, le-ltb, leb-true, le-leb, lt-leb}
use lib.Dec.{eqb, leb, ltb}
use lib.ListN.{length, get_or, take, drop, length-drop}
use lib.Seq.{drop-drop}
use Rattle.std.specs.Prelude.{Option, None, Some, Result, Ok, Err}
use Rattle.std.specs.List.{position_or_len}
use Rattle.std.specs.Option.{ok_or}
use Rattle.std.specs.Borrow.{Bor}
use Rattle.refusals.specs.declared.Refusal.{Refusal}
use Rattle.refusals.specs.declared.Refusal.TheVariants.{BrokenMessages, NoneOfOurs}
use Rattle.tree.proofs.Truth.{clash}
use Rattle.syntax.specs.Wrapper.{wrapper_bytes}
use Rattle.wrapper.proofs.Laws.{too_short}
use Rattle.rbsp.specs.Message.{Message, message, ff_byte, Chain, counts, past, further, chain, Frame, frame, no_frame, sized, typed, frame_of, is_end, ahead, messages_within, messages_in, registered, is_ours, first_of_ours}
use Rattle.messages.specs.Answer.{number_in, message_at, message_read, first_read, or_ours, content_found, first_content, ours_in}

-- ---- a type or a size

-- the byte behind the ff_bytes
abbrev pub is_last : ℕ → Bool
is_last b = not (eqb b ff_byte)

-- where it is, if it is there
abbrev placed : ℕ → ℕ → Option ℕ
placed n length = cond (ltb n length) (Some n) None

abbrev pub last_place : List ℕ → Option ℕ
last_place s = placed (position_or_len is_last s) (length s)

-- what is counted with it, and how many bytes
abbrev pub counted : List ℕ → Option ℕ → Chain
counted s None = past
counted s (Some n) = counts (255 * n + get_or s n 0) (n + 1)

same_counts : (v w n m : ℕ) → v ≡ w → n ≡ m → counts v n ≡ counts w m
same_counts v w n m e f = rw (e, f)

-- with an ff_byte before it
counted_more : (b n : ℕ) (s : List ℕ) (t : Bool) → ltb n (length s) ≡ t → further (counted s (placed n (length s))) ≡ counted (b ∷ s) (placed (suc n) (suc (length s)))
counted_more b n s true e =
    let h = ltb-true n (length s) e in
    rw (lt-ltb (suc n) (suc (length s)) (omega arith), e) (same_counts _ _ _ _ (omega arith) (omega arith))
counted_more b n s false e =
    let h = ltb-false n (length s) e in
    rw (le-ltb (suc n) (suc (length s)) (omega arith), e)

pub chain_counted : (s : List ℕ) → chain s ≡ counted s (last_place s)
unfolding chain
chain_counted [] = refl
chain_counted (b ∷ s) = go (eqb b ff_byte) (chain_counted s)
  where
    n : ℕ
    n = position_or_len is_last s

    go : (t : Bool) → chain s ≡ counted s (last_place s) → cond t (further (chain s)) (counts b 1) ≡ counted (b ∷ s) (placed (cond (not (not t)) (1 + n) 0) (suc (length s)))
    go true e =
        let one : 1 + n ≡ suc n = omega arith in
        rw (e, one) (counted_more b n s (ltb n (length s)) refl)
    go false e = rw (lt-ltb 0 (suc (length s)) (omega arith)) (same_counts b (255 * 0 + b) 1 (0 + 1) (omega arith) (omega arith))

module _ (s : List ℕ) where
  -- the bytes end within it
  pub number_none : None ≡ last_place s → None ≡ number_in s (chain s)
  number_none e = rw (chain_counted s, ← e)

  -- it ends with the byte at place n
  pub number_some : (n : ℕ) → Some n ≡ last_place s → (n < length s) × (Some (255 * n + get_or s n 0, drop (n + 1) s) ≡ number_in s (chain s))
  number_some n e = (within (ltb (position_or_len is_last s) (length s)) refl e, rw (chain_counted s, ← e))
    where
      within : (t : Bool) → ltb (position_or_len is_last s) (length s) ≡ t → Some n ≡ cond t (Some (position_or_len is_last s)) None → n < length s
      within true p q =
          let a : n ≡ position_or_len is_last s = cc in
          let h = ltb-true (position_or_len is_last s) (length s) p in
          omega arith
      within false p q = let z : ◌≡◌ {A = ℕ} 0 1 = cc in clash z

-- ---- a message

-- what is there of a value that is there
abbrev there : {A : Type 0} → A → Option A → A
there d None = d
there d (Some x) = x

-- which number was read, from how many bytes
number_is : (s : List ℕ) (v : ℕ) (rest : List ℕ) (c : Chain) → Some (v, rest) ≡ number_in s c → (n : ℕ) × (c ≡ counts v n) × (rest ≡ drop n s)
number_is s v rest past e = let z : ◌≡◌ {A = ℕ} 0 1 = cc in clash z
number_is s v rest (counts w n) e =
    let a : (w, drop n s) ≡ (v, rest) = sym (ap (there (v, rest)) e) in
    (n, ap (λ (x : ℕ × List ℕ). counts x.0 n) a, sym (ap (λ (x : ℕ × List ℕ). x.1) a))

-- and which none
pub number_past : (s : List ℕ) (c : Chain) → None ≡ number_in s c → c ≡ past
number_past s past e = refl
number_past s (counts w n) e = let z : ◌≡◌ {A = ℕ} 0 1 = cc in clash z

-- a type or a size has at least one byte, and all of its bytes are there
chain_within : (s : List ℕ) (v n : ℕ) → chain s ≡ counts v n → (1 ≤ n) × (n ≤ length s)
unfolding chain
chain_within [] v n e = let z : ◌≡◌ {A = ℕ} 0 1 = cc in clash z
chain_within (b ∷ s) v n e = go (eqb b ff_byte) (chain s) (chain_within s) e
  where
    go : (f : Bool) (c : Chain) → ((w m : ℕ) → c ≡ counts w m → (1 ≤ m) × (m ≤ length s)) → cond f (further c) (counts b 1) ≡ counts v n → (1 ≤ n) × (n ≤ suc (length s))
    go true past h q = let z : ◌≡◌ {A = ℕ} 0 1 = cc in clash z
    go true (counts w m) h q =
        let a : suc m ≡ n = cc in
        let k = h w m refl in
        omega arith
    go false d h q =
        let a : 1 ≡ n = cc in
        omega arith

-- a message, by its type and its size
framed : (s rest : List ℕ) (t n size m : ℕ) → chain s ≡ counts t n → rest ≡ drop n s → chain rest ≡ counts size m
    → frame_of s ≡ cond (leb (n + m + size) (length s)) (frame t (n + m) size) no_frame
unfolding frame_of
framed s rest t n size m p q r = rw (p, ← q, r)

module _ (s left : List ℕ) (t head size : ℕ) (within : head ≤ length s) (is : left ≡ drop head s) (f : frame_of s ≡ cond (leb (head + size) (length s)) (frame t head size) no_frame) where
  length_left : length left ≡ length s - head
  length_left = ap (length {A = ℕ}) is ∙ length-drop head s

  -- fewer bytes are left than its size says
  content_cut : length left < size → None ≡ message_at s (frame_of s)
  content_cut h = let l = length_left in rw (f, lt-leb (head + size) (length s) (omega arith))

  -- or all are there
  content_whole : size ≤ length left → Some (t, take size left, drop size left) ≡ message_at s (frame_of s)
  content_whole h =
      let l = length_left in
      rw (f, le-leb (head + size) (length s) (omega arith), ← drop-drop size head s)
      (ap (λ (l : List ℕ). Some (t, take size l, drop size l)) is)

module _ (s : List ℕ) where
  -- without a type there is no message
  pub no_type : None ≡ number_in s (chain s) → None ≡ message_at s (frame_of s)
  unfolding frame_of
  no_type e = rw (number_past s (chain s) e)

  module _ (t : ℕ) (rest : List ℕ) (e : Some (t, rest) ≡ number_in s (chain s)) where
    abbrev type_is : (n : ℕ) × (chain s ≡ counts t n) × (rest ≡ drop n s)
    type_is = number_is s t rest (chain s) e

    -- nor without a size
    pub no_size : None ≡ number_in rest (chain rest) → None ≡ message_at s (frame_of s)
    unfolding frame_of
    no_size f = without type_is.0 type_is.1 type_is.2 (number_past rest (chain rest) f)
      where
        without : (n : ℕ) → chain s ≡ counts t n → rest ≡ drop n s → chain rest ≡ past → None ≡ message_at s (frame_of s)
        without n p q r = rw (p, ← q, r)

    module _ (size : ℕ) (left : List ℕ) (f : Some (size, left) ≡ number_in rest (chain rest)) where
      abbrev size_is : (n : ℕ) × (chain rest ≡ counts size n) × (left ≡ drop n rest)
      size_is = number_is rest size left (chain rest) f

      abbrev head : ℕ
      head = type_is.0 + size_is.0

      head_within : head ≤ length s
      head_within =
          let a = chain_within s t type_is.0 type_is.1 in
          let b = chain_within rest size size_is.0 size_is.1 in
          omega (arith, a.1, b.1, ap (length {A = ℕ}) type_is.2, length-drop type_is.0 s)

      left_is : left ≡ drop head s
      left_is = size_is.2 ∙ ap (drop size_is.0) type_is.2 ∙ drop-drop size_is.0 type_is.0 s

      message_framed : frame_of s ≡ cond (leb (head + size) (length s)) (frame t head size) no_frame
      message_framed = framed s rest t type_is.0 size size_is.0 type_is.1 type_is.2 size_is.1

      -- the content runs past the end
      pub cut : length left < size → None ≡ message_at s (frame_of s)
      cut = content_cut s left t head size head_within left_is message_framed

      -- or it is there
      pub whole : size ≤ length left → Some (t, take size left, drop size left) ≡ message_at s (frame_of s)
      whole = content_whole s left t head size head_within left_is message_framed

-- a message has a byte before its content, and its content is there
frame_within : (s : List ℕ) (t head size : ℕ) → frame_of s ≡ frame t head size → (1 ≤ head) × (head + size ≤ length s)
unfolding frame_of
frame_within s t head size e = by_type (chain s) refl e
  where
    by_length : (u n m l : ℕ) (b : Bool) → 1 ≤ n → leb (n + m + l) (length s) ≡ b → cond b (frame u (n + m) l) no_frame ≡ frame t head size → (1 ≤ head) × (head + size ≤ length s)
    by_length u n m l true h p q =
        let a : n + m ≡ head = cc in
        let b : l ≡ size = cc in
        let k = leb-true (n + m + l) (length s) p in
        omega arith
    by_length u n m l false h p q = let z : ◌≡◌ {A = ℕ} 0 1 = cc in clash z

    by_size : (u n : ℕ) (d : Chain) → 1 ≤ n → sized u n d s ≡ frame t head size → (1 ≤ head) × (head + size ≤ length s)
    by_size u n past h q = let z : ◌≡◌ {A = ℕ} 0 1 = cc in clash z
    by_size u n (counts l m) h q = by_length u n m l (leb (n + m + l) (length s)) h refl q

    by_type : (d : Chain) → chain s ≡ d → typed d s ≡ frame t head size → (1 ≤ head) × (head + size ≤ length s)
    by_type past p q = let z : ◌≡◌ {A = ℕ} 0 1 = cc in clash z
    by_type (counts u n) p q = by_size u n (chain (drop n s)) (chain_within s u n p).0 q

-- ---- ours

-- one of another type is not, nor one that is shorter than our bytes
pub not_ours : (t : ℕ) (c : List ℕ) → eqb t registered && not (ltb (length c) 8) ≡ false → false ≡ is_ours (message t c)
not_ours t c e = go (ltb (length c) 8) refl e
  where
    go : (u : Bool) → ltb (length c) 8 ≡ u → eqb t registered && not u ≡ false → false ≡ is_ours (message t c)
    go true p q = rw (← too_short wrapper_bytes c (ltb-true (length c) 8 p)) (sym (and-false (eqb t registered)))
    go false p q = rw (sym (and-true (eqb t registered)) ∙ q)

-- ---- all messages

-- which message was read
message_is : (s : List ℕ) (t : ℕ) (c b : List ℕ) (x : Frame) → Some (t, c, b) ≡ message_at s x → (head size : ℕ) × (x ≡ frame t head size) × (c ≡ take size (drop head s)) × (b ≡ drop (head + size) s)
message_is s t c b no_frame e = let z : ◌≡◌ {A = ℕ} 0 1 = cc in clash z
message_is s t c b (frame u head size) e =
    let a : (u, take size (drop head s), drop (head + size) s) ≡ (t, c, b) = sym (ap (there (t, c, b)) e) in
    (head, size, ap (λ (x : ℕ × List ℕ × List ℕ). frame x.0 head size) a, sym (ap (λ (x : ℕ × List ℕ × List ℕ). x.1) a), sym (ap (λ (x : ℕ × List ℕ × List ℕ). x.2) a))

-- and which none
message_none : (s : List ℕ) (x : Frame) → None ≡ message_at s x → x ≡ no_frame
message_none s no_frame e = refl
message_none s (frame u head size) e = let z : ◌≡◌ {A = ℕ} 0 1 = cc in clash z

-- what is no message is no messages
within_broken : (most : ℕ) (s : List ℕ) → frame_of s ≡ no_frame → messages_within most s ≡ none
unfolding messages_within
within_broken zero s e = refl
within_broken (suc most) s e = rw e refl

-- a message, and those behind it
within_more : (most : ℕ) (s : List ℕ) (t head size : ℕ) (c b : List ℕ) → frame_of s ≡ frame t head size → c ≡ take size (drop head s) → b ≡ drop (head + size) s
    → messages_within (suc most) s ≡ ahead (message t c) (cond (is_end b) (some []) (messages_within most b))
unfolding messages_within
within_more most s t head size c b e f g = rw (e, f, g)

-- among messages, with the first of ours before them
abbrev ours_from : Option (List ℕ) → Maybe (List Message) → Result (List ℕ) Refusal
ours_from o none = Err BrokenMessages
ours_from None (some ms) = first_content (first_of_ours ms)
ours_from (Some c) (some ms) = Ok c

-- at the start there is none
from_none : (x : Maybe (List Message)) → ours_from None x ≡ ours_in x
from_none none = refl
from_none (some ms) = refl

-- behind one message more
from_more : (o : Option (List ℕ)) (m : Message) (x : Maybe (List Message)) → ours_from o (ahead m x) ≡ ours_from (or_ours o m) x
unfolding first_of_ours
from_more o m none = refl
from_more (Some c) m (some ms) = refl
from_more None m (some ms) = go (is_ours m)
  where
    go : (b : Bool) → first_content (cond b (some m) (first_of_ours ms)) ≡ ours_from (cond b (Some m.content) None) (some ms)
    go true = refl
    go false = refl

-- at the end
abbrev pub ended : Option (List ℕ) → Result (List ℕ) Refusal
ended None = Err NoneOfOurs
ended (Some c) = Ok c

from_end : (o : Option (List ℕ)) → ours_from o (some []) ≡ ended o
unfolding first_of_ours
from_end None = refl
from_end (Some c) = refl

-- the walk over the messages: with the first of ours before the rest, the answer from here is the answer from the start
pub record Reached (s : List ℕ) (first : Option (List ℕ)) (rest : List ℕ) : Type 0 where
  pub most : ℕ
  pub enough : length rest ≤ most
  pub within : length rest ≤ length s
  pub answer : ours_from first (messages_within most rest) ≡ ours_in (messages_in s)

-- before the first message
pub reached_none : (s : List ℕ) → Reached s None s
reached_none s = record { most = length s; enough = omega arith; within = omega arith; answer = from_none (messages_in s) }

module _ (s : List ℕ) (first : Option (List ℕ)) (rest : List ℕ) (x : Reached s first rest) where
  -- something runs past the end
  pub reached_broken : None ≡ message_at rest (frame_of rest) → Err BrokenMessages ≡ ours_in (messages_in s)
  reached_broken e = sym (ap (ours_from first) (within_broken x.most rest (message_none rest (frame_of rest) e))) ∙ x.answer

  module _ (t : ℕ) (c b : List ℕ) (e : Some (t, c, b) ≡ message_at rest (frame_of rest)) where
    -- the message has a byte
    pub reached_shorter : length b < length rest
    reached_shorter =
        let y = message_is rest t c b (frame_of rest) e in
        let k = frame_within rest t y.0 y.1 y.2 in
        omega (arith, ap (length {A = ℕ}) y.4, length-drop (y.0 + y.1) rest, k.0, k.1)

    -- the answer from behind it
    onward : ours_from (or_ours first (message t c)) (cond (is_end b) (some []) (messages_within (x.most - 1) b)) ≡ ours_in (messages_in s)
    onward =
        let y = message_is rest t c b (frame_of rest) e in
        let l = reached_shorter in
        let m : x.most ≡ suc (x.most - 1) = omega (arith, x.enough) in
        let v = within_more (x.most - 1) rest t y.0 y.1 c b y.2 y.3 y.4 in
        sym (from_more first (message t c) (cond (is_end b) (some []) (messages_within (x.most - 1) b)))
        ∙ ap (ours_from first) (sym v)
        ∙ ap (λ (n : ℕ). ours_from first (messages_within n rest)) (sym m)
        ∙ x.answer

    module _ (g : Option (List ℕ)) (q : g ≡ or_ours first (message t c)) where
      -- it is the last
      pub reached_all : is_end b ≡ true → ended g ≡ ours_in (messages_in s)
      reached_all h = sym (from_end g) ∙ (rw (h, ← q) at onward)

      -- others follow
      pub reached_more : is_end b ≡ false → Reached s g b
      reached_more h =
          let l = reached_shorter in
          record { most = x.most - 1; enough = omega (arith, x.enough); within = omega (arith, x.within); answer = rw (h, ← q) at onward }

-- ---- what the code gives, with the bytes for the slices of them

-- a message, or the refusal of none
pub message_ok : (o : Option (ℕ × Bor (List ℕ) × Bor (List ℕ))) (x : ℕ × Bor (List ℕ) × Bor (List ℕ)) (y : Option (ℕ × List ℕ × List ℕ))
    → Ok x ≡ ok_or o BrokenMessages → message_read o ≡ y → Some (x.0, x.1.now, x.2.now) ≡ y
message_ok None x y e f = let z : ◌≡◌ {A = ℕ} 0 1 = cc in clash z
message_ok (Some w) x y e f = let a : x ≡ w = cc in rw a f

pub message_err : (o : Option (ℕ × Bor (List ℕ) × Bor (List ℕ))) (r : Refusal) (y : Option (ℕ × List ℕ × List ℕ))
    → Err r ≡ ok_or o BrokenMessages → message_read o ≡ y → (r ≡ BrokenMessages) × (None ≡ y)
message_err None r y e f = (cc, f)
message_err (Some w) r y e f = let z : ◌≡◌ {A = ℕ} 0 1 = cc in clash z

-- at the end
pub found_ended : (o : Option (Bor (List ℕ))) → content_found (ok_or o NoneOfOurs) ≡ ended (first_read o)
found_ended None = refl
found_ended (Some c) = refl
