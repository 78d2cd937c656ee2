-- Bytes are read as messages exactly if they are one or more messages and the trailing byte, and then as these.
use Prim.Native.Nat.{ℕ, zero, suc, ◌+◌, ◌*◌, ◌/◌, ◌%◌, ◌<◌, ◌≤◌}
use mathlib.Core.Path.{◌≡◌, refl, ap, sym, subst, ◌∙◌}
use mathlib.Core.List.{List, [], ◌∷◌, ◌++◌, append_assoc}
use mathlib.Core.Bool.{Bool, true, false, cond, true≢false, false≢true}
use mathlib.Core.Option.{Option, none, some}
use native.Mathlib.Omega.{arith}
use borrow.Author.Tests.{ne_eqb, eqb-true, eqb-false, leb-true, leb-false, le-leb, lt-leb}
use lib.Dec.{eqb, leb}
use lib.ListN.{length, take, drop, replicate, length-replicate, length-append, length-drop, take-append-drop}
use lib.Seq.{drop-drop, drop_at, length-take-le, take-append_seam, drop-append_seam}
use Rattle.tree.specs.Bits.{Bytes}
use Rattle.tree.proofs.Truth.{clash}
use Rattle.tree.proofs.Lists.{bytes_drop}
use Rattle.rbsp.specs.Message.{Message, message, ff_byte, chained, message_bytes, all_messages, trailing, sei_rbsp, Chain, counts, past, further, chain, Frame, frame, no_frame, sized, typed, frame_of, is_end, ahead, behind_frame, messages_within, messages_in, is_ours, first_of_ours, NoneOurs, FirstOurs, OneOrMore, AreMessages, RunsPast, type_runs_past, size_runs_past, content_runs_past, Broken}

-- ---- types and sizes

-- ff_bytes, and another byte
run : (q r : ℕ) (s : List ℕ) → r < 255 → chain (replicate q ff_byte ++ (r ∷ s)) ≡ counts (255 * q + r) (suc q)
unfolding chain
run zero r s h = rw (ne_eqb r 255 (λ e. absurd (omega (arith, e, h)))) (ap (λ (v : ℕ). counts v 1) (omega arith))
run (suc q) r s h = let e : 255 + (255 * q + r) ≡ 255 * suc q + r = omega arith in rw (run q r s h) (ap (λ (v : ℕ). counts v (suc (suc q))) e)

-- a chain has an ff_byte for each 255, and one byte more
length-chained : (n : ℕ) → length (chained n) ≡ suc (n / 255)
unfolding chained
length-chained n = omega (arith, length-append (replicate (n / 255) ff_byte) (n % 255 ∷ []), length-replicate {A = ℕ} (n / 255) ff_byte)

spread : (n : ℕ) (s : List ℕ) → chained n ++ s ≡ replicate (n / 255) ff_byte ++ (n % 255 ∷ s)
unfolding chained
spread n s = append_assoc (replicate (n / 255) ff_byte) (n % 255 ∷ []) s

pub gathered : (q r v : ℕ) → v / 255 ≡ q → v % 255 ≡ r → chained v ≡ replicate q ff_byte ++ (r ∷ [])
unfolding chained
gathered q r v a b = rw (a, b) refl

-- a chain of bytes is read as its number, whatever follows
chain_takes : (n : ℕ) (s : List ℕ) → chain (chained n ++ s) ≡ counts n (length (chained n))
chain_takes n s =
    let below : n % 255 < 255 = omega arith in
    let whole : 255 * (n / 255) + n % 255 ≡ n = omega arith in
    ap chain (spread n s) ∙ run (n / 255) (n % 255) s below ∙ ap (λ (v : ℕ). counts v (suc (n / 255))) whole ∙ ap (counts n) (sym (length-chained n))

-- behind an ff_byte
behind_ff : (c : Chain) (v n : ℕ) → further c ≡ counts v n → (w : ℕ) × (m : ℕ) × (c ≡ counts w m) × (v ≡ 255 + w) × (n ≡ suc m)
behind_ff (counts w m) v n e = let a : v ≡ 255 + w = cc in let b : n ≡ suc m = cc in (w, m, refl, a, b)
behind_ff past v n e = let z : ◌≡◌ {A = ℕ} 0 1 = cc in clash z

-- what is read as a number are ff_bytes and another byte
runs : (s : List ℕ) → Bytes s → (v n : ℕ) → chain s ≡ counts v n → (q : ℕ) × (r : ℕ) × (t : List ℕ) × (r < 255) × (v ≡ 255 * q + r) × (n ≡ suc q) × (s ≡ replicate q ff_byte ++ (r ∷ t))
unfolding chain
runs [] h v n e = let z : ◌≡◌ {A = ℕ} 0 1 = cc in clash z
runs (b ∷ s) h v n e = go (eqb b ff_byte) refl e (runs s h.1)
  where
    go : (t : Bool) → eqb b ff_byte ≡ t → cond t (further (chain s)) (counts b 1) ≡ counts v n
        → ((w m : ℕ) → chain s ≡ counts w m → (q : ℕ) × (r : ℕ) × (t : List ℕ) × (r < 255) × (w ≡ 255 * q + r) × (m ≡ suc q) × (s ≡ replicate q ff_byte ++ (r ∷ t)))
        → (q : ℕ) × (r : ℕ) × (t : List ℕ) × (r < 255) × (v ≡ 255 * q + r) × (n ≡ suc q) × (b ∷ s ≡ replicate q ff_byte ++ (r ∷ t))
    go true p e on =
        let i = behind_ff (chain s) v n e in
        let x = on i.0 i.1 i.2 in
        let value : v ≡ 255 * suc x.0 + x.1 = omega (arith, i.3, x.4) in
        let bytes : n ≡ suc (suc x.0) = omega (arith, i.4, x.5) in
        (suc x.0, x.1, x.2, x.3, value, bytes, ap (λ (y : ℕ). y ∷ s) (eqb-true b ff_byte p) ∙ ap (λ (l : List ℕ). ff_byte ∷ l) x.6)
    go false p e on =
        let a : v ≡ b = cc in
        let k : n ≡ 1 = cc in
        (0, b, s, omega (arith, h.0, eqb-false b ff_byte p), omega (arith, a), k, refl)

-- what is read as a number is its one chain, and as many bytes
chain_only : (s : List ℕ) → Bytes s → (v n : ℕ) → chain s ≡ counts v n → (s ≡ chained v ++ drop n s) × (n ≡ length (chained v))
chain_only s h v n e = go (runs s h v n e)
  where
    go : (q : ℕ) × (r : ℕ) × (t : List ℕ) × (r < 255) × (v ≡ 255 * q + r) × (n ≡ suc q) × (s ≡ replicate q ff_byte ++ (r ∷ t)) → (s ≡ chained v ++ drop n s) × (n ≡ length (chained v))
    go (q, r, t, l, a, k, all) =
        let d : v / 255 ≡ q = omega (arith, a, l) in
        let m : v % 255 ≡ r = omega (arith, a, l) in
        let size : n ≡ length (chained v) = omega (arith, k, length-chained v, d) in
        let parts : s ≡ chained v ++ t = all ∙ sym (append_assoc (replicate q ff_byte) (r ∷ []) t) ∙ ap (λ (l : List ℕ). l ++ t) (sym (gathered q r v d m)) in
        (parts ∙ ap (λ (l : List ℕ). chained v ++ l) (sym (ap (drop n) parts ∙ drop_at (chained v) t n (sym size))), size)

-- ---- one message

-- its type and its size stand before its content
abbrev pub head_length : Message → ℕ
head_length m = length (chained m.«payloadType») + length (chained (length m.content))

-- its bytes, part by part
apart : (m : Message) (s : List ℕ) → message_bytes m ++ s ≡ chained m.«payloadType» ++ (chained (length m.content) ++ (m.content ++ s))
apart m s =
    append_assoc (chained m.«payloadType») (chained (length m.content) ++ m.content) s
    ∙ ap (λ (l : List ℕ). chained m.«payloadType» ++ l) (append_assoc (chained (length m.content)) m.content s)

length-message : (m : Message) → length (message_bytes m) ≡ head_length m + length m.content
length-message m =
    omega (arith, length-append (chained m.«payloadType») (chained (length m.content) ++ m.content), length-append (chained (length m.content)) m.content)

-- type and size have a byte each, or more
head_two : (m : Message) → 2 ≤ head_length m
head_two m = omega (arith, length-chained m.«payloadType», length-chained (length m.content))

-- bytes by their first two parts: what is read of them by their numbers
typed_by : (t size : ℕ) (c : List ℕ) → frame_of (chained t ++ (chained size ++ c)) ≡ cond (leb (length (chained t) + length (chained size) + size) (length (chained t ++ (chained size ++ c)))) (frame t (length (chained t) + length (chained size)) size) no_frame
unfolding frame_of
typed_by t size c = rw (chain_takes t (chained size ++ c), drop-append_seam (chained t) (chained size ++ c), chain_takes size c) refl

-- a message is read as itself, whatever follows
frame_takes : (m : Message) (s : List ℕ) → frame_of (message_bytes m ++ s) ≡ frame m.«payloadType» (head_length m) (length m.content)
frame_takes m s =
    let room : head_length m + length m.content ≤ length (chained m.«payloadType» ++ (chained (length m.content) ++ (m.content ++ s))) =
    omega (arith, length-append (chained m.«payloadType») (chained (length m.content) ++ (m.content ++ s)), length-append (chained (length m.content)) (m.content ++ s), length-append m.content s) in
    ap frame_of (apart m s) ∙ typed_by m.«payloadType» (length m.content) (m.content ++ s) ∙ rw (le-leb (head_length m + length m.content) (length (chained m.«payloadType» ++ (chained (length m.content) ++ (m.content ++ s)))) room) refl

-- its content, and what follows it
content_is : (m : Message) (s : List ℕ) → take (length m.content) (drop (head_length m) (message_bytes m ++ s)) ≡ m.content
content_is m s =
    let t = chained m.«payloadType» in
    let k = chained (length m.content) in
    let d : drop (head_length m) (message_bytes m ++ s) ≡ m.content ++ s =
    ap (drop (head_length m)) (apart m s ∙ sym (append_assoc t k (m.content ++ s))) ∙ drop_at (t ++ k) (m.content ++ s) (head_length m) (length-append t k) in
    ap (take (length m.content)) d ∙ take-append_seam m.content s

rest_is : (m : Message) (s : List ℕ) → drop (head_length m + length m.content) (message_bytes m ++ s) ≡ s
rest_is m s = drop_at (message_bytes m) s (head_length m + length m.content) (length-message m)

-- what is read as a message
record Read (s : List ℕ) (t head size : ℕ) : Type 0 where
  head_is : head ≡ length (chained t) + length (chained size)
  room : head + size ≤ length s
  parts : s ≡ chained t ++ (chained size ++ drop head s)

frame_parts : (s : List ℕ) → Bytes s → (t head size : ℕ) → frame_of s ≡ frame t head size → Read s t head size
unfolding frame_of
frame_parts s h t head size e = go (chain s) refl e
  where
    inner : (u n : ℕ) → chain s ≡ counts u n → (c : Chain) → chain (drop n s) ≡ c → sized u n c s ≡ frame t head size → Read s t head size
    inner u n p past q f = let z : ◌≡◌ {A = ℕ} 0 1 = cc in clash z
    inner u n p (counts v m) q f = last (leb (n + m + v) (length s)) refl f
      where
        last : (b : Bool) → leb (n + m + v) (length s) ≡ b → cond b (frame u (n + m) v) no_frame ≡ frame t head size → Read s t head size
        last true l g =
            let a : u ≡ t = cc in
            let b : n + m ≡ head = cc in
            let k : v ≡ size = cc in
            let x = chain_only s h u n p in
            let y = chain_only (drop n s) (bytes_drop n s h) v m q in
            let all : s ≡ chained u ++ (chained v ++ drop (n + m) s) = x.0 ∙ ap (λ (l : List ℕ). chained u ++ l) (y.0 ∙ ap (λ (l : List ℕ). chained v ++ l) (drop-drop m n s)) in
            rw (← a, ← b, ← k) (record { head_is = omega (arith, x.1, y.1); room = leb-true (n + m + v) (length s) l; parts = all })
        last false l g = let z : ◌≡◌ {A = ℕ} 0 1 = cc in clash z

    go : (c : Chain) → chain s ≡ c → typed c s ≡ frame t head size → Read s t head size
    go past p f = let z : ◌≡◌ {A = ℕ} 0 1 = cc in clash z
    go (counts u n) p f = inner u n p (chain (drop n s)) refl f

-- what is read as a message is its one coding, and what follows
module _ (s : List ℕ) (h : Bytes s) (t head size : ℕ) (e : frame_of s ≡ frame t head size) where
  abbrev made : Message
  made = message t (take size (drop head s))

  made_size : length made.content ≡ size
  made_size = let r = frame_parts s h t head size e in length-take-le size (drop head s) (omega (arith, r.room, length-drop head s))

  frame_only : s ≡ message_bytes made ++ drop (head + size) s
  frame_only =
      let r = frame_parts s h t head size e in
      let c : drop head s ≡ made.content ++ drop (head + size) s = sym (take-append-drop size (drop head s)) ∙ ap (λ (l : List ℕ). made.content ++ l) (drop-drop size head s) in
      r.parts ∙ ap (λ (l : List ℕ). chained t ++ (chained size ++ l)) c ∙ ap (λ (k : ℕ). chained t ++ (chained k ++ (made.content ++ drop (head + size) s))) (sym made_size) ∙ sym (apart made (drop (head + size) s))

-- ---- all messages

-- the end, and what is not
end_only : (s : List ℕ) → is_end s ≡ true → s ≡ trailing
end_only [] e = absurd (false≢true e)
end_only (b ∷ []) e = ap (λ (x : ℕ). x ∷ []) (eqb-true b 0x80 e)
end_only (b ∷ c ∷ s) e = absurd (false≢true e)

long_is_no_end : (s : List ℕ) → 2 ≤ length s → is_end s ≡ false
long_is_no_end [] h = absurd (omega arith)
long_is_no_end (b ∷ []) h = absurd (omega arith)
long_is_no_end (b ∷ c ∷ s) h = refl

message_is_no_end : (m : Message) (s : List ℕ) → is_end (message_bytes m ++ s) ≡ false
message_is_no_end m s = long_is_no_end (message_bytes m ++ s) (omega (arith, length-append (message_bytes m) s, length-message m, head_two m))

-- one message of several, by what is read behind it
one_of : (most : ℕ) (m : Message) (s : List ℕ) → messages_within (suc most) (message_bytes m ++ s) ≡ ahead m (cond (is_end s) (some []) (messages_within most s))
unfolding messages_within
one_of most m s = rw (frame_takes m s, content_is m s, rest_is m s) refl

messages_taken : (most : ℕ) (m : Message) (ms : List Message) → length ms < most → messages_within most (all_messages (m ∷ ms) ++ trailing) ≡ some (m ∷ ms)
unfolding all_messages
messages_taken zero m ms l = absurd (omega arith)
messages_taken (suc most) m [] l = ap (messages_within (suc most)) (append_assoc (message_bytes m) [] trailing) ∙ one_of most m trailing
messages_taken (suc most) m (n ∷ ms) l =
    let rest = all_messages (n ∷ ms) ++ trailing in
    let no_end_lem : is_end rest ≡ false = ap is_end (append_assoc (message_bytes n) (all_messages ms) trailing) ∙ message_is_no_end n (all_messages ms ++ trailing) in
    ap (messages_within (suc most)) (append_assoc (message_bytes m) (all_messages (n ∷ ms)) trailing) ∙ one_of most m rest ∙ rw (no_end_lem, messages_taken most n ms (omega arith)) refl

-- no message is without a byte
as_many_bytes : (ms : List Message) → length ms ≤ length (all_messages ms)
unfolding all_messages
as_many_bytes [] = omega arith
as_many_bytes (m ∷ ms) = omega (arith, as_many_bytes ms, length-append (message_bytes m) (all_messages ms), length-message m, head_two m)

-- one or more messages and the trailing byte are read as these
pub messages_are_read : (ms : List Message) → OneOrMore ms → messages_in (sei_rbsp ms) ≡ some ms
messages_are_read [] h = absurd h
messages_are_read (m ∷ ms) h = messages_taken (length (sei_rbsp (m ∷ ms))) m ms (omega (arith, as_many_bytes (m ∷ ms), length-append (all_messages (m ∷ ms)) trailing))

-- nothing else is read as messages
read_only : (most : ℕ) (s : List ℕ) → Bytes s → (ms : List Message) → messages_within most s ≡ some ms → OneOrMore ms × (s ≡ sei_rbsp ms)
unfolding messages_within all_messages
read_only zero s h ms e = let z : ◌≡◌ {A = ℕ} 0 1 = cc in clash z
read_only (suc most) s h ms e = go (frame_of s) refl e (read_only most)
  where
    more : (m : Message) (rest : List ℕ) → s ≡ message_bytes m ++ rest → (o : Option (List Message)) → ahead m o ≡ some ms → ((ns : List Message) → o ≡ some ns → rest ≡ all_messages ns ++ trailing) → OneOrMore ms × (s ≡ all_messages ms ++ trailing)
    more m rest all none f on = let z : ◌≡◌ {A = ℕ} 0 1 = cc in clash z
    more m rest all (some ns) f on =
        let k : m ∷ ns ≡ ms = cc in
        rw (← k) (tt, all ∙ ap (λ (l : List ℕ). message_bytes m ++ l) (on ns refl) ∙ sym (append_assoc (message_bytes m) (all_messages ns) trailing))

    behind : (b : Bool) (rest : List ℕ) → is_end rest ≡ b → Bytes rest → ((t : List ℕ) → Bytes t → (ns : List Message) → messages_within most t ≡ some ns → OneOrMore ns × (t ≡ sei_rbsp ns))
        → (ns : List Message) → cond b (some []) (messages_within most rest) ≡ some ns → rest ≡ all_messages ns ++ trailing
    behind true rest q k on ns f = let z : [] ≡ ns = cc in rw (← z) (end_only rest q)
    behind false rest q k on ns f = (on rest k ns f).1

    go : (f : Frame) → frame_of s ≡ f → behind_frame (messages_within most) s f ≡ some ms
        → ((t : List ℕ) → Bytes t → (ns : List Message) → messages_within most t ≡ some ns → OneOrMore ns × (t ≡ sei_rbsp ns)) → OneOrMore ms × (s ≡ sei_rbsp ms)
    go no_frame p f on = let z : ◌≡◌ {A = ℕ} 0 1 = cc in clash z
    go (frame t head size) p f on =
        more (message t (take size (drop head s))) (drop (head + size) s) (frame_only s h t head size p) (cond (is_end (drop (head + size) s)) (some []) (messages_within most (drop (head + size) s))) f
        (behind (is_end (drop (head + size) s)) (drop (head + size) s) refl (bytes_drop (head + size) s h) on)

pub messages_only : (s : List ℕ) → Bytes s → (ms : List Message) → messages_in s ≡ some ms → OneOrMore ms × (s ≡ sei_rbsp ms)
messages_only s h ms e = read_only (length s) s h ms e

-- bytes are one list of messages at most
pub one_list : (ms ns : List Message) → OneOrMore ms → OneOrMore ns → sei_rbsp ms ≡ sei_rbsp ns → ms ≡ ns
one_list ms ns p q e = let f : some ms ≡ some ns = sym (messages_are_read ms p) ∙ ap messages_in e ∙ messages_are_read ns q in cc

-- what is not read as messages is none
pub no_messages : (s : List ℕ) → messages_in s ≡ none → AreMessages s → ⊥
no_messages s e (ms, p, a) = let z : ◌≡◌ {A = ℕ} 0 1 = contradiction in clash z
  where
    contradiction : ◌≡◌ {A = ℕ} 0 1
    contradiction = let f : none ≡ some ms = sym e ∙ ap messages_in a ∙ messages_are_read ms p in cc

-- ---- the first of ours

pub first_of_ours_lem : (ms : List Message) (m : Message) → FirstOurs ms m → first_of_ours ms ≡ some m
unfolding first_of_ours NoneOurs
first_of_ours_lem ms m f = ap first_of_ours f.all ∙ go f.before f.others
  where
    go : (before : List Message) → NoneOurs before → first_of_ours (before ++ (m ∷ f.behind)) ≡ some m
    go [] h = rw f.ours refl
    go (n ∷ before) h = rw h.0 (go before h.1)

pub first_of_ours_only : (ms : List Message) (m : Message) → first_of_ours ms ≡ some m → FirstOurs ms m
unfolding first_of_ours NoneOurs
first_of_ours_only [] m e = let z : ◌≡◌ {A = ℕ} 0 1 = cc in clash z
first_of_ours_only (n ∷ ms) m e = go (is_ours n) refl e (first_of_ours_only ms m)
  where
    go : (b : Bool) → is_ours n ≡ b → cond b (some n) (first_of_ours ms) ≡ some m → (first_of_ours ms ≡ some m → FirstOurs ms m) → FirstOurs (n ∷ ms) m
    go true q f on = let k : n ≡ m = cc in rw (← k) (record { before = []; behind = ms; all = refl; others = tt; ours = q })
    go false q f on = let r = on f in record { before = n ∷ r.before; behind = r.behind; all = ap (λ (l : List Message). n ∷ l) r.all; others = (q, r.others); ours = r.ours }

pub none_ours_lem : (ms : List Message) → first_of_ours ms ≡ none → NoneOurs ms
unfolding first_of_ours NoneOurs
none_ours_lem [] e = tt
none_ours_lem (m ∷ ms) e = go (is_ours m) refl e (none_ours_lem ms)
  where
    go : (b : Bool) → is_ours m ≡ b → cond b (some m) (first_of_ours ms) ≡ none → (first_of_ours ms ≡ none → NoneOurs ms) → (is_ours m ≡ false) × NoneOurs ms
    go true q f on = let z : ◌≡◌ {A = ℕ} 0 1 = cc in clash z
    go false q f on = (q, on f)

pub none_ours_none : (ms : List Message) → NoneOurs ms → first_of_ours ms ≡ none
unfolding first_of_ours NoneOurs
none_ours_none [] h = refl
none_ours_none (m ∷ ms) h = rw h.0 (none_ours_none ms h.1)

-- ---- bytes that are no messages, in 02's words

ffs_run_past : (k : ℕ) → chain (replicate k ff_byte) ≡ past
unfolding chain
ffs_run_past zero = refl
ffs_run_past (suc k) = rw (ffs_run_past k) refl

past_is_ffs : (s : List ℕ) → chain s ≡ past → (k : ℕ) × (s ≡ replicate k ff_byte)
unfolding chain
past_is_ffs [] e = (0, refl)
past_is_ffs (b ∷ s) e = go (eqb b ff_byte) refl e (past_is_ffs s)
  where
    inner : (c : Chain) → further c ≡ past → c ≡ past
    inner past f = refl
    inner (counts v n) f = let z : ◌≡◌ {A = ℕ} 0 1 = cc in clash z

    go : (t : Bool) → eqb b ff_byte ≡ t → cond t (further (chain s)) (counts b 1) ≡ past → (chain s ≡ past → (k : ℕ) × (s ≡ replicate k ff_byte)) → (k : ℕ) × (b ∷ s ≡ replicate k ff_byte)
    go true p f on = let r = on (inner (chain s) f) in (suc r.0, ap (λ (x : ℕ). x ∷ s) (eqb-true b ff_byte p) ∙ ap (λ (l : List ℕ). ff_byte ∷ l) r.1)
    go false p f on = let z : ◌≡◌ {A = ℕ} 0 1 = cc in clash z

-- what runs past the end is no message
past_is_broken : (t : List ℕ) → RunsPast t → frame_of t ≡ no_frame
unfolding frame_of
past_is_broken t (type_runs_past k e) = ap frame_of e ∙ rw (ffs_run_past k) refl
past_is_broken t (size_runs_past type k e) = ap frame_of e ∙ rw (chain_takes type (replicate k ff_byte), drop-append_seam (chained type) (replicate k ff_byte), ffs_run_past k) refl
past_is_broken t (content_runs_past type size c l e) =
    let short : length (chained type ++ (chained size ++ c)) < length (chained type) + length (chained size) + size =
    omega (arith, l, length-append (chained type) (chained size ++ c), length-append (chained size) c) in
    ap frame_of e ∙ typed_by type size c ∙ rw (lt-leb (length (chained type) + length (chained size) + size) (length (chained type ++ (chained size ++ c))) short) refl

-- and what is no message runs past the end
broken_is_past : (s : List ℕ) → Bytes s → frame_of s ≡ no_frame → RunsPast s
unfolding frame_of
broken_is_past s h e = go (chain s) refl e
  where
    inner : (u n : ℕ) → chain s ≡ counts u n → (c : Chain) → chain (drop n s) ≡ c → sized u n c s ≡ no_frame → RunsPast s
    inner u n p past q f = let r = past_is_ffs (drop n s) q in size_runs_past u r.0 ((chain_only s h u n p).0 ∙ ap (λ (l : List ℕ). chained u ++ l) r.1)
    inner u n p (counts v m) q f = last (leb (n + m + v) (length s)) refl f
      where
        last : (b : Bool) → leb (n + m + v) (length s) ≡ b → cond b (frame u (n + m) v) no_frame ≡ no_frame → RunsPast s
        last true l g = let z : ◌≡◌ {A = ℕ} 0 1 = cc in clash z
        last false l g =
            let x = chain_only s h u n p in
            let y = chain_only (drop n s) (bytes_drop n s h) v m q in
            let first : length s ≡ length (chained u) + length (drop n s) = ap length x.0 ∙ length-append (chained u) (drop n s) in
            let second : length (drop n s) ≡ length (chained v) + length (drop m (drop n s)) = ap length y.0 ∙ length-append (chained v) (drop m (drop n s)) in
            content_runs_past u v (drop m (drop n s)) (omega (arith, leb-false (n + m + v) (length s) l, x.1, y.1, first, second)) (x.0 ∙ ap (λ (k : List ℕ). chained u ++ k) y.0)

    go : (c : Chain) → chain s ≡ c → typed c s ≡ no_frame → RunsPast s
    go past p f = let r = past_is_ffs s p in type_runs_past r.0 r.1
    go (counts u n) p f = inner u n p (chain (drop n s)) refl f

-- behind whole messages
broken_behind : (most : ℕ) (ms : List Message) (t : List ℕ) → frame_of t ≡ no_frame → (OneOrMore ms → t ≡ trailing → ⊥) → messages_within most (all_messages ms ++ t) ≡ none
unfolding messages_within all_messages
broken_behind zero ms t e n = refl
broken_behind (suc most) [] t e n = rw e refl
broken_behind (suc most) (m ∷ ms) t e n =
    ap (messages_within (suc most)) (append_assoc (message_bytes m) (all_messages ms) t) ∙ one_of most m (all_messages ms ++ t)
    ∙ rw (no_end_lem ms, broken_behind most ms t e (λ p. n tt)) refl
  where
    no_end_lem : (ns : List Message) → is_end (all_messages ns ++ t) ≡ false
    no_end_lem [] = go (is_end t) refl
      where
        go : (b : Bool) → is_end t ≡ b → is_end t ≡ false
        go true q = absurd (n tt (end_only t q))
        go false q = q
    no_end_lem (k ∷ ns) = ap is_end (append_assoc (message_bytes k) (all_messages ns) t) ∙ message_is_no_end k (all_messages ns ++ t)

pub broken_is_not_read : (s : List ℕ) → Broken s → messages_in s ≡ none
broken_is_not_read s b = ap (messages_within (length s)) b.all ∙ broken_behind (length s) b.messages b.last (past_is_broken b.last b.runs) b.no_end

not_read : (most : ℕ) (s : List ℕ) → Bytes s → length s ≤ most → messages_within most s ≡ none → Broken s
unfolding messages_within all_messages
not_read zero s h l e = nothing s l
  where
    nothing : (t : List ℕ) → length t ≤ 0 → Broken t
    nothing [] l = record { messages = []; last = []; all = refl; runs = type_runs_past 0 refl; no_end = λ p. absurd p }
    nothing (b ∷ t) l = absurd (omega arith)
not_read (suc most) s h l e = go (frame_of s) refl e (not_read most)
  where
    further_broken : (m : Message) (rest : List ℕ) → s ≡ message_bytes m ++ rest → is_end rest ≡ false → Broken rest → Broken s
    further_broken m rest all q b = record { messages = m ∷ b.messages; last = b.last; all = all ∙ ap (λ (k : List ℕ). message_bytes m ++ k) b.all ∙ sym (append_assoc (message_bytes m) (all_messages b.messages) b.last); runs = b.runs; no_end = λ p. none_behind b.messages b.all b.no_end }
      where
        none_behind : (ns : List Message) → rest ≡ all_messages ns ++ b.last → (OneOrMore ns → b.last ≡ trailing → ⊥) → b.last ≡ trailing → ⊥
        none_behind [] a n f = true≢false (sym (ap is_end (a ∙ f)) ∙ q)
        none_behind (k ∷ ns) a n f = n tt f

    behind : (m : Message) (rest : List ℕ) → s ≡ message_bytes m ++ rest → Bytes rest → length rest ≤ most → (b : Bool) → is_end rest ≡ b → ahead m (cond b (some []) (messages_within most rest)) ≡ none
        → ((t : List ℕ) → Bytes t → length t ≤ most → messages_within most t ≡ none → Broken t) → Broken s
    behind m rest all k r true q f on = let z : ◌≡◌ {A = ℕ} 0 1 = cc in clash z
    behind m rest all k r false q f on = further_broken m rest all q (on rest k r (inner (messages_within most rest) f))
      where
        inner : (o : Option (List Message)) → ahead m o ≡ none → o ≡ none
        inner none g = refl
        inner (some ns) g = let z : ◌≡◌ {A = ℕ} 0 1 = cc in clash z

    go : (f : Frame) → frame_of s ≡ f → behind_frame (messages_within most) s f ≡ none → ((t : List ℕ) → Bytes t → length t ≤ most → messages_within most t ≡ none → Broken t) → Broken s
    go no_frame p f on = record { messages = []; last = s; all = refl; runs = broken_is_past s h p; no_end = λ q. absurd q }
    go (frame t head size) p f on =
        let r = frame_parts s h t head size p in
        let rest = drop (head + size) s in
        let two : 2 ≤ head = omega (arith, r.head_is, length-chained t, length-chained size) in
        behind (message t (take size (drop head s))) rest (frame_only s h t head size p) (bytes_drop (head + size) s h) (omega (arith, l, two, r.room, length-drop (head + size) s)) (is_end rest) refl f on

pub not_read_is_broken : (s : List ℕ) → Bytes s → messages_in s ≡ none → Broken s
not_read_is_broken s h e = not_read (length s) s h (omega arith) e

-- ---- bytes

bytes_apart : (a b : List ℕ) → Bytes (a ++ b) → Bytes a × Bytes b
bytes_apart [] b h = (tt, h)
bytes_apart (x ∷ a) b h = let r = bytes_apart a b h.1 in ((h.0, r.0), r.1)

-- the content of a message among bytes is bytes
pub content_bytes : (ms : List Message) (m : Message) → Bytes (sei_rbsp ms) → FirstOurs ms m → Bytes m.content
unfolding all_messages
content_bytes ms m h f = go f.before (subst (λ (ns : List Message). Bytes (all_messages ns)) f.all (bytes_apart (all_messages ms) trailing h).0)
  where
    own : (rest : List ℕ) → Bytes (message_bytes m ++ rest) → Bytes m.content
    own rest k = (bytes_apart (chained (length m.content)) m.content (bytes_apart (chained m.«payloadType») (chained (length m.content) ++ m.content) (bytes_apart (message_bytes m) rest k).0).1).1

    go : (before : List Message) → Bytes (all_messages (before ++ (m ∷ f.behind))) → Bytes m.content
    go [] k = own (all_messages f.behind) k
    go (n ∷ before) k = go before (bytes_apart (message_bytes n) (all_messages (before ++ (m ∷ f.behind))) k).1
