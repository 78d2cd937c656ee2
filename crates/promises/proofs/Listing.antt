-- What show prints: every input has its listing, and two accepted payloads have two.
use Prim.Native.Nat.{ℕ, ◌<◌, ◌≤◌, ◌^◌}
use mathlib.Core.Path.{◌≡◌, refl, ap, sym}
use mathlib.Core.List.{List, [], ◌∷◌, ◌++◌}
use mathlib.Core.Bool.{Bool, true, false, not, ◌||◌}
use native.Mathlib.Omega.{arith}
use borrow.Author.Tests.{eqb-true, eqb-false}
use lib.Dec.{eqb}
use lib.ListN.{length, drop}
use Rattle.tree.specs.Bits.{Bytes, bits_of}
use Rattle.output.specs.Output.{written}
use Rattle.output.proofs.Output.{done}
use Rattle.valid.specs.Valid.{among, valid}
use Rattle.syntax.specs.Reason.{wrapped_numbers}
use Rattle.syntax.specs.Wrapper.{wrapped_data, wrapped_data_payload}
use Rattle.syntax.proofs.Largest.{most_data_bits}
use Rattle.reader.specs.declared.Reading.{Reading}
use Rattle.wrapper.specs.Wrapper.{read_wrapped}
use Rattle.listing.specs.Listing.{listing, listable, write_listing, listing_buffer}
use Rattle.listing.proofs.Longest.{no_listing_is_longer, longest_bytes}
use Rattle.listing.proofs.Different.{ShownAlike, accepted_is_given, one_listing_one_reading}
use Rattle.promises.proofs.Reading.{wrapped_data_gets_a_listed_number, a_refusal_is_empty, carried_is_valid, accepted_wrapped_carries_data, accepted_wrapped_is_proper, one_record_one_wrapped_payload}

-- two accepted payloads with one listing have one record and as many bits; where nothing was passed over they are the same bytes
pub one_listing_one_record : (s t : List ℕ) → Bytes s → Bytes t → (read_wrapped s).result ≡ 0 → (read_wrapped t).result ≡ 0
    → listing (read_wrapped s) ≡ listing (read_wrapped t) → ShownAlike (read_wrapped s) (read_wrapped t)
one_listing_one_record s t hs ht es et e =
    one_listing_one_reading (read_wrapped s) (read_wrapped t) (accepted_is_given (read_wrapped s) es (accepted_wrapped_is_proper s hs es)) (accepted_is_given (read_wrapped t) et (accepted_wrapped_is_proper t ht et)) e

pub two_payloads_two_listings : (s t : List ℕ) → Bytes s → Bytes t → (read_wrapped s).result ≡ 0 → (read_wrapped t).result ≡ 0 → (read_wrapped s).skipped ≡ 0 → (read_wrapped t).skipped ≡ 0
    → listing (read_wrapped s) ≡ listing (read_wrapped t) → s ≡ t
two_payloads_two_listings s t hs ht es et zs zt e = one_record_one_wrapped_payload s t hs ht es et zs zt (one_listing_one_record s t hs ht es et e).«record»

-- ---- every input has its listing

among_bytes : (n : ℕ) (ns : List ℕ) → Bytes ns → among n ns ≡ true → n < 256
unfolding among
among_bytes n [] h e = let z : ◌≡◌ {A = ℕ} 0 1 = cc in absurd (omega arith)
among_bytes n (m ∷ ns) h e = go (eqb n m) refl (among_bytes n ns h.1)
  where
    go : (t : Bool) → eqb n m ≡ t → (among n ns ≡ true → n < 256) → n < 256
    go true f g = let x = eqb-true n m f in omega (arith, h.0)
    go false f g = g (rw f at e)

-- a number is one byte
one_byte : (s : List ℕ) → (read_wrapped s).result < 256
one_byte s = among_bytes (read_wrapped s).result (0 ∷ wrapped_numbers) small (wrapped_data_gets_a_listed_number s)
  where
    small : Bytes (0 ∷ wrapped_numbers)
    small = (omega arith, (omega arith, (omega arith, (omega arith, (omega arith, (omega arith, (omega arith, (omega arith, (omega arith, (omega arith, (omega arith, (omega arith, (omega arith, (omega arith, (omega arith, tt)))))))))))))))

-- what is read can be listed, and its bits are few
listable_bits : (s : List ℕ) → Bytes s → (listable (read_wrapped s) ≡ true) × ((read_wrapped s).bits < 2 ^ 32)
listable_bits s h = go (eqb (read_wrapped s).result 0) refl
  where
    go : (t : Bool) → eqb (read_wrapped s).result 0 ≡ t → (not t || valid (read_wrapped s).«record» ≡ true) × ((read_wrapped s).bits < 2 ^ 32)
    go true e =
        let a = accepted_wrapped_carries_data s h (eqb-true (read_wrapped s).result 0 e) in
        ((carried_is_valid wrapped_data_payload s (read_wrapped s) a).valid_record, omega (arith, ap (λ (q : Reading). q.bits) a.reading, most_data_bits a.held a.fits))
    go false e = (refl, omega (arith, (a_refusal_is_empty (wrapped_data (bits_of s)) (eqb-false (read_wrapped s).result 0 e)).1))

-- 1,586 bytes have room for the listing of every input, and a write leaves what lies behind it
pub room_of_1586_suffices : (s : List ℕ) → Bytes s → (out : List ℕ) → 1586 ≤ length out
    → (write_listing (read_wrapped s) out ≡ written 0 (length (listing (read_wrapped s))))
    × (listing_buffer (read_wrapped s) out ≡ listing (read_wrapped s) ++ drop (length (listing (read_wrapped s))) out)
room_of_1586_suffices s h out room =
    let l = listable_bits s h in
    let m = no_listing_is_longer (read_wrapped s) (one_byte s) l.1 l.0 in
    let d = done (listing (read_wrapped s)) (listable (read_wrapped s)) out l.0 (omega (arith, m, longest_bytes, room)) in
    (sym d.0, sym d.1)
