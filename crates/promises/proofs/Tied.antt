-- The definitions that the promises speak of are what the contracts of the entry points say, and no entry point asks anything of its
-- caller: said of the contracts themselves, as the check reads them. The C boundary's are in pimlasut/proofs/Tied.
use mathlib.Core.Path.{◌≡◌}
use seplogic.Ra.Ura.{Ura}
use base.Logic.{SProp, ent, sep, emp, id⊢, fst∗, snd∗}
use prog.Memory.{Memory}
use prog.Routine.{Routine}
use types.Logic.{Logic}
use contract.Lifetimes.{Lfts}
use contract.Monad.{Fun, fact, fact_i, fact_use}
use denote.Triple.Clauses.{Ended, Clauses, AtExit}
use denote.Triple.Entry.{Args, Res}
use borrow.Fn.Kinds.{Dens, res_t, ended_of}
use Rattle.record.specs.Blocks.{empty_record}
use Rattle.record.proofs.Record.empty.Kinds as empty
use Rattle.record.proofs.Record.empty.Reads as empty-contract
use Rattle.valid.specs.Valid.{valid}
use Rattle.valid.proofs.is_valid.Kinds as is_valid_lem
use Rattle.valid.proofs.is_valid.Reads as is-valid-contract
use Rattle.reader.specs.Reading.{read_bare}
use Rattle.reader.proofs.read_data.Kinds as read-data
use Rattle.reader.proofs.read_data.Reads as read-data-contract
use Rattle.writer.specs.Writing.{write_bare, bare_buffer}
use Rattle.writer.proofs.write_data.Kinds as write-data
use Rattle.writer.proofs.write_data.Reads as write-data-contract
use Rattle.wrapper.specs.Wrapper.{read_wrapped, write_wrapped, wrapped_buffer}
use Rattle.wrapper.proofs.read_wrapped.Kinds as read-wrapped
use Rattle.wrapper.proofs.read_wrapped.Reads as read-wrapped-contract
use Rattle.wrapper.proofs.write_wrapped.Kinds as write-wrapped
use Rattle.wrapper.proofs.write_wrapped.Reads as write-wrapped-contract
use Rattle.sei.specs.SeiUnit.{read_unit, write_unit, unit_buffer}
use Rattle.sei.proofs.read_unit.Kinds as read-unit
use Rattle.sei.proofs.read_unit.Reads as read-unit-contract
use Rattle.sei.proofs.write_unit.Kinds as write-unit
use Rattle.sei.proofs.write_unit.Reads as write-unit-contract
use Rattle.shader.specs.Shader.{conversion_result, conversion_bits, bits_in}
use Rattle.shader.proofs.shader_numbers.Kinds as shader-numbers
use Rattle.shader.proofs.shader_numbers.Reads as shader-numbers-contract
use Rattle.track.specs.Track.{point_with}
use Rattle.track.specs.Lent.{table_of, shown_at, answer_into, joined_into, placing_into, placed_into}
use Rattle.track.specs.contracts.lookup as lookup
use Rattle.track.specs.contracts.join as join
use Rattle.track.specs.contracts.place as place
use Rattle.listing.specs.Listing.{write_listing, listing_buffer}
use Rattle.listing.proofs.write_listing.Kinds as write-listing
use Rattle.listing.proofs.write_listing.Reads as write-listing-contract
use Rattle.reason.specs.Reason.{write_reason, reason_buffer}
use Rattle.reason.proofs.write_reason.Kinds as write-reason
use Rattle.reason.proofs.write_reason.Reads as write-reason-contract

-- ---- reading and writing

pub read_data_is : (κs : Lfts 1) (a : Dens κs read-data.ps) (x : (res_t read-data.r κs).Denot) (s : AtExit (ended_of 1 read-data.ps read-data.r) κs) → read-data-contract.Post κs a x s
    → x ≡ read_bare a.0.now
read_data_is κs a x s e = e

pub read_wrapped_is : (κs : Lfts 1) (a : Dens κs read-wrapped.ps) (x : (res_t read-wrapped.r κs).Denot) (s : AtExit (ended_of 1 read-wrapped.ps read-wrapped.r) κs) → read-wrapped-contract.Post κs a x s
    → x ≡ read_wrapped a.0.now
read_wrapped_is κs a x s e = e

pub write_data_is : (κs : Lfts 1) (a : Dens κs write-data.ps) (x : (res_t write-data.r κs).Denot) (s : AtExit (ended_of 1 write-data.ps write-data.r) κs) → write-data-contract.Post κs a x s
    → (x ≡ write_bare a.0 a.1.0.now) × (s.1.0.now ≡ bare_buffer a.0 a.1.0.now)
write_data_is κs a x s e = e

pub write_wrapped_is : (κs : Lfts 1) (a : Dens κs write-wrapped.ps) (x : (res_t write-wrapped.r κs).Denot) (s : AtExit (ended_of 1 write-wrapped.ps write-wrapped.r) κs) → write-wrapped-contract.Post κs a x s
    → (x ≡ write_wrapped a.0 a.1.0.now) × (s.1.0.now ≡ wrapped_buffer a.0 a.1.0.now)
write_wrapped_is κs a x s e = e

pub read_unit_is : (κs : Lfts 1) (a : Dens κs read-unit.ps) (x : (res_t read-unit.r κs).Denot) (s : AtExit (ended_of 1 read-unit.ps read-unit.r) κs) → read-unit-contract.Post κs a x s
    → x ≡ read_unit a.0.now
read_unit_is κs a x s e = e

pub write_unit_is : (κs : Lfts 1) (a : Dens κs write-unit.ps) (x : (res_t write-unit.r κs).Denot) (s : AtExit (ended_of 1 write-unit.ps write-unit.r) κs) → write-unit-contract.Post κs a x s
    → (x ≡ write_unit a.0 a.1.0.now) × (s.1.0.now ≡ unit_buffer a.0 a.1.0.now)
write_unit_is κs a x s e = e

pub write_listing_is : (κs : Lfts 1) (a : Dens κs write-listing.ps) (x : (res_t write-listing.r κs).Denot) (s : AtExit (ended_of 1 write-listing.ps write-listing.r) κs) → write-listing-contract.Post κs a x s
    → (x ≡ write_listing a.0 a.1.0.now) × (s.1.0.now ≡ listing_buffer a.0 a.1.0.now)
write_listing_is κs a x s e = e

pub write_reason_is : (κs : Lfts 1) (a : Dens κs write-reason.ps) (x : (res_t write-reason.r κs).Denot) (s : AtExit (ended_of 1 write-reason.ps write-reason.r) κs) → write-reason-contract.Post κs a x s
    → (x ≡ write_reason a.0 a.1.0.now) × (s.1.0.now ≡ reason_buffer a.0 a.1.0.now)
write_reason_is κs a x s e = e

pub shader_numbers_is : (κs : Lfts 0) (a : Dens κs shader-numbers.ps) (x : (res_t shader-numbers.r κs).Denot) (s : AtExit (ended_of 0 shader-numbers.ps shader-numbers.r) κs) → shader-numbers-contract.Post κs a x s
    → (x.result ≡ conversion_result a.0) × (bits_in x.numbers ≡ conversion_bits a.0)
shader_numbers_is κs a x s e = e

pub is_valid_is : (κs : Lfts 0) (a : Dens κs is_valid_lem.ps) (x : (res_t is_valid_lem.r κs).Denot) (s : AtExit (ended_of 0 is_valid_lem.ps is_valid_lem.r) κs) → is-valid-contract.Post κs a x s
    → x ≡ valid a.0
is_valid_is κs a x s e = e

pub empty_is : (κs : Lfts 0) (a : Dens κs empty.ps) (x : (res_t empty.r κs).Denot) (s : AtExit (ended_of 0 empty.ps empty.r) κs) → empty-contract.Post κs a x s
    → x ≡ empty_record
empty_is κs a x s e = e

-- ---- they ask nothing

pub read_data_asks_nothing : (κs : Lfts 1) (a : Dens κs read-data.ps) → read-data-contract.Pre κs a
read_data_asks_nothing κs a = tt

pub read_wrapped_asks_nothing : (κs : Lfts 1) (a : Dens κs read-wrapped.ps) → read-wrapped-contract.Pre κs a
read_wrapped_asks_nothing κs a = tt

pub write_data_asks_nothing : (κs : Lfts 1) (a : Dens κs write-data.ps) → write-data-contract.Pre κs a
write_data_asks_nothing κs a = tt

pub write_wrapped_asks_nothing : (κs : Lfts 1) (a : Dens κs write-wrapped.ps) → write-wrapped-contract.Pre κs a
write_wrapped_asks_nothing κs a = tt

pub read_unit_asks_nothing : (κs : Lfts 1) (a : Dens κs read-unit.ps) → read-unit-contract.Pre κs a
read_unit_asks_nothing κs a = tt

pub write_unit_asks_nothing : (κs : Lfts 1) (a : Dens κs write-unit.ps) → write-unit-contract.Pre κs a
write_unit_asks_nothing κs a = tt

pub shader_numbers_asks_nothing : (κs : Lfts 0) (a : Dens κs shader-numbers.ps) → shader-numbers-contract.Pre κs a
shader_numbers_asks_nothing κs a = tt

pub is_valid_asks_nothing : (κs : Lfts 0) (a : Dens κs is_valid_lem.ps) → is-valid-contract.Pre κs a
is_valid_asks_nothing κs a = tt

pub empty_asks_nothing : (κs : Lfts 0) (a : Dens κs empty.ps) → empty-contract.Pre κs a
empty_asks_nothing κs a = tt

pub write_listing_asks_nothing : (κs : Lfts 1) (a : Dens κs write-listing.ps) → write-listing-contract.Pre κs a
write_listing_asks_nothing κs a = tt

pub write_reason_asks_nothing : (κs : Lfts 1) (a : Dens κs write-reason.ps) → write-reason-contract.Pre κs a
write_reason_asks_nothing κs a = tt

-- ---- tracks: the clauses of their contracts, in the logic

-- a caller has a ghost value at which the clauses ask nothing
abbrev AsksNothing : {M : Type 1} (𝓤 : Ura M) (T : Ended) → Clauses 𝓤 T → Type 1
AsksNothing 𝓤 T c = (κs : Lfts T.signature.lifetimes) (a : Args T.signature κs) → (g : (c κs a).ghost) × ent 𝓤 (emp 𝓤) ((c κs a).requires g)

module _ {M : Type 1} (𝓤 : Ura M) where
  -- what two facts say together
  two : (φ ψ χ : Type 0) → (φ → ψ → χ) → ent 𝓤 (sep 𝓤 (fact 𝓤 φ) (fact 𝓤 ψ)) (fact 𝓤 χ)
  two φ ψ χ k =
      let P : SProp 𝓤 = sep 𝓤 (fact 𝓤 φ) (fact 𝓤 ψ) in
      fact_use 𝓤 φ (fst∗ 𝓤 (fact 𝓤 φ) (fact 𝓤 ψ)) (λ x. fact_use 𝓤 ψ (snd∗ 𝓤 (fact 𝓤 φ) (fact 𝓤 ψ)) (λ y. fact_i 𝓤 χ P (k x y)))

module _ {M : Type 1} {𝓤 : Ura M} (𝓛 : Logic 𝓤) (mem : Memory → SProp 𝓤) (run : Routine → Fun 𝓤) where
  -- what the clauses of each function give
  abbrev lookup_clauses : Clauses 𝓤 lookup.ended
  lookup_clauses = lookup.clauses 𝓛 mem run

  abbrev join_clauses : Clauses 𝓤 join.ended
  join_clauses = join.clauses 𝓛 mem run

  abbrev place_clauses : Clauses 𝓤 place.ended
  place_clauses = place.clauses 𝓛 mem run

  pub lookup_is : (κs : Lfts (lookup.ended).signature.lifetimes) (a : Args (lookup.ended).signature κs) (g : (lookup_clauses κs a).ghost) (x : Res (lookup.ended).signature κs) (s : AtExit lookup.ended κs)
      → ent 𝓤 ((lookup_clauses κs a).ensures g x s) (fact 𝓤 (x ≡ shown_at (table_of a.0.now a.1.0) a.1.1.0))
  lookup_is κs a g x s = id⊢ 𝓤 _

  pub join_is : (κs : Lfts (join.ended).signature.lifetimes) (a : Args (join.ended).signature κs) (g : (join_clauses κs a).ghost) (x : Res (join.ended).signature κs) (s : AtExit join.ended κs)
      → ent 𝓤 ((join_clauses κs a).ensures g x s)
      (fact 𝓤 ((x ≡ answer_into (table_of a.0.now a.1.0) (table_of a.1.1.0.now a.1.1.1.0) a.1.1.1.1.0.now)
      × (table_of s.1.1.1.1.0.now x.count ≡ joined_into (table_of a.0.now a.1.0) (table_of a.1.1.0.now a.1.1.1.0) a.1.1.1.1.0.now)))
  join_is κs a g x s = two 𝓤 _ _ _ (λ e f. (e, rw (e, f)))

  pub place_is : (κs : Lfts (place.ended).signature.lifetimes) (a : Args (place.ended).signature κs) (g : (place_clauses κs a).ghost) (x : Res (place.ended).signature κs) (s : AtExit place.ended κs)
      → ent 𝓤 ((place_clauses κs a).ensures g x s)
      (fact 𝓤 ((x ≡ placing_into (point_with a.0 a.1.0 a.1.1.0) a.1.1.1.0.now)
      × (table_of s.1.1.1.0.now x.count ≡ placed_into (point_with a.0 a.1.0 a.1.1.0) a.1.1.1.0.now)))
  place_is κs a g x s = two 𝓤 _ _ _ (λ e f. (e, rw (e, f)))

  -- ---- and they ask nothing

  pub lookup_asks_nothing : AsksNothing 𝓤 lookup.ended lookup_clauses
  lookup_asks_nothing κs a = (tt, id⊢ 𝓤 (emp 𝓤))

  pub join_asks_nothing : AsksNothing 𝓤 join.ended join_clauses
  join_asks_nothing κs a = (tt, id⊢ 𝓤 (emp 𝓤))

  pub place_asks_nothing : AsksNothing 𝓤 place.ended place_clauses
  place_asks_nothing κs a = (tt, id⊢ 𝓤 (emp 𝓤))
