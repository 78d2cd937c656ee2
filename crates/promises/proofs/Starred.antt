-- The starred payloads of document 01, and the limits and the order of refusals, as one table each under one statement: of what the
-- functions answer, but for the cause of a refusal, of which reason/proofs/Cases has the cases by hand.
use mathlib.Core.Path.{◌≡◌, refl, ap, sym, ◌∙◌}
use mathlib.Core.List.{List, [], ◌∷◌, map}
use mathlib.Core.Bool.{false}
use Rattle.tree.specs.Bits.{bits_of}
use Rattle.tree.specs.Reading.{Out, ok, no}
use Rattle.record.specs.Name.{Name}
use Rattle.record.specs.Blocks.{empty_record}
use Rattle.syntax.specs.Data.{Data, bare_data}
use Rattle.syntax.specs.Wrapper.{wrapped_data}
use Rattle.syntax.specs.Limits.{Outcome, accepted, refused, outcome_of, Case, limits, code_numbers, places, long_payloads, many_blocks, starred, wrapped_cases}
use Rattle.syntax.proofs.Limits as tree
use Rattle.cause.specs.Cause.{nothing}
use Rattle.reader.specs.declared.Reading.{Reading}
use Rattle.reader.specs.Reading.{reading_of, read_bare}
use Rattle.wrapper.specs.Wrapper.{read_wrapped}

-- an answer without the cause of its refusal
abbrev pub causeless : Reading → Reading
causeless q = record { result = q.result; bits = q.bits; skipped = q.skipped; offset = q.offset; in_wrapper = q.in_wrapper; cause = nothing; «record» = q.«record» }

-- the answer that an outcome is
abbrev pub answer_for : Outcome → Reading
answer_for (accepted r bits skipped) = record { result = 0; bits = bits; skipped = skipped; offset = 0; in_wrapper = false; cause = nothing; «record» = r }
answer_for (refused n at mark) = record { result = n; bits = 0; skipped = 0; offset = at; in_wrapper = mark; cause = nothing; «record» = empty_record }

abbrev pub expected : Case → Reading
expected c = answer_for c.outcome

abbrev pub bare : Case → Reading
bare c = causeless (read_bare c.bytes)

abbrev pub wrapped : Case → Reading
wrapped c = causeless (read_wrapped c.bytes)

answered : (o : Out Name Data) → causeless (reading_of o) ≡ answer_for (outcome_of o)
answered (ok d n) = refl
answered (no f) = refl

each : {A B : Type 0} (f : Case → A) (g : B → A) (h : Case → B) → ((c : Case) → f c ≡ g (h c)) → (l : List Case) → map f l ≡ map g (map h l)
each f g h e [] = refl
each f g h e (c ∷ l) = rw (e c, each f g h e l)

module _ (l : List Case) where
  bare_cases : map tree.found l ≡ map tree.expected l → map bare l ≡ map expected l
  bare_cases e = each bare answer_for tree.found (λ c. answered (bare_data (bits_of c.bytes))) l ∙ ap (map answer_for) e ∙ sym (each expected answer_for tree.expected (λ c. refl) l)

  wrapped_cases_lem : map tree.found_wrapped l ≡ map tree.expected l → map wrapped l ≡ map expected l
  wrapped_cases_lem e = each wrapped answer_for tree.found_wrapped (λ c. answered (wrapped_data (bits_of c.bytes))) l ∙ ap (map answer_for) e ∙ sym (each expected answer_for tree.expected (λ c. refl) l)

-- each starred payload gets the outcome that document 01 gives, two of them that of 02, b, and one that of 02, d
pub the_starred_cases : map bare starred ≡ map expected starred
the_starred_cases = bare_cases starred tree.the_starred_cases

-- each limit on both sides, each pair in the order of refusals, each field
pub the_limits_and_the_order : map bare limits ≡ map expected limits
the_limits_and_the_order = bare_cases limits tree.the_limits_and_the_order

-- 02, d: numbers of ue(v) at both ends of each range and beyond, at each of the four places
pub each_place_checks_its_own_range : map bare code_numbers ≡ map expected code_numbers
each_place_checks_its_own_range = bare_cases code_numbers tree.each_place_checks_its_own_range

-- 02, e: where a fault is told to be
pub each_fault_is_told_where_it_is : map bare places ≡ map expected places
each_fault_is_told_where_it_is = bare_cases places tree.each_fault_is_told_where_it_is

pub sixteen_of_level_2_and_no_more : map bare long_payloads ≡ map expected long_payloads
sixteen_of_level_2_and_no_more = bare_cases long_payloads tree.sixteen_of_level_2_and_no_more

pub two_hundred_and_fifty_four_blocks : map bare many_blocks ≡ map expected many_blocks
two_hundred_and_fifty_four_blocks = bare_cases many_blocks tree.two_hundred_and_fifty_four_blocks

-- the wrapped examples
pub the_wrapped_cases : map wrapped wrapped_cases ≡ map expected wrapped_cases
the_wrapped_cases = wrapped_cases_lem wrapped_cases tree.the_wrapped_cases
