-- Big code numbers are not broken codes (02, d), of the functions' own bytes and in the request's own numbers: each place that has a ue(v) number
-- refuses every one that it does not allow, up to 2^32 − 2, with its own number; and 2 is a 32nd zero.
use Prim.Native.Nat.{ℕ, ◌<◌, ◌≤◌}
use mathlib.Core.Path.{◌≡◌, refl, ap, ◌∙◌}
use mathlib.Core.List.{List, [], ◌∷◌, ◌++◌}
use mathlib.Core.Bool.{Bool, true, false}
use native.Mathlib.Omega.{arith}
use borrow.Author.Tests.{le-leb, ne_eqb}
use lib.Dec.{eqb, leb}
use lib.ListN.{length}
use lib.IntN.{pos}
use Rattle.tree.specs.Bits.{bits_of}
use Rattle.tree.specs.Reading.{allows, Fault, number_in, no}
use Rattle.tree.specs.Meaning.{all_bits}
use Rattle.tree.proofs.Truth.{range_of_one}
use Rattle.record.specs.Name.{Name, app_identifier, app_version, ext_block_length, ext_block_level}
use Rattle.syntax.specs.Data.{Item, lengths, bare_data}
use Rattle.syntax.specs.Element.{variable_element, fixed_element, head_elements, open_elements, items_elements, all_fit}
use Rattle.syntax.specs.Wrapper.{wrapper_bytes}
use Rattle.syntax.proofs.Numbers.{another_identifier, another_version, too_many_announced, another_length, no_level, a_zero_too_many, only_a_zero_too_many}
use Rattle.syntax.proofs.Wrapped.{handed_on}
use Rattle.reader.specs.Reading.{reading_of, read_bare}
use Rattle.wrapper.specs.Wrapper.{read_wrapped}
use Rattle.promises.specs.Numbers.{ThirtySecondZero}
use Rattle.promises.proofs.Reasons.{fault_with, number_of_lem}

-- an input of these bits gets the number of their fault
gets : (s : List ℕ) (bits : List Bool) (f : Fault Name) → bits_of s ≡ bits → bare_data bits ≡ no f → (read_bare s).result ≡ number_in f
gets s bits f e h = number_of_lem f (ap bare_data e ∙ h)

module _ (s : List ℕ) (t : List Bool) where
  -- ---- each place checks its own range

  pub every-other_app_identifier_gets_4 : (v : ℕ) → v ≤ 4294967294 → (v ≡ 1 → ⊥) → bits_of s ≡ all_bits (variable_element app_identifier v ∷ []) ++ t → (read_bare s).result ≡ 4
  every-other_app_identifier_gets_4 v h other e = gets s _ _ e (another_identifier v t (omega arith) other)

  pub every-other_app_version_gets_5 : (v : ℕ) → v ≤ 4294967294 → (v ≡ 0 → ⊥)
      → bits_of s ≡ all_bits (variable_element app_identifier 1 ∷ variable_element app_version v ∷ []) ++ t → (read_bare s).result ≡ 5
  every-other_app_version_gets_5 v h other e = gets s _ _ e (another_version v t (omega arith) other)

  pub every-number_of-blocks_above_254_gets_6 : (n : ℕ) → n ≤ 4294967294 → 254 < n → bits_of s ≡ all_bits (head_elements true n) ++ t → (read_bare s).result ≡ 6
  every-number_of-blocks_above_254_gets_6 n h many e = gets s _ _ e (too_many_announced n t (omega arith) many)

  -- of any block: `count` blocks are announced, and the blocks `is` stand before it
  module _ (count : ℕ) (is : List Item) (few : count ≤ 254) (fewer : length is < count) (fit : all_fit [] is ≡ true) where
    pub every-other-length_gets_9 : (n l : ℕ) → n ≤ 4294967294 → l < 256 → allows (lengths l) (pos n) ≡ false
        → bits_of s ≡ all_bits (open_elements true count ++ items_elements is ++ (variable_element ext_block_length n ∷ fixed_element 8 ext_block_level l ∷ [])) ++ t → (read_bare s).result ≡ 9
    every-other-length_gets_9 n l h small m e = gets s _ _ e (another_length count is few fewer fit n (omega arith) l t small m)

    -- a length is judged when its level is known: where that is missing, any length gets 1
    pub a_length_without_its_level_gets_1 : (n : ℕ) → n ≤ 4294967294 → length t < 8
        → bits_of s ≡ all_bits (open_elements true count ++ items_elements is ++ (variable_element ext_block_length n ∷ [])) ++ t → (read_bare s).result ≡ 1
    a_length_without_its_level_gets_1 n h short e = gets s _ _ e (no_level count is few fewer fit n (omega arith) t short)

-- the lengths that are allowed, in numbers: of a known level its own, of any other up to 1,023
pub lengths_in_numbers : (n : ℕ)
    → (allows (lengths 1) (pos n) ≡ eqb n 5) × (allows (lengths 2) (pos n) ≡ eqb n 11) × (allows (lengths 5) (pos n) ≡ eqb n 7)
    × ((l : ℕ) → (l ≡ 1 → ⊥) → (l ≡ 2 → ⊥) → (l ≡ 5 → ⊥) → allows (lengths l) (pos n) ≡ leb n 1023)
lengths_in_numbers n =
    (range_of_one 5 n, range_of_one 11 n, range_of_one 7 n, λ l a b c. rw (ne_eqb l 1 a, ne_eqb l 2 b, ne_eqb l 5 c, le-leb 0 n (omega arith)) refl)

-- ---- 2 is a 32nd zero

pub a_32nd_zero_gets_2 : (s : List ℕ) → ThirtySecondZero (bits_of s) → (read_bare s).result ≡ 2
a_32nd_zero_gets_2 s z = gets s _ _ z.bits (a_zero_too_many z.earlier z.name z.rest z.next)

pub only_a_32nd_zero_gets_2 : (s : List ℕ) → (read_bare s).result ≡ 2 → ThirtySecondZero (bits_of s)
only_a_32nd_zero_gets_2 s e =
    let x = fault_with bare_data 2 (omega arith) s e in
    let z = only_a_zero_too_many (bits_of s) x.0 x.1 x.2 in
    record { earlier = z.0; name = z.1; rest = z.2; next = z.3; bits = z.4 }

-- ---- and the same behind the wrapper, since the data is handed on

pub data_behind_the_wrapper_is_read_as_bare_data : (s : List ℕ) → read_wrapped (wrapper_bytes ++ s) ≡ read_bare s
data_behind_the_wrapper_is_read_as_bare_data s = ap reading_of (handed_on s)
