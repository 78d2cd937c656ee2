-- What stands in the data from a refusal's offset on, by its number, and the cause that it shows.
use Rattle.std.specs.Prelude.{ℕ, ◌/◌, ◌≤◌, ◌≡◌, List, ◌++◌, Bool, true, cond, eqb, leb, pos, length, take, drop}
use Rattle.refusals.specs.Refusals.{too_many_zeros, wrong_identifier, wrong_version, too_many_blocks, not_zero, wrong_length, not_in_order, repeated_target, bytes_remain}
use Rattle.tree.specs.Bits.{value}
use Rattle.tree.specs.Codes.{ue_code}
use Rattle.tree.specs.Coding.{variable, holds_in}
use Rattle.element.specs.declared.Element.{Element}
use Rattle.syntax.specs.Data.{most_announced, lengths}
use Rattle.cause.specs.declared.Cause.{Cause}
use Rattle.cause.specs.Cause.{untold, range, other, cause_by}

-- n bits behind k others, as a number
abbrev pub number_behind : ℕ → ℕ → List Bool → ℕ
number_behind k n t = value (take n (drop k t))

-- behind a block's length: its level, and for 10 and 11 its fields
abbrev pub ShownBlock : (number size : ℕ) → List Bool → Element → Cause → Type 0
ShownBlock number size t e c =
    (8 ≤ length t)
    × cond (eqb number wrong_length) (c ≡ cause_by e size (lengths (number_behind 0 8 t)))
    (cond (eqb number not_in_order) ((44 ≤ length t) × (c ≡ range e (number_behind 32 12 t) (number_behind 8 12 t) (number_behind 20 12 t)))
    (cond (eqb number repeated_target) ((20 ≤ length t) × (c ≡ other e (number_behind 8 12 t))) (c ≡ other e (number_behind 0 8 t))))

-- behind a ue(v) code, whose number is v: nothing more for 4, 5 and 6
abbrev pub ShownCode : (number v : ℕ) → List Bool → Element → Cause → Type 0
ShownCode number v t e c =
    cond (eqb number wrong_identifier) (c ≡ range e v 1 1)
    (cond (eqb number wrong_version) (c ≡ range e v 0 0)
    (cond (eqb number too_many_blocks) (c ≡ range e v 0 most_announced) (ShownBlock number v t e c)))

-- from the offset on: for 1, 2 and 7 it is not looked at, for 12 its bytes are counted, else a code stands there
abbrev pub Shown : (number : ℕ) → List Bool → Element → Cause → Type 0
Shown number bits e c =
    cond (leb number too_many_zeros) (c ≡ untold e)
    (cond (eqb number not_zero) (c ≡ range e 1 0 0)
    (cond (eqb number bytes_remain) ((8 ≤ length bits) × (c ≡ range e (length bits / 8) 0 0)) ((v : ℕ) × (t : List Bool) × (bits ≡ ue_code v ++ t) × (holds_in variable (pos v) ≡ true) × ShownCode number v t e c)))
