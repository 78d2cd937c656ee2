-- What the functions that read a block, or a part of it, answer.
use Rattle.std.specs.Prelude.{ℕ, ◌+◌, ◌*◌, ◌/◌, min, List, get_or, Result, Ok, Err}
use Rattle.refusals.specs.declared.Refusal.TheVariants.{PastEnd}
use Rattle.tree.specs.Reading.{Out, ok, no}
use Rattle.element.specs.declared.Element.{Element}
use Rattle.element.specs.declared.Element.TheVariants.{Nothing}
use Rattle.element.specs.declared.Refused.{Refused}
use Rattle.element.specs.Refused.{refused}
use Rattle.record.specs.declared.Block.{Block}
use Rattle.record.specs.Name.{Name}
use Rattle.syntax.specs.Told.{refused_as}
use Rattle.fields.specs.declared.Step.{Step}

abbrev pub step_of : Out Name Block → Result Step Refused
step_of (ok b n) = Ok (record { block = b; width = n })
step_of (no f) = Err (refused_as f)

-- where only n bits are there of fields in a row, `last` of one width and one behind them: how many fields stand before the first that is cut off
abbrev pub whole_fields : (n width last : ℕ) → ℕ
whole_fields n width last = min (n / width) last

-- of fields with these names, the one behind k others is cut off
abbrev pub cut_behind : List Element → (width at k : ℕ) → Refused
cut_behind names width at k = refused PastEnd (get_or names k Nothing) (at + k * width)
