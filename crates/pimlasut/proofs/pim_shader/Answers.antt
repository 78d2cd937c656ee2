-- `pimlasut::pim_shader` meets its contract: a refusal is the conversion's, and the seven numbers are numbers.
use Rattle.std.proofs.Common.{sym, ap, ◌∙◌, subst}
use Rattle.shader.specs.Shader.{conversion_result}
use Rattle.flat.specs.Flat.{place_length, block_named}
use Rattle.pimlasut.specs.Boundary.{Patterns}
use Rattle.pimlasut.proofs.Laws.{whole_row}
use Rattle.pimlasut.proofs.Patterns.{conversion_is_numbers}
use Rattle.pimlasut.proofs.pim_shader.Goals as goal

pub returns-then-conversion-ne0-clause-result : goal.returns-then-conversion-ne0-clause-result
returns-then-conversion-ne0-clause-result c =
    rw (c.if-numbers-ne-PLACE.false, c.if-bits-ne-SINGLES.false) (c.from.ensures ∙ c.shader_numbers-conversion.ensures.0
    ∙ ap conversion_result (c.get_block.ensures ∙ ap block_named (whole_row c.args.numbers.now place_length c.if-numbers-ne-PLACE.false)))

pub put_bits-requires : goal.put_bits-requires
put_bits-requires c = (c.if-bits-ne-SINGLES.false, subst Patterns (sym c.shader_numbers-conversion.ensures.1) (conversion_is_numbers c.get_block.result))
