-- `shader::shader_numbers` meets its contract: the bits of plus zero are 0.
use Rattle.std.proofs.Common.{◌≡◌, ap, ◌∙◌, refl}
use lib.Ieee.{binary32, to_bits, of_bits}
use Rattle.refusals.specs.Numbered.{number_of}
use Rattle.shader.proofs.shader_numbers.Goals as goal

plus_zero : to_bits binary32 (of_bits binary32 0) ≡ 0
unfolding to_bits of_bits
plus_zero = refl

pub returns-in-Err : goal.returns-in-Err
returns-in-Err c =
    let refused = c.in-Err.ensures.refused in
    let d = c.default.ensures in
    (rw refused.0 (c.number.ensures ∙ ap number_of refused.1), rw (refused.0, d.0, d.1.0, d.1.1.0, d.1.1.1.0, d.1.1.1.1.0, d.1.1.1.1.1.0, d.1.1.1.1.1.1, plus_zero))
