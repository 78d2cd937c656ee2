-- `shader::numbers_of` meets its contract: each number by itself.
use Rattle.std.proofs.Common.{◌≡◌, true, pos, w16, to_z, of_z, sym, ◌∙◌, rules}
use Rattle.record.specs.declared.Block.TheVariants.{Level2}
use Rattle.record.specs.Blocks.{in_range}
use Rattle.shader.proofs.Ranges.{codes}
use Rattle.shader.proofs.numbers_of.Goals as goal

pub returns-in-Level2-clause-accepted : goal.returns-in-Level2-clause-accepted
returns-in-Level2-clause-accepted c =
    let b = c.in-Level2 in
    let same_weight : to_z w16 (of_z w16 b.ms_weight) ≡ b.ms_weight = search rules in
    let inside : in_range (Level2 b.target_max_pq b.trim_slope b.trim_offset b.trim_power b.trim_chroma_weight b.trim_saturation_gain b.ms_weight) ≡ true =
    sym c.in_range.ensures ∙ c.if-in_range.true in
    let held = codes b.target_max_pq b.trim_slope b.trim_offset b.trim_power b.trim_chroma_weight b.trim_saturation_gain b.ms_weight inside in
    let weight = rw same_weight at c.from-in-Level2-6.ensures in (
      rw b.is inside,
      rw (
        b.is,
        c.single.ensures (pos b.target_max_pq) held.target c.from.ensures,
        c.single-in-Level2.ensures (pos b.trim_slope) held.slope c.from-in-Level2.ensures,
        c.single-in-Level2-2.ensures (pos b.trim_offset) held.offset c.from-in-Level2-2.ensures,
        c.single-in-Level2-3.ensures (pos b.trim_power) held.power c.from-in-Level2-3.ensures,
        c.single-in-Level2-4.ensures (pos b.trim_chroma_weight) held.chroma c.from-in-Level2-4.ensures,
        c.single-in-Level2-5.ensures (pos b.trim_saturation_gain) held.gain c.from-in-Level2-5.ensures,
        c.single-in-Level2-6.ensures b.ms_weight held.weight weight,
      ),
    )
