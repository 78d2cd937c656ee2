-- `pimlasut::give_reading` meets its contract: the record's row is pasted whole.
use Rattle.std.proofs.Common.{◌≡◌, ◌∙◌, length, arith, rules}
use Rattle.record.specs.Blocks.{most_blocks}
use Rattle.flat.specs.Flat.{flat, flat_length}
use Rattle.flat.proofs.Named.{length-flat}
use Rattle.flat.proofs.Rows.{pasted_whole}
use Rattle.pimlasut.proofs.give_reading.Goals as goal

pub returns-clause-record : goal.returns-clause-record
returns-clause-record c =
    let r = c.args.reading.«record» in
    let long : length r.places ≡ most_blocks = search rules in
    c.put_record.ensures ∙ pasted_whole c.args.numbers.now (flat r) flat_length (omega arith) (length-flat r long)
