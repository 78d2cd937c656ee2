-- `pimlasut::pim_write_unit` meets its contract: what is written has few bytes.
use Rattle.sei.specs.SeiUnit.{unit_bytes}
use Rattle.pimlasut.proofs.Laws.{few_unit_bytes, few_written, given_written}
use Rattle.pimlasut.proofs.pim_write_unit.Goals as goal

pub give_written-requires : goal.give_written-requires
give_written-requires c =
    few_written unit_bytes c.args.numbers.now c.args.out.now c.if-numbers-ne-NUMBERS.false c.get_record.ensures c.write_unit-answer.ensures.result few_unit_bytes

pub returns : goal.returns
returns c =
    let given =
    given_written unit_bytes c.args.numbers.now c.args.out.now c.if-numbers-ne-NUMBERS.false c.get_record.ensures c.write_unit-answer.ensures.result c.args.written.now c.write_unit-answer.ensures.buffer
    c.give_written.ensures.result c.give_written.ensures.bytes in
    record { result = given.0; buffer = given.1.0; bytes = given.1.1 }
