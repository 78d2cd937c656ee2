-- `pimlasut::pim_write_bare` meets its contract: what is written has few bytes.
use Rattle.syntax.specs.Element.{payload}
use Rattle.pimlasut.proofs.Laws.{few_payload_bytes, few_written, given_written}
use Rattle.pimlasut.proofs.pim_write_bare.Goals as goal

pub give_written-requires : goal.give_written-requires
give_written-requires c =
    few_written payload c.args.numbers.now c.args.out.now c.if-numbers-ne-NUMBERS.false c.get_record.ensures c.write_data-answer.ensures.result few_payload_bytes

pub returns : goal.returns
returns c =
    let given =
    given_written payload c.args.numbers.now c.args.out.now c.if-numbers-ne-NUMBERS.false c.get_record.ensures c.write_data-answer.ensures.result c.args.written.now c.write_data-answer.ensures.buffer
    c.give_written.ensures.result c.give_written.ensures.bytes in
    record { result = given.0; buffer = given.1.0; bytes = given.1.1 }
