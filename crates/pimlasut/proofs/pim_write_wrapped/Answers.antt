-- `pimlasut::pim_write_wrapped` meets its contract: what is written has few bytes.
use Rattle.syntax.specs.Wrapper.{wrapped_payload}
use Rattle.pimlasut.proofs.Laws.{few_wrapped_bytes, few_written, given_written}
use Rattle.pimlasut.proofs.pim_write_wrapped.Goals as goal

pub give_written-requires : goal.give_written-requires
give_written-requires c =
    few_written wrapped_payload c.args.numbers.now c.args.out.now c.if-numbers-ne-NUMBERS.false c.get_record.ensures c.write_wrapped-answer.ensures.result few_wrapped_bytes

pub returns : goal.returns
returns c =
    let given =
    given_written wrapped_payload c.args.numbers.now c.args.out.now c.if-numbers-ne-NUMBERS.false c.get_record.ensures c.write_wrapped-answer.ensures.result c.args.written.now c.write_wrapped-answer.ensures.buffer
    c.give_written.ensures.result c.give_written.ensures.bytes in
    record { result = given.0; buffer = given.1.0; bytes = given.1.1 }
