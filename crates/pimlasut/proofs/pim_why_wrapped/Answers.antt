-- `pimlasut::pim_why_wrapped` meets its contract.
use Prim.Native.Nat.{◌≤◌}
use lib.ListN.{length}
use Rattle.wrapper.specs.Wrapper.{read_wrapped}
use Rattle.reason.specs.Reason.{reason_text, longest}
use Rattle.reason.proofs.Longest.{no_reason_is_longer}
use Rattle.pimlasut.proofs.Laws.{few_reason}
use Rattle.pimlasut.proofs.pim_why_wrapped.Goals as goal

pub give_written-requires : goal.give_written-requires
give_written-requires c =
    let short : length (reason_text c.read_wrapped.result) ≤ length longest =
    let q = c.read_wrapped.result in
    let g = c.read_wrapped.type_inv in
    let why = g.1.1.1.1.1.1.1.0 in
    no_reason_is_longer q.result q.offset q.cause g.1.1.0.1 g.1.1.1.1.1.1.0.1 why.1.1.1.1.0.1 why.1.1.1.1.1.0.1 why.1.1.1.1.1.1.0.1 in
    few_reason (read_wrapped c.args.input.now) c.args.out.now c.read_wrapped.ensures c.write_reason-answer.ensures.result short
