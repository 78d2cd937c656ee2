-- `reason::write_reason` meets its contract: the page has room for every reason.
use native.Mathlib.Omega.{arith}
use Rattle.reason.proofs.Longest.{no_reason_is_longer, longest_bytes}
use Rattle.reason.proofs.write_reason.Goals as goal

pub put_reason-requires : goal.put_reason-requires
put_reason-requires c =
    let q = c.args.q in
    omega (arith, no_reason_is_longer q.result q.offset q.cause (omega arith) (omega arith) (omega arith) (omega arith) (omega arith), longest_bytes)
