-- `sei::try_write` meets its contract: the message always fits its body, and is handed on from there.
use Rattle.std.proofs.Common.{ℕ, ◌∙◌}
use Rattle.std.proofs.lemmas.Result.{err_from_is_err_and}
use lib.ListN.{replicate, length-replicate}
use Rattle.sei.proofs.Functions.{message_refused, message_handed, unit_written}
use Rattle.sei.proofs.try_write.Goals as goal

pub returns-in_err-n : goal.returns-in_err-n
returns-in_err-n c =
    let p = err_from_is_err_and c.from_residual.result c.from_residual.ensures.1 in
    let x = message_refused c.args.r c.well_formed.0.1.1.1.1.0.1.0.1 (replicate 235 0) (length-replicate {A = ℕ} 235 0) c.args.out.now _ c.in_err-n.ensures.result in
    record { result = rw (p.1, p.2) x.0; buffer = x.1 }

pub returns : goal.returns
returns c =
    let d = c.in_ok-n.ensures in
    let w = c.write_escaped.ensures in
    let m = message_handed c.args.r c.well_formed.0.1.1.1.1.0.1.0.1 (replicate 235 0) (length-replicate {A = ℕ} 235 0) c.in_ok-n.n c.try_write.new.out d.result d.buffer in
    let x = unit_written c.args.r _ c.args.out.now m.0 m.2 in
    record { result = w.result ∙ x.0; buffer = w.buffer ∙ x.1 }
