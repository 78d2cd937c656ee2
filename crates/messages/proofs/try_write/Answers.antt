-- `messages::try_write` meets its contract: the wrapped payload is written into its part or refused, and then the bytes around it are written.
use Rattle.std.proofs.Common.{◌≡◌, ap, ◌∙◌, ◌-◌, length, Err, arith}
use Rattle.std.proofs.lemmas.Result.{err_from_is_err_and}
use borrow.Rule.Slice.PartMut.{put_mid, put_same}
use Rattle.record.specs.Blocks.{most_blocks}
use Rattle.valid.specs.Valid.{valid}
use Rattle.syntax.specs.Wrapper.{wrapped_payload}
use Rattle.wrapper.specs.Wrapper.{without_room}
use Rattle.messages.specs.Answer.{message_rbsp}
use Rattle.messages.proofs.Writing.{rbsp_is, wrapped_length, no_room, refused_within, written_within, message_stored}
use Rattle.messages.proofs.try_write.Goals as goal

pub returns-then-out-lt3 : goal.returns-then-out-lt3
returns-then-out-lt3 c =
    let r = c.args.r in
    let x = no_room (message_rbsp r) (wrapped_payload r) (valid r) (rbsp_is r c.well_formed.0.1.1.1.1.0.1.0.1) c.args.out.now c.if-out-lt3.true in
    record { result = ap Err (c.without_room.ensures ∙ ap without_room c.is_valid.ensures) ∙ x.0; buffer = x.1 }

pub returns-in_err-n : goal.returns-in_err-n
returns-in_err-n c =
    let r = c.args.r in
    let out = c.args.out.now in
    let p = err_from_is_err_and c.from_residual.result c.from_residual.ensures.1 in
    let d = c.in_err-n.ensures in
    let x = refused_within (message_rbsp r) (wrapped_payload r) (valid r) (rbsp_is r c.well_formed.0.1.1.1.1.0.1.0.1) out (omega arith) _ d.result in
    record { result = rw (p.1, p.2) x.0; buffer = ap (put_mid 2 (length out - 1 - 2) out) (d.buffer ∙ x.1) ∙ put_same 2 (length out - 1 - 2) out ∙ x.2 }

pub overflow_cast-out-2 : goal.overflow_cast-out-2
overflow_cast-out-2 c =
    let r = c.args.r in
    let p : length r.places ≡ most_blocks = c.well_formed.0.1.1.1.1.0.1.0.1 in
    let x = written_within (message_rbsp r) (wrapped_payload r) (valid r) (rbsp_is r p) c.args.out.now (omega arith) c.in_ok-n.n c.in_ok-n.ensures.result in
    omega (arith, x.1, wrapped_length r p x.0)

pub returns : goal.returns
returns c =
    let r = c.args.r in
    let d = c.in_ok-n.ensures in
    let x = message_stored (message_rbsp r) (wrapped_payload r) (valid r) (rbsp_is r c.well_formed.0.1.1.1.1.0.1.0.1) c.args.out.now (omega arith) c.in_ok-n.n d.result c.try_write.new.out d.buffer in
    record { result = x.0; buffer = x.1 }
