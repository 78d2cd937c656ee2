-- `messages::find_ours` meets its contract. The invariant: the answer from here, with the first of ours so far, is the answer from the start.
use Rattle.std.proofs.Common.{sym, ◌∙◌}
use Rattle.std.proofs.lemmas.Result.{err_from_is_err_and}
use Rattle.messages.specs.Answer.{first_read}
use Rattle.messages.proofs.Reading.{message_ok, message_err, found_ended, reached_broken, reached_shorter, reached_all, reached_more}
use Rattle.messages.proofs.find_ours.Goals as goal

pub returns-in_err-kind : goal.returns-in_err-kind
returns-in_err-kind c =
    let l = c.loop-kind in
    let p = err_from_is_err_and c.from_residual.result c.from_residual.ensures.1 in
    let x = message_err c.read_message.result _ _ c.in_err-kind.ensures.value c.read_message.ensures in
    rw (p.1, p.2, x.0) (reached_broken c.args.s.now (first_read l.first) l.rest.now l.invariant x.1)

pub returns-then-is_end : goal.returns-then-is_end
returns-then-is_end c =
    let l = c.loop-kind in
    let k = c.in_ok-kind in
    let e = message_ok c.read_message.result (k.kind, k.content, k.behind) _ k.ensures.value c.read_message.ensures in
    rw (c.ok_or-then-is_end.ensures.value, found_ended)
    (reached_all c.args.s.now (first_read l.first) l.rest.now l.invariant k.kind k.content.now k.behind.now e (first_read c.or_ours-first.result) c.or_ours-first.ensures (sym c.is_end.ensures ∙ c.if-is_end.true))

pub loop-kind-smaller : goal.loop-kind-smaller
loop-kind-smaller c =
    let l = c.loop-kind in
    let k = c.in_ok-kind in
    let e = message_ok c.read_message.result (k.kind, k.content, k.behind) _ k.ensures.value c.read_message.ensures in
    reached_shorter c.args.s.now (first_read l.first) l.rest.now l.invariant k.kind k.content.now k.behind.now e

pub loop-kind-preserved : goal.loop-kind-preserved
loop-kind-preserved c =
    let l = c.loop-kind in
    let k = c.in_ok-kind in
    let e = message_ok c.read_message.result (k.kind, k.content, k.behind) _ k.ensures.value c.read_message.ensures in
    reached_more c.args.s.now (first_read l.first) l.rest.now l.invariant k.kind k.content.now k.behind.now e (first_read c.or_ours-first.result) c.or_ours-first.ensures (sym c.is_end.ensures ∙ c.if-is_end.false)
