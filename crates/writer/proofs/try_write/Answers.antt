-- `writer::try_write` meets its contract: the record is judged, then the room, and only then a byte is written.
use Prim.Native.Nat.{◌%◌, ◌≤◌}
use mathlib.Core.Path.{◌≡◌, ◌∙◌}
use mathlib.Core.Bool.{true}
use native.Mathlib.Omega.{arith}
use lib.ListN.{length}
use Rattle.std.proofs.Common.{rules}
use Rattle.tree.specs.Meaning.{all_bits}
use Rattle.tree.proofs.Lists.{all_bytes}
use Rattle.tree.proofs.Meaning.{length-all}
use Rattle.output.proofs.Output.{ends_done}
use Rattle.valid.specs.Valid.{valid}
use Rattle.valid.proofs.Clauses.{valid_means}
use Rattle.syntax.specs.Element.{elements, payload}
use Rattle.syntax.proofs.Exact.{whole}
use Rattle.writer.proofs.Parts.{all_written, bits_of_bytes}
use Rattle.writer.proofs.try_write.Goals as goal

pub bytes_needed-n-requires : goal.bytes_needed-n-requires
bytes_needed-n-requires c =
    let judged : valid c.args.r ≡ true = search rules in
    (valid_means c.args.r judged).few

pub put_payload-requires : goal.put_payload-requires
put_payload-requires c =
    let judged : valid c.args.r ≡ true = search rules in
    (omega (arith, bits_of_bytes c.args.r), judged)

pub returns-clause-buffer : goal.returns-clause-buffer
returns-clause-buffer c =
    let judged : valid c.args.r ≡ true = search rules in
    let r = c.args.r in
    let room : length (payload r) ≤ length c.args.out.now = omega arith in
    let bytes = all_bytes c.put_payload.new.out (λ i. (c.type_inv.out i).fits) in
    let even : length (all_bits (elements r)) % 8 ≡ 0 = omega (arith, whole r, length-all (elements r)) in
    all_written c.put_payload.ensures even (omega (arith, length-all (elements r), bits_of_bytes r)) bytes ∙ (ends_done (payload r) (valid r) c.args.out.now judged room).1
