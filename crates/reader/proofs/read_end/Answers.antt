-- `reader::read_end` meets its contract: zero bits to the boundary, and behind them the input ends, or bytes remain.
use Prim.Native.Nat.{◌+◌}
use mathlib.Core.Path.{◌≡◌}
use native.Mathlib.Omega.{arith}
use lib.ListN.{drop}
use Rattle.std.proofs.Common.{Ok, rules}
use Rattle.tree.specs.Bits.{bits_of}
use Rattle.tree.specs.Syntax.{read, zero_bits}
use Rattle.tree.proofs.Bits.{length_rest}
use Rattle.bits.specs.Answer.{nameless, span_of}
use Rattle.reader.proofs.Laws.{end_refused, gap_took, end_remains, end_is}
use Rattle.reader.proofs.read_end.Goals.{In_ok-zeros}
use Rattle.reader.proofs.read_end.Goals as goal

pub returns-in_err-zeros : goal.returns-in_err-zeros
returns-in_err-zeros c =
    let told = end_refused c.args.at (bits_of c.args.s.now) c.zeros_behind.result c.zeros_behind.ensures.0 in
    search (rules, told)

-- the zero bits that were read
there : (c : In_ok-zeros) → Ok c.in_ok-zeros.zeros ≡ span_of (read (zero_bits nameless c.zeros_behind.result) c.args.at (drop c.args.at (bits_of c.args.s.now)))
there c = search rules

took : (c : In_ok-zeros) → c.in_ok-zeros.zeros.width ≡ c.zeros_behind.result
took c = gap_took c.args.at (bits_of c.args.s.now) c.zeros_behind.result c.zeros_behind.ensures.0 c.in_ok-zeros.zeros (there c)

pub overflow_add-end : goal.overflow_add-end
overflow_add-end c = omega (arith, took (goal.at.overflow_add-end c).In_ok-zeros, c.zeros_behind.ensures)

pub overflow_cast-result : goal.overflow_cast-result
overflow_cast-result c = omega (arith, took (goal.at.overflow_cast-result c).In_ok-zeros, c.zeros_behind.ensures)

pub returns-then-end-s : goal.returns-then-end-s
returns-then-end-s c =
    let a = c.args in
    let d = (goal.at.returns-then-end-s c).In_ok-zeros in
    rw c.at.ensures
    (end_remains a.at (bits_of a.s.now) c.zeros_behind.result c.zeros_behind.ensures.0 c.in_ok-zeros.zeros (there d)
    (λ e. omega (arith, length_rest a.s.now (a.at + c.in_ok-zeros.zeros.width), took d, c.zeros_behind.ensures)))

pub returns : goal.returns
returns c =
    let a = c.args in
    let d = (goal.at.returns c).In_ok-zeros in
    end_is a.at (bits_of a.s.now) c.zeros_behind.result c.zeros_behind.ensures.0 c.in_ok-zeros.zeros (there d)
    (omega (arith, length_rest a.s.now (a.at + c.in_ok-zeros.zeros.width), took d, c.zeros_behind.ensures))
