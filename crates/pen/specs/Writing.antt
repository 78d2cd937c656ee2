-- What a pen has written: whole bytes, and the bits that wait for the next one.
use Rattle.std.specs.Prelude.{ℕ, ◌+◌, ◌*◌, ◌≤◌, ◌≡◌, List, ◌++◌, Bool, length, take, drop}
use Rattle.tree.specs.Bits.{bits_of, code}
use Rattle.std.proofs.Math.Nat.{zero-lt-suc}
use Rattle.std.proofs.lemmas.Nat.{pow_pos}
use Rattle.pen.specs.declared.Pen.{Pen}

-- the pen at the start of a buffer
abbrev pub start_pen : Pen
start_pen = record { at = 0; waiting = 0; bits = 0; few = zero-lt-suc 7; small = pow_pos 0 }

-- all bits from the start of the buffer to the pen
abbrev pub bits_written : List ℕ → Pen → List Bool
bits_written out pen = bits_of (take pen.at out) ++ code pen.waiting pen.bits

-- behind the pen there is room for n bits
abbrev pub RoomForBits : List ℕ → Pen → ℕ → Type 0
RoomForBits out pen n = 8 * pen.at + pen.waiting + n ≤ 8 * length out

-- from out and pen to out' and pen' the bits were written, and no byte past the pen changed
pub record Wrote (out : List ℕ) (pen : Pen) (bits : List Bool) (out' : List ℕ) (pen' : Pen) : Type 0 where
  pub up_to : bits_written out' pen' ≡ bits_written out pen ++ bits
  pub later : drop pen'.at out' ≡ drop pen'.at out
  pub same : length out' ≡ length out
  pub place : 8 * pen'.at + pen'.waiting ≡ 8 * pen.at + pen.waiting + length bits
