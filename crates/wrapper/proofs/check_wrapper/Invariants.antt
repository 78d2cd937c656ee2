use mathlib.Core.Path.{◌≡◌}
use Rattle.tree.specs.Bits.{bits_of}
use Rattle.tree.specs.Syntax.{read}
use Rattle.tree.specs.Wrapper.{wrapper_table}
use Rattle.record.specs.Name.{«wrapper»}
use Rattle.syntax.specs.Wrapper.{wrapper_bytes}
use Rattle.wrapper.specs.Wrapper.{wrapper_of}
use Rattle.wrapper.proofs.Laws.{from_byte}
use Rattle.wrapper.proofs.check_wrapper.Given as goal

-- the answer from byte i on is the answer from the start
abbrev pub invariant-loop-i : goal.invariant-loop-i
invariant-loop-i l = wrapper_of (from_byte l.input l.i) ≡ wrapper_of (read (wrapper_table «wrapper» wrapper_bytes) 0 (bits_of l.input))
