-- `wrapper::read_wrapped` meets its contract: the wrapper is judged, and the data handed on from the ninth byte.
use Prim.Native.Nat.{ℕ, ◌-◌}
use mathlib.Core.Path.{◌≡◌, ap, sym, ◌∙◌}
use mathlib.Core.List.{List}
use native.Mathlib.Omega.{arith}
use lib.ListN.{length, take, drop, length-drop}
use lib.Seq.{take_all}
use Rattle.tree.specs.Bits.{bits_of}
use Rattle.tree.proofs.Lists.{all_bytes}
use Rattle.syntax.specs.Data.{bare_data}
use Rattle.reader.specs.Reading.{reading_of}
use Rattle.wrapper.proofs.Laws.{wrapped_no, wrapped_is}
use Rattle.wrapper.proofs.read_wrapped.Goals as goal

pub slice_bounds-read_data-count : goal.slice_bounds-read_data-count
slice_bounds-read_data-count c = (wrapped_is c.args.input.now (sym c.in-Ok.is ∙ c.check_wrapper.ensures)).0

pub slice_bounds-read_data-start : goal.slice_bounds-read_data-start
slice_bounds-read_data-start c = (wrapped_is c.args.input.now (sym c.in-Ok.is ∙ c.check_wrapper.ensures)).0

pub returns-in-Err : goal.returns-in-Err
returns-in-Err c =
    let s = c.args.input.now in
    c.refused.ensures ∙ rw (sym c.number.ensures) at (wrapped_no s (all_bytes s (λ i. (c.type_inv.input i).fits)) c.in-Err.why (sym c.in-Err.is ∙ c.check_wrapper.ensures))

pub returns-in-Ok : goal.returns-in-Ok
returns-in-Ok c =
    let s = c.args.input.now in
    let there = wrapped_is s (sym c.in-Ok.is ∙ c.check_wrapper.ensures) in
    let part : take (length s - 8) (drop 8 s) ≡ drop 8 s = take_all (length s - 8) (drop 8 s) (omega (arith, length-drop 8 s)) in
    c.read_data.ensures ∙ ap (λ (l : List ℕ). reading_of (bare_data (bits_of l))) part ∙ ap reading_of there.1
