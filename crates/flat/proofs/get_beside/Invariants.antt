use Rattle.std.proofs.Common.{◌≡◌, ◌&&◌, take, drop}
use Rattle.flat.specs.Flat.{flat_length}
use Rattle.flat.proofs.Places.{read_to, named_to}
use Rattle.flat.proofs.get_beside.Given as goal

abbrev pub invariant-loop-i : goal.invariant-loop-i
invariant-loop-i l =
    let numbers = take flat_length (drop l.at l.row) in
    (l.place-items ≡ (read_to numbers l.i).places) × (l.named ≡ l.beside && named_to numbers l.i)
