-- `flat::block_of` meets its contract: level 2, where the last field has a sign.
use Rattle.std.proofs.Common.{◌≡◌, w16, to_z, of_z, rules}
use Rattle.flat.specs.Flat.{number_at, signed_in}
use Rattle.flat.proofs.block_of.Goals as goal

pub returns-in-2 : goal.returns-in-2
returns-in-2 c =
    let weight : to_z w16 (of_z w16 c.unwrap_or.result) ≡ signed_in 16 (number_at c.args.eight 7) = search rules in
    rw weight (search rules)
