-- `flat::not_valid` meets its contract.
use Rattle.flat.specs.Flat.{unnamed_record}
use Rattle.flat.proofs.not_valid.Goals as goal

pub returns : goal.returns
unfolding unnamed_record
returns c = rw c.empty-r.ensures
