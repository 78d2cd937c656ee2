-- `bits::to_signed` meets its contract: half of 2 ^ n up, round, and down again.
use Rattle.bits.proofs.Signed.{sum_of_halves, whole_is_some, turned_fits, half_fits, difference_fits, signed_fits, signed_is}
use Rattle.bits.proofs.to_signed.Goals as goal

pub overflow_add-result : goal.overflow_add-result
overflow_add-result c = let a = c.args in record { fits = sum_of_halves a.n a.v c.requires.0 c.requires.1 c.requires.2 }

pub nonzero_rem-result : goal.nonzero_rem-result
nonzero_rem-result c = let a = c.args in whole_is_some a.n a.v c.requires.0 c.requires.1 c.requires.2

pub overflow_cast-result-2 : goal.overflow_cast-result-2
overflow_cast-result-2 c = let a = c.args in turned_fits a.n a.v c.requires.0 c.requires.1 c.requires.2

pub overflow_cast-result-3 : goal.overflow_cast-result-3
overflow_cast-result-3 c = let a = c.args in half_fits a.n a.v c.requires.0 c.requires.1 c.requires.2

pub overflow_sub-result : goal.overflow_sub-result
overflow_sub-result c = let a = c.args in difference_fits a.n a.v c.requires.0 c.requires.1 c.requires.2

pub overflow_cast-result-4 : goal.overflow_cast-result-4
overflow_cast-result-4 c = let a = c.args in signed_fits a.n a.v c.requires.0 c.requires.1 c.requires.2

pub returns : goal.returns
returns c = let a = c.args in signed_is a.n a.v c.requires.0 c.requires.1 c.requires.2
