-- `shader::single` meets its contract.
use Rattle.singles.proofs.Codes.{quotient_bits}
use Rattle.shader.proofs.single.Goals as goal

pub returns : goal.returns
returns c = λ z h e. rw e (quotient_bits z h)
