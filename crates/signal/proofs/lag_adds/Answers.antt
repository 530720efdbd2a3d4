-- Two products, a weight and the bias.
use Rattle.signal.specs.Signal.{contribution}
use Rattle.signal.proofs.lag_adds.Goals as goal

pub returns : goal.returns
unfolding contribution
returns c = rw c.weight.ensures
