-- The three tests.
use mathlib.Core.Bool.{and_assoc, and-true}
use Rattle.lta_spec.specs.Shape.{lag_count_ok}
use Rattle.shape.proofs.lag_count_ok.Goals as goal

pub returns : goal.returns
unfolding lag_count_ok
returns c = simp (and_assoc, and-true)
