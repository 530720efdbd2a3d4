-- `cell_block::resets` meets its contract.
use mathlib.Core.Path.{refl}
use Rattle.lta_spec.specs.Engine as E
use Rattle.cell_block.proofs.resets.Goals as goal

pub returns : goal.returns
unfolding E.resets
returns c = refl
