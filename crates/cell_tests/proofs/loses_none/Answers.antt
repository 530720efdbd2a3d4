-- 111 and 011, each by its own test.
use mathlib.Core.Path.{refl}
use Rattle.lta_spec.specs.Damage.{loses_none}
use Rattle.cell_tests.proofs.loses_none.Goals as goal

pub returns : goal.returns
unfolding loses_none
returns c = refl
