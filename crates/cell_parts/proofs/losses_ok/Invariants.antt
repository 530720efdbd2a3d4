-- The losses are tested in turn: the invariant is that those so far passed.
use mathlib.Core.Path.{◌≡◌}
use lib.ListN.{take}
use Rattle.lta_spec.specs.Words.{every}
use Rattle.lta_spec.specs.Shape.{run_limit}
use Rattle.lta_spec.specs.Row.{row_ok}
use Rattle.cell_layout.specs.Views.{places_in}
use Rattle.cell_parts.proofs.losses_ok.Given as goal

abbrev pub invariant-loop-i : goal.invariant-loop-i
invariant-loop-i l = l.ok ≡ every (row_ok run_limit) (take l.i (places_in l.cell).losses)
