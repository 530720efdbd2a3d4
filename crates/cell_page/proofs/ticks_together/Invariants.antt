-- The losses are added up in turn.
use mathlib.Core.Path.{◌≡◌}
use Prim.Native.Nat.{◌*◌, ◌≤◌}
use lib.ListN.{take}
use Rattle.lta_spec.specs.Words.{over_all}
use Rattle.lta_spec.specs.Shape.{run_limit}
use Rattle.lta_spec.specs.Row.{ticks_of}
use Rattle.cell_layout.specs.Views.{places_in}
use Rattle.cell_page.proofs.ticks_together.Given as goal

abbrev pub invariant-loop-i : goal.invariant-loop-i
invariant-loop-i l =
    (l.ticks ≡ over_all ticks_of (take l.i (places_in l.cell).losses)) × (l.ticks ≤ l.i * run_limit)
