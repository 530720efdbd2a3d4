-- `call_tick::tick_cells` meets its contract. The invariant: the first c cells have taken their samples.
use mathlib.Core.Path.{◌≡◌}
use Prim.Native.Nat.{◌≤◌}
use lib.ListN.{take}
use Rattle.lta_spec.specs.Step.{held_off}
use Rattle.lta_spec.specs.Memory.{run_layout}
use Rattle.cell_layout.specs.Lays.{Lays}
use Rattle.call_run.specs.Runs.{run_of}
use Rattle.call_tick.proofs.CellsLaws.{run_to}
use Rattle.call_tick.proofs.tick_cells.Given as goal

abbrev pub invariant-loop-c : goal.invariant-loop-c
invariant-loop-c l =
    Lays (run_layout l.s) l.mem (run_to l.s l.initial.mem l.samples l.c)
    × (l.held ≡ held_off l.s (take l.c (run_of l.s l.initial.mem).units))
    × (l.held ≤ l.c)
