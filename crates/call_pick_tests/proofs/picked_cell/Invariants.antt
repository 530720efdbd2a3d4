-- The invariant: the search from c over the cells that are left ends where the whole search does.
use mathlib.Core.Path.{◌≡◌}
use Prim.Native.Nat.{◌-◌, ◌<◌}
use Rattle.lta_spec.specs.Engine.{seek}
use Rattle.lta_spec.specs.Step.{picked_cell}
use Rattle.call_run.specs.Runs.{run_of}
use Rattle.call_pick_tests.proofs.ReadyTestLaws.{ready_in}
use Rattle.call_pick_tests.proofs.picked_cell.Given as goal

abbrev pub invariant-loop : goal.invariant-loop
invariant-loop l =
    let s = l.run.shape in
    let mem = l.run.mem.now in
    (l.c < l.cells) × (seek (ready_in s mem) l.cells (l.cells - l.counter) l.c ≡ picked_cell s (run_of s mem))
