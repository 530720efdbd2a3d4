-- The invariant: the cells before c passed their test, or not.
use mathlib.Core.Path.{◌≡◌}
use lib.ListN.{take}
use Rattle.lta_spec.specs.Damage.{picks_sound}
use Rattle.call_run.specs.Runs.{run_of}
use Rattle.call_pick_tests.proofs.cells_sound.Given as goal

abbrev pub invariant-loop-c : goal.invariant-loop-c
invariant-loop-c l =
    let s = l.run.shape in l.ok ≡ picks_sound s.bins l.t (take l.c (run_of s l.run.mem.now).units)
