-- `call_tick_tests::units_sound` meets its contract. The invariant: the cells before c are as the engine leaves them,
-- or not.
use mathlib.Core.Path.{◌≡◌}
use lib.ListN.{take}
use Rattle.lta_spec.specs.Step.{units_sound}
use Rattle.call_run.specs.Runs.{run_of}
use Rattle.call_tick_tests.proofs.units_sound.Given as goal

abbrev pub invariant-loop-c : goal.invariant-loop-c
invariant-loop-c l =
    l.ok ≡ units_sound l.run.shape l.t (take l.c (run_of l.run.shape l.run.mem.now).units)
