-- The invariant: the cells before c passed their test, or not.
use mathlib.Core.Path.{◌≡◌}
use lib.ListN.{take}
use Rattle.lta_spec.specs.Damage.{ledgers_sound}
use Rattle.call_run.specs.Runs.{run_of}
use Rattle.call_page.proofs.ledgers_sound.Given as goal

abbrev pub invariant-loop-c : goal.invariant-loop-c
invariant-loop-c l = l.ok ≡ ledgers_sound (take l.c (run_of l.run.shape l.run.mem.now).units)
