-- The loop's invariant: no validity byte of the first c cells has another bit set, or one has.
use mathlib.Core.Path.{◌≡◌}
use Rattle.lta_spec.specs.Call.{validity_ok}
use Rattle.call_tick_tests.proofs.validity_ok.Given as goal

abbrev pub invariant-loop-c : goal.invariant-loop-c
invariant-loop-c l = l.ok ≡ validity_ok l.c l.samples
