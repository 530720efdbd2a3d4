-- One record after the other: the invariant is `Ran`, that what the bytes from `at` on leave and print behind the
-- lines so far is what all of them leave and print.
use Prim.Native.Nat.{◌-◌}
use lib.ListN.{length}
use Rattle.script.proofs.RunLaws.{Ran}
use Rattle.script.proofs.run_records.Given as goal

abbrev pub invariant-loop-r : goal.invariant-loop-r
invariant-loop-r l = Ran l.b l.initial.mem l.initial.lines l.ran.at l.mem l.lines l.ran.len

abbrev pub decreases-loop-r : goal.decreases-loop-r
decreases-loop-r l = length l.b - l.ran.at
