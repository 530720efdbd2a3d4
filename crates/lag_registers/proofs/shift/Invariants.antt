-- The loop's invariant: the entries from place j on have moved.
use Rattle.std.proofs.Common.{◌≡◌, ◌-◌, ◌≤◌}
use Rattle.lta_spec.specs.Words.{part, splice}
use Rattle.lag_registers.proofs.shift.Given as goal

abbrev pub invariant-loop-j : goal.invariant-loop-j
invariant-loop-j l =
    (1 ≤ l.j) × (l.register ≡ splice l.initial.register l.j (part (l.j - 1) (l.depth - l.j) l.initial.register))
