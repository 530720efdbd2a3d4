-- The loop's invariant: the first i words are moved.
use Rattle.std.proofs.Common.{◌≡◌}
use Rattle.words.specs.Moves.{folded}
use Rattle.words.proofs.fold.Given as goal

abbrev pub invariant-loop-i : goal.invariant-loop-i
invariant-loop-i l = l.s ≡ folded l.initial.s l.from l.to l.i
