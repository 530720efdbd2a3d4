-- The loop's invariant: none of the first i words is above the bits gathered.
use Rattle.std.proofs.Common.{◌≡◌, true}
use Rattle.lta_spec.specs.Words.{part, every}
use Rattle.words.specs.Moves.{at_most}
use Rattle.words.proofs.bits_of.Given as goal

abbrev pub invariant-loop-i : goal.invariant-loop-i
invariant-loop-i l = every (at_most l.bits) (part l.at l.i l.s) ≡ true
