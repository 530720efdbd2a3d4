-- The loop's invariant: the gathered bits have no top bit exactly where the first i words are at most b.
use Rattle.std.proofs.Common.{◌≡◌, ltb}
use Rattle.lta_spec.specs.Words.{part, every}
use Rattle.words.specs.Moves.{at_most}
use Rattle.words.proofs.PartTests.{top}
use Rattle.words.proofs.all_le.Given as goal

abbrev pub invariant-loop-i : goal.invariant-loop-i
invariant-loop-i l = ltb l.bits top ≡ every (at_most l.b) (part l.at l.i l.s)
