-- The loop has put the last digits: the invariant is `Put`.
use Rattle.text.proofs.TextLaws.{Put}
use Rattle.text.proofs.put_digits.Given as goal

abbrev pub invariant-loop-rest : goal.invariant-loop-rest
invariant-loop-rest l = Put l.initial.out l.end l.n l.at l.rest l.out

abbrev pub decreases-loop-rest : goal.decreases-loop-rest
decreases-loop-rest l = l.rest
