-- 001 for 011, and any other command itself.
use borrow.Author.Tests.{eq-eqb, ne_eqb}
use Rattle.lta_spec.specs.Call.{speed}
use Rattle.lta_spec.specs.Engine.{kept_as}
use Rattle.cell_block.proofs.kept_as.Goals as goal

pub returns-then-command-eq-SPEED : goal.returns-then-command-eq-SPEED
unfolding kept_as
returns-then-command-eq-SPEED c = rw (eq-eqb _ speed c.if-command-eq-SPEED.true)

pub returns-else-command-eq-SPEED : goal.returns-else-command-eq-SPEED
unfolding kept_as
returns-else-command-eq-SPEED c = rw (ne_eqb _ speed c.if-command-eq-SPEED.false)
