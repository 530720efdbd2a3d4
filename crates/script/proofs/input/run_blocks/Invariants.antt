-- The invariant is `ReadOn`.
use Rattle.script.specs.Input.{ReadOn}
use Rattle.script.proofs.input.run_blocks.Given as goal

abbrev pub invariant-loop : goal.invariant-loop
invariant-loop g l = ReadOn l.initial.mem l.mem l.kept l.block
