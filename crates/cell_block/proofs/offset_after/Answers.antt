-- The ways of the step: back, or on.
use mathlib.Core.Path.{sym, ◌∙◌}
use Rattle.cell_block.proofs.CounterLaws.{back, on}
use Rattle.cell_block.proofs.offset_after.Goals as goal

pub returns-then-resets : goal.returns-then-resets
returns-then-resets c = let a = c.args in back a.blocks a.command a.offset a.code (sym c.if-resets.ensures)

pub returns-else-resets : goal.returns-else-resets
returns-else-resets c =
    let a = c.args in c.place_after.ensures ∙ on a.blocks a.command a.offset a.code (sym c.if-resets.ensures)
