-- The room in a loss, by its ticks.
use Rattle.cell_layout.proofs.ViewLaws.{fits_in}
use Rattle.cell_parts.proofs.PartLaws.{loss-over, loss-within}
use Rattle.cell_parts.proofs.loss_holds.Goals as goal

pub returns-then-ticks-gt-RUN_LIMIT : goal.returns-then-ticks-gt-RUN_LIMIT
returns-then-ticks-gt-RUN_LIMIT c =
    loss-over (fits_in c.args.cell) c.args.i c.requires c.args.more
    (rw c.loss_row.ensures.is at c.if-ticks-gt-RUN_LIMIT.true)

pub returns-else-ticks-gt-RUN_LIMIT : goal.returns-else-ticks-gt-RUN_LIMIT
returns-else-ticks-gt-RUN_LIMIT c =
    rw c.loss_row.ensures.is
    (loss-within (fits_in c.args.cell) c.args.i c.requires c.args.more
    (rw c.loss_row.ensures.is at c.if-ticks-gt-RUN_LIMIT.false))
