-- Open's row or, where Open is full, that of loss 6.
use mathlib.Core.Path.{◌∙◌}
use Rattle.cell_layout.proofs.ViewLaws.{fits_in}
use Rattle.cell_tick.proofs.TickLaws.{goes-open, goes-held-off}
use Rattle.cell_tick.proofs.tick_row.Goals as goal

pub returns-then-cell-lt-OPEN_LIMIT : goal.returns-then-cell-lt-OPEN_LIMIT
returns-then-cell-lt-OPEN_LIMIT c = goes-open (fits_in c.args.cell) c.if-cell-lt-OPEN_LIMIT.true

pub returns-else-cell-lt-OPEN_LIMIT : goal.returns-else-cell-lt-OPEN_LIMIT
returns-else-cell-lt-OPEN_LIMIT c =
    c.loss_row.ensures.is ∙ goes-held-off (fits_in c.args.cell) c.if-cell-lt-OPEN_LIMIT.false
