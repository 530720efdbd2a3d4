-- Held's test, by its row, stamp and flag.
use Rattle.cell_layout.proofs.ViewLaws.{fits_in}
use Rattle.cell_held.proofs.HeldTests.{held_test}
use Rattle.cell_held.proofs.held_ok.Goals as goal

pub returns : goal.returns
returns c =
    rw (c.row_ok-row.ensures, c.held_row-at.ensures.is)
    (held_test (fits_in c.args.cell) c.args.t)
