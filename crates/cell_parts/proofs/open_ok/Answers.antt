-- Open's test, by its row and its stamp.
use Rattle.cell_layout.proofs.ViewLaws.{fits_in}
use Rattle.cell_parts.proofs.PartLaws.{open-test}
use Rattle.cell_parts.proofs.open_ok.Goals as goal

pub returns : goal.returns
returns c =
    rw c.row_ok-row.ensures (open-test (fits_in c.args.cell) c.args.t)
