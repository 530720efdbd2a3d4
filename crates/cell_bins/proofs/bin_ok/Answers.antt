-- A bin's test, by its row, stamp and state.
use Rattle.cell_layout.proofs.ViewLaws.{fits_in}
use Rattle.cell_bins.proofs.BinLaws.{bin-test}
use Rattle.cell_bins.proofs.bin_ok.Goals as goal

pub returns : goal.returns
returns c =
    rw (c.row_ok-row.ensures, c.bin_start-at.ensures.is)
    (bin-test (fits_in c.args.cell) c.args.k c.requires c.args.t)
