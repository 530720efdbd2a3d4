-- The row is cleared, and the state set.
use Rattle.cell_layout.proofs.ViewLaws.{fits_by}
use Rattle.cell_bins.proofs.BinLaws.{lays-empty-bin}
use Rattle.cell_bins.proofs.empty_bin.Goals as goal

pub returns : goal.returns
returns c =
    rw (c.clear.ensures, c.bin_start-at.ensures.is, c.row_words.ensures)
    (lays-empty-bin (fits_by c.args.shape c.requires.0) c.args.k c.requires.1)
