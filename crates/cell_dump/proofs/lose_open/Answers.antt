-- A move of Open's row, then its stamp.
use Rattle.cell_layout.proofs.CellLaws.{laid}
use Rattle.cell_layout.proofs.ViewLaws.{fits_by}
use Rattle.cell_dump.proofs.DumpLaws.{open-loss-folds, lays-lose-open}
use Rattle.cell_dump.proofs.lose_open.Goals as goal

pub fold-requires : goal.fold-requires
fold-requires c =
    let s = c.args.shape in
    rw (c.loss_row.ensures.is, c.row_words.ensures)
    (open-loss-folds s.lags s.bins (laid (fits_by s c.requires.0.0)) c.args.i c.requires.0.1 c.requires.1.0
    c.requires.1.1)

pub returns : goal.returns
returns c =
    let s = c.args.shape in
    rw (c.fold.ensures, c.loss_row.ensures.is, c.row_words.ensures)
    (lays-lose-open s.lags s.bins (laid (fits_by s c.requires.0.0)) c.args.i c.args.stamp c.requires.0.1)
