-- The row of Open is cleared, and its stamp set.
use Rattle.cell_layout.proofs.CellLaws.{laid}
use Rattle.cell_layout.proofs.ViewLaws.{fits_by}
use Rattle.cell_dump.proofs.DumpLaws.{lays-send-open}
use Rattle.cell_dump.proofs.send_open.Goals as goal

pub returns : goal.returns
returns c =
    let s = c.args.shape in
    rw (c.clear.ensures, c.row_words.ensures)
    (lays-send-open s.lags s.bins (laid (fits_by s c.requires)) c.args.next)
