-- A bin lies in its cell.
use Rattle.cell_layout.proofs.CellLaws.{bin-stands}
use Rattle.cell_layout.proofs.shape.CellShape.bin_start.Goals as goal

pub returns : goal.returns
returns c =
    let s = c.args.self in
    rw (c.y_register.ensures.is, c.depth.ensures, c.row_words.ensures)
    (bin-stands s.lags s.bins c.args.k s.few_lags s.few_bins c.requires)
