-- A move of Held's row, then the bin's state and Held's flag.
use Rattle.cell_layout.proofs.ViewLaws.{fits_by}
use Rattle.cell_accum_moves.proofs.MoveLaws.{lose-folds, lays-lose-held}
use Rattle.cell_accum_moves.proofs.lose_held.Goals as goal

pub fold-requires : goal.fold-requires
fold-requires c =
    rw (c.held_row.ensures.is, c.loss_row.ensures.is, c.row_words.ensures)
    (lose-folds (fits_by c.args.shape c.requires.0.0) c.args.k c.requires.0.1 c.args.i c.requires.0.2
    c.requires.1.0 c.requires.1.1)

pub returns : goal.returns
returns c =
    rw (
      c.fold.ensures,
      c.bin_start-at.ensures.is,
      c.held_row.ensures.is,
      c.loss_row.ensures.is,
      c.row_words.ensures,
    )
    (lays-lose-held (fits_by c.args.shape c.requires.0.0) c.args.k c.requires.0.1 c.args.i c.args.state
    c.requires.0.2)
