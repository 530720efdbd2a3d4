-- A move of Held's row to the bin's, then the bin's stamp and state and Held's flag.
use Rattle.cell_layout.proofs.ViewLaws.{fits_by}
use Rattle.cell_accum_moves.proofs.MoveLaws.{join-folds, lays-join-held}
use Rattle.cell_accum_moves.proofs.join_held.Goals as goal

pub fold-requires : goal.fold-requires
fold-requires c =
    rw (c.held_row.ensures.is, c.bin_start-at.ensures.is, c.row_words.ensures)
    (join-folds (fits_by c.args.shape c.requires.0.0) c.args.k c.requires.0.1 c.requires.1.0 c.requires.1.1)

pub returns : goal.returns
returns c =
    rw (c.fold.ensures, c.bin_start-at.ensures.is, c.held_row.ensures.is, c.row_words.ensures)
    (lays-join-held (fits_by c.args.shape c.requires.0.0) c.args.k c.requires.0.1 c.args.state c.args.stamp)
