-- A move of Open's row, then the flag, the label and both stamps.
use Rattle.cell_layout.proofs.CellLaws.{laid}
use Rattle.cell_layout.proofs.ViewLaws.{fits_by}
use Rattle.cell_layout.specs.Moves.{label_of}
use Rattle.cell_dump.proofs.DumpLaws.{dump-facts, open-held-folds, lays-hold-open}
use Rattle.cell_dump.proofs.hold_open.Goals as goal

pub fold-requires : goal.fold-requires
fold-requires c =
    let s = c.args.shape in
    rw (c.held_row.ensures.is, c.row_words.ensures)
    (open-held-folds s.lags s.bins (laid (fits_by s c.requires.0.0)) (dump-facts s.bins c.args.t _ c.requires.1))

pub returns : goal.returns
returns c =
    let a = c.args in
    let s = a.shape in
    rw (c.fold.ensures, c.held_row.ensures.is, c.row_words.ensures)
    (lays-hold-open s.lags s.bins (laid (fits_by s c.requires.0.0)) (label_of a.command a.bank a.bin) a.t
    (dump-facts s.bins a.t _ c.requires.1) c.requires.0.1)
