-- The bin is emptied, and the number lowered.
use Rattle.cell_layout.specs.Views.{unit_by}
use Rattle.cell_ready.proofs.NumberLaws.{number-left, lays-taken}
use Rattle.cell_ready.proofs.take_bin.Goals as goal

pub overflow_sub-cell : goal.overflow_sub-cell
overflow_sub-cell c =
    let s = c.args.shape in
    rw (number-left s.lags s.bins c.args.k (unit_by s c.args.cell.now) c.empty_bin.ensures) c.requires.1

pub returns : goal.returns
returns c =
    let s = c.args.shape in
    lays-taken s.lags s.bins c.args.k (unit_by s c.args.cell.now) c.empty_bin.ensures
