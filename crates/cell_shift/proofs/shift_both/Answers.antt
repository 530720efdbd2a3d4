-- X's register moves, and then Y's.
use Rattle.cell_layout.proofs.CellLaws.{laid}
use Rattle.cell_layout.proofs.ViewLaws.{fits_by}
use Rattle.cell_shift.proofs.ShiftLaws.{lays-shift}
use Rattle.cell_shift.proofs.shift_both.Goals as goal

pub returns : goal.returns
returns c =
    let a = c.args in
    rw (
      c.shift-2.ensures,
      c.shift.ensures,
      c.x_register.ensures.is,
      c.y_register.ensures.is,
      c.depth.ensures,
      c.depth-2.ensures,
    )
    (lays-shift a.shape.lags a.shape.bins (laid (fits_by a.shape c.requires)) a.x a.y)
