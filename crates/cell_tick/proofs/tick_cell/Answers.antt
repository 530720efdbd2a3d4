-- The registers move, and the tick is added to its row.
use mathlib.Core.Path.{refl}
use native.Mathlib.Omega.{arith}
use Rattle.lta_spec.specs.Engine.{has_room}
use Rattle.cell_layout.specs.Views.{unit_by}
use Rattle.cell_layout.proofs.ViewLaws.{fits_by}
use Rattle.cell_tick.proofs.TickLaws.{tick-open-small, tick-loss-small, row_within, row_room, ticks}
use borrow.Author.Rules.{rules}
use Rattle.cell_tick.proofs.tick_cell.Goals as goal

pub add_tick-requires : goal.add_tick-requires
add_tick-requires c =
    let a = c.args in
    let s = a.shape in
    let u = unit_by s a.cell.now in
    let b = has_room s.lags u.cell in
    let to = c.tick_row-to.ensures in
    let m = c.shift_both.ensures in
    record {
      even = search rules;
      most = search rules;
      x-in = search rules;
      y-in = search rules;
      to_in = rw to (omega (arith, row_within s.lags s.bins a.x a.y u m b));
      room = rw to
          (λ i j. row_room s.lags s.bins a.x a.y u m b (tick-open-small (fits_by s c.requires.0.0) c.requires.1)
          (tick-loss-small (fits_by s c.requires.0.0) c.requires.1) i (omega arith));
    }

pub returns : goal.returns
returns c =
    let a = c.args in
    let s = a.shape in
    let u = unit_by s a.cell.now in
    rw (
      c.add_tick.ensures,
      c.x_register.ensures.is,
      c.y_register.ensures.is,
      c.tick_row-to.ensures,
    )
    (ticks s.lags s.bins a.x a.y u c.shift_both.ensures (has_room s.lags u.cell) refl)
