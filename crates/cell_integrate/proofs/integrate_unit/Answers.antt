-- Held moves, and the number is raised by what its bin and command said before.
use native.Mathlib.Omega.{arith}
use Rattle.cell_layout.specs.Views.{unit_by}
use Rattle.cell_accum.proofs.IntegrateLaws.{integrate-facts}
use Rattle.cell_integrate.proofs.RaiseLaws.{integrates, number_small, number-kept, leaves-numbered, more-small}
use Rattle.cell_integrate.proofs.integrate_unit.Goals as goal

pub raises-more-requires : goal.raises-more-requires
raises-more-requires c =
    let s = c.args.shape in (integrate-facts s.lags s.bins _ (integrates s.lags s.bins _ c.requires.1)).label

pub integrate_cell-moved-requires : goal.integrate_cell-moved-requires
integrate_cell-moved-requires c =
    let s = c.args.shape in (c.requires.0, integrates s.lags s.bins _ c.requires.1)

pub overflow_add-cell : goal.overflow_add-cell
overflow_add-cell c =
    let s = c.args.shape in
    let u = unit_by s c.args.cell.now in
    let kept = number-kept s.lags s.bins u c.integrate_cell-moved.ensures in
    let few = s.few_bins in
    let more = more-small s.lags s.bins u.cell in
    omega (arith, number_small s.lags s.bins u c.requires.1, c.raises-more.ensures)

pub returns : goal.returns
returns c =
    let s = c.args.shape in
    leaves-numbered s.lags s.bins (unit_by s c.args.cell.now) c.integrate_cell-moved.ensures _ c.raises-more.ensures
