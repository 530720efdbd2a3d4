-- `call_tick::tick_at` meets its contract.
use mathlib.Core.Path.{◌≡◌, sym, ap, subst, ◌∙◌}
use mathlib.Core.Bool.{true, cond}
use Rattle.lta_spec.specs.Engine.{has_room, tick_unit}
use Rattle.lta_spec.specs.Damage.{tick_sound}
use Rattle.lta_spec.specs.Step.{with_unit}
use Rattle.cell_layout.proofs.LaysLaws.{lays-to}
use Rattle.call_run.specs.Runs.{run_of}
use Rattle.call_run.proofs.RunLaws.{shape-ok, shape_is, length-is}
use Rattle.call_run.proofs.ViewLaws.{CellPart}
use Rattle.call_run.proofs.LoanLaws.{loan, loan-is, loan-unit}
use Rattle.call_tick.proofs.tick_at.Goals as goal
use Rattle.call_tick.proofs.tick_at.Goals.{After-cell_words}

-- the words lent are cell c
lent-cell : (c : After-cell_words) → let a = c.args in
    CellPart a.s a.mem.now a.c (loan c.requires.cell c.cell_start-at.ensures.is c.cell_words.ensures)
lent-cell c = loan-is c.requires.cell c.cell_start-at.ensures.is c.cell_words.ensures

pub invariant_of-run : goal.invariant_of-run
invariant_of-run c =
    let h = c.requires.cell.hosted in record { shaped = shape-ok _ _ h; whole = length-is _ _ h }

pub cell_start-at-requires : goal.cell_start-at-requires
cell_start-at-requires c = c.requires.cell.there

pub tick_cell-requires : goal.tick_cell-requires
tick_cell-requires c =
    let a = c.args in
    let k = c.cell_shape-shape.ensures in
    let l = lent-cell (goal.at.tick_cell-requires c).After-cell_words in
    let t = (run_of a.s a.mem.now).t in
    rw (k.0, k.1) (
      (l.size, (shape_is a.s a.mem.now c.requires.cell.hosted).even),
      record { t = t; sound = subst (λ u. tick_sound a.s.lags t u ≡ true) (sym l.unit) c.requires.sound },
    )

pub returns : goal.returns
unfolding with_unit
returns c =
    let a = c.args in
    let k = c.cell_shape-shape.ensures in
    let l = lent-cell (goal.at.returns c).After-cell_words in
    let ticked = rw (k.0, k.1) at c.tick_cell.ensures in
    record {
      held-off = ticked.held-off ∙ ap (λ u. cond (has_room a.s.lags u.cell) 0 1) l.unit;
      words =
          loan-unit c.requires.cell c.cell_start-at.ensures.is c.cell_words.ensures _ _
          (lays-to ticked.words (ap (tick_unit a.s.lags a.x a.y) l.unit));
    }
