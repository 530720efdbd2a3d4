use mathlib.Core.Path.{◌≡◌, sym, ap, ap₂, ◌∙◌}
use Prim.Native.Nat.{◌+◌, ◌≤◌, ◌<◌}
use native.Mathlib.Numerals.{add-one}
use native.Mathlib.Omega.{arith}
use lib.ListN.{length, get_or, take}
use lib.Seq.{take_all}
use Rattle.lta_spec.specs.Words.{over_all}
use Rattle.lta_spec.specs.Shape.{run_limit}
use Rattle.lta_spec.specs.Row.{ticks_of, empty_row}
use Rattle.lta_spec.specs.Engine.{loss_at}
use Rattle.lta_spec.proofs.WordLaws.{over-next}
use Rattle.lta_spec.proofs.RowLaws.{ticks-within}
use Rattle.cell_layout.specs.Offsets.{loss_row_at}
use Rattle.cell_layout.specs.Views.{places_in}
use Rattle.cell_layout.proofs.ViewLaws.{fits_in}
use Rattle.cell_parts.proofs.PartLaws.{six, loss-ticks, loss-ok}
use Rattle.cell_page.proofs.ticks_together.Goals as goal
use Rattle.cell_page.proofs.ticks_together.Goals.{After-loss_row}

-- the ticks of loss i + 1
word : (c : After-loss_row) → let a = c.args in
    get_or a.cell.words.now (c.loss_row.result + 0) 0
    ≡ ticks_of (loss_at a.cell.shape.lags c.loop-i.i (places_in a.cell).losses)
word c =
    let a = c.args in
    let e : c.loss_row.result + 0 ≡ loss_row_at a.cell.shape.lags c.loop-i.i =
    omega (arith, c.loss_row.ensures.is) in
    rw e (loss-ticks (fits_in a.cell) c.loop-i.i c.loop-i-test.true)

few : (c : After-loss_row) → get_or c.args.cell.words.now (c.loss_row.result + 0) 0 ≤ run_limit
few c =
    rw (word c)
    (ticks-within run_limit _ (loss-ok (fits_in c.args.cell) c.loop-i.i c.loop-i-test.true c.requires))

pub overflow_add-ticks-in-loop-i : goal.overflow_add-ticks-in-loop-i
overflow_add-ticks-in-loop-i c =
    omega (arith, c.loop-i.invariant, few (goal.at.overflow_add-ticks-in-loop-i c).After-loss_row)

pub loop-i-preserved : goal.loop-i-preserved
loop-i-preserved c =
    let here = (goal.at.loop-i-preserved c).After-loss_row in
    let s = c.args.cell.shape in
    let ls = (places_in c.args.cell).losses in
    let i = c.loop-i.i in
    let inside : i < length ls = omega (arith, six (fits_in c.args.cell), c.loop-i-test.true) in (
      ap₂ ◌+◌ c.loop-i.invariant.0 (word here) ∙ sym (over-next ticks_of ls i (empty_row s.lags) inside)
          ∙ ap (λ k. over_all ticks_of (take k ls)) (sym (add-one i)),
      omega (arith, c.loop-i.invariant.1, few here),
    )

pub returns : goal.returns
returns c =
    let ls = (places_in c.args.cell).losses in
    c.loop-i.invariant.0
    ∙ ap (over_all ticks_of) (take_all c.loop-i.i ls (omega (arith, six (fits_in c.args.cell))))
