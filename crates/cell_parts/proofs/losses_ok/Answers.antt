use mathlib.Core.Path.{◌≡◌, sym, ap, ◌∙◌}
use native.Mathlib.Numerals.{add-one}
use native.Mathlib.Omega.{arith}
use lib.ListN.{take}
use Prim.Native.Nat.{ℕ}
use Rattle.lta_spec.specs.Words.{every}
use Rattle.lta_spec.specs.Shape.{run_limit}
use Rattle.lta_spec.specs.Row.{empty_row, row_ok}
use Rattle.lta_spec.proofs.TestLaws.{every-next}
use Rattle.cell_layout.specs.Views.{places_in}
use Rattle.cell_layout.proofs.ViewLaws.{fits_in}
use Rattle.cell_parts.proofs.PartLaws.{losses-all, six, loss-is}
use Rattle.cell_parts.proofs.losses_ok.Goals as goal

pub loop-i-preserved : goal.loop-i-preserved
loop-i-preserved c =
    let f = fits_in c.args.cell in
    let i = c.loop-i.i in
    let ls = (places_in c.args.cell).losses in
    rw (
      c.loop-i.invariant,
      c.row_ok-row.ensures,
      c.loss_row.ensures.is,
      loss-is f i c.loop-i-test.true,
    )
    (sym (every-next (row_ok run_limit) ls i (empty_row c.args.cell.shape.lags)
    (omega (arith, six f, c.loop-i-test.true)))
    ∙ ap (λ (k : ℕ). every (row_ok run_limit) (take k ls)) (sym (add-one i)))

pub returns : goal.returns
returns c =
    let past : c.loop-i.i ≡ 6 = omega arith in
    c.loop-i.invariant ∙ losses-all _ c.loop-i.i (six (fits_in c.args.cell) ∙ sym past)
