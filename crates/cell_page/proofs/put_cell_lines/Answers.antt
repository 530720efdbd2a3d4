use mathlib.Core.Path.{sym, ap, ap₂, ◌∙◌}
use mathlib.Core.List.{map}
use Prim.Native.Nat.{◌*◌, ◌<◌}
use native.Mathlib.Numerals.{add-one}
use native.Mathlib.Omega.{arith}
use lib.ListN.{length, take}
use lib.Seq.{take_all}
use Rattle.lta_spec.specs.Words.{splice, joined}
use Rattle.lta_spec.specs.Shape.{run_limit}
use Rattle.lta_spec.specs.Page.{Within, page_limit, added, counts_sum, cell_lines}
use Rattle.lta_spec.specs.Row.{empty_row, row_counts}
use Rattle.lta_spec.proofs.WordLaws.{splice-nil}
use Rattle.lta_spec.proofs.PageLaws.{within_more}
use Rattle.lta_spec.proofs.LedgerLaws.{no-counts}
use Rattle.cell_layout.specs.Views.{places_in}
use Rattle.cell_layout.proofs.ViewLaws.{fits_in}
use Rattle.cell_parts.proofs.PartLaws.{six}
use Rattle.cell_page.proofs.PageCellLaws.{sound, no_lines, sum-next, loss-within, sum-within}
use Rattle.cell_page.proofs.PageCellLaws.{line-next}
use Rattle.cell_page.proofs.put_cell_lines.Goals as goal
use Rattle.cell_page.proofs.put_cell_lines.Goals.{After-loss_counts-k}

-- the numbers of loss i + 1 are within their limits
fits : (c : After-loss_counts-k) → Within run_limit c.loss_counts-k.result
fits c =
    let a = c.args in
    rw c.loss_counts-k.ensures
    (loss-within (places_in a.cell).losses (sound _ c.requires.0).each c.loop-i.i (empty_row a.cell.shape.lags)
    (omega (arith, six (fits_in a.cell), c.loop-i-test.true)))

pub loop-i-init : goal.loop-i-init
loop-i-init c =
    let a = c.args in
    (no-counts, sym (splice-nil a.out.now a.at) ∙ ap (splice a.out.now a.at) (no_lines a.c))

pub put_loss_line-requires : goal.put_loss_line-requires
put_loss_line-requires c = (
  (c.requires.1.0, omega (arith, c.loop-i-test.true)),
  (
    within_more run_limit page_limit _ (omega arith)
        (fits (goal.at.put_loss_line-requires c).After-loss_counts-k),
    omega (arith, c.requires.1.1.0, c.loop-i-test.true, c.loop-i.auto),
  ),
)

pub add_counts-sum-requires : goal.add_counts-sum-requires
add_counts-sum-requires c =
    let q = sound _ c.requires.0 in (
      rw c.loop-i.invariant.0
          (within_more _ (15 * run_limit) _ (omega (arith, q.together)) (sum-within _ q.each c.loop-i.i)),
      fits (goal.at.add_counts-sum-requires c).After-loss_counts-k,
    )

pub loop-i-preserved : goal.loop-i-preserved
loop-i-preserved c =
    let a = c.args in
    let ls = (places_in a.cell).losses in
    let i = c.loop-i.i in
    let d = empty_row a.cell.shape.lags in
    let inside : i < length ls = omega (arith, six (fits_in a.cell), c.loop-i-test.true) in (
      c.add_counts-sum.ensures
          ∙ ap₂ added c.loop-i.invariant.0 c.loss_counts-k.ensures
          ∙ sym (sum-next ls i d inside)
          ∙ ap (λ k. counts_sum (map row_counts (take k ls))) (sym (add-one i)),
      c.put_loss_line.ensures
          ∙ rw (c.loop-i.invariant.1, c.loss_counts-k.ensures)
          (line-next ls (sound _ c.requires.0).each a.c c.requires.1.0 i (omega arith) (omega arith)
          a.out.now a.at d inside)
          ∙ ap (λ k. splice a.out.now a.at (joined (cell_lines a.c 0 (map row_counts (take k ls)))))
          (sym (add-one i)),
    )

pub add_counts-requires : goal.add_counts-requires
add_counts-requires c =
    let q = sound _ c.requires.0 in (
      c.requires.1.1.1,
      rw c.loop-i.invariant.0
          (within_more _ run_limit _ q.together (sum-within _ q.each c.loop-i.i)),
    )

pub returns-clause-totals : goal.returns-clause-totals
returns-clause-totals c =
    let ls = (places_in c.args.cell).losses in
    let all = take_all c.loop-i.i ls (omega (arith, six (fits_in c.args.cell))) in
    c.add_counts.ensures
    ∙ ap (added c.args.sofar) (c.loop-i.invariant.0 ∙ ap (λ z. counts_sum (map row_counts z)) all)

pub returns-clause-lines : goal.returns-clause-lines
returns-clause-lines c =
    let a = c.args in
    let ls = (places_in a.cell).losses in
    let all = take_all c.loop-i.i ls (omega (arith, six (fits_in a.cell))) in
    c.loop-i.invariant.1
    ∙ ap (λ z. splice a.out.now a.at (joined (cell_lines a.c 0 (map row_counts z)))) all
