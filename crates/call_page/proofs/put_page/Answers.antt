use mathlib.Core.Path.{◌≡◌, sym, ap, ap₂, ◌∙◌}
use mathlib.Core.Bool.{true}
use mathlib.Core.List.{map}
use Prim.Native.Nat.{◌*◌, ◌<◌, ◌+◌, ◌≤◌}
use native.Mathlib.Numerals.{add-one}
use native.Mathlib.Omega.{arith}
use lib.ListN.{length}
use lib.Seq.{take_all}
use Rattle.lta_spec.specs.Words.{splice, joined}
use Rattle.lta_spec.specs.Shape.{run_limit}
use Rattle.lta_spec.specs.Page.{page_limit, added, counts_sum, cell_lines, ledger_lines, totals_line, page_of}
use Rattle.lta_spec.specs.Row.{row_counts}
use Rattle.lta_spec.specs.Engine.{fresh_unit}
use Rattle.lta_spec.specs.Damage.{page_sound}
use Rattle.lta_spec.specs.Step.{loss_counts, ledger_counts}
use Rattle.lta_spec.proofs.WordLaws.{splice-nil}
use Rattle.lta_spec.proofs.TestLaws.{every-at}
use Rattle.lta_spec.proofs.PageLaws.{within_more}
use Rattle.lta_spec.proofs.LedgerLaws.{no-counts}
use Rattle.call_run.specs.Runs.{run_of}
use Rattle.call_run.proofs.ViewLaws.{cell-holds}
use Rattle.call_page.proofs.PageRunLaws.{ledger, no_lines, totals-within, totals-next, lines_next, totals-put}
use Rattle.call_page.proofs.PageRunLaws.{page-bytes, page-is, units-ok, units-count, units-few, cells-few}
use Rattle.call_page.proofs.put_page.Goals as goal
use Rattle.call_page.proofs.put_page.Goals.{Start, After-cell_at-cell}

-- the next cell is one of the run
inside : (c : After-cell_at-cell) → let r = c.args.run in c.loop-c.c < length (run_of r.shape r.mem.now).units
inside c = omega (arith, units-count c.args.run, c.loop-c-test.true)

-- the room that a page has
room : (c : Start) → let a = c.args in 246 * a.run.shape.cells + 41 ≤ length a.out.now
room c = omega (arith, c.requires.room, page-bytes c.args.run.shape.cells)

pub loop-c-init : goal.loop-c-init
loop-c-init c =
    let out = c.args.out.now in (no-counts, sym (splice-nil out 0) ∙ ap (splice out 0) no_lines)

pub overflow_mul-at : goal.overflow_mul-at
overflow_mul-at c = omega (arith, cells-few c.args.run, c.loop-c-test.true)

pub put_cell_lines-totals-requires : goal.put_cell_lines-totals-requires
put_cell_lines-totals-requires c =
    let r = c.args.run in
    let at = goal.at.put_cell_lines-totals-requires c in
    let us = (run_of r.shape r.mem.now).units in
    let k = c.loop-c.c in
    let few = cells-few r in (
      cell-holds c.cell_at-cell.ensures (λ p. page_sound p ≡ true)
          (every-at (λ u. page_sound u.cell) us c.requires.sound k _ (inside at.After-cell_at-cell)),
      (
        omega (arith, c.loop-c-test.true),
        (
          omega (arith, room at.Start, c.loop-c.auto, c.loop-c-test.true),
          rw c.loop-c.invariant.0
              (within_more (k * run_limit) (15 * run_limit) _ (omega (arith, c.loop-c-test.true))
              (totals-within _ _ us (units-ok r) (units-few r) c.requires.sound k
              (omega (arith, inside at.After-cell_at-cell)))),
        ),
      ),
    )

pub loop-c-preserved : goal.loop-c-preserved
loop-c-preserved c =
    let a = c.args in
    let r = a.run in
    let us = (run_of r.shape r.mem.now).units in
    let k = c.loop-c.c in
    let there = inside (goal.at.loop-c-preserved c).After-cell_at-cell in
    let d = fresh_unit r.shape.lags r.shape.bins in
    let unit = c.cell_at-cell.ensures.unit in (
      c.put_cell_lines-totals.ensures.totals
          ∙ ap₂ (λ t u. added t (counts_sum (map row_counts u.cell.losses))) c.loop-c.invariant.0 unit
          ∙ sym (totals-next _ _ us (units-ok r) (units-few r) c.requires.sound k (omega (arith, there)) d there)
          ∙ ap (λ j. counts_sum (joined (ledger us j))) (sym (add-one k)),
      c.put_cell_lines-totals.ensures.lines
          ∙ ap₂ (λ o u. splice o (246 * k) (joined (cell_lines k 0 (map row_counts u.cell.losses))))
          c.loop-c.invariant.1 unit
          ∙ lines_next _ _ us (units-ok r) (units-few r) c.requires.sound k (omega (arith, there)) d there a.out.now
          ∙ ap (λ j. splice a.out.now 0 (joined (ledger_lines 0 (ledger us j)))) (sym (add-one k)),
    )

pub overflow_mul-run : goal.overflow_mul-run
overflow_mul-run c = omega (arith, cells-few c.args.run)

pub put_totals_line-requires : goal.put_totals_line-requires
put_totals_line-requires c =
    let r = c.args.run in
    let us = (run_of r.shape r.mem.now).units in
    let few = cells-few r in
    let size = units-count r in (
      rw c.loop-c.invariant.0
          (within_more (c.loop-c.c * run_limit) page_limit _ (omega arith)
          (totals-within _ _ us (units-ok r) (units-few r) c.requires.sound c.loop-c.c (omega arith))),
      omega (arith, room (goal.at.put_totals_line-requires c).Start, c.loop-c.auto),
    )

pub returns : goal.returns
returns c =
    let a = c.args in
    let r = a.run in
    let out = a.out.now in
    let us = (run_of r.shape r.mem.now).units in
    let size = units-count r in
    let all : c.loop-c.c ≡ r.shape.cells = omega arith in
    let here = ledger us c.loop-c.c in
    let whole : here ≡ ledger_counts (run_of r.shape r.mem.now) =
    ap (map loss_counts) (take_all c.loop-c.c us (omega arith)) in
    c.put_totals_line.ensures
    ∙ ap₂ (λ o t. splice o (246 * r.shape.cells) (totals_line t)) c.loop-c.invariant.1 c.loop-c.invariant.0
    ∙ ap (λ k. splice (splice out 0 (joined (ledger_lines 0 here))) (246 * k) (totals_line (counts_sum (joined here))))
    (sym all)
    ∙ totals-put _ _ us (units-ok r) (units-few r) c.requires.sound c.loop-c.c (omega arith) out
    (counts_sum (joined here))
    ∙ ap (λ z. splice out 0 (page_of z (counts_sum (joined z)))) whole
    ∙ ap (splice out 0) (page-is (run_of r.shape r.mem.now))
