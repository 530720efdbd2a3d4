-- The cells are printed and added up in turn, and the totals behind them.
use mathlib.Core.Path.{◌≡◌}
use Rattle.lta_spec.specs.Words.{splice, joined}
use Rattle.lta_spec.specs.Page.{counts_sum, ledger_lines}
use Rattle.call_run.specs.Runs.{run_of}
use Rattle.call_page.proofs.PageRunLaws.{ledger}
use Rattle.call_page.proofs.put_page.Given as goal

abbrev pub invariant-loop-c : goal.invariant-loop-c
invariant-loop-c l =
    let us = (run_of l.run.shape l.run.mem.now).units in
    (l.totals ≡ counts_sum (joined (ledger us l.c)))
    × (l.out ≡ splice l.initial.out 0 (joined (ledger_lines 0 (ledger us l.c))))
