-- A page of a run, one cell after the other: lines and totals.
use Prim.Native.Nat.{ℕ, suc, ◌+◌, ◌*◌, ◌≤◌, ◌<◌}
use mathlib.Core.Path.{◌≡◌, refl, sym, ap, ◌∙◌, subst}
use mathlib.Core.Bool.{true}
use mathlib.Core.List.{List, [], ◌∷◌, ◌++◌, map, append-nil, map-append}
use native.Mathlib.Omega.{arith}
use lib.ListN.{length, get_or, take, length-map}
use lib.Seq.{take-suc, length-take-le}
use Rattle.lta_spec.specs.Words.{splice, joined}
use Rattle.lta_spec.specs.Shape.{run_limit}
use Rattle.lta_spec.specs.Page.{Within, added, counts_sum, line_bytes, cell_lines, ledger_lines, totals_line, page_of}
use Rattle.lta_spec.specs.Page.{page_length}
use Rattle.lta_spec.specs.Engine.{Unit}
use Rattle.lta_spec.specs.Damage.{page_sound, ledgers_sound}
use Rattle.lta_spec.specs.Memory.{Run}
use Rattle.lta_spec.specs.Step as S
use Rattle.lta_spec.specs.declared.Counts.{Counts}
use Rattle.lta_spec.proofs.WordLaws.{splice-behind, joined-append}
use Rattle.lta_spec.proofs.TestLaws.{every_take}
use Rattle.lta_spec.proofs.LayoutLaws.{All, all_take}
use Rattle.lta_spec.proofs.MemoryLaws.{UnitOk, run-law}
use Rattle.lta_spec.proofs.PageLaws.{Ledger, length-joined, ledger-lines-append, ledger-lines-long}
use Rattle.lta_spec.proofs.PageLaws.{ledger-lines-count}
use Rattle.lta_spec.proofs.LedgerLaws.{counts-append}
use Rattle.lta_spec.proofs.LossPages.{ledger-fits, ledger-within}
use Rattle.call_run.specs.declared.run.Run as R
use Rattle.call_run.specs.Runs.{run_of}
use Rattle.call_run.proofs.RunLaws.{shape_is, whole, units-length}
use Rattle.call_run.proofs.ViewLaws.{hosted_in}

-- 41 × (6C + 1): 246 for each cell, and 41
pub page-bytes : (cells : ℕ) → page_length cells ≡ 246 * cells + 41
unfolding page_length
page-bytes cells = omega arith

pub page-is : (r : Run) → page_of (S.ledger_counts r) (counts_sum (joined (S.ledger_counts r))) ≡ S.loss_page r
unfolding S.loss_page
page-is r = refl

-- before the first cell
pub no_lines : [] ≡ joined (ledger_lines 0 [])
unfolding ledger_lines
no_lines = refl

one_cell : (c : ℕ) (ks : List Counts) → joined (ledger_lines c (ks ∷ [])) ≡ joined (cell_lines c 0 ks)
unfolding ledger_lines
one_cell c ks = ap joined (append-nil (cell_lines c 0 ks))

-- the numbers of the first c cells
abbrev pub ledger : List Unit → (c : ℕ) → List (List Counts)
ledger us c = map S.loss_counts (take c us)

module _ (n B : ℕ) (us : List Unit) (ok : All (UnitOk n B) us) (few : length us ≤ 16) (sound : ledgers_sound us ≡ true)
    (c : ℕ) (inside : c ≤ length us) where
  count : length (ledger us c) ≡ c
  count = length-map (take c us) S.loss_counts ∙ length-take-le c us inside

  passed : ledgers_sound (take c us) ≡ true
  passed = every_take (λ u. page_sound u.cell) us c sound

  fit : Ledger (ledger us c)
  fit = ledger-fits n B (take c us) (all_take (UnitOk n B) us c ok) passed

  lines-size : length (joined (ledger_lines 0 (ledger us c))) ≡ 246 * c
  lines-size =
      length-joined line_bytes (ledger_lines 0 (ledger us c))
      (ledger-lines-long 0 (ledger us c) (omega (arith, count)) fit)
      ∙ omega (arith, ledger-lines-count 0 (ledger us c) fit, count)

  pub totals-within : Within (c * run_limit) (counts_sum (joined (ledger us c)))
  totals-within =
      subst (λ k. Within (k * run_limit) (counts_sum (joined (ledger us c)))) (length-take-le c us inside)
      (ledger-within (take c us) passed)

  -- one cell more
  module _ (d : Unit) (more : c < length us) where
    abbrev here : List Counts
    here = S.loss_counts (get_or us c d)

    ledger-next : ledger us (suc c) ≡ ledger us c ++ here ∷ []
    ledger-next = ap (map S.loss_counts) (take-suc us c d more) ∙ map-append S.loss_counts (take c us) _

    pub totals-next : counts_sum (joined (ledger us (suc c)))
        ≡ added (counts_sum (joined (ledger us c))) (counts_sum here)
    totals-next =
        ap (λ z. counts_sum (joined z)) ledger-next
        ∙ ap counts_sum (joined-append (ledger us c) (here ∷ []))
        ∙ counts-append (joined (ledger us c)) (joined (here ∷ []))
        ∙ ap (λ z. added (counts_sum (joined (ledger us c))) (counts_sum z)) (append-nil here)

    pub lines_next : (before : List ℕ)
        → splice (splice before 0 (joined (ledger_lines 0 (ledger us c)))) (246 * c) (joined (cell_lines c 0 here))
        ≡ splice before 0 (joined (ledger_lines 0 (ledger us (suc c))))
    lines_next before =
        let all = ledger_lines 0 (ledger us c) in
        let cell : 0 + length (ledger us c) ≡ c = omega (arith, count) in
        splice-behind before 0 (joined all) (joined (cell_lines c 0 here)) refl (omega (arith, lines-size)) refl
        ∙ ap (splice before 0)
        (sym
        (ap (λ z. joined (ledger_lines 0 z)) ledger-next
        ∙ ap joined (ledger-lines-append 0 (ledger us c) (here ∷ []))
        ∙ joined-append all (ledger_lines (0 + length (ledger us c)) (here ∷ []))
        ∙ ap (λ k. joined all ++ joined (ledger_lines k (here ∷ []))) cell
        ∙ ap (λ z. joined all ++ z) (one_cell c here)))

  -- the last line
  pub totals-put : (before : List ℕ) (totals : Counts)
      → splice (splice before 0 (joined (ledger_lines 0 (ledger us c)))) (246 * c) (totals_line totals)
      ≡ splice before 0 (page_of (ledger us c) totals)
  unfolding page_of
  totals-put before totals =
      let all = ledger_lines 0 (ledger us c) in
      splice-behind before 0 (joined all) (totals_line totals) refl (omega (arith, lines-size)) refl
      ∙ ap (splice before 0)
      (sym
      (joined-append all (totals_line totals ∷ []) ∙ ap (λ z. joined all ++ z) (append-nil (totals_line totals))))

-- the cells of a run
module _ (r : R.Run) where
  pub units-ok : All (UnitOk r.shape.lags r.shape.bins) (run_of r.shape r.mem.now).units
  unfolding run_of
  units-ok = ((run-law r.shape).fits r.mem.now (omega (arith, (whole r.shape r.mem.now (hosted_in r)).size))).1.0.1

  pub units-count : length (run_of r.shape r.mem.now).units ≡ r.shape.cells
  units-count = units-length r.shape r.mem.now (hosted_in r)

  pub cells-few : r.shape.cells ≤ 16
  cells-few = (shape_is r.shape r.mem.now (hosted_in r)).cells

  pub units-few : length (run_of r.shape r.mem.now).units ≤ 16
  units-few = omega (arith, units-count, cells-few)
