-- The first three words of the loss's row.
use mathlib.Core.Path.{◌≡◌, ap, ◌∙◌}
use Prim.Native.Nat.{ℕ, ◌+◌, ◌<◌}
use native.Mathlib.Omega.{arith}
use lib.ListN.{get_or}
use Rattle.lta_spec.specs.Size.{row_words}
use Rattle.lta_spec.specs.Engine.{loss_at}
use Rattle.lta_spec.proofs.LedgerLaws.{counts-path}
use Rattle.cell_layout.specs.Views.{places_in}
use Rattle.cell_layout.proofs.ViewLaws.{fits_in}
use Rattle.cell_layout.proofs.LaysLaws.{row_word}
use Rattle.cell_layout.proofs.Fields as F
use Rattle.cell_layout.proofs.CellLaws.{laid}
use Rattle.cell_page.proofs.loss_counts.Goals as goal

pub returns : goal.returns
returns c =
    let a = c.args in
    let s = a.cell.shape in
    let l = a.cell.words.now in
    let r = loss_at s.lags a.i (places_in a.cell).losses in
    let word : (j : ℕ) → j < row_words s.lags → get_or l (c.loss_row-at.result + j) 0 ≡ get_or r j 0 =
    λ j h. ap (λ p. get_or l (p + j) 0) c.loss_row-at.ensures.is
    ∙ row_word (laid (fits_in a.cell)) (F.loss s.lags s.bins a.i c.requires) j h in
    counts-path (word 0 (omega arith)) (word 1 (omega arith)) (word 2 (omega arith))
