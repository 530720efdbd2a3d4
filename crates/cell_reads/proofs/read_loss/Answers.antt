-- The words of the loss at a lag, without their bias.
use mathlib.Core.Path.{◌≡◌, ap, ap₂, ◌∙◌}
use Prim.Native.Nat.{ℕ, ◌+◌, ◌*◌, ◌<◌}
use native.Mathlib.Omega.{arith}
use lib.IntN.{ℤ}
use lib.ListN.{get_or}
use mir.Syntax.{w64}
use mir.Val.{to_z, of_z}
use Rattle.lta_spec.specs.Size.{row_words}
use Rattle.lta_spec.specs.Row.{ticks_of, unbiased}
use Rattle.lta_spec.specs.Engine.{loss_at}
use Rattle.lta_spec.specs.declared.Sums.{Sums}
use Rattle.cell_layout.specs.Views.{places_in}
use Rattle.cell_layout.proofs.ViewLaws.{fits_in}
use Rattle.cell_reads.proofs.ReadLaws.{loss-word, loss-few, loss-sum, loss-unbiased}
use Rattle.cell_reads.proofs.read_loss.Goals as goal

-- two readings whose numbers are equal
same : {i j p q : ℤ} {t u e f c d : ℕ} → i ≡ j → p ≡ q → t ≡ u → e ≡ f → c ≡ d
    → ◌≡◌ {A = Sums} (record { i = i; q = p; ticks = t; edge = e; centre = c })
    (record { i = j; q = q; ticks = u; edge = f; centre = d })
same a b c d e = cc

pub unbias-requires : goal.unbias-requires
unbias-requires c =
    let f = fits_in c.args.cell in
    let q = c.requires in
    rw c.loss_row-at.ensures.is
    (loss-few f c.args.i q.1 q.2, loss-sum f c.args.i q.1 q.2 (3 + 2 * c.args.lag) (omega arith))

pub unbias-requires-2 : goal.unbias-requires-2
unbias-requires-2 c =
    let f = fits_in c.args.cell in
    let q = c.requires in
    rw c.loss_row-at.ensures.is
    (loss-few f c.args.i q.1 q.2, loss-sum f c.args.i q.1 q.2 (4 + 2 * c.args.lag) (omega arith))

pub returns : goal.returns
returns c =
    let a = c.args in
    let f = fits_in a.cell in
    let l = a.cell.words.now in
    let n = a.cell.shape.lags in
    let q = c.requires in
    let r = loss_at n a.i (places_in a.cell).losses in
    let at = c.loss_row-at.result in
    let word : (j : ℕ) → j < row_words n → get_or l (at + j) 0 ≡ get_or r j 0 =
    λ j h. ap (λ p. get_or l (p + j) 0) c.loss_row-at.ensures.is ∙ loss-word f a.i q.1 j h in
    let back = loss-unbiased f a.i q.1 q.2 in
    let sum : (z : ℤ) (j : ℕ) → j < row_words n → z ≡ unbiased (get_or l (at + 0) 0) (get_or l (at + j) 0)
    → to_z w64 (of_z w64 z) ≡ unbiased (ticks_of r) (get_or r j 0) =
    λ z j h e. ap (λ x. to_z w64 (of_z w64 x)) (e ∙ ap₂ unbiased (word 0 (omega arith)) (word j h)) ∙ back j h in
    same (sum _ (3 + 2 * a.lag) (omega arith) c.unbias.ensures)
    (sum _ (4 + 2 * a.lag) (omega arith) c.unbias-2.ensures) (word 0 (omega arith))
    (word 1 (omega arith))
    (word 2 (omega arith))
