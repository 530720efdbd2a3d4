-- The cell, the loss number behind a space, and the columns of the numbers.
use mathlib.Core.Path.{sym, ap, ◌∙◌}
use mathlib.Core.List.{[], ◌∷◌, ◌++◌}
use Prim.Native.Nat.{suc, ◌+◌}
use native.Mathlib.Omega.{arith}
use native.Mathlib.Numerals.{add-one}
use Rattle.lta_spec.specs.Decimal.{space, right_aligned}
use Rattle.lta_spec.specs.Page.{count_columns, page_line}
use Rattle.lta_spec.proofs.WordLaws.{splice-behind}
use Rattle.lta_spec.proofs.PageLaws.{fits-cell, fits-loss, cell-size, loss-size}
use Rattle.page_lines.proofs.put_loss_line.Goals as goal

pub put_right-a-requires : goal.put_right-a-requires
put_right-a-requires c =
    (fits-cell c.args.cell c.requires.0.0, omega (arith, c.requires.1.1))

pub put_right-c-requires : goal.put_right-c-requires
put_right-c-requires c = (
  fits-loss (c.args.i + 1) (omega (arith, c.requires.0.1)),
  omega (
    arith,
    c.requires.1.1,
    c.put_byte-b.ensures.behind,
    c.put_byte-b.auto.out,
    c.put_right-a.ensures.behind,
    c.put_right-a.auto.out,
  ),
)

pub returns : goal.returns
unfolding page_line
returns c =
    let a = c.args in
    let i = a.i in
    let two = cell-size a.cell i c.requires.0.0 (omega (arith, c.requires.0.1)) in
    let one = loss-size a.cell i c.requires.0.0 (omega (arith, c.requires.0.1)) in
    let text = right_aligned 1 (suc i) in
    splice-behind a.out.now a.at (right_aligned 2 a.cell) ((space ∷ text) ++ count_columns a.k)
    c.put_right-a.ensures.leaves (c.put_right-a.ensures.behind ∙ ap (λ n. a.at + n) (sym two))
    (splice-behind c.put_right-a.new.out _ (space ∷ []) (text ++ count_columns a.k) c.put_byte-b.ensures.leaves
    c.put_byte-b.ensures.behind
    (splice-behind c.put_byte-b.new.out _ text (count_columns a.k)
    (rw (add-one i) at c.put_right-c.ensures.leaves)
    (c.put_right-c.ensures.behind ∙ ap (λ n. c.put_byte-b.result + n) (sym one)) c.put_counts.ensures))
