-- The layouts of work memory keep the laws of layouts, and are as wide as Size says.
use mathlib.Core.Path.{◌≡◌, refl, ap}
use mathlib.Core.Bool.{true}
use Prim.Native.Nat.{ℕ, suc, ◌+◌, ◌*◌, ◌≤◌}
use native.Mathlib.Nat.{mul-le-mul_left, mul_assoc, add-mul, mul-suc}
use native.Mathlib.Omega.{arith}
use Rattle.lta_spec.specs.Shape.{shape_ok}
use Rattle.lta_spec.specs.Size.{row_words, depth, bin_words, cell_words, memory_words}
use Rattle.lta_spec.specs.Place.{Bin, loss_count}
use Rattle.lta_spec.specs.Layout.{word, block, pair, many, fields}
use Rattle.lta_spec.specs.Engine.{Row, Unit}
use Rattle.lta_spec.specs.Memory.{of_bin, to_bin, bin_layout, of_unit, to_unit, unit_layout, Run, of_run, to_run, run_layout}
use Rattle.lta_spec.specs.declared.Shape.{Shape}
use Rattle.lta_spec.proofs.TestLaws.{and-le}
use Rattle.lta_spec.proofs.LayoutLaws.{
  Law,
  Any,
  Long,
  Each,
  word-law,
  block-law,
  pair-law,
  many-law,
  fields-law,
  law-as,
}

-- a row of n lags, and a bin
module _ (n : ℕ) where
  abbrev pub RowOk : Row → Type 0
  RowOk = Long (row_words n)

  pub row-law : Law (block (row_words n)) RowOk
  row-law = block-law (row_words n)

  abbrev pub BinOk : Bin Row → Type 0
  BinOk b = Any b.state × (Any b.content.stamp × RowOk b.content.members)

  pub bin-law : Law (bin_layout n) BinOk
  unfolding bin_layout
  bin-law = fields-law of_bin to_bin (λ x. refl) (λ y. refl) (pair-law word-law (pair-law word-law row-law))

  pub bin-width : (bin_layout n).width ≡ bin_words n
  unfolding bin_layout fields pair word block
  bin-width = omega arith

-- a cell: the lengths of its rows, registers and lists
pub record UnitOk (n B : ℕ) (u : Unit) : Type 0 where
  pub opened : RowOk n u.cell.opened.members
  pub held : RowOk n u.cell.held.content.members
  pub losses : Each loss_count (RowOk n) u.cell.losses
  pub xs : Long (depth n) u.xs
  pub ys : Long (depth n) u.ys
  pub bins : Each (2 * B) (BinOk n) u.cell.bins

module _ (n bins : ℕ) where
  pub unit-law : Law (unit_layout n bins) (UnitOk n bins)
  unfolding unit_layout
  unit-law =
      law-as
      (λ u o.
      record {
        opened = o.1.1.1.1.1.1.1.1.1.1.0;
        held = o.1.1.1.1.1.1.1.1.1.1.1.0;
        losses = o.1.1.1.1.1.1.1.1.1.1.1.1.0;
        xs = o.1.1.1.1.1.1.1.1.1.1.1.1.1.0;
        ys = o.1.1.1.1.1.1.1.1.1.1.1.1.1.1.0;
        bins = o.1.1.1.1.1.1.1.1.1.1.1.1.1.1.1;
      })
      (λ u o. (
        tt,
        (
          tt,
          (
            tt,
            (tt, (tt, (tt, (tt, (tt, (tt, (tt, (o.opened, (o.held, (o.losses, (o.xs, (o.ys, o.bins)))))))))))),
          ),
        ),
      ))
      (fields-law of_unit to_unit (λ x. refl) (λ y. refl)
      (pair-law word-law
      (pair-law word-law
      (pair-law word-law
      (pair-law word-law
      (pair-law word-law
      (pair-law word-law
      (pair-law word-law
      (pair-law word-law
      (pair-law word-law
      (pair-law word-law
      (pair-law (row-law n)
      (pair-law (row-law n)
      (pair-law (many-law (row-law n) loss_count)
      (pair-law (block-law (depth n))
      (pair-law (block-law (depth n)) (many-law (bin-law n) (2 * bins))))))))))))))))))

  pub unit-width : (unit_layout n bins).width ≡ cell_words n bins
  unfolding unit_layout fields pair word block many
  unit-width = omega (arith, ap (λ k. 2 * bins * k) (bin-width n))

-- a run
module _ (sh : Shape) where
  abbrev pub RunOk : Run → Type 0
  RunOk r = Any r.t × (Each sh.cells (UnitOk sh.lags sh.bins) r.units × Any r.next)

  pub run-law : Law (run_layout sh) RunOk
  unfolding run_layout
  run-law =
      fields-law of_run to_run (λ x. refl) (λ y. refl)
      (pair-law word-law (pair-law (many-law (unit-law sh.lags sh.bins) sh.cells) word-law))

  pub run-width : (run_layout sh).width ≡ memory_words sh
  unfolding run_layout fields pair word many memory_words
  run-width = omega (arith, ap (λ k. sh.cells * k) (unit-width sh.lags sh.bins))

-- "never above C × (2B + 32) × (4N + 64)"
pub memory-bound : (sh : Shape) → shape_ok sh ≡ true
    → memory_words sh ≤ sh.cells * (2 * sh.bins + 32) * (4 * sh.lags + 64)
unfolding shape_ok memory_words
memory-bound sh ok =
    let n = sh.lags in
    let wide = (2 * sh.bins + 32) * (4 * n + 64) in
    let some = (and-le 1 sh.cells _ ok).0 in
    let bins : 2 * sh.bins * bin_words n ≤ 2 * sh.bins * (4 * n + 64) = mul-le-mul_left (2 * sh.bins) (omega arith) in
    let cell : suc (suc (cell_words n sh.bins)) ≤ wide = rw (add-mul (2 * sh.bins) 32 (4 * n + 64)) (omega arith) in
    let all : sh.cells * suc (suc (cell_words n sh.bins)) ≤ sh.cells * wide = mul-le-mul_left sh.cells cell in
    rw (mul_assoc sh.cells (2 * sh.bins + 32) (4 * n + 64))
    (omega (arith, mul-suc sh.cells (suc (cell_words n sh.bins)), mul-suc sh.cells (cell_words n sh.bins)))
