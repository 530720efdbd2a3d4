-- A test of every cell of a run, made cell by cell.
use mathlib.Core.Path.{◌≡◌, sym, ap, ap₂, ◌∙◌}
use mathlib.Core.Bool.{Bool, ◌&&◌}
use mathlib.Core.List.{List}
use Prim.Native.Nat.{ℕ, ◌+◌, ◌<◌, ◌≤◌}
use native.Mathlib.Numerals.{add-one}
use native.Mathlib.Omega.{arith}
use lib.ListN.{length, take}
use lib.Seq.{take_all}
use Rattle.lta_spec.specs.Words.{every}
use Rattle.lta_spec.specs.Engine.{Unit}
use Rattle.lta_spec.specs.declared.Shape.{Shape}
use Rattle.lta_spec.proofs.TestLaws.{every-next}
use Rattle.cell_layout.specs.Views.{unit_in}
use Rattle.cell_layout.specs.declared.cell.Cell.{Cell}
use Rattle.call_run.specs.Runs.{Hosted, run_of, CellOf}
use Rattle.call_run.proofs.RunLaws.{units-length}

module _ (s : Shape) (mem : List ℕ) (h : Hosted s mem) (f : Unit → Bool) (c : ℕ) where
  -- the cells before c passed it or not, and then the next
  pub cells-next : {p : Cell} {ok x : Bool} → c < s.cells → CellOf s mem c p
      → ok ≡ every f (take c (run_of s mem).units) → x ≡ f (unit_in p)
      → ok && x ≡ every f (take (c + 1) (run_of s mem).units)
  cells-next there p before here =
      let us = (run_of s mem).units in
      let inside : c < length us = omega (arith, units-length s mem h) in
      ap₂ ◌&&◌ before (here ∙ ap f p.unit)
      ∙ sym (every-next f us c _ inside)
      ∙ ap (λ j. every f (take j us)) (sym (add-one c))

  pub cells-all : {ok : Bool} → s.cells ≤ c → ok ≡ every f (take c (run_of s mem).units)
      → ok ≡ every f (run_of s mem).units
  cells-all past before =
      before ∙ ap (every f) (take_all c (run_of s mem).units (omega (arith, units-length s mem h)))
