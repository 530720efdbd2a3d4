-- The cell that a pick takes is one of the run's.
use mathlib.Core.List.{List}
use mathlib.Core.Bool.{Bool}
use Prim.Native.Nat.{ℕ, ◌<◌}
use Rattle.lta_spec.specs.Memory.{Run}
use Rattle.lta_spec.specs.Step as S
use Rattle.lta_spec.specs.declared.Shape.{Shape}
use Rattle.lta_spec.proofs.PickLaws.{seek-below}
use Rattle.call_run.specs.Runs.{run_of}

-- has cell c a Ready bin?
abbrev pub ready_in : Shape → (mem : List ℕ) → ℕ → Bool
ready_in s mem c = S.some_ready s c (run_of s mem)

pub cell_below : (s : Shape) (r : Run) → r.next < s.cells → S.picked_cell s r < s.cells
unfolding S.picked_cell
cell_below s r h = seek-below (λ c. S.some_ready s c r) s.cells s.cells r.next h
