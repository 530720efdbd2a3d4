-- Work memory of the length that its shape needs, and one cell of it.
use Rattle.std.specs.Prelude.{◌≡◌, List, ℕ, ◌+◌, ◌<◌, ◌≤◌, length, Result, Ok, Err}
use Rattle.lta_spec.specs.Refusals.{first_of, Verdict}
use Rattle.lta_spec.specs.Size.{cell_words, host_tests}
use Rattle.lta_spec.specs.Memory.{Run, run_layout}
use Rattle.lta_spec.specs.Step.{unit_at}
use Rattle.lta_spec.specs.declared.Shape.{Shape}
use Rattle.lta_spec.specs.declared.Refusal.{Refusal}
use Rattle.cell_layout.specs.Offsets.{cell_at}
use Rattle.cell_layout.specs.Views.{unit_in}
use Rattle.cell_layout.specs.declared.cell.Cell.{Cell}

-- 1 and 2 do not apply
abbrev pub Hosted : Shape → (mem : List ℕ) → Type 0
Hosted s mem = first_of (host_tests s (length mem)) ≡ Ok tt

-- nor does 5
pub record Celled (s : Shape) (mem : List ℕ) (c : ℕ) : Type 0 where
  pub hosted : Hosted s mem
  pub there : c < s.cells

-- what a value or a refusal says
abbrev pub verdict_in : {A : Type 0} → Result A Refusal → Verdict
verdict_in (Ok _) = Ok tt
verdict_in (Err r) = Err r

-- the run that the words are
unfoldable pub run_of : Shape → (mem : List ℕ) → Run
run_of s mem = (run_layout s).get mem

-- r is where the words of cell c start; they end inside work memory
pub record Starts (s : Shape) (mem : List ℕ) (c r : ℕ) : Type 0 where
  pub is : r ≡ cell_at s.lags s.bins c
  pub inside : r + cell_words s.lags s.bins ≤ length mem

-- p is cell c of the run
pub record CellOf (s : Shape) (mem : List ℕ) (c : ℕ) (p : Cell) : Type 0 where
  pub lags : p.shape.lags ≡ s.lags
  pub bins : p.shape.bins ≡ s.bins
  pub unit : unit_in p ≡ unit_at s c (run_of s mem)
