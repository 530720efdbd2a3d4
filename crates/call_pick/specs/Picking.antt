-- A pick that is not refused: when it may go on.
use Rattle.std.specs.Prelude.{ℕ, ◌*◌, ◌<◌, List}
use Rattle.lta_spec.specs.Engine.{bank_of, data_bin_of, picked_bin}
use Rattle.lta_spec.specs.Step.{unit_at, picked_cell}
use Rattle.lta_spec.specs.declared.Shape.{Shape}
use Rattle.call_run.specs.Runs.{Hosted, run_of}
use Rattle.call_emit.specs.Emission.{EmitsFrom}

-- the cell that it takes, and the bin of it
abbrev pub cell_of : Shape → (mem : List ℕ) → ℕ
cell_of s mem = picked_cell s (run_of s mem)

abbrev pub bin_of : Shape → (mem : List ℕ) → ℕ
bin_of s mem = picked_bin s.lags s.bins (unit_at s (cell_of s mem) (run_of s mem))

pub record PicksFrom (s : Shape) (mem out : List ℕ) : Type 0 where
  pub hosted : Hosted s mem
  -- the places of picks are in the run
  pub place : (run_of s mem).next < s.cells
  pub turn : (unit_at s (cell_of s mem) (run_of s mem)).picks.next < 2 * s.bins
  -- and the emission of that bin may go on
  pub below : bin_of s mem < 2 * s.bins
  pub emits : EmitsFrom s mem (cell_of s mem) (bank_of s.bins (bin_of s mem)) (data_bin_of s.bins (bin_of s mem)) out
