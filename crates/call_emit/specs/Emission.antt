-- An emission that is not refused: when it may go on, the bytes of its frame, and the run that it leaves.
use Rattle.std.specs.Prelude.{◌≡◌, true, List, ℕ, ◌≤◌, length}
use Rattle.lta_spec.specs.Shape.{run_limit}
use Rattle.lta_spec.specs.Frame.{accumulated, frame_length}
use Rattle.lta_spec.specs.Call.{bin_index}
use Rattle.lta_spec.specs.Engine.{bin_at}
use Rattle.lta_spec.specs.Damage.{emit_sound}
use Rattle.lta_spec.specs.Memory.{Run}
use Rattle.lta_spec.specs.Step.{unit_at, cell_at, with_unit, row_frame}
use Rattle.lta_spec.specs.declared.Shape.{Shape}
use Rattle.cell_ready.specs.Taken.{taken}
use Rattle.call_run.specs.Runs.{Celled, run_of}
use Rattle.call_emit_tests.specs.Bins.{Named}

pub record EmitsFrom (s : Shape) (mem : List ℕ) (c bank bin : ℕ) (out : List ℕ) : Type 0 where
  pub cell : Celled s mem c
  pub named : Named s bank bin
  pub limited : (run_of s mem).t ≤ run_limit
  pub sound : emit_sound s.lags (run_of s mem).t (bin_index s.bins bank bin) (cell_at s c (run_of s mem)) ≡ true
  pub some : 1 ≤ (unit_at s c (run_of s mem)).picks.ready_bins
  pub room : frame_length accumulated s.lags ≤ length out

-- the frame of the bin
abbrev pub frame_at : Shape → (c bank bin : ℕ) → Run → List ℕ
frame_at s c bank bin r =
    row_frame s accumulated c bank bin (bin_at s.lags (bin_index s.bins bank bin) (cell_at s c r)).content

-- the run without what the frame took
abbrev pub emitted : Shape → (c bank bin : ℕ) → Run → Run
emitted s c bank bin r = with_unit s c (taken s.lags (bin_index s.bins bank bin) (unit_at s c r)) r
