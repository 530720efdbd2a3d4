-- A speed dump that is not refused: when it may go on, the data bin that its frame names, and what it leaves of a
-- cell.
use Rattle.std.specs.Prelude.{◌≡◌, true, List, ℕ, ◌+◌, ◌*◌, ◌<◌, ◌≤◌, length}
use Rattle.lta_spec.specs.Shape.{shape_ok, run_limit}
use Rattle.lta_spec.specs.Frame.{speed_frame, frame_length}
use Rattle.lta_spec.specs.Call.{speed}
use Rattle.lta_spec.specs.Engine.{Unit, counted, send_open}
use Rattle.lta_spec.specs.Damage.{dump_unit_sound}
use Rattle.lta_spec.specs.Step.{unit_at}
use Rattle.lta_spec.specs.declared.Shape.{Shape}
use Rattle.call_run.specs.Runs.{Celled, run_of}

-- the data bin of the label, with the block behind this dump's step
abbrev pub bin_by : Shape → (phase : ℕ) → Unit → ℕ
bin_by s phase u = phase * s.blocks + (counted s.blocks speed u.counter).offset

-- the cell with Open empty, and its block counter moved
abbrev pub sent_by : Shape → (t : ℕ) → Unit → Unit
sent_by s t u =
    record {
      cell = send_open s.lags t u.cell;
      counter = counted s.blocks speed u.counter;
      picks = u.picks;
      xs = u.xs;
      ys = u.ys;
    }

-- what cell u of a run at t shows, and the buffer
pub record Sends (s : Shape) (c bank phase t : ℕ) (u : Unit) (out : List ℕ) : Type 0 where
  pub shaped : shape_ok s ≡ true
  pub celled : c < s.cells
  pub banked : bank < 2
  pub binned : bin_by s phase u < s.bins
  pub limited : t ≤ run_limit
  pub sound : dump_unit_sound s.lags s.bins s.blocks t speed u ≡ true
  pub room : frame_length speed_frame s.lags ≤ length out

-- the same of a run's words
pub record SendsFrom (s : Shape) (mem : List ℕ) (c bank phase : ℕ) (out : List ℕ) : Type 0 where
  pub cell : Celled s mem c
  pub sends : Sends s c bank phase (run_of s mem).t (unit_at s c (run_of s mem)) out
