-- A tick going through the cells of a run, one after the other.
use Rattle.std.specs.Prelude.{◌≡◌, true, cond, List, [], ◌∷◌, ℕ, zero, suc, set, drop}
use Rattle.lta_spec.specs.Row.{x_entry, y_entry}
use Rattle.lta_spec.specs.Engine.{Unit, has_room, tick_unit}
use Rattle.lta_spec.specs.Damage.{tick_sound}
use Rattle.lta_spec.specs.Memory.{Run, run_layout}
use Rattle.lta_spec.specs.Step.{unit_at}
use Rattle.lta_spec.specs.declared.Shape.{Shape}
use Rattle.cell_layout.specs.Lays.{Lays}
use Rattle.call_run.specs.Runs.{Celled, run_of}

-- the cells when the first c of them have taken their samples
abbrev pub ticked_to : (n c : ℕ) (samples : List ℕ) → List Unit → List Unit
ticked_to n zero samples us = us
ticked_to n (suc c) samples [] = []
ticked_to n (suc c) samples (u ∷ us) =
    tick_unit n (x_entry samples) (y_entry samples) u ∷ ticked_to n c (drop 3 samples) us

-- there is a cell c, and a tick finds it as the engine leaves it
pub record Ticks (s : Shape) (mem : List ℕ) (c : ℕ) : Type 0 where
  pub cell : Celled s mem c
  pub sound : tick_sound s.lags (run_of s mem).t (unit_at s c (run_of s mem)) ≡ true

-- held is 1 where cell c of the run is held off and else 0, and the words are the run with that cell after the tick
pub record TickedAt (s : Shape) (c x y : ℕ) (run : Run) (held : ℕ) (mem : List ℕ) : Type 0 where
  pub held-off : held ≡ cond (has_room s.lags (unit_at s c run).cell) 0 1
  pub words : Lays (run_layout s) mem
      (record {
        t = run.t;
        next = run.next;
        units = set run.units c (tick_unit s.lags x y (unit_at s c run));
      })
