-- Demand 3 holds of every script: its records are a list of calls on one run. So what a script prints on a fresh run
-- is what the plain machine tells.
use Prim.Native.Nat.{ℕ}
use mathlib.Core.Path.{◌≡◌, refl, ap}
use mathlib.Core.List.{List}
use Rattle.lta_spec.specs.Shape.{shape_ok, lag_count_ok}
use Rattle.lta_spec.specs.MachineRun.{start}
use Rattle.lta_spec.specs.Demand.{Demand3, machine_returns, fresh_mem}
use Rattle.lta_spec.specs.Edges.{script_shape}
use Rattle.lta_spec.proofs.Demand.{on-run, demand3}
use Rattle.script_bytes.specs.Bytes.{records_in}
use Rattle.script.specs.Run.{listed}
use Rattle.script.specs.Text.{lines_of, script_lines}

pub demanded : (bytes : List ℕ) → Demand3 script_shape (listed (records_in bytes).list)
unfolding shape_ok lag_count_ok
demanded bytes = demand3 script_shape refl (listed (records_in bytes).list) (on-run _ (records_in bytes).list)

pub machine-lines : (bytes : List ℕ)
    → let rs = (records_in bytes).list in
    script_lines bytes (fresh_mem script_shape) ≡ lines_of rs (machine_returns script_shape (listed rs) (start script_shape))
unfolding script_lines
machine-lines bytes = ap (lines_of (records_in bytes).list) (demanded bytes).tells
