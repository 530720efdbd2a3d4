-- What the records of a script leave of the run.
use Rattle.std.specs.Prelude.{ℕ, List, map}
use Rattle.lta_spec.specs.Words.{zeros}
use Rattle.lta_spec.specs.Frame.{speed_frame, frame_length}
use Rattle.lta_spec.specs.Demand.{Listed, engine_mem}
use Rattle.lta_spec.specs.Demand.Listed.{on_run}
use Rattle.lta_spec.specs.Edges.{script_shape}
use Rattle.script_records.specs.declared.Record.{Record}
use Rattle.script_bytes.specs.Bytes.{records_in}
use Rattle.script_calls.specs.Calls.{call_of}

-- a buffer with room for a frame of either kind of the script's run, for each record anew
abbrev pub blank : List ℕ
blank = zeros (frame_length speed_frame script_shape.lags)

-- records as a list of calls of demand 3
abbrev pub listed : List Record → List Listed
listed rs = map (λ r. on_run (call_of r blank)) rs

-- work memory after all records of some bytes
unfoldable pub script_leaves : (bytes mem : List ℕ) → List ℕ
script_leaves bytes mem = engine_mem script_shape (listed (records_in bytes).list) mem
