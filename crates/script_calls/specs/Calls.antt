-- Document 01, "The script program": the call that each record makes on the run.
use Rattle.std.specs.Prelude.{ℕ, List, [], ◌∷◌}
use Rattle.lta_spec.specs.Call.{Call}
use Rattle.lta_spec.specs.Call.Call.{tick, dump, integrate, emit}
use Rattle.lta_spec.specs.Step.{Step, step}
use Rattle.lta_spec.specs.Edges.{script_shape}
use Rattle.script_records.specs.declared.Record.{Record}
use Rattle.script_records.specs.declared.Record.TheVariants as kind

-- a dump and an emission take the buffer that is lent
abbrev pub call_of : Record → (out : List ℕ) → Call
call_of (kind.Tick t) out = tick (t.x ∷ t.y ∷ t.valid ∷ [])
call_of (kind.Dump d) out = dump d.cell d.command d.bank d.phase out
call_of (kind.Integrate cell) out = integrate cell
call_of (kind.Emit e) out = emit e.cell e.bank e.bin out

-- a record's call on the script's run
abbrev pub step_of : Record → (out mem : List ℕ) → Step
step_of r out mem = step script_shape (call_of r out) mem

-- the buffer afterwards: no other call takes it
abbrev pub buffer_after : Record → (out mem : List ℕ) → List ℕ
buffer_after (kind.Tick t) out mem = out
buffer_after (kind.Dump d) out mem = (step_of (kind.Dump d) out mem).out
buffer_after (kind.Integrate cell) out mem = out
buffer_after (kind.Emit e) out mem = (step_of (kind.Emit e) out mem).out
