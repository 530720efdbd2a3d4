-- `call_emit::emit` meets its contract.
use Rattle.std.specs.Prelude.{Ok}
use mathlib.Core.Path.{◌≡◌, sym, ap, ◌∙◌}
use Rattle.lta_spec.specs.Call.Call.{emit}
use Rattle.lta_spec.specs.Answer.Answer.{number}
use Rattle.lta_spec.specs.Step.{verdict, emits, sends, accepted}
use Rattle.lta_spec.proofs.MemoryLaws.{run-law}
use Rattle.cell_layout.proofs.LaysLaws.{lays-put}
use Rattle.call_run.proofs.FirstLaws.{returned}
use Rattle.call_run.proofs.RunLaws.{shape_is}
use Rattle.call_run.proofs.StepLaws.{refused_keeps, done}
use Rattle.call_emit.specs.Emission.{EmitsFrom}
use Rattle.call_emit.proofs.EmitLaws as laws
use Rattle.call_emit.proofs.emit.Goals as goal
use Rattle.call_emit.proofs.emit.Goals.{In_ok-emit_verdict}

-- the call is accepted, and what its tests showed
accepting : (c : In_ok-emit_verdict) → let a = c.args in
    Ok tt ≡ verdict a.s a.mem.now (emit a.cell a.bank a.bin a.out.now)
accepting c = sym c.in_ok-emit_verdict.was ∙ c.emit_verdict.ensures

shown : (c : In_ok-emit_verdict) → let a = c.args in
    EmitsFrom a.s a.mem.now a.cell a.bank a.bin a.out.now
shown c =
    let a = c.args in
    laws.emits a.s a.mem.now a.cell a.bank a.bin a.out.now (accepting c)

pub returns-in_err-emit_verdict : goal.returns-in_err-emit_verdict
returns-in_err-emit_verdict c =
    let a = c.args in
    let q = refused_keeps number a.s a.mem.now (emit a.cell a.bank a.bin a.out.now) (returned _ c.from_residual.ensures)
    (sym c.emit_verdict.ensures ∙ c.in_err-emit_verdict.was) in
    record { answer = q.0; frame = q.1.0; leaves = q.1.1 }

pub emit_bin-requires : goal.emit_bin-requires
emit_bin-requires c = shown (goal.at.emit_bin-requires c).In_ok-emit_verdict

pub length-requires : goal.length-requires
length-requires c =
    let a = c.args in
    (shape_is a.s a.mem.now (shown (goal.at.length-requires c).In_ok-emit_verdict).cell.hosted).lags

pub returns : goal.returns
unfolding accepted emits sends
returns c =
    let a = c.args in
    let told = accepting (goal.at.returns c).In_ok-emit_verdict in
    rw (done a.s a.mem.now (emit a.cell a.bank a.bin a.out.now) told)
    record {
      answer = ap number c.length.ensures;
      frame = c.emit_bin.ensures.frame;
      leaves = lays-put (run-law a.s) c.emit_bin.ensures.leaves;
    }
