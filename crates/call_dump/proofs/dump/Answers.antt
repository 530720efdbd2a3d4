-- `call_dump::dump` meets its contract.
use mathlib.Core.Path.{◌≡◌, refl, sym, ap, ◌∙◌, subst}
use mathlib.Core.Bool.{true}
use Prim.Native.Nat.{◌<◌}
use borrow.Author.Tests.{ne_eqb}
use Rattle.std.specs.Prelude.{Ok}
use Rattle.lta_spec.specs.Answer.{moved_number}
use Rattle.lta_spec.specs.Answer.Answer.{number}
use Rattle.lta_spec.specs.Call.{speed}
use Rattle.lta_spec.specs.Call.Call.{dump}
use Rattle.lta_spec.specs.Damage.{dump_unit_sound}
use Rattle.lta_spec.specs.Step.{verdict, sends, dumps_by, accepted}
use Rattle.cell_layout.specs.Cells.{with_counter}
use Rattle.call_run.proofs.FirstLaws.{returned}
use Rattle.call_run.proofs.RunLaws.{shape-ok, shape_is, length-is}
use Rattle.call_run.proofs.StepLaws.{refused_keeps, done}
use Rattle.call_run.proofs.LoanLaws.{loan-is, loan-moved}
use Rattle.call_dump.specs.Dumping.{counted_by, dumped_by, placed_by}
use Rattle.call_dump.proofs.Shown as shown
use Rattle.call_dump.proofs.Shown.{Dumps, dumps}
use Rattle.call_dump.proofs.dump.Goals as goal
use Rattle.call_dump.proofs.dump.Goals.{In_ok-dump_verdict}

-- the call is accepted, and what its tests showed
accepting : (c : In_ok-dump_verdict) → let a = c.args in
    Ok tt ≡ verdict a.s a.mem.now (dump a.cell a.command a.bank a.phase a.out.now)
accepting c = sym c.in_ok-dump_verdict.was ∙ c.dump_verdict.ensures

shows : (c : In_ok-dump_verdict) → let a = c.args in
    Dumps a.s a.mem.now a.cell a.command a.bank a.phase
shows c =
    let a = c.args in
    dumps a.s a.mem.now a.cell a.command a.bank a.phase a.out.now (accepting c)

pub returns-in_err-dump_verdict : goal.returns-in_err-dump_verdict
returns-in_err-dump_verdict c =
    let a = c.args in
    let call = dump a.cell a.command a.bank a.phase a.out.now in
    let q = refused_keeps (λ m. number (moved_number m)) a.s a.mem.now call (returned _ c.from_residual.ensures)
    (sym c.dump_verdict.ensures ∙ c.in_err-dump_verdict.was) in
    record { answer = q.0; frame = q.1.0; leaves = q.1.1 }

pub speed_dump-requires : goal.speed_dump-requires
speed_dump-requires c =
    let a = c.args in
    shown.sends a.s a.mem.now a.cell a.command a.bank a.phase a.out.now
    (accepting (goal.at.speed_dump-requires c).In_ok-dump_verdict) c.if-command-eq-SPEED.true

pub length-requires : goal.length-requires
length-requires c =
    let a = c.args in
    (shape_is a.s a.mem.now (shows (goal.at.length-requires c).In_ok-dump_verdict).cell.hosted).lags

pub returns-then-command-eq-SPEED : goal.returns-then-command-eq-SPEED
unfolding accepted dumps_by sends
returns-then-command-eq-SPEED c =
    let a = c.args in
    let at : Ok tt ≡ verdict a.s a.mem.now (dump a.cell speed a.bank a.phase a.out.now) =
    subst (λ k. Ok tt ≡ verdict a.s a.mem.now (dump a.cell k a.bank a.phase a.out.now))
    c.if-command-eq-SPEED.true (accepting (goal.at.returns-then-command-eq-SPEED c).In_ok-dump_verdict) in
    rw (c.if-command-eq-SPEED.true, done a.s a.mem.now (dump a.cell speed a.bank a.phase a.out.now) at)
    (record {
      answer = ap number c.length.ensures;
      frame = c.speed_dump.ensures.frame;
      leaves = c.speed_dump.ensures.leaves;
    })

pub invariant_of-run : goal.invariant_of-run
invariant_of-run c =
    let h = (shows (goal.at.invariant_of-run c).In_ok-dump_verdict).cell.hosted in
    record { shaped = shape-ok _ _ h; whole = length-is _ _ h }

pub cell_start-at-requires : goal.cell_start-at-requires
cell_start-at-requires c = (shows (goal.at.cell_start-at-requires c).In_ok-dump_verdict).cell.there

pub dump_unit-requires : goal.dump_unit-requires
dump_unit-requires c =
    let a = c.args in
    let s = a.s in
    let k = c.cell_shape-shape.ensures in
    let q = shows (goal.at.dump_unit-requires c).In_ok-dump_verdict in
    let l = loan-is q.cell c.cell_start-at.ensures.is c.cell_words.ensures in
    rw (k.0, k.1) (
      (l.size, q.known),
      (
        subst (λ u. dump_unit_sound s.lags s.bins s.blocks c.time-t.result a.command u ≡ true) (sym l.unit)
            (rw c.time-t.ensures q.sound),
        subst (λ u. (dumped_by s.blocks a.command a.bank a.phase u).bin < s.bins) (sym l.unit) q.bin,
      ),
    )

pub returns : goal.returns
unfolding accepted dumps_by
returns c =
    let a = c.args in
    let s = a.s in
    let k = c.cell_shape-shape.ensures in
    let at = (goal.at.returns c).In_ok-dump_verdict in
    let moved = loan-moved (shows at).cell c.cell_start-at.ensures.is c.cell_words.ensures
    (dump a.cell a.command a.bank a.phase a.out.now) a.out.now
    (placed_by s.lags s.blocks c.time-t.result a.command a.bank a.phase)
    (λ u. with_counter u (counted_by s.blocks a.command u)) _ _
    (accepting at)
    (rw (c.time-t.ensures, ne_eqb a.command speed c.if-command-eq-SPEED.false) refl)
    (rw (k.0, k.1) at c.dump_unit.ensures) in
    record { answer = moved.0; frame = moved.1.0; leaves = moved.1.1 }
