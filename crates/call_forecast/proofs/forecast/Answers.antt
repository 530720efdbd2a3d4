-- `call_forecast::forecast` meets its contract.
use mathlib.Core.Path.{◌≡◌, refl, sym, ap, ap₂, ◌∙◌}
use lib.ListN.{drop}
use Rattle.std.specs.Prelude.{Ok}
use Rattle.lta_spec.specs.Refusals.{first_of}
use Rattle.lta_spec.specs.Answer.Answer.{number}
use Rattle.lta_spec.specs.Call.Call.{forecast}
use Rattle.lta_spec.specs.Engine.{forecast_of}
use Rattle.lta_spec.specs.Damage.{forecast_sound}
use Rattle.lta_spec.specs.Step as S
use Rattle.lta_spec.specs.declared.Refusal.TheVariants.{NoCell, Damaged}
use Rattle.call_run.specs.Runs.{verdict_in, run_of}
use Rattle.call_run.proofs.FirstLaws.{returned, fails, passes, unhosted, hosted}
use Rattle.call_run.proofs.ViewLaws.{cell-sound}
use Rattle.call_run.proofs.StepLaws.{refused_as, done}
use Rattle.call_forecast.proofs.forecast.Goals as goal
use Rattle.call_forecast.proofs.forecast.Goals.{In_ok-run, In_ok-part, In_ok-unless}

-- 1 and 2 passed
run_passed : (c : In_ok-run) → let a = c.args in let r = c.in_ok-run.run' in let call = forecast a.cell in
    S.verdict a.s a.mem.now call ≡ first_of (S.call_tests r.shape call (run_of r.shape r.mem.now))
run_passed c =
    let is = c.in_ok-run.ensures.run in rw (← is.0, ← is.1) (hosted (forecast c.args.cell) c.in_ok-run.run')

-- and 5
part_passed : (c : In_ok-part) → let a = c.args in let r = c.in_ok-run.run' in
    S.verdict a.s a.mem.now (forecast a.cell)
    ≡ first_of (drop 1 (S.call_tests r.shape (forecast a.cell) (run_of r.shape r.mem.now)))
part_passed c =
    run_passed (goal.at.In_ok-part c).In_ok-run
    ∙ passes NoCell c.cell.ensures.says refl (ap verdict_in c.in_ok-part.was)

pub returns-in_err-run : goal.returns-in_err-run
returns-in_err-run c =
    let a = c.args in
    refused_as number a.s a.mem.now _ (returned _ c.from_residual.ensures)
    (unhosted _ a.s a.mem.now c.of.ensures.says c.in_err-run.was)

pub returns-in_err-part : goal.returns-in_err-part
returns-in_err-part c =
    refused_as number _ _ _ (returned _ c.from_residual-in_err-part.ensures)
    (run_passed (goal.at.returns-in_err-part c).In_ok-run
    ∙ fails NoCell c.cell.ensures.says refl _ (ap verdict_in c.in_err-part.was))

pub returns-in_err-unless : goal.returns-in_err-unless
returns-in_err-unless c =
    refused_as number _ _ _ (returned _ c.from_residual-in_err-unless.ensures)
    (part_passed (goal.at.returns-in_err-unless c).In_ok-part
    ∙ fails Damaged c.unless.ensures
    (cell-sound c.in_ok-part.ensures.cell (λ n bins t u. forecast_sound t u.cell) c.time-t.ensures c.open_ok.ensures) _
    c.in_err-unless.was)

-- the call is accepted
accepted : (c : In_ok-unless) → let a = c.args in S.verdict a.s a.mem.now (forecast a.cell) ≡ Ok tt
accepted c =
    part_passed (goal.at.In_ok-unless c).In_ok-part
    ∙ passes Damaged c.unless.ensures
    (cell-sound c.in_ok-part.ensures.cell (λ n bins t u. forecast_sound t u.cell) c.time-t.ensures c.open_ok.ensures)
    c.in_ok-unless.was

pub returns : goal.returns
unfolding S.accepted
returns c =
    let a = c.args in
    let is = c.in_ok-run.ensures.run in
    let call = forecast a.cell in
    ap number
    (c.forecast_cell.ensures
    ∙ ap (λ u. forecast_of u.cell) c.in_ok-part.ensures.cell.unit
    ∙ ap₂ (λ s m. forecast_of (S.cell_at s a.cell (run_of s m))) is.0 is.1)
    ∙ sym (ap (λ d. d.answer) (done a.s a.mem.now call (sym (accepted (goal.at.returns c).In_ok-unless))))
