-- `call_reading::reading` meets its contract.
use mathlib.Core.Path.{◌≡◌, refl, sym, ap, ap₂, ◌∙◌}
use lib.ListN.{drop}
use Prim.Native.Nat.{◌-◌}
use Rattle.std.specs.Prelude.{Ok}
use Rattle.lta_spec.specs.Refusals.{first_of}
use Rattle.lta_spec.specs.Answer.Answer.{entry}
use Rattle.lta_spec.specs.Row.{row_sums}
use Rattle.lta_spec.specs.Call.Call.{reading}
use Rattle.lta_spec.specs.Engine.{loss_at}
use Rattle.lta_spec.specs.Damage.{read_sound}
use Rattle.lta_spec.specs.Step as S
use Rattle.lta_spec.specs.declared.Refusal.TheVariants.{NoCell, NoLag, Damaged}
use Rattle.call_run.specs.Runs.{verdict_in, run_of}
use Rattle.call_run.proofs.FirstLaws.{returned, fails, passes, unhosted, hosted}
use Rattle.call_run.proofs.ViewLaws.{cell-sound}
use Rattle.call_run.proofs.StepLaws.{refused_as, done}
use Rattle.call_reading.proofs.reading.Goals as goal
use Rattle.call_reading.proofs.reading.Goals.{In_ok-run, In_ok-part, In_ok-unless, In_ok-unless-2}

-- 1 and 2 passed
run_passed : (c : In_ok-run) → let a = c.args in let r = c.in_ok-run.run' in
    S.verdict a.s a.mem.now (reading a.cell a.lag a.loss)
    ≡ first_of (S.call_tests r.shape (reading a.cell a.lag a.loss) (run_of r.shape r.mem.now))
run_passed c =
    let is = c.in_ok-run.ensures.run in
    rw (← is.0, ← is.1) (hosted (reading c.args.cell c.args.lag c.args.loss) c.in_ok-run.run')

-- and 5
part_passed : (c : In_ok-part) → let a = c.args in let r = c.in_ok-run.run' in
    S.verdict a.s a.mem.now (reading a.cell a.lag a.loss)
    ≡ first_of (drop 1 (S.call_tests r.shape (reading a.cell a.lag a.loss) (run_of r.shape r.mem.now)))
part_passed c =
    run_passed (goal.at.In_ok-part c).In_ok-run
    ∙ passes NoCell c.cell.ensures.says refl (ap verdict_in c.in_ok-part.was)

-- and 12
lag_passed : (c : In_ok-unless) → let a = c.args in let r = c.in_ok-run.run' in
    S.verdict a.s a.mem.now (reading a.cell a.lag a.loss)
    ≡ first_of (drop 2 (S.call_tests r.shape (reading a.cell a.lag a.loss) (run_of r.shape r.mem.now)))
lag_passed c = part_passed (goal.at.In_ok-unless c).In_ok-part ∙ passes NoLag c.unless.ensures refl c.in_ok-unless.was

pub returns-in_err-run : goal.returns-in_err-run
returns-in_err-run c =
    let a = c.args in
    refused_as entry a.s a.mem.now _ (returned _ c.from_residual.ensures)
    (unhosted _ a.s a.mem.now c.of.ensures.says c.in_err-run.was)

pub returns-in_err-part : goal.returns-in_err-part
returns-in_err-part c =
    refused_as entry _ _ _ (returned _ c.from_residual-in_err-part.ensures)
    (run_passed (goal.at.returns-in_err-part c).In_ok-run
    ∙ fails NoCell c.cell.ensures.says refl _ (ap verdict_in c.in_err-part.was))

pub returns-in_err-unless : goal.returns-in_err-unless
returns-in_err-unless c =
    refused_as entry _ _ _ (returned _ c.from_residual-in_err-unless.ensures)
    (part_passed (goal.at.returns-in_err-unless c).In_ok-part ∙ fails NoLag c.unless.ensures refl _ c.in_err-unless.was)

pub returns-in_err-unless-2 : goal.returns-in_err-unless-2
returns-in_err-unless-2 c =
    refused_as entry _ _ _ (returned _ c.from_residual-in_err-unless-2.ensures)
    (lag_passed (goal.at.returns-in_err-unless-2 c).In_ok-unless
    ∙ fails Damaged c.unless-2.ensures
    (cell-sound c.in_ok-part.ensures.cell (λ n bins t u. read_sound u.cell) c.time.ensures c.losses_ok.ensures) _
    c.in_err-unless-2.was)

-- the call is accepted
accepted : (c : In_ok-unless-2) → let a = c.args in S.verdict a.s a.mem.now (reading a.cell a.lag a.loss) ≡ Ok tt
accepted c =
    lag_passed (goal.at.In_ok-unless-2 c).In_ok-unless
    ∙ passes Damaged c.unless-2.ensures
    (cell-sound c.in_ok-part.ensures.cell (λ n bins t u. read_sound u.cell) c.time.ensures c.losses_ok.ensures)
    c.in_ok-unless-2.was

pub returns : goal.returns
unfolding S.accepted
returns c =
    let a = c.args in
    let p = c.in_ok-part.ensures.cell in
    let is = c.in_ok-run.ensures.run in
    let call = reading a.cell a.lag a.loss in
    ap entry
    (c.read_loss.ensures
    ∙ ap₂ (λ n u. row_sums a.lag (loss_at n (a.loss - 1) u.cell.losses)) p.lags p.unit
    ∙ ap₂ (λ s m. row_sums a.lag (loss_at s.lags (a.loss - 1) (S.cell_at s a.cell (run_of s m)).losses)) is.0 is.1)
    ∙ sym (ap (λ d. d.answer) (done a.s a.mem.now call (sym (accepted (goal.at.returns c).In_ok-unless-2))))
