-- `call_tick_tests::tick_verdict` meets its contract.
use mathlib.Core.Path.{◌≡◌, refl, sym, ap, ◌∙◌}
use mathlib.Core.Bool.{not, ◌&&◌}
use Prim.Native.Nat.{◌≤◌}
use native.Mathlib.Omega.{arith}
use lib.Dec.{leb, eqb}
use lib.ListN.{drop}
use borrow.Author.Tests.{eqb-true}
use Rattle.lta_spec.specs.Refusals.{first_of}
use Rattle.lta_spec.specs.Shape.{run_limit}
use Rattle.lta_spec.specs.Call.Call.{tick}
use Rattle.lta_spec.specs.Step as S
use Rattle.lta_spec.specs.declared.Refusal.TheVariants.{WrongSamples, BadValidity, RunFull, Damaged}
use Rattle.call_run.specs.Runs.{run_of}
use Rattle.call_run.proofs.FirstLaws.{returned, fails, passes, passed, says, unhosted, hosted}
use Rattle.call_run.proofs.RunLaws.{shape_is}
use Rattle.call_run.proofs.ViewLaws.{hosted_in}
use Rattle.call_tick_tests.proofs.tick_verdict.Goals as goal
use Rattle.call_tick_tests.proofs.tick_verdict.Goals.{In_ok-run, In_ok-unless, In_ok-unless-2, In_ok-unless-3}
use Rattle.call_tick_tests.proofs.tick_verdict.Goals.{After-time-t}

-- 1 and 2 passed
run_passed : (c : In_ok-run) → let a = c.args in let r = c.in_ok-run.run' in let call = tick a.samples.now in
    S.verdict a.s a.mem.now call ≡ first_of (S.call_tests r.shape call (run_of r.shape r.mem.now))
run_passed c =
    let is = c.in_ok-run.ensures.run in
    rw (← is.0, ← is.1) (hosted (tick c.args.samples.now) c.in_ok-run.run')

-- and 3
count_passed : (c : In_ok-unless) → let a = c.args in let r = c.in_ok-run.run' in let call = tick a.samples.now in
    S.verdict a.s a.mem.now call ≡ first_of (drop 1 (S.call_tests r.shape call (run_of r.shape r.mem.now)))
count_passed c =
    run_passed (goal.at.In_ok-unless c).In_ok-run ∙ passes WrongSamples c.unless.ensures refl c.in_ok-unless.was

-- and 19
validity_passed : (c : In_ok-unless-2) → let a = c.args in let r = c.in_ok-run.run' in let call = tick a.samples.now in
    S.verdict a.s a.mem.now call ≡ first_of (drop 2 (S.call_tests r.shape call (run_of r.shape r.mem.now)))
validity_passed c =
    count_passed (goal.at.In_ok-unless-2 c).In_ok-unless
    ∙ passes BadValidity c.unless-2.ensures c.validity_ok.ensures c.in_ok-unless-2.was

-- what 4 says
not_full : (c : After-time-t) → let r = c.in_ok-run.run' in
    not (eqb c.time-t.result run_limit) ≡ not (eqb (run_of r.shape r.mem.now).t run_limit)
not_full c = ap (λ t. not (eqb t run_limit)) c.time-t.ensures

few : (c : In_ok-run) → c.in_ok-run.run'.shape.cells ≤ 16
few c = (shape_is _ _ (hosted_in c.in_ok-run.run')).cells

pub overflow_mul-cells : goal.overflow_mul-cells
overflow_mul-cells c = omega (arith, few (goal.at.overflow_mul-cells c).In_ok-run)

pub validity_ok-requires : goal.validity_ok-requires
validity_ok-requires c =
    let at = goal.at.validity_ok-requires c in
    (eqb-true _ _ (passed WrongSamples c.unless.ensures refl c.in_ok-unless.was), few at.In_ok-run)

pub returns-in_err-run : goal.returns-in_err-run
returns-in_err-run c =
    let a = c.args in
    returned _ c.from_residual.ensures ∙ sym (unhosted _ a.s a.mem.now c.of.ensures.says c.in_err-run.was)

pub returns-in_err-unless : goal.returns-in_err-unless
returns-in_err-unless c =
    returned _ c.from_residual-in_err-unless.ensures
    ∙ sym (run_passed (goal.at.returns-in_err-unless c).In_ok-run
    ∙ fails WrongSamples c.unless.ensures refl _ c.in_err-unless.was)

pub returns-in_err-unless-2 : goal.returns-in_err-unless-2
returns-in_err-unless-2 c =
    returned _ c.from_residual-in_err-unless-2.ensures
    ∙ sym (count_passed (goal.at.returns-in_err-unless-2 c).In_ok-unless
    ∙ fails BadValidity c.unless-2.ensures c.validity_ok.ensures _ c.in_err-unless-2.was)

pub returns-in_err-unless-3 : goal.returns-in_err-unless-3
returns-in_err-unless-3 c =
    let at = goal.at.returns-in_err-unless-3 c in
    returned _ c.from_residual-in_err-unless-3.ensures
    ∙ sym (validity_passed at.In_ok-unless-2
    ∙ fails RunFull c.unless-3.ensures (not_full at.After-time-t) _ c.in_err-unless-3.was)

pub returns : goal.returns
returns c =
    let at = goal.at.returns c in
    let r = c.in_ok-run.run' in
    let u = run_of r.shape r.mem.now in
    let sound : leb c.time-t.result run_limit && c.units_sound.result
    ≡ leb u.t run_limit && S.units_sound r.shape u.t u.units =
    rw (← c.time-t.ensures) (ap (λ b. leb c.time-t.result run_limit && b) c.units_sound.ensures) in
    says Damaged c.unless-4.ensures sound refl
    ∙ sym (validity_passed at.In_ok-unless-2
    ∙ passes RunFull c.unless-3.ensures (not_full at.After-time-t) c.in_ok-unless-3.was)
