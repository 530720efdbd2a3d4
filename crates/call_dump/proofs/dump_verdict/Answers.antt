-- `call_dump::dump_verdict` meets its contract.
use mathlib.Core.Path.{◌≡◌, refl, sym, ap, ◌∙◌}
use mathlib.Core.Bool.{◌&&◌}
use lib.Dec.{leb}
use lib.ListN.{drop}
use Rattle.lta_spec.specs.Refusals.{first_of}
use Rattle.lta_spec.specs.Shape.{run_limit}
use Rattle.lta_spec.specs.Call.Call.{dump}
use Rattle.lta_spec.specs.Damage.{dump_unit_sound}
use Rattle.lta_spec.specs.Step as S
use Rattle.lta_spec.specs.declared.Refusal.TheVariants.{NoCell, BadCommand, NoBin, ShortBuffer, Damaged}
use Rattle.call_run.specs.Runs.{verdict_in, run_of}
use Rattle.call_run.proofs.FirstLaws.{returned, fails, passes, says, unhosted, hosted}
use Rattle.call_run.proofs.RunLaws.{shape_is}
use Rattle.call_run.proofs.ViewLaws.{hosted_in, cell-sound}
use Rattle.call_dump.proofs.dump_verdict.Goals as goal
use Rattle.call_dump.proofs.dump_verdict.Goals.{In_ok-run, In_ok-part, In_ok-unless, In_ok-unless-2, In_ok-unless-3}
use Rattle.call_dump.proofs.dump_verdict.Goals.{After-unit_sound}

-- 1 and 2 passed
run_passed : (c : In_ok-run) → let a = c.args in let r = c.in_ok-run.run' in
    let call = dump a.c a.command a.bank a.phase a.out.now in
    S.verdict a.s a.mem.now call ≡ first_of (S.call_tests r.shape call (run_of r.shape r.mem.now))
run_passed c =
    let a = c.args in
    let is = c.in_ok-run.ensures.run in
    rw (← is.0, ← is.1) (hosted (dump a.c a.command a.bank a.phase a.out.now) c.in_ok-run.run')

-- and 5
part_passed : (c : In_ok-part) → let a = c.args in let r = c.in_ok-run.run' in
    let call = dump a.c a.command a.bank a.phase a.out.now in
    S.verdict a.s a.mem.now call ≡ first_of (drop 1 (S.call_tests r.shape call (run_of r.shape r.mem.now)))
part_passed c =
    run_passed (goal.at.In_ok-part c).In_ok-run
    ∙ passes NoCell c.cell.ensures.says refl (ap verdict_in c.in_ok-part.was)

-- and 6
command_passed : (c : In_ok-unless) → let a = c.args in let r = c.in_ok-run.run' in
    let call = dump a.c a.command a.bank a.phase a.out.now in
    S.verdict a.s a.mem.now call ≡ first_of (drop 2 (S.call_tests r.shape call (run_of r.shape r.mem.now)))
command_passed c =
    part_passed (goal.at.In_ok-unless c).In_ok-part
    ∙ passes BadCommand c.unless.ensures c.command_ok.ensures c.in_ok-unless.was

-- and 7
bin_passed : (c : In_ok-unless-2) → let a = c.args in let r = c.in_ok-run.run' in
    let call = dump a.c a.command a.bank a.phase a.out.now in
    S.verdict a.s a.mem.now call ≡ first_of (drop 3 (S.call_tests r.shape call (run_of r.shape r.mem.now)))
bin_passed c =
    command_passed (goal.at.In_ok-unless-2 c).In_ok-unless
    ∙ passes NoBin c.unless-2.ensures c.bin_rule.ensures c.in_ok-unless-2.was

-- what 11 says
sound : (c : After-unit_sound) → let a = c.args in let r = c.in_ok-run.run' in let u = run_of r.shape r.mem.now in
    leb c.time-t.result run_limit && c.unit_sound.result
    ≡ leb u.t run_limit
    && dump_unit_sound r.shape.lags r.shape.bins r.shape.blocks u.t a.command (S.unit_at r.shape a.c u)
sound c =
    let r = c.in_ok-run.run' in
    cell-sound c.in_ok-part.ensures.cell (λ n bins t u. dump_unit_sound n bins r.shape.blocks t c.args.command u)
    c.time-t.ensures c.unit_sound.ensures

pub bin_rule-requires : goal.bin_rule-requires
bin_rule-requires c = c.in_ok-run.run'.shaped

pub room_rule-requires : goal.room_rule-requires
room_rule-requires c = (shape_is _ _ (hosted_in c.in_ok-run.run')).lags

pub returns-in_err-run : goal.returns-in_err-run
returns-in_err-run c =
    let a = c.args in
    returned _ c.from_residual.ensures ∙ sym (unhosted _ a.s a.mem.now c.of.ensures.says c.in_err-run.was)

pub returns-in_err-part : goal.returns-in_err-part
returns-in_err-part c =
    returned _ c.from_residual-in_err-part.ensures
    ∙ sym (run_passed (goal.at.returns-in_err-part c).In_ok-run
    ∙ fails NoCell c.cell.ensures.says refl _ (ap verdict_in c.in_err-part.was))

pub returns-in_err-unless : goal.returns-in_err-unless
returns-in_err-unless c =
    returned _ c.from_residual-in_err-unless.ensures
    ∙ sym (part_passed (goal.at.returns-in_err-unless c).In_ok-part
    ∙ fails BadCommand c.unless.ensures c.command_ok.ensures _ c.in_err-unless.was)

pub returns-in_err-unless-2 : goal.returns-in_err-unless-2
returns-in_err-unless-2 c =
    returned _ c.from_residual-in_err-unless-2.ensures
    ∙ sym (command_passed (goal.at.returns-in_err-unless-2 c).In_ok-unless
    ∙ fails NoBin c.unless-2.ensures c.bin_rule.ensures _ c.in_err-unless-2.was)

pub returns-in_err-unless-3 : goal.returns-in_err-unless-3
returns-in_err-unless-3 c =
    let at = goal.at.returns-in_err-unless-3 c in
    returned _ c.from_residual-in_err-unless-3.ensures
    ∙ sym (bin_passed at.In_ok-unless-2
    ∙ fails Damaged c.unless-3.ensures (sound at.After-unit_sound) _ c.in_err-unless-3.was)

pub returns : goal.returns
returns c =
    let at = goal.at.returns c in
    says ShortBuffer c.unless-4.ensures c.room_rule.ensures refl
    ∙ sym (bin_passed at.In_ok-unless-2
    ∙ passes Damaged c.unless-3.ensures (sound at.After-unit_sound) c.in_ok-unless-3.was)
