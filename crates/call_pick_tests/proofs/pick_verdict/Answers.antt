-- 1, 2, 11, 20 and 10, in their order.
use mathlib.Core.Path.{◌≡◌, refl, sym, ap, ap₂, ◌∙◌}
use mathlib.Core.Bool.{◌&&◌}
use Prim.Native.Nat.{◌<◌}
use lib.Dec.{leb, ltb}
use lib.ListN.{drop, length}
use borrow.Author.Tests.{ltb-true}
use Rattle.lta_spec.specs.Refusals.{first_of}
use Rattle.lta_spec.specs.Shape.{run_limit}
use Rattle.lta_spec.specs.Call.Call.{pick}
use Rattle.lta_spec.specs.Damage.{picks_sound}
use Rattle.lta_spec.specs.Step as S
use Rattle.lta_spec.specs.declared.Refusal.TheVariants.{Damaged, NothingReady, ShortBuffer}
use Rattle.lta_spec.proofs.TestLaws.{and_both}
use Rattle.call_run.specs.Runs.{run_of}
use Rattle.call_run.proofs.FirstLaws.{returned, fails, passes, passed, says, unhosted, hosted}
use Rattle.call_run.proofs.RunLaws.{shape_is}
use Rattle.call_run.proofs.ViewLaws.{hosted_in}
use Rattle.call_pick_tests.proofs.ReadyTestLaws.{cell_below}
use Rattle.call_pick_tests.proofs.pick_verdict.Goals as goal
use Rattle.call_pick_tests.proofs.pick_verdict.Goals.{In_ok-run, In_ok-unless, In_ok-unless-2, After-parts_sound-parts}
use Rattle.call_pick_tests.proofs.pick_verdict.Goals.{After-ready_number}

-- 1 and 2 passed
run_passed : (c : In_ok-run) → let a = c.args in let r = c.in_ok-run.run' in let call = pick a.out.now in
    S.verdict a.s a.mem.now call ≡ first_of (S.call_tests r.shape call (run_of r.shape r.mem.now))
run_passed c =
    let is = c.in_ok-run.ensures.run in rw (← is.0, ← is.1) (hosted (pick c.args.out.now) c.in_ok-run.run')

-- what 11 says
sound : (c : After-parts_sound-parts) → let r = c.in_ok-run.run' in let u = run_of r.shape r.mem.now in
    leb c.time-t.result run_limit && c.parts_sound-parts.result
    ≡ leb u.t run_limit && (picks_sound r.shape.bins u.t u.units && ltb u.next r.shape.cells)
sound c =
    let r = c.in_ok-run.run' in
    let u = run_of r.shape r.mem.now in
    ap₂ (λ x y. leb x run_limit && y) c.time-t.ensures
    (c.parts_sound-parts.ensures
    ∙ ap (λ t. picks_sound r.shape.bins t u.units && ltb u.next r.shape.cells) c.time-t.ensures)

sound_passed : (c : In_ok-unless) → let a = c.args in let r = c.in_ok-run.run' in
    S.verdict a.s a.mem.now (pick a.out.now)
    ≡ first_of (drop 1 (S.call_tests r.shape (pick a.out.now) (run_of r.shape r.mem.now)))
sound_passed c =
    let at = goal.at.In_ok-unless c in
    run_passed at.In_ok-run ∙ passes Damaged c.unless.ensures (sound at.After-parts_sound-parts) c.in_ok-unless.was

-- the run's place is among the cells
placed : (c : In_ok-unless) → let r = c.in_ok-run.run' in (run_of r.shape r.mem.now).next < r.shape.cells
placed c =
    let r = c.in_ok-run.run' in
    let u = run_of r.shape r.mem.now in
    let at = goal.at.In_ok-unless c in
    let q = passed Damaged c.unless.ensures (sound at.After-parts_sound-parts) c.in_ok-unless.was in
    let p = and_both (leb u.t run_limit) _ q in
    ltb-true u.next r.shape.cells (and_both (picks_sound r.shape.bins u.t u.units) _ p.1).1

-- what 20 says
some : (c : After-ready_number) → let r = c.in_ok-run.run' in let u = run_of r.shape r.mem.now in
    ltb 0 c.ready_number.result ≡ S.some_ready r.shape (S.picked_cell r.shape u) u
some c =
    let r = c.in_ok-run.run' in
    let u = run_of r.shape r.mem.now in
    ap (ltb 0) (c.ready_number.ensures ∙ ap (λ d. (S.unit_at r.shape d u).picks.ready_bins) c.picked_cell.ensures)

pub picked_cell-requires : goal.picked_cell-requires
picked_cell-requires c = placed (goal.at.picked_cell-requires c).In_ok-unless

pub ready_number-requires : goal.ready_number-requires
ready_number-requires c =
    let r = c.in_ok-run.run' in
    rw c.picked_cell.ensures
    (cell_below r.shape (run_of r.shape r.mem.now) (placed (goal.at.ready_number-requires c).In_ok-unless))

pub length-requires : goal.length-requires
length-requires c = (shape_is _ _ (hosted_in c.in_ok-run.run')).lags

pub returns-in_err-run : goal.returns-in_err-run
returns-in_err-run c =
    let a = c.args in
    returned _ c.from_residual.ensures ∙ sym (unhosted _ a.s a.mem.now c.of.ensures.says c.in_err-run.was)

pub returns-in_err-unless : goal.returns-in_err-unless
returns-in_err-unless c =
    let at = goal.at.returns-in_err-unless c in
    returned _ c.from_residual-in_err-unless.ensures
    ∙ sym (run_passed at.In_ok-run
    ∙ fails Damaged c.unless.ensures (sound at.After-parts_sound-parts) _ c.in_err-unless.was)

pub returns-in_err-unless-2 : goal.returns-in_err-unless-2
returns-in_err-unless-2 c =
    let at = goal.at.returns-in_err-unless-2 c in
    returned _ c.from_residual-in_err-unless-2.ensures
    ∙ sym (sound_passed at.In_ok-unless
    ∙ fails NothingReady c.unless-2.ensures (some at.After-ready_number) _ c.in_err-unless-2.was)

pub returns : goal.returns
returns c =
    let at = goal.at.returns c in
    says ShortBuffer c.unless-3.ensures (ap (λ i. leb i (length c.args.out.now)) c.length.ensures) refl
    ∙ sym (sound_passed at.In_ok-unless
    ∙ passes NothingReady c.unless-2.ensures (some at.After-ready_number) c.in_ok-unless-2.was)
