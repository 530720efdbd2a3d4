-- `call_pick::pick` meets its contract.
use Rattle.std.specs.Prelude.{Ok}
use mathlib.Core.Path.{◌≡◌, sym, ap, ◌∙◌}
use Rattle.lta_spec.specs.Call.Call.{pick}
use Rattle.lta_spec.specs.Answer.Answer.{number}
use Rattle.lta_spec.specs.Step.{verdict, picks_bin, emits, sends, accepted}
use Rattle.lta_spec.proofs.MemoryLaws.{run-law}
use Rattle.cell_layout.proofs.LaysLaws.{lays-put}
use Rattle.call_run.proofs.FirstLaws.{returned}
use Rattle.call_run.proofs.RunLaws.{shape_is}
use Rattle.call_run.proofs.StepLaws.{refused_keeps, done}
use Rattle.call_pick.specs.Picking.{PicksFrom}
use Rattle.call_pick.proofs.PickRunLaws.{picks}
use Rattle.call_pick.proofs.pick.Goals as goal
use Rattle.call_pick.proofs.pick.Goals.{In_ok-pick_verdict}

-- the call is accepted, and what its tests showed
accepting : (c : In_ok-pick_verdict) → let a = c.args in Ok tt ≡ verdict a.s a.mem.now (pick a.out.now)
accepting c = sym c.in_ok-pick_verdict.was ∙ c.pick_verdict.ensures

shown : (c : In_ok-pick_verdict) → let a = c.args in PicksFrom a.s a.mem.now a.out.now
shown c = let a = c.args in picks a.s a.mem.now a.out.now (accepting c)

pub returns-in_err-pick_verdict : goal.returns-in_err-pick_verdict
returns-in_err-pick_verdict c =
    let a = c.args in
    let q = refused_keeps number a.s a.mem.now (pick a.out.now) (returned _ c.from_residual.ensures)
    (sym c.pick_verdict.ensures ∙ c.in_err-pick_verdict.was) in
    record { answer = q.0; frame = q.1.0; leaves = q.1.1 }

pub pick_bin-requires : goal.pick_bin-requires
pick_bin-requires c = shown (goal.at.pick_bin-requires c).In_ok-pick_verdict

pub length-requires : goal.length-requires
length-requires c =
    let a = c.args in
    (shape_is a.s a.mem.now (shown (goal.at.length-requires c).In_ok-pick_verdict).hosted).lags

pub returns : goal.returns
unfolding accepted picks_bin emits sends
returns c =
    let a = c.args in
    let sent = c.pick_bin.ensures in
    rw (done a.s a.mem.now (pick a.out.now) (accepting (goal.at.returns c).In_ok-pick_verdict))
    record {
      answer = ap number c.length.ensures;
      frame = sent.frame;
      leaves = lays-put (run-law a.s) sent.leaves;
    }
