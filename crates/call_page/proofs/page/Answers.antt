-- `call_page::page` meets its contract.
use mathlib.Core.Path.{◌≡◌, sym, ap, ap₂, ◌∙◌}
use mathlib.Core.Bool.{◌&&◌}
use lib.Dec.{leb}
use lib.ListN.{length, drop}
use borrow.Author.Tests.{leb-true}
use Rattle.std.specs.Prelude.{Ok}
use Rattle.lta_spec.specs.Words.{splice}
use Rattle.lta_spec.specs.Refusals.{first_of}
use Rattle.lta_spec.specs.Shape.{run_limit}
use Rattle.lta_spec.specs.Page.{page_length}
use Rattle.lta_spec.specs.Answer.Answer.{number}
use Rattle.lta_spec.specs.Call.Call.{page}
use Rattle.lta_spec.specs.Damage.{ledgers_sound}
use Rattle.lta_spec.specs.Step as S
use Rattle.lta_spec.specs.declared.Refusal.TheVariants.{Damaged, ShortBuffer}
use Rattle.lta_spec.proofs.TestLaws.{and_both}
use Rattle.call_run.specs.Runs.{run_of}
use Rattle.call_run.proofs.FirstLaws.{returned, fails, passes, passed, unhosted, hosted}
use Rattle.call_run.proofs.StepLaws.{refused_keeps, done}
use Rattle.call_page.proofs.PageRunLaws.{cells-few}
use Rattle.call_page.proofs.page.Goals as goal
use Rattle.call_page.proofs.page.Goals.{In_ok-run, In_ok-unless, In_ok-unless-2}
use Rattle.call_page.proofs.page.Goals.{After-ledgers_sound, After-page_length-bytes}

-- 1 and 2 passed
run_passed : (c : In_ok-run) → let a = c.args in let r = c.in_ok-run.run' in
    S.verdict a.s a.mem.now (page a.out.now)
    ≡ first_of (S.call_tests r.shape (page a.out.now) (run_of r.shape r.mem.now))
run_passed c =
    let is = c.in_ok-run.ensures.run in rw (← is.0, ← is.1) (hosted (page c.args.out.now) c.in_ok-run.run')

-- what 11 says
sound : (c : After-ledgers_sound) → let r = c.in_ok-run.run' in let u = run_of r.shape r.mem.now in
    leb c.time.result run_limit && c.ledgers_sound.result ≡ leb u.t run_limit && ledgers_sound u.units
sound c = ap₂ (λ t b. leb t run_limit && b) c.time.ensures c.ledgers_sound.ensures

sound_passed : (c : In_ok-unless) → let a = c.args in let r = c.in_ok-run.run' in
    S.verdict a.s a.mem.now (page a.out.now)
    ≡ first_of (drop 1 (S.call_tests r.shape (page a.out.now) (run_of r.shape r.mem.now)))
sound_passed c =
    let at = goal.at.In_ok-unless c in
    run_passed at.In_ok-run ∙ passes Damaged c.unless.ensures (sound at.After-ledgers_sound) c.in_ok-unless.was

-- what 10 says
room : (c : After-page_length-bytes) → let a = c.args in
    leb c.page_length-bytes.result (length a.out.now)
    ≡ leb (page_length c.in_ok-run.run'.shape.cells) (length a.out.now)
room c = ap (λ n. leb n (length c.args.out.now)) c.page_length-bytes.ensures

pub page_length-bytes-requires : goal.page_length-bytes-requires
page_length-bytes-requires c = cells-few c.in_ok-run.run'

pub returns-in_err-run : goal.returns-in_err-run
returns-in_err-run c =
    let a = c.args in
    let q = refused_keeps number a.s a.mem.now _ (returned _ c.from_residual.ensures)
    (unhosted _ a.s a.mem.now c.of.ensures.says c.in_err-run.was) in
    record { answer = q.0; page = q.1.0 }

pub returns-in_err-unless : goal.returns-in_err-unless
returns-in_err-unless c =
    let at = goal.at.returns-in_err-unless c in
    let q = refused_keeps number _ _ _ (returned _ c.from_residual-in_err-unless.ensures)
    (run_passed at.In_ok-run
    ∙ fails Damaged c.unless.ensures (sound at.After-ledgers_sound) _ c.in_err-unless.was) in
    record { answer = q.0; page = q.1.0 }

pub returns-in_err-unless-2 : goal.returns-in_err-unless-2
returns-in_err-unless-2 c =
    let at = goal.at.returns-in_err-unless-2 c in
    let q = refused_keeps number _ _ _ (returned _ c.from_residual-in_err-unless-2.ensures)
    (sound_passed at.In_ok-unless
    ∙ fails ShortBuffer c.unless-2.ensures (room at.After-page_length-bytes) _ c.in_err-unless-2.was) in
    record { answer = q.0; page = q.1.0 }

pub put_page-requires : goal.put_page-requires
put_page-requires c =
    let at = goal.at.put_page-requires c in
    record {
      sound = (and_both (leb _ run_limit) _
          (passed Damaged c.unless.ensures (sound at.After-ledgers_sound) c.in_ok-unless.was)).1;
      room = leb-true _ _
          (passed ShortBuffer c.unless-2.ensures (room at.After-page_length-bytes) c.in_ok-unless-2.was);
    }

-- the call is accepted
accepted : (c : In_ok-unless-2) → let a = c.args in S.verdict a.s a.mem.now (page a.out.now) ≡ Ok tt
accepted c =
    let at = goal.at.In_ok-unless-2 c in
    sound_passed at.In_ok-unless
    ∙ passes ShortBuffer c.unless-2.ensures (room at.After-page_length-bytes) c.in_ok-unless-2.was

pub returns : goal.returns
unfolding S.accepted
returns c =
    let a = c.args in
    let is = c.in_ok-run.ensures.run in
    let d = done a.s a.mem.now (page a.out.now) (sym (accepted (goal.at.returns c).In_ok-unless-2)) in
    record {
      answer =
          ap number (c.page_length-bytes.ensures ∙ ap (λ s. page_length s.cells) is.0)
          ∙ sym (ap (λ d. d.answer) d);
      page =
          c.put_page.ensures
          ∙ ap₂ (λ s m. splice a.out.now 0 (S.loss_page (run_of s m))) is.0 is.1
          ∙ sym (ap (λ d. d.out) d);
    }
