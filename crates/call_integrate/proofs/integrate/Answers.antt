-- `call_integrate::integrate` meets its contract.
use mathlib.Core.Path.{◌≡◌, refl, sym, ap, ap₂, ◌∙◌}
use mathlib.Core.Bool.{◌&&◌}
use mathlib.Core.List.{[]}
use Prim.Native.Nat.{◌+◌, ◌-◌}
use lib.Dec.{leb, eqb}
use lib.ListN.{drop, get_or}
use borrow.Author.Tests.{eqb-true, ltb-true}
use borrow.Rule.Slice.PartMut.{put_mid}
use Rattle.lta_spec.specs.Refusals.{first_of}
use Rattle.lta_spec.specs.Answer.{Answer, moved_number}
use Rattle.lta_spec.specs.Answer.Answer.{number}
use Rattle.lta_spec.specs.Shape.{run_limit}
use Rattle.lta_spec.specs.Call.Call.{integrate}
use Rattle.lta_spec.specs.Engine.{integrate_cell}
use Rattle.lta_spec.specs.Damage.{integrate_unit_sound}
use Rattle.lta_spec.specs.Step as S
use Rattle.lta_spec.specs.declared.Moved.{Moved}
use Rattle.lta_spec.specs.declared.Refusal.TheVariants.{NoCell, Damaged, NothingHeld}
use Rattle.lta_spec.proofs.TestLaws.{and_both}
use Rattle.cell_layout.specs.Offsets.{occupied_at}
use Rattle.cell_layout.proofs.CellLaws.{laid}
use Rattle.cell_layout.proofs.LaysLaws.{word_of}
use Rattle.cell_layout.proofs.Fields.{occupied}
use Rattle.cell_layout.proofs.ViewLaws.{fits_in}
use Rattle.cell_integrate.specs.Raises.{numbered}
use Rattle.call_run.specs.Runs.{Celled, verdict_in, run_of}
use Rattle.call_run.proofs.FirstLaws.{returned, fails, passes, passed, unhosted, hosted}
use Rattle.call_run.proofs.ViewLaws.{celled_in, cell-sound}
use Rattle.call_run.proofs.StepLaws.{refused_keeps}
use Rattle.call_run.proofs.LoanLaws.{loan-is, loan-moved}
use Rattle.call_integrate.proofs.integrate.Goals as goal
use Rattle.call_integrate.proofs.integrate.Goals.{In_ok-run, In_ok-part, In_ok-unless, In_ok-unless-2}
use Rattle.call_integrate.proofs.integrate.Goals.{After-integrate_unit_sound}

abbrev told : Moved → Answer
told m = number (moved_number m)

-- 1 and 2 passed
run_passed : (c : In_ok-run) → let a = c.args in let r = c.in_ok-run.run' in
    S.verdict a.s a.mem.now (integrate a.cell)
    ≡ first_of (S.call_tests r.shape (integrate a.cell) (run_of r.shape r.mem.now))
run_passed c =
    let is = c.in_ok-run.ensures.run in rw (← is.0, ← is.1) (hosted (integrate c.args.cell) c.in_ok-run.run')

-- and 5
part_passed : (c : In_ok-part) → let a = c.args in let r = c.in_ok-run.run' in
    S.verdict a.s a.mem.now (integrate a.cell)
    ≡ first_of (drop 1 (S.call_tests r.shape (integrate a.cell) (run_of r.shape r.mem.now)))
part_passed c =
    run_passed (goal.at.In_ok-part c).In_ok-run
    ∙ passes NoCell c.cell.ensures.says refl (ap verdict_in c.in_ok-part.was)

-- what 11 says
sound : (c : After-integrate_unit_sound) → let r = c.in_ok-run.run' in let u = run_of r.shape r.mem.now in
    leb c.time-t.result run_limit && c.integrate_unit_sound.result
    ≡ leb u.t run_limit && integrate_unit_sound r.shape.lags r.shape.bins u.t (S.unit_at r.shape c.args.cell u)
sound c = cell-sound c.in_ok-part.ensures.cell integrate_unit_sound c.time-t.ensures c.integrate_unit_sound.ensures

sound_passed : (c : In_ok-unless) → let a = c.args in let r = c.in_ok-run.run' in
    S.verdict a.s a.mem.now (integrate a.cell)
    ≡ first_of (drop 2 (S.call_tests r.shape (integrate a.cell) (run_of r.shape r.mem.now)))
sound_passed c =
    part_passed (goal.at.In_ok-unless c).In_ok-part
    ∙ passes Damaged c.unless.ensures (sound (goal.at.In_ok-unless c).After-integrate_unit_sound) c.in_ok-unless.was

-- what 8 says
held : (c : In_ok-part) → let r = c.in_ok-run.run' in
    get_or c.in_ok-part.part.words.now occupied_at 0
    ≡ (S.cell_at r.shape c.args.cell (run_of r.shape r.mem.now)).held.occupied
held c =
    let p = c.in_ok-part.ensures.cell in
    word_of (laid (fits_in c.in_ok-part.part)) (occupied _ _) ∙ ap (λ u. u.cell.held.occupied) p.unit

is_held : (c : In_ok-part) → let r = c.in_ok-run.run' in
    eqb (get_or c.in_ok-part.part.words.now occupied_at 0) 1
    ≡ eqb (S.cell_at r.shape c.args.cell (run_of r.shape r.mem.now)).held.occupied 1
is_held c = ap (λ i. eqb i 1) (held c)

pub returns-in_err-run : goal.returns-in_err-run
returns-in_err-run c =
    let a = c.args in
    let q = refused_keeps told a.s a.mem.now _ (returned _ c.from_residual.ensures)
    (unhosted _ a.s a.mem.now c.of.ensures.says c.in_err-run.was) in
    record { answer = q.0; leaves = q.1.1 }

pub returns-in_err-part : goal.returns-in_err-part
returns-in_err-part c =
    let q = refused_keeps told _ _ _ (returned _ c.from_residual-in_err-part.ensures)
    (run_passed (goal.at.returns-in_err-part c).In_ok-run
    ∙ fails NoCell c.cell.ensures.says refl _ (ap verdict_in c.in_err-part.was)) in
    record { answer = q.0; leaves = q.1.1 }

pub returns-in_err-unless : goal.returns-in_err-unless
returns-in_err-unless c =
    let q = refused_keeps told _ _ _ (returned _ c.from_residual-in_err-unless.ensures)
    (part_passed (goal.at.returns-in_err-unless c).In_ok-part
    ∙ fails Damaged c.unless.ensures (sound (goal.at.returns-in_err-unless c).After-integrate_unit_sound) _
    c.in_err-unless.was) in
    record { answer = q.0; leaves = q.1.1 }

pub returns-in_err-unless-2 : goal.returns-in_err-unless-2
returns-in_err-unless-2 c =
    let at = goal.at.returns-in_err-unless-2 c in
    let q = refused_keeps told _ _ _ (returned _ c.from_residual-in_err-unless-2.ensures)
    (sound_passed at.In_ok-unless
    ∙ fails NothingHeld c.unless-2.ensures (is_held at.In_ok-part) _ c.in_err-unless-2.was) in
    record { answer = q.0; leaves = q.1.1 }

-- the cell, and what its tests showed
celled : (c : In_ok-part) → let r = c.in_ok-run.run' in Celled r.shape r.mem.now c.args.cell
celled c =
    celled_in c.in_ok-run.run' (ltb-true _ _ (passed NoCell c.cell.ensures.says refl (ap verdict_in c.in_ok-part.was)))

pub cell_start-at-requires : goal.cell_start-at-requires
cell_start-at-requires c = (celled (goal.at.cell_start-at-requires c).In_ok-part).there

pub integrate_unit-requires : goal.integrate_unit-requires
integrate_unit-requires c =
    let at = goal.at.integrate_unit-requires c in
    let r = c.in_ok-run.run' in
    let k = c.cell_shape-shape in
    let l = loan-is (celled at.In_ok-part) c.cell_start-at.ensures.is c.cell_words.ensures in
    let s = passed Damaged c.unless.ensures (sound at.After-integrate_unit_sound) c.in_ok-unless.was in
    let h = passed NothingHeld c.unless-2.ensures (is_held at.In_ok-part) c.in_ok-unless-2.was in
    rw (k.ensures.0, k.ensures.1, ← c.in_ok-run.ensures.run.1) (
      l.size,
      rw l.unit record {
        t = (run_of r.shape r.mem.now).t;
        sound = (and_both (leb _ run_limit) _ s).1;
        occupied = eqb-true _ _ h;
      },
    )

pub returns : goal.returns
unfolding S.accepted
returns c =
    let a = c.args in
    let at = goal.at.returns c in
    let r = c.in_ok-run.run' in
    let is = c.in_ok-run.ensures.run in
    let k = c.cell_shape-shape in
    let call = integrate a.cell in
    let x = c.cell_start-at.result in
    let v = sound_passed at.In_ok-unless
    ∙ passes NothingHeld c.unless-2.ensures (is_held at.In_ok-part) c.in_ok-unless-2.was in
    let l = rw (k.ensures.0, k.ensures.1, ← is.1) at c.integrate_unit.ensures in
    let moved = loan-moved (celled at.In_ok-part) c.cell_start-at.ensures.is c.cell_words.ensures call []
    (λ u. integrate_cell r.shape.lags r.shape.bins u.cell) (numbered r.shape.lags r.shape.bins) _ _
    (sym (ap₂ (λ s m. S.verdict s m call) is.0 is.1 ∙ v)) refl l in
    record {
      answer = moved.0 ∙ ap₂ (λ s m. (S.step s call m).answer) is.0 is.1;
      leaves =
          ap (λ m. put_mid x (x + c.cell_words.result - x) m c.integrate_unit.new.cell) (sym is.1)
          ∙ moved.1.1
          ∙ ap₂ (λ s m. (S.step s call m).mem) is.0 is.1;
    }
