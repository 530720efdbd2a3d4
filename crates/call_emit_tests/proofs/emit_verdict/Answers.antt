-- `call_emit_tests::emit_verdict` meets its contract.
use mathlib.Core.Path.{◌≡◌, refl, sym, ap, ap₂, ◌∙◌}
use mathlib.Core.Bool.{◌&&◌}
use lib.Dec.{leb, ltb, eqb}
use lib.ListN.{drop, length, get_or}
use borrow.Author.Tests.{ltb-true}
use Rattle.lta_spec.specs.Refusals.{first_of}
use Rattle.lta_spec.specs.Shape.{run_limit}
use Rattle.lta_spec.specs.Place.{ready}
use Rattle.lta_spec.specs.Call.{bank_ok, bin_index}
use Rattle.lta_spec.specs.Call.Call.{emit}
use Rattle.lta_spec.specs.Engine.{bin_at}
use Rattle.lta_spec.specs.Damage.{emit_unit_sound}
use Rattle.lta_spec.specs.Step as S
use Rattle.lta_spec.specs.declared.Refusal.TheVariants.{NoCell, NoBin, Damaged, NotReady, ShortBuffer}
use Rattle.lta_spec.proofs.TestLaws.{and_both}
use Rattle.cell_layout.specs.Views.{places_in}
use Rattle.cell_layout.proofs.CellLaws.{laid}
use Rattle.cell_layout.proofs.Fields.{bin_state}
use Rattle.cell_layout.proofs.LaysLaws.{word_of}
use Rattle.cell_layout.proofs.ViewLaws.{fits_in}
use Rattle.call_run.specs.Runs.{verdict_in, run_of}
use Rattle.call_run.proofs.FirstLaws.{returned, fails, passes, passed, says, unhosted, hosted}
use Rattle.call_run.proofs.RunLaws.{shape_is}
use Rattle.call_run.proofs.ViewLaws.{hosted_in, cell-sound}
use Rattle.call_emit_tests.proofs.emit_verdict.Goals as goal
use Rattle.call_emit_tests.proofs.emit_verdict.Goals.{In_ok-run, In_ok-part, In_ok-unless, In_ok-unless-2}
use Rattle.call_emit_tests.proofs.emit_verdict.Goals.{In_ok-unless-3, After-number_fits, After-bin_start}

-- 1 and 2 passed
run_passed : (c : In_ok-run) → let a = c.args in let r = c.in_ok-run.run' in
    let call = emit a.c a.bank a.bin a.out.now in
    S.verdict a.s a.mem.now call ≡ first_of (S.call_tests r.shape call (run_of r.shape r.mem.now))
run_passed c =
    let a = c.args in
    let is = c.in_ok-run.ensures.run in
    rw (← is.0, ← is.1) (hosted (emit a.c a.bank a.bin a.out.now) c.in_ok-run.run')

-- and 5
part_passed : (c : In_ok-part) → let a = c.args in let r = c.in_ok-run.run' in
    let call = emit a.c a.bank a.bin a.out.now in
    S.verdict a.s a.mem.now call ≡ first_of (drop 1 (S.call_tests r.shape call (run_of r.shape r.mem.now)))
part_passed c =
    run_passed (goal.at.In_ok-part c).In_ok-run
    ∙ passes NoCell c.cell.ensures.says refl (ap verdict_in c.in_ok-part.was)

-- and 7
bin_passed : (c : In_ok-unless) → let a = c.args in let r = c.in_ok-run.run' in
    let call = emit a.c a.bank a.bin a.out.now in
    S.verdict a.s a.mem.now call ≡ first_of (drop 2 (S.call_tests r.shape call (run_of r.shape r.mem.now)))
bin_passed c = part_passed (goal.at.In_ok-unless c).In_ok-part ∙ passes NoBin c.unless.ensures refl c.in_ok-unless.was

-- what 11 says
sound : (c : After-number_fits) → let a = c.args in let r = c.in_ok-run.run' in let u = run_of r.shape r.mem.now in
    leb c.time-t.result run_limit && (c.bin_ok.result && c.number_fits.result)
    ≡ leb u.t run_limit
    && emit_unit_sound r.shape.lags r.shape.bins u.t (bin_index r.shape.bins a.bank a.bin) (S.unit_at r.shape a.c u)
unfolding emit_unit_sound
sound c =
    let a = c.args in
    let p = c.in_ok-part.ensures.cell in
    cell-sound p (λ n bins t u. emit_unit_sound n bins t (bin_index bins a.bank a.bin) u) c.time-t.ensures
    (rw (← c.bin_number-k.ensures.is) (ap₂ ◌&&◌ c.bin_ok.ensures c.number_fits.ensures))

sound_passed : (c : In_ok-unless-2) → let a = c.args in let r = c.in_ok-run.run' in
    let call = emit a.c a.bank a.bin a.out.now in
    S.verdict a.s a.mem.now call ≡ first_of (drop 3 (S.call_tests r.shape call (run_of r.shape r.mem.now)))
sound_passed c =
    let at = goal.at.In_ok-unless-2 c in
    bin_passed at.In_ok-unless ∙ passes Damaged c.unless-2.ensures (sound at.After-number_fits) c.in_ok-unless-2.was

-- what 9 says
is_ready : (c : After-bin_start) → let a = c.args in let r = c.in_ok-run.run' in
    let cell = S.cell_at r.shape a.c (run_of r.shape r.mem.now) in
    eqb (get_or c.in_ok-part.part.words.now c.bin_start.result 0) ready
    ≡ eqb (bin_at r.shape.lags (bin_index r.shape.bins a.bank a.bin) cell).state ready
is_ready c =
    let a = c.args in
    let r = c.in_ok-run.run' in
    let q = c.in_ok-part.part in
    let p = c.in_ok-part.ensures.cell in
    let k = c.bin_number-k.ensures in
    ap (λ i. eqb i ready)
    (rw c.bin_start.ensures.is (word_of (laid (fits_in q)) (bin_state q.shape.lags q.shape.bins _ k.below))
    ∙ ap (λ i. (bin_at q.shape.lags i (places_in q)).state) k.is
    ∙ ap₂ (λ n b. (bin_at n (bin_index b a.bank a.bin) (places_in q)).state) p.lags p.bins
    ∙ ap (λ u. (bin_at r.shape.lags (bin_index r.shape.bins a.bank a.bin) u.cell).state) p.unit)

pub bin_number-k-requires : goal.bin_number-k-requires
bin_number-k-requires c =
    let a = c.args in
    let r = c.in_ok-run.run' in
    let was = passed NoBin c.unless.ensures refl c.in_ok-unless.was in
    let q = and_both (bank_ok a.bank) (ltb a.bin r.shape.bins) was in
    (ltb-true a.bank 2 q.0, rw (← c.in_ok-part.ensures.cell.bins) at (ltb-true a.bin r.shape.bins q.1))

pub length-requires : goal.length-requires
length-requires c = (shape_is _ _ (hosted_in c.in_ok-run.run')).lags

pub returns-in_err-run : goal.returns-in_err-run
returns-in_err-run c =
    let a = c.args in
    returned _ c.from_residual.ensures ∙ sym (unhosted _ a.s a.mem.now c.of.ensures.says c.in_err-run.was)

pub returns-in_err-part : goal.returns-in_err-part
returns-in_err-part c =
    returned _ c.from_residual-in_err-part.ensures
    ∙ sym (run_passed (goal.at.returns-in_err-part c).In_ok-run
    ∙ fails NoCell c.cell.ensures.says refl _ (ap verdict_in c.in_err-part.was))

pub returns-in_err-unless : goal.returns-in_err-unless
returns-in_err-unless c =
    returned _ c.from_residual-in_err-unless.ensures
    ∙ sym (part_passed (goal.at.returns-in_err-unless c).In_ok-part
    ∙ fails NoBin c.unless.ensures refl _ c.in_err-unless.was)

pub returns-in_err-unless-2 : goal.returns-in_err-unless-2
returns-in_err-unless-2 c =
    let at = goal.at.returns-in_err-unless-2 c in
    returned _ c.from_residual-in_err-unless-2.ensures
    ∙ sym (bin_passed at.In_ok-unless
    ∙ fails Damaged c.unless-2.ensures (sound at.After-number_fits) _ c.in_err-unless-2.was)

pub returns-in_err-unless-3 : goal.returns-in_err-unless-3
returns-in_err-unless-3 c =
    let at = goal.at.returns-in_err-unless-3 c in
    returned _ c.from_residual-in_err-unless-3.ensures
    ∙ sym (sound_passed at.In_ok-unless-2
    ∙ fails NotReady c.unless-3.ensures (is_ready at.After-bin_start) _ c.in_err-unless-3.was)

pub returns : goal.returns
returns c =
    let at = goal.at.returns c in
    says ShortBuffer c.unless-4.ensures (ap (λ i. leb i (length c.args.out.now)) c.length.ensures) refl
    ∙ sym (sound_passed at.In_ok-unless-2
    ∙ passes NotReady c.unless-3.ensures (is_ready at.After-bin_start) c.in_ok-unless-3.was)
