-- `call_tick::tick` meets its contract.
use mathlib.Core.Path.{◌≡◌, sym, ap, ◌∙◌}
use Prim.Native.Nat.{suc, ◌+◌, ◌<◌}
use native.Mathlib.Numerals.{add-one}
use native.Mathlib.Omega.{arith}
use lib.ListN.{length, get_or}
use Rattle.std.specs.Prelude.{Ok}
use Rattle.lta_spec.specs.Call.Call.{tick}
use Rattle.lta_spec.specs.Answer.Answer.{number}
use Rattle.lta_spec.specs.Memory.{run_layout}
use Rattle.lta_spec.specs.Step.{tick_units, verdict, accepted}
use Rattle.lta_spec.proofs.MemoryLaws.{run-law}
use Rattle.cell_layout.proofs.LaysLaws.{lays-set, lays-put, word_of}
use Rattle.cell_layout.proofs.Fields.{time}
use Rattle.call_run.specs.Runs.{run_of}
use Rattle.call_run.proofs.FirstLaws.{returned}
use Rattle.call_run.proofs.RunLaws.{whole, some_words}
use Rattle.call_run.proofs.StepLaws.{refused_keeps, done}
use Rattle.call_tick.proofs.Shown.{TicksAll, ticks-all}
use Rattle.call_tick.proofs.tick.Goals as goal
use Rattle.call_tick.proofs.tick.Goals.{In_ok-tick_verdict, After-tick_cells-held}

-- the call is accepted, and what its tests showed
accepting : (c : In_ok-tick_verdict) → let a = c.args in Ok tt ≡ verdict a.s a.mem.now (tick a.samples.now)
accepting c = sym c.in_ok-tick_verdict.was ∙ c.tick_verdict.ensures

shown : (c : In_ok-tick_verdict) → let a = c.args in TicksAll a.s a.mem.now a.samples.now
shown c =
    let a = c.args in
    ticks-all a.s a.mem.now a.samples.now (accepting c)

-- t is what it was
still : (c : After-tick_cells-held) → let a = c.args in
    get_or c.tick_cells-held.new.mem 0 0 ≡ (run_of a.s a.mem.now).t
still c = word_of c.tick_cells-held.ensures.1 (time c.args.s)

pub returns-in_err-tick_verdict : goal.returns-in_err-tick_verdict
returns-in_err-tick_verdict c =
    let a = c.args in
    let q = refused_keeps number a.s a.mem.now (tick a.samples.now) (returned _ c.from_residual.ensures)
    (sym c.tick_verdict.ensures ∙ c.in_err-tick_verdict.was) in
    record { answer = q.0; leaves = q.1.1 }

pub tick_cells-held-requires : goal.tick_cells-held-requires
tick_cells-held-requires c =
    let q = shown (goal.at.tick_cells-held-requires c).In_ok-tick_verdict in
    (q.hosted, q.counted, q.sound)

-- word 0 is there
first_word : (c : After-tick_cells-held) → 0 < length c.tick_cells-held.new.mem
first_word c =
    let a = c.args in
    let q = shown (goal.at.After-tick_cells-held c).In_ok-tick_verdict in
    let same : length c.tick_cells-held.new.mem ≡ length a.mem.now =
    c.tick_cells-held.ensures.1.size ∙ sym (whole a.s a.mem.now q.hosted).size in
    omega (arith, same, some_words a.s a.mem.now q.hosted)

pub bounds-mem-0 : goal.bounds-mem-0
bounds-mem-0 c = first_word (goal.at.bounds-mem-0 c).After-tick_cells-held

pub bounds-mem-0-2 : goal.bounds-mem-0-2
bounds-mem-0-2 c = first_word (goal.at.bounds-mem-0-2 c).After-tick_cells-held

pub overflow_add-mem : goal.overflow_add-mem
overflow_add-mem c =
    let at = goal.at.overflow_add-mem c in
    omega (arith, (shown at.In_ok-tick_verdict).limited, still at.After-tick_cells-held)

pub returns : goal.returns
unfolding accepted
returns c =
    let a = c.args in
    let at = goal.at.returns c in
    let samples = a.samples.now in
    let r = run_of a.s a.mem.now in
    let ticked = c.tick_cells-held.ensures in
    let t = get_or c.tick_cells-held.new.mem 0 0 in
    let next : t + 1 ≡ suc r.t = add-one _ ∙ ap suc (still at.After-tick_cells-held) in
    let leaves = lays-put (run-law a.s) (lays-set ticked.1 (time a.s) (t + 1)) in
    rw (done a.s a.mem.now (tick samples) (accepting at.In_ok-tick_verdict))
    record {
      answer = ap number ticked.0;
      leaves =
          leaves
          ∙ ap (λ v. (run_layout a.s).put (record { t = v; next = r.next; units = tick_units a.s samples r.units }))
          next;
    }
