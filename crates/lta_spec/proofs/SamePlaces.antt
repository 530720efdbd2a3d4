-- Where ticks go does not depend on the bytes, for whole lists: lists of calls that differ in the bytes of ticks alone
-- leave the same ticks in the same places.
use Prim.Native.Nat.{ℕ, suc}
use mathlib.Core.Path.{◌≡◌, refl, sym, ap, ◌∙◌, subst}
use mathlib.Core.Bool.{true}
use mathlib.Core.List.{List, [], ◌∷◌, map}
use lib.ListN.{drop}
use Rattle.lta_spec.specs.Refusals.{first_of}
use Rattle.lta_spec.specs.Size.{memory_words}
use Rattle.lta_spec.specs.Tick.{Sample}
use Rattle.lta_spec.specs.Call.{Call, samples_ok, validity_ok}
use Rattle.lta_spec.specs.Call.Call.{tick, dump, integrate, emit, reading, forecast, page, pick}
use Rattle.lta_spec.specs.Machine as M
use Rattle.lta_spec.specs.MachineRun as R
use Rattle.lta_spec.specs.Demand.{Listed, Returned, Stands, machine_step, machine_after, places}
use Rattle.lta_spec.specs.Demand.Listed.{on_run, on_other}
use Rattle.lta_spec.specs.Forecasts.{of_tick}
use Rattle.lta_spec.specs.TwoRuns.{Pairs, with_bytes, ButBytes}
use Rattle.lta_spec.specs.declared.Shape.{Shape}
use Rattle.lta_spec.proofs.Follow.{turned}
use Rattle.lta_spec.proofs.TwoRuns.{CallsKeep, judged-by, steps-keep, lists-keep}
use Rattle.lta_spec.proofs.Placement.{NotTick, other_unit, other_run, unit-at, tests-alike, run-alike}

-- a run without its samples: t, the places of every cell with their sets and frames, the block counters and the places
-- of picks
abbrev no_samples : (xs ys : List Sample) → List Sample
no_samples xs ys = []

abbrev places_of : R.Run → R.Run
places_of = other_run no_samples no_samples

-- a tick does to each cell's places what t and they say
ticked : (t : ℕ) → R.Unit → R.Unit
ticked t u =
    record {
      cell = M.tick_cell t u.cell;
      counter = u.counter;
      picked = u.picked;
      frames = u.frames;
      xs = u.xs;
      ys = u.ys;
    }

tick-places : (t : ℕ) (samples : List ℕ) (us : List R.Unit)
    → map (other_unit no_samples no_samples) (R.tick_units t samples us)
    ≡ map (ticked t) (map (other_unit no_samples no_samples) us)
unfolding R.tick_units ticked
tick-places t samples [] = refl
tick-places t samples (u ∷ us) =
    ap (λ r. ticked t (other_unit no_samples no_samples u) ∷ r) (tick-places t (drop 3 samples) us)

module _ (sh : Shape) where
  -- what the calls tell is not compared here
  abbrev Anything : Listed → Returned → Returned → Type 0
  Anything l t t' = Prim.Unit {0}

  module _ (m m' : R.Run) (same : places_of m ≡ places_of m') where
    -- every call is judged alike
    judged : (call : Call) → first_of (R.call_tests sh m call) ≡ first_of (R.call_tests sh m' call)
    judged call =
        sym (tests-alike no_samples no_samples sh refl m call)
        ∙ ap (λ r. first_of (R.call_tests sh r call)) same
        ∙ tests-alike no_samples no_samples sh refl m' call

    tick-judged : (samples bytes : List ℕ) → samples_ok sh.cells samples ≡ samples_ok sh.cells bytes
        → validity_ok sh.cells samples ≡ validity_ok sh.cells bytes
        → first_of (R.call_tests sh m (tick samples)) ≡ first_of (R.call_tests sh m' (tick bytes))
    tick-judged samples bytes p q = judged (tick samples) ∙ rw (p, q)

    -- and accepted, leaves the same places
    kept : (call : Call) → NotTick call
        → places_of (R.accepted sh call m).run ≡ places_of (R.accepted sh call m').run
    kept call other =
        sym (run-alike no_samples no_samples sh refl call other m)
        ∙ ap (λ r. (R.accepted sh call r).run) same
        ∙ run-alike no_samples no_samples sh refl call other m'

    tick-kept : (samples bytes : List ℕ)
        → places_of (R.accepted sh (tick samples) m).run ≡ places_of (R.accepted sh (tick bytes) m').run
    unfolding R.accepted
    tick-kept samples bytes =
        ap (λ us. record { t = suc m.t; served = m.served; units = us }) (tick-places m.t samples m.units)
        ∙ ap (λ r. record { t = suc r.t; served = r.served; units = map (ticked r.t) r.units }) same
        ∙ ap (λ us. record { t = suc m'.t; served = m'.served; units = us })
        (sym (tick-places m'.t bytes m'.units))

    -- a call on the run's own work memory
    step_kept : (call call' : Call) → first_of (R.call_tests sh m call) ≡ first_of (R.call_tests sh m' call')
        → places_of (R.accepted sh call m).run ≡ places_of (R.accepted sh call' m').run
        → places_of (R.step sh (memory_words sh) call m).run ≡ places_of (R.step sh (memory_words sh) call' m').run
    step_kept call call' tests done =
        steps-keep sh sh (memory_words sh) (memory_words sh) call call' m m'
        (λ s s'. places_of s.run ≡ places_of s'.run) (λ why. same)
        (judged-by sh (memory_words sh) call call' m m' tests) (λ v. done)

    alike : (call : Call) → NotTick call
        → places_of (R.step sh (memory_words sh) call m).run ≡ places_of (R.step sh (memory_words sh) call m').run
    alike call other = step_kept call call (judged call) (kept call other)

    by_call : (l : Listed) → Stands l → (bytes : List ℕ)
        → of_tick true (samples_ok sh.cells) l ≡ of_tick true (samples_ok sh.cells) (with_bytes bytes l)
        → of_tick true (validity_ok sh.cells) l ≡ of_tick true (validity_ok sh.cells) (with_bytes bytes l)
        → places_of (machine_step sh l m).run ≡ places_of (machine_step sh (with_bytes bytes l) m').run
    by_call (on_run (tick samples)) stands bytes p q =
        step_kept (tick samples) (tick bytes) (tick-judged samples bytes p q) (tick-kept samples bytes)
    by_call (on_run (dump c command bank phase out)) stands bytes p q = alike (dump c command bank phase out) tt
    by_call (on_run (integrate c)) stands bytes p q = alike (integrate c) tt
    by_call (on_run (emit c bank bin out)) stands bytes p q = alike (emit c bank bin out) tt
    by_call (on_run (reading c lag loss)) stands bytes p q = alike (reading c lag loss) tt
    by_call (on_run (forecast c)) stands bytes p q = alike (forecast c) tt
    by_call (on_run (page out)) stands bytes p q = alike (page out) tt
    by_call (on_run (pick out)) stands bytes p q = alike (pick out) tt
    by_call (on_other shape call given) stands bytes p q =
        ap (λ s. places_of s.run) (turned shape call given m stands).machine
        ∙ same
        ∙ ap (λ s. places_of s.run) (sym (turned shape call given m' stands).machine)

  abbrev Places : R.Run → R.Run → Type 0
  Places m m' = places_of m ≡ places_of m'

  keep : (l l' : Listed) → ButBytes sh l l' → (m m' : R.Run) → Places m m' → CallsKeep sh sh Places Anything l l' m m'
  keep l l' b m m' same =
      subst (λ k. CallsKeep sh sh Places Anything l k m m') (sym b.is)
      (record {
        runs = by_call m m' same l b.stands b.bytes (rw b.is at b.samples) (rw b.is at b.validity);
        tells = tt;
      })

  pub same-places : (cs cs' : List Listed) → Pairs (ButBytes sh) cs cs' → (c : ℕ)
      → places (R.unit_at sh c (machine_after sh cs)) ≡ places (R.unit_at sh c (machine_after sh cs'))
  same-places cs cs' p c =
      let m = machine_after sh cs in
      let m' = machine_after sh cs' in
      let all = (lists-keep sh sh Places Anything (ButBytes sh) keep cs cs' p (R.start sh) (R.start sh) refl).runs in
      ap places
      (sym (unit-at no_samples no_samples sh refl c m)
      ∙ ap (R.unit_at sh c) all
      ∙ unit-at no_samples no_samples sh refl c m')
