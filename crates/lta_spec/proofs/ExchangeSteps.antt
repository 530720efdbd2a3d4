-- Each call on a run, and the exchanged call on the run whose samples are exchanged: the runs stay so, and what they
-- tell is equal but for sums and edge counts.
use Rattle.std.specs.Prelude.{Ok}
use Prim.Native.Nat.{ℕ, suc, ◌*◌, ◌-◌, ◌/◌, ◌%◌}
use mathlib.Core.Path.{◌≡◌, refl, sym, ap, ◌∙◌, subst}
use mathlib.Core.Bool.{Bool, true, false}
use mathlib.Core.List.{List, [], ◌∷◌, map}
use native.Mathlib.Omega.{arith}
use lib.Dec.{eqb}
use lib.IntN.{pos}
use lib.ListN.{length, get_or}
use borrow.Author.Tests.{eqb-true}
use Rattle.lta_spec.specs.Words.{splice}
use Rattle.lta_spec.specs.Refusals.{first_of}
use Rattle.lta_spec.specs.Size.{memory_words, host_tests}
use Rattle.lta_spec.specs.Place.{Label}
use Rattle.lta_spec.specs.Frame.{accumulated}
use Rattle.lta_spec.specs.Call.{Call, lent_to, samples_ok, speed}
use Rattle.lta_spec.specs.Call.Call.{tick, dump, integrate, emit, reading, forecast, page, pick}
use Rattle.lta_spec.specs.Answer.{refusal}
use Rattle.lta_spec.specs.Answer.Answer.{number, entry}
use Rattle.lta_spec.specs.Machine.{Counter}
use Rattle.lta_spec.specs.Numbers.{Emitted, set_frame}
use Rattle.lta_spec.specs.MachineRun as R
use Rattle.lta_spec.specs.Memory as W
use Rattle.lta_spec.specs.Demand.{Listed, Returned, Stands, Refuses}
use Rattle.lta_spec.specs.Demand.Listed.{on_run, on_other}
use Rattle.lta_spec.specs.Exchange.{exchanged, exchanged_call, exchanged_listed, may_carry, frame_carries, ToldAlike}
use Rattle.lta_spec.specs.declared.Shape.{Shape}
use Rattle.lta_spec.specs.declared.Refusal.{Refusal}
use Rattle.lta_spec.proofs.WordLaws.{length-splice}
use Rattle.lta_spec.proofs.TestLaws.{pass}
use Rattle.lta_spec.proofs.ShapeLaws.{Shaped}
use Rattle.lta_spec.proofs.SameRun.{SameRun}
use Rattle.lta_spec.proofs.Follow.{run-same, accepts, turned}
use Rattle.lta_spec.proofs.Holdoff.{told}
use Rattle.lta_spec.proofs.TwoRuns.{CallsKeep, judged-by, judged-first, steps-keep}
use Rattle.lta_spec.proofs.ExchangeLaws.{centre-count}
use Rattle.lta_spec.proofs.ByteExchange.{samples-alike, validity-alike, x-sample, y-sample}
use Rattle.lta_spec.proofs.Placement.{NotTick, unit-at, tests-alike, held-off-alike, emitted-alike, speed-alike}
use Rattle.lta_spec.proofs.Placement.{picked-alike, bin_picked, bin_alike, run-alike}
use Rattle.lta_spec.proofs.ExchangeTold.{of_x, of_y, exchanged_unit, exchanged_run, frame-bytes, page-bytes}

-- a tick: each cell gets the other aerial's samples
ticks-exchanged : (t : ℕ) (samples : List ℕ) (us : List R.Unit) → length samples ≡ 3 * length us
    → R.tick_units t (exchanged samples) (map exchanged_unit us) ≡ map exchanged_unit (R.tick_units t samples us)
unfolding R.tick_units exchanged
ticks-exchanged t samples [] e = refl
ticks-exchanged t [] (u ∷ us) e = absurd (omega arith)
ticks-exchanged t (x ∷ []) (u ∷ us) e = absurd (omega arith)
ticks-exchanged t (x ∷ y ∷ []) (u ∷ us) e = absurd (omega arith)
ticks-exchanged t (x ∷ y ∷ v ∷ samples) (u ∷ us) e =
    rw (x-sample x y v samples, y-sample x y v samples, ticks-exchanged t samples us (omega arith))

-- a refused call leaves the buffer that it was lent
lent_same : (call : Call) → lent_to (exchanged_call call) ≡ lent_to call
lent_same (tick samples) = refl
lent_same (dump c command bank phase out) = refl
lent_same (integrate c) = refl
lent_same (emit c bank bin out) = refl
lent_same (reading c lag loss) = refl
lent_same (forecast c) = refl
lent_same (page out) = refl
lent_same (pick out) = refl

module _ (sh : Shape) where
  -- the two runs, each followed by the engine, and the calls on them
  pub record RunsAlike (m m' : R.Run) : Type 0 where
    pub engine : W.Run
    pub engine' : W.Run
    pub same : SameRun sh engine m
    pub same' : SameRun sh engine' m'
    pub exchanges : m' ≡ exchanged_run m

  pub record CallsAlike (l l' : Listed) : Type 0 where
    pub stands : Stands l
    pub exchanges : l' ≡ exchanged_listed l

  -- answers and buffers that are equal
  told_same : (l : Listed) (t t' : Returned) → t ≡ t' → ToldAlike sh l t t'
  told_same l t t' e =
      subst (ToldAlike sh l t) e (record { answer = refl; size = refl; bytes = λ j outside. refl })

  -- a step and the exchanged step
  record StepsAlike (l : Listed) (s s' : R.Step) : Type 0 where
    run : s'.run ≡ exchanged_run s.run
    tells : ToldAlike sh l (told s) (told s')

  refused-alike : (l : Listed) (call : Call) (m : R.Run) (why : Refusal)
      → StepsAlike l (record { answer = refusal why; out = lent_to call; run = m })
      (record { answer = refusal why; out = lent_to (exchanged_call call); run = exchanged_run m })
  refused-alike l call m why = record { run = refl; tells = told_same l _ _ (rw (lent_same call)) }

module _ (sh : Shape) (is : Shaped sh) where
  module _ (m : R.Run) where
    abbrev m' : R.Run
    m' = exchanged_run m

    at : (c : ℕ) → R.unit_at sh c m' ≡ exchanged_unit (R.unit_at sh c m)
    at c = unit-at of_y of_x sh refl c m

    -- every call is judged as the exchanged one is
    judged : (call : Call) → first_of (R.call_tests sh m' (exchanged_call call)) ≡ first_of (R.call_tests sh m call)
    judged (tick samples) = rw (samples-alike sh.cells samples, validity-alike sh.cells samples)
    judged (dump c command bank phase out) = tests-alike of_y of_x sh refl m (dump c command bank phase out)
    judged (integrate c) = tests-alike of_y of_x sh refl m (integrate c)
    judged (emit c bank bin out) = tests-alike of_y of_x sh refl m (emit c bank bin out)
    judged (reading c lag loss) = tests-alike of_y of_x sh refl m (reading c lag loss)
    judged (forecast c) = tests-alike of_y of_x sh refl m (forecast c)
    judged (page out) = tests-alike of_y of_x sh refl m (page out)
    judged (pick out) = tests-alike of_y of_x sh refl m (pick out)

    kept : (call : Call) → NotTick call → (R.accepted sh call m').run ≡ exchanged_run (R.accepted sh call m).run
    kept call other = run-alike of_y of_x sh refl call other m

    -- a frame
    frame-told : (l : Listed) (c : ℕ) (e : Emitted) (k : ℕ) (out : List ℕ)
        → ((j : ℕ) → may_carry sh l j ≡ frame_carries e.kind sh.lags j)
        → let u = R.unit_at sh c m in
        let u' = R.unit_at sh c m' in
        ToldAlike sh l (record { answer = number k; out = splice out 0 (set_frame sh c u.xs u.ys e) })
        (record { answer = number k; out = splice out 0 (set_frame sh c u'.xs u'.ys e) })
    frame-told l c e k out is-frame =
        rw (at c)
        (record {
          answer = refl;
          size = length-splice out 0 _ ∙ sym (length-splice out 0 _);
          bytes = λ j outside. frame-bytes sh is.even c _ _ e out j (sym (is-frame j) ∙ outside);
        })

    -- a dump: 011 sends a frame, any other command does not
    dump-told : (c command bank phase : ℕ) (l : Label) (k : Counter) (out : List ℕ)
        → ToldAlike sh (on_run (dump c command bank phase out))
        (told (R.dumps_by (eqb command speed) sh c l k out m)) (told (R.dumps_by (eqb command speed) sh c l k out m'))
    unfolding R.dumps_by R.sends R.speed_sent
    dump-told c command bank phase l k out = by-test (eqb command speed) refl
      where
        by-test : (q : Bool) → eqb command speed ≡ q
            → ToldAlike sh (on_run (dump c command bank phase out))
            (told (R.dumps_by q sh c l k out m)) (told (R.dumps_by q sh c l k out m'))
        by-test true q =
            rw (speed-alike of_y of_x sh refl c l m)
            (frame-told (on_run (dump c command bank phase out)) c (R.speed_sent sh c l m) _ out (λ j. rw q))
        by-test false q = told_same sh _ _ _ (rw (at c))

    -- the emission of a bin, named or picked
    emit-told : (l : Listed) (c bank bin : ℕ) (out : List ℕ)
        → ((j : ℕ) → may_carry sh l j ≡ frame_carries accumulated sh.lags j)
        → ToldAlike sh l (told (R.emits sh c bank bin out m)) (told (R.emits sh c bank bin out m'))
    unfolding R.emits R.sends R.emitted
    emit-told l c bank bin out is-frame =
        rw (emitted-alike of_y of_x sh refl c bank bin m) (frame-told l c (R.emitted sh c bank bin m) _ out is-frame)

    pick-told : (out : List ℕ) → ToldAlike sh (on_run (pick out)) (told (R.picks sh out m)) (told (R.picks sh out m'))
    unfolding R.picks
    pick-told out =
        let c = R.picked_cell sh m in
        let k = bin_picked of_y of_x sh refl c m in
        rw (picked-alike of_y of_x sh refl m, bin_alike of_y of_x sh refl c m)
        (emit-told (on_run (pick out)) c (k / sh.bins) (k % sh.bins) out (λ j. refl))

    reading-told : (c lag loss : ℕ)
        → ToldAlike sh (on_run (reading c lag loss)) (told (R.accepted sh (reading c lag loss) m))
        (told (R.accepted sh (reading c lag loss) m'))
    unfolding R.accepted
    reading-told c lag loss =
        let u = R.unit_at sh c m in
        let s = get_or u.cell.losses (loss - 1) [] in
        rw (at c)
        (record {
          answer =
              ap (λ k. entry (record { i = pos 0; q = pos 0; ticks = length s; edge = 0; centre = k }))
              (sym (centre-count sh.lags is.even u.xs u.ys s));
          size = refl;
          bytes = λ j outside. refl;
        })

    -- every accepted call, where the engine follows both runs
    module _ (e e' : W.Run) (s : SameRun sh e m) (s' : SameRun sh e' m') where
      page-told : (out : List ℕ)
          → ToldAlike sh (on_run (page out)) (told (R.accepted sh (page out) m)) (told (R.accepted sh (page out) m'))
      unfolding R.accepted
      page-told out =
          record {
            answer = refl;
            size = length-splice out 0 _ ∙ sym (length-splice out 0 _);
            bytes = page-bytes sh is.even is.cells m e e' s s' out;
          }

      accepted-alike : (call : Call) → first_of (R.call_tests sh m call) ≡ Ok tt
          → StepsAlike sh (on_run call) (R.accepted sh call m) (R.accepted sh (exchanged_call call) m')
      unfolding R.accepted
      accepted-alike (tick samples) v =
          let count = eqb-true (length samples) (3 * sh.cells) (pass (samples_ok sh.cells samples) _ _ v).0 in
          record {
            run =
                ap (λ us. record { t = suc m.t; served = m.served; units = us })
                (ticks-exchanged m.t samples m.units (omega (arith, count, s.cells)));
            tells = told_same sh _ _ _
                (ap (λ k. record { answer = number k; out = [] }) (sym (held-off-alike of_y of_x m.units)));
          }
      accepted-alike (dump c command bank phase out) v =
          record {
            run = kept (dump c command bank phase out) tt;
            tells = rw (at c) (dump-told c command bank phase _ _ out);
          }
      accepted-alike (integrate c) v =
          record { run = kept (integrate c) tt; tells = told_same sh _ _ _ (rw (at c)) }
      accepted-alike (emit c bank bin out) v =
          record { run = kept (emit c bank bin out) tt; tells = emit-told _ c bank bin out (λ j. refl) }
      accepted-alike (reading c lag loss) v =
          record { run = kept (reading c lag loss) tt; tells = reading-told c lag loss }
      accepted-alike (forecast c) v =
          record { run = kept (forecast c) tt; tells = told_same sh _ _ _ (rw (at c)) }
      accepted-alike (page out) v = record { run = kept (page out) tt; tells = page-told out }
      accepted-alike (pick out) v = record { run = kept (pick out) tt; tells = pick-told out }

      -- a call on the run's own work memory
      step-alike : (call : Call)
          → StepsAlike sh (on_run call) (R.step sh (memory_words sh) call m)
          (R.step sh (memory_words sh) (exchanged_call call) m')
      step-alike call =
          steps-keep sh sh (memory_words sh) (memory_words sh) call (exchanged_call call) m m' (StepsAlike sh (on_run call))
          (refused-alike sh (on_run call) call m)
          (judged-by sh (memory_words sh) call (exchanged_call call) m m' (sym (judged call)))
          (λ v. accepted-alike call (accepts sh is.some-lags e m s call v))

  -- a call with another shape or other work memory, which 1 or 2 refuses
  other-alike : (shape : Shape) (call : Call) (given : List ℕ) (m : R.Run)
      → Refuses (first_of (host_tests shape (length given)))
      → StepsAlike sh (on_other shape call given) (R.step shape (length given) call m)
      (R.step shape (length given) (exchanged_call call) (exchanged_run m))
  other-alike shape call given m refuses =
      let one = judged-first shape (length given) call m refuses in
      steps-keep shape shape (length given) (length given) call (exchanged_call call) m (exchanged_run m)
      (StepsAlike sh (on_other shape call given)) (refused-alike sh (on_other shape call given) call m)
      (one ∙ sym (judged-first shape (length given) (exchanged_call call) (exchanged_run m) refuses))
      (λ v. absurd (subst Refuses (sym one ∙ v) refuses))

  by_call : (l : Listed) → Stands l → (m : R.Run) (e e' : W.Run) → SameRun sh e m → SameRun sh e' (exchanged_run m)
      → CallsKeep sh sh (RunsAlike sh) (ToldAlike sh) l (exchanged_listed l) m (exchanged_run m)
  by_call (on_run call) stands m e e' s s' =
      let x = run-same sh is.some-lags e m s call in
      let x' = run-same sh is.some-lags e' (exchanged_run m) s' (exchanged_call call) in
      let both = step-alike m e e' s s' call in
      record {
        runs =
            record {
              engine = x.run;
              engine' = x'.run;
              same = x.same;
              same' = x'.same;
              exchanges = both.run;
            };
        tells = both.tells;
      }
  by_call (on_other shape call given) stands m e e' s s' =
      let both = other-alike shape call given m stands in
      let same = (turned shape call given m stands).machine in
      record {
        runs =
            record {
              engine = e;
              engine' = e';
              same = subst (λ r. SameRun sh e r.run) (sym same) s;
              same' =
                  subst (SameRun sh e')
                  (sym (both.run ∙ ap (λ r. exchanged_run r.run) same)) s';
              exchanges = both.run;
            };
        tells = both.tells;
      }

  pub keep : (l l' : Listed) → CallsAlike sh l l' → (m m' : R.Run) → RunsAlike sh m m'
      → CallsKeep sh sh (RunsAlike sh) (ToldAlike sh) l l' m m'
  keep l l' p m m' r =
      subst (λ c. CallsKeep sh sh (RunsAlike sh) (ToldAlike sh) l c m m') (sym p.exchanges)
      (subst (λ z. SameRun sh r.engine' z → CallsKeep sh sh (RunsAlike sh) (ToldAlike sh) l (exchanged_listed l) m z)
      (sym r.exchanges)
      (λ s'. by_call l p.stands m r.engine r.engine' r.same s') r.same')
