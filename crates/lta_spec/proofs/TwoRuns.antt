-- Two runs of the plain machine side by side, for every relation of runs, of calls and of what they tell; the shapes
-- may differ. A relation of runs that related calls keep is kept by lists of related calls, with related answers; and
-- calls of one verdict keep what their refusals and what they do keep.
use Rattle.std.specs.Prelude.{Ok, Err}
use Prim.Native.Nat.{ℕ}
use mathlib.Core.Path.{◌≡◌, refl, sym, ap, ◌∙◌}
use mathlib.Core.List.{List, [], ◌∷◌}
use Rattle.lta_spec.specs.Refusals.{first_of, decided, Verdict}
use Rattle.lta_spec.specs.Size.{host_tests}
use Rattle.lta_spec.specs.Call.{Call, lent_to}
use Rattle.lta_spec.specs.Answer.{refusal}
use Rattle.lta_spec.specs.MachineRun as R
use Rattle.lta_spec.specs.Demand.{Listed, Returned, Refuses, machine_step, machine_returns, machine_run}
use Rattle.lta_spec.specs.TwoRuns.{Pairs, AllTold}
use Rattle.lta_spec.specs.declared.Shape.{Shape}
use Rattle.lta_spec.specs.declared.Refusal.{Refusal}
use Rattle.lta_spec.proofs.TestLaws.{first-append}
use Rattle.lta_spec.proofs.Holdoff.{told}

-- one verdict: by equal tests behind those of shape and length, or by those, where they refuse
pub judged-by : (sh : Shape) (words : ℕ) (call call' : Call) (m m' : R.Run)
    → first_of (R.call_tests sh m call) ≡ first_of (R.call_tests sh m' call')
    → R.verdict sh m words call ≡ R.verdict sh m' words call'
unfolding R.verdict
judged-by sh words call call' m m' e =
    first-append (host_tests sh words) (R.call_tests sh m call)
    ∙ ap (decided (first_of (host_tests sh words)) Err) e
    ∙ sym (first-append (host_tests sh words) (R.call_tests sh m' call'))

pub judged-first : (sh : Shape) (words : ℕ) (call : Call) (m : R.Run) → Refuses (first_of (host_tests sh words))
    → R.verdict sh m words call ≡ first_of (host_tests sh words)
unfolding R.verdict
judged-first sh words call m refuses =
    first-append (host_tests sh words) (R.call_tests sh m call) ∙ by-verdict (first_of (host_tests sh words)) refuses
  where
    by-verdict : (v : Verdict) → Refuses v → decided v Err (first_of (R.call_tests sh m call)) ≡ v
    by-verdict (Ok _) w = absurd w
    by-verdict (Err why) w = refl

-- two calls of one verdict
module _ (sh sh' : Shape) (words words' : ℕ) (call call' : Call) (m m' : R.Run) (Steps : R.Step → R.Step → Type 0)
    (turned : (why : Refusal)
    → Steps (record { answer = refusal why; out = lent_to call; run = m })
    (record { answer = refusal why; out = lent_to call'; run = m' })) where
  pub steps-keep : R.verdict sh m words call ≡ R.verdict sh' m' words' call'
      → (R.verdict sh m words call ≡ Ok tt → Steps (R.accepted sh call m) (R.accepted sh' call' m'))
      → Steps (R.step sh words call m) (R.step sh' words' call' m')
  unfolding R.step
  steps-keep e done = rw (sym e) (by-verdict (R.verdict sh m words call) done)
    where
      by-verdict : (v : Verdict) → (v ≡ Ok tt → Steps (R.accepted sh call m) (R.accepted sh' call' m'))
          → Steps
          (decided v (λ why. record { answer = refusal why; out = lent_to call; run = m }) (R.accepted sh call m))
          (decided v (λ why. record { answer = refusal why; out = lent_to call'; run = m' }) (R.accepted sh' call' m'))
      by-verdict (Ok _) done = done refl
      by-verdict (Err why) done = turned why

module _ (sh sh' : Shape) (Runs : R.Run → R.Run → Type 0) (Tell : Listed → Returned → Returned → Type 0) where
  -- what two calls leave and tell
  pub record CallsKeep (l l' : Listed) (m m' : R.Run) : Type 0 where
    pub runs : Runs (machine_step sh l m).run (machine_step sh' l' m').run
    pub tells : Tell l (told (machine_step sh l m)) (told (machine_step sh' l' m'))

  -- and two lists
  pub record ListsKeep (cs cs' : List Listed) (m m' : R.Run) : Type 0 where
    pub runs : Runs (machine_run sh cs m) (machine_run sh' cs' m')
    pub tells : AllTold Tell cs (machine_returns sh cs m) (machine_returns sh' cs' m')

  module _ (Calls : Listed → Listed → Type 0)
      (keep : (l l' : Listed) → Calls l l' → (m m' : R.Run) → Runs m m' → CallsKeep l l' m m') where
    pub lists-keep : (cs cs' : List Listed) → Pairs Calls cs cs' → (m m' : R.Run) → Runs m m' → ListsKeep cs cs' m m'
    unfolding machine_run machine_returns
    lists-keep [] [] p m m' r = record { runs = r; tells = tt }
    lists-keep [] (l' ∷ cs') p m m' r = absurd p
    lists-keep (l ∷ cs) [] p m m' r = absurd p
    lists-keep (l ∷ cs) (l' ∷ cs') p m m' r =
        let first = keep l l' p.0 m m' r in
        let rest = lists-keep cs cs' p.1 (machine_step sh l m).run (machine_step sh' l' m').run first.runs in
        record { runs = rest.runs; tells = (first.tells, rest.tells) }
