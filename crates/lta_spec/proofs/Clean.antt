-- 11 never arises: the machine has no such answer.
use Rattle.std.specs.Prelude.{Ok, Err}
use Prim.Native.Nat.{ℕ}
use mathlib.Core.Path.{◌≡◌, refl, sym, ap, ◌∙◌}
use mathlib.Core.Bool.{Bool, true, false, cond, not}
use mathlib.Core.List.Memᴰ
use mathlib.Core.List.{List, [], ◌∷◌, ◌++◌, Memᴰ}
use mathlib.Core.Logic.{⊎_elim}
use native.Mathlib.Omega.{arith}
use lib.Dec.{eqb}
use borrow.Author.Tests.{eq-eqb}
use Rattle.lta_spec.specs.Refusals.{Test, refusal_number, first_of, decided, Verdict}
use Rattle.lta_spec.specs.Size.{memory_words, host_tests}
use Rattle.lta_spec.specs.Words.{every}
use Rattle.lta_spec.specs.Place.{Label}
use Rattle.lta_spec.specs.Call.{Call, lent_to, speed}
use Rattle.lta_spec.specs.Call.Call.{tick, dump, integrate, emit, reading, forecast, page, pick}
use Rattle.lta_spec.specs.Answer.{refusal}
use Rattle.lta_spec.specs.Answer.Answer.{refused}
use Rattle.lta_spec.specs.Machine.{Counter}
use Rattle.lta_spec.specs.MachineRun as R
use Rattle.lta_spec.specs.Demand.{Listed, Returned, machine_step, machine_returns}
use Rattle.lta_spec.specs.Demand.Listed.{on_run, on_other}
use Rattle.lta_spec.specs.declared.Shape.{Shape}
use Rattle.lta_spec.specs.declared.Refusal.{Refusal}
use Rattle.lta_spec.proofs.TestLaws.{and_both}

-- a refusal that is not 11
abbrev other : Refusal → Bool
other r = not (eqb (refusal_number r) 11)

abbrev others : List Test → Bool
others ts = every (λ x. other x.otherwise) ts

absurdly : {A : Type 0} → true ≡ false → A
absurdly e = let z : ◌≡◌ {A = ℕ} 0 1 = cc in absurd (omega arith)

-- what is refused is refused by one of the tests
first-other : (ts : List Test) → others ts ≡ true → (r : Refusal) → first_of ts ≡ Err r → other r ≡ true
first-other [] h r e = let z : ◌≡◌ {A = ℕ} 0 1 = cc in absurd (omega arith)
first-other (x ∷ xs) h r e =
    let a = and_both (other x.otherwise) (others xs) h in
    by-test x.passes a.0 (first-other xs a.1 r) e
  where
    by-test : (b : Bool) → other x.otherwise ≡ true → (first_of xs ≡ Err r → other r ≡ true)
        → cond b (first_of xs) (Err x.otherwise) ≡ Err r → other r ≡ true
    by-test true p ih q = ih q
    by-test false p ih q = let same : x.otherwise ≡ r = cc in ap other (sym same) ∙ p

tests-other : (sh : Shape) (r : R.Run) (words : ℕ) (call : Call)
    → others (host_tests sh words ++ R.call_tests sh r call) ≡ true
unfolding host_tests
tests-other sh r words (tick samples) = refl
tests-other sh r words (dump c command bank phase out) = refl
tests-other sh r words (integrate c) = refl
tests-other sh r words (emit c bank bin out) = refl
tests-other sh r words (reading c lag loss) = refl
tests-other sh r words (forecast c) = refl
tests-other sh r words (page out) = refl
tests-other sh r words (pick out) = refl

-- an accepted call answers a number or an entry
dump-other : (b : Bool) (sh : Shape) (c : ℕ) (l : Label) (k : Counter) (out : List ℕ) (r : R.Run)
    → (R.dumps_by b sh c l k out r).answer ≡ refused 11 → ⊥
unfolding R.dumps_by R.sends
dump-other true sh c l k out r e = let z : ◌≡◌ {A = ℕ} 0 1 = cc in omega arith
dump-other false sh c l k out r e = let z : ◌≡◌ {A = ℕ} 0 1 = cc in omega arith

accepted-other : (sh : Shape) (call : Call) (r : R.Run) → (R.accepted sh call r).answer ≡ refused 11 → ⊥
unfolding R.accepted R.emits R.picks R.sends
accepted-other sh (tick samples) r e = let z : ◌≡◌ {A = ℕ} 0 1 = cc in omega arith
accepted-other sh (dump c command bank phase out) r e = dump-other (eqb command speed) sh c _ _ out r e
accepted-other sh (integrate c) r e = let z : ◌≡◌ {A = ℕ} 0 1 = cc in omega arith
accepted-other sh (emit c bank bin out) r e = let z : ◌≡◌ {A = ℕ} 0 1 = cc in omega arith
accepted-other sh (reading c lag loss) r e = let z : ◌≡◌ {A = ℕ} 0 1 = cc in omega arith
accepted-other sh (forecast c) r e = let z : ◌≡◌ {A = ℕ} 0 1 = cc in omega arith
accepted-other sh (page out) r e = let z : ◌≡◌ {A = ℕ} 0 1 = cc in omega arith
accepted-other sh (pick out) r e = let z : ◌≡◌ {A = ℕ} 0 1 = cc in omega arith

step_other : (sh : Shape) (words : ℕ) (call : Call) (r : R.Run) → (R.step sh words call r).answer ≡ refused 11 → ⊥
unfolding R.step R.verdict
step_other sh words call r =
    by-verdict (first_of (host_tests sh words ++ R.call_tests sh r call)) refl
  where
    by-verdict : (v : Verdict) → first_of (host_tests sh words ++ R.call_tests sh r call) ≡ v
        → (decided {A = R.Step} v (λ why. record { answer = refusal why; out = lent_to call; run = r })
        (R.accepted sh call r)).answer ≡ refused 11 → ⊥
    by-verdict (Ok _) v e = accepted-other sh call r e
    by-verdict (Err why) v e =
        let eleven : refusal_number why ≡ 11 = cc in
        let p = first-other (host_tests sh words ++ R.call_tests sh r call) (tests-other sh r words call) why v in
        absurdly (sym p ∙ ap not (eq-eqb (refusal_number why) 11 eleven))

machine-other : (sh : Shape) (c : Listed) (r : R.Run) → (machine_step sh c r).answer ≡ refused 11 → ⊥
machine-other sh (on_run call) r e = step_other sh (memory_words sh) call r e
machine-other sh (on_other shape call given) r e = step_other shape _ call r e

pub never-eleven : (sh : Shape) (cs : List Listed) (r : R.Run) (t : Returned) → Memᴰ t (machine_returns sh cs r)
    → t.answer ≡ refused 11 → ⊥
unfolding machine_returns
never-eleven sh [] r t i e = Memᴰ.not-nil i
never-eleven sh (c ∷ cs) r t i e =
    ⊎_elim (λ first. machine-other sh c r (sym (ap (λ x. x.answer) first) ∙ e))
    (λ later. never-eleven sh cs (machine_step sh c r).run t later e) (Memᴰ.cases_cons i)
