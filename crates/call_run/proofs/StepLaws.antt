-- A call that is accepted: what its tests showed, and what `step` then is.
use Rattle.std.specs.Prelude.{Result, Ok, Err}
use mathlib.Core.Path.{◌≡◌, refl, sym, ap, ◌∙◌}
use mathlib.Core.Bool.{Bool, true, cond, ◌&&◌}
use mathlib.Core.List.{List, ◌∷◌, ◌++◌}
use Prim.Native.Nat.{ℕ, ◌≤◌}
use lib.Dec.{leb, ltb}
use lib.ListN.{length}
use borrow.Author.Tests.{leb-true, ltb-true}
use Rattle.lta_spec.specs.Refusals.{Test, test, first_of, Verdict}
use Rattle.lta_spec.specs.Shape.{run_limit}
use Rattle.lta_spec.specs.Size.{host_tests}
use Rattle.lta_spec.specs.Answer.{Answer, refusal, answer_as}
use Rattle.lta_spec.specs.Call.{Call, lent_to}
use Rattle.lta_spec.specs.declared.Refusal.{Refusal}
use Rattle.lta_spec.specs.Memory.{run_layout}
use Rattle.lta_spec.specs.Step as S
use Rattle.lta_spec.specs.declared.Shape.{Shape}
use Rattle.lta_spec.specs.declared.Refusal.TheVariants.{NoCell, Damaged}
use Rattle.lta_spec.proofs.TestLaws.{and_both, pass}
use Rattle.call_run.specs.Runs.{Celled, run_of}
use Rattle.call_run.proofs.FirstLaws.{both-passed}

-- a call on one cell: 1, 2 and 5, and the tests behind them
pub cell-shown : (s : Shape) (mem : List ℕ) (c : ℕ) (ts : List Test)
    → (Ok tt) ≡ first_of (host_tests s (length mem) ++ test (ltb c s.cells) NoCell ∷ ts)
    → Celled s mem c × (first_of ts ≡ Ok tt)
cell-shown s mem c ts e =
    let q = both-passed (host_tests s (length mem)) (test (ltb c s.cells) NoCell ∷ ts) (sym e) in
    let x = pass (ltb c s.cells) _ _ q.1 in
    (record { hosted = q.0; there = ltb-true c s.cells x.0 }, x.1)

-- 11, and the tests behind it
pub sound-shown : (t : ℕ) (parts : Bool) (v : Verdict) → cond (leb t run_limit && parts) v (Err Damaged) ≡ Ok tt
    → (t ≤ run_limit) × (parts ≡ true) × (v ≡ Ok tt)
sound-shown t parts v e =
    let x = pass (leb t run_limit && parts) v Damaged e in
    let y = and_both (leb t run_limit) parts x.0 in
    (leb-true t run_limit y.0, y.1, x.1)

-- the verdict, of the run that the words are
pub verdict-is : (s : Shape) (mem : List ℕ) (call : Call)
    → S.verdict s mem call ≡ first_of (host_tests s (length mem) ++ S.call_tests s call (run_of s mem))
unfolding S.verdict run_of
verdict-is s mem call = refl

-- a refused call: its number, and nothing changes
pub refused : (s : Shape) (mem : List ℕ) (call : Call) {e : Refusal} → S.verdict s mem call ≡ Err e
    → S.step s call mem ≡ record { answer = refusal e; out = lent_to call; mem = mem }
unfolding S.step
refused s mem call e = rw e

-- its answer, whatever an accepted call of its kind answers
pub refused_as : {A : Type 0} (told : A → Answer) (s : Shape) (mem : List ℕ) (call : Call) {x : Result A Refusal}
    {e : Refusal} → x ≡ Err e → S.verdict s mem call ≡ Err e → answer_as told x ≡ (S.step s call mem).answer
refused_as told s mem call g v = ap (answer_as told) g ∙ sym (ap (λ d. d.answer) (refused s mem call v))

-- and what it leaves of the buffer and of the words
pub refused_keeps : {A : Type 0} (told : A → Answer) (s : Shape) (mem : List ℕ) (call : Call) {x : Result A Refusal}
    {e : Refusal} → x ≡ Err e → S.verdict s mem call ≡ Err e
    → (answer_as told x ≡ (S.step s call mem).answer)
    × ((lent_to call ≡ (S.step s call mem).out) × (mem ≡ (S.step s call mem).mem))
refused_keeps told s mem call g v =
    let d = refused s mem call v in
    (refused_as told s mem call g v, (sym (ap (λ d. d.out) d), sym (ap (λ d. d.mem) d)))

-- an accepted call: `step` is what is done
pub done : (s : Shape) (mem : List ℕ) (call : Call) → (Ok tt) ≡ S.verdict s mem call
    → S.step s call mem ≡ (let d = S.accepted s call (run_of s mem) in record {
      answer = d.answer;
      out = d.out;
      mem = (run_layout s).put d.run;
    })
unfolding S.step run_of
done s mem call e = rw (← e)
