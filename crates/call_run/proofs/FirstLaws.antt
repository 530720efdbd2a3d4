-- The tests of a call, made one behind the other: what is said where one fails, and what is left where it passes.
use mathlib.Core.Path.{◌≡◌, refl, sym, ap, ◌∙◌}
use mathlib.Core.Bool.{Bool, true, false, cond}
use mathlib.Core.List.{List, ◌++◌}
use Prim.Native.Nat.{ℕ}
use native.Mathlib.Omega.{arith}
use lib.ListN.{length}
use Rattle.std.specs.Prelude.{Result, Ok, Err}
use Rattle.std.specs.Result.{IsErr, IsErrAnd}
use Rattle.std.proofs.lemmas.Result.{err_from_is_err_and}
use Rattle.lta_spec.specs.Refusals.{Verdict, Test, first_of, decided}
use Rattle.lta_spec.specs.Size.{host_tests}
use Rattle.lta_spec.specs.Call.{Call}
use Rattle.lta_spec.specs.Step as S
use Rattle.lta_spec.specs.declared.Shape.{Shape}
use Rattle.lta_spec.specs.declared.Refusal.{Refusal}
use Rattle.lta_spec.proofs.TestLaws.{pass-both, first-append}
use Rattle.call_run.specs.declared.run.Run.{Run}
use Rattle.call_run.specs.Runs.{verdict_in, run_of}
use Rattle.call_run.proofs.ViewLaws.{hosted_in}

-- the refusal that `?` returns
pub returned : {A : Type 0} {e : Refusal} (x : Result A Refusal) → IsErr x × IsErrAnd x (λ y. y ≡ e) → x ≡ Err e
returned x p = let q = err_from_is_err_and x p.1 in q.1 ∙ ap Err q.2

-- v is what code's test says, which is the test of the definitions; w is the verdict of those behind it
module _ (r : Refusal) {ok ok' : Bool} {v : Verdict} (is : v ≡ cond ok (Ok tt) (Err r)) (same : ok ≡ ok') where
  pub fails : (w : Verdict) {e : Refusal} → v ≡ Err e → cond ok' w (Err r) ≡ Err e
  fails w {e} g = by_test ok' (sym g ∙ is ∙ ap (λ b. cond b (Ok tt) (Err r)) same)
    where
      by_test : (b : Bool) → Err e ≡ cond {A = Verdict} b (Ok tt) (Err r) → cond b w (Err r) ≡ Err e
      by_test true h = let z : ◌≡◌ {A = ℕ} 0 1 = cc in absurd (omega arith)
      by_test false h = sym h

  pub passed : v ≡ Ok tt → ok' ≡ true
  passed g = by_test ok' (sym g ∙ is ∙ ap (λ b. cond b (Ok tt) (Err r)) same)
    where
      by_test : (b : Bool) → Ok tt ≡ cond {A = Verdict} b (Ok tt) (Err r) → b ≡ true
      by_test true h = refl
      by_test false h = let z : ◌≡◌ {A = ℕ} 0 1 = cc in absurd (omega arith)

  pub passes : {w : Verdict} → v ≡ Ok tt → cond ok' w (Err r) ≡ w
  passes g = rw (passed g) refl

  -- the last test
  pub says : {w : Verdict} → w ≡ Ok tt → v ≡ cond ok' w (Err r)
  says g = is ∙ ap (λ b. cond b (Ok tt) (Err r)) same ∙ rw g refl

-- both passed
pub both-passed : (xs ts : List Test) → first_of (xs ++ ts) ≡ Ok tt
    → (first_of xs ≡ Ok tt) × (first_of ts ≡ Ok tt)
both-passed xs ts e = pass-both (first_of xs) (first_of ts) (sym (first-append xs ts) ∙ e)

module _ (call : Call) where
  -- 1 or 2 fails
  pub unhosted : (s : Shape) (mem : List ℕ) {A : Type 0} {x : Result A Refusal} {e : Refusal}
      → verdict_in x ≡ first_of (host_tests s (length mem)) → x ≡ Err e → S.verdict s mem call ≡ Err e
  unfolding S.verdict run_of
  unhosted s mem h g =
      first-append (host_tests s (length mem)) (S.call_tests s call (run_of s mem))
      ∙ ap (λ v. decided v Err (first_of (S.call_tests s call (run_of s mem)))) (sym h ∙ ap verdict_in g)

  -- a run: the tests behind them
  pub hosted : (r : Run) → S.verdict r.shape r.mem.now call
      ≡ first_of (S.call_tests r.shape call (run_of r.shape r.mem.now))
  unfolding S.verdict run_of
  hosted r =
      let ts = S.call_tests r.shape call (run_of r.shape r.mem.now) in
      first-append (host_tests r.shape (length r.mem.now)) ts
      ∙ ap (λ v. decided v Err (first_of ts)) (hosted_in r)
