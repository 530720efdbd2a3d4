-- What the tests of an accepted tick showed.
use Rattle.std.specs.Prelude.{Ok}
use mathlib.Core.Path.{◌≡◌, sym, ◌∙◌}
use mathlib.Core.Bool.{true, not}
use mathlib.Core.List.{List}
use Prim.Native.Nat.{ℕ, ◌*◌, ◌≤◌}
use lib.Dec.{eqb}
use lib.ListN.{length}
use borrow.Author.Tests.{eqb-true}
use Rattle.lta_spec.specs.Shape.{run_limit}
use Rattle.lta_spec.specs.Size.{host_tests}
use Rattle.lta_spec.specs.Call.{samples_ok, validity_ok}
use Rattle.lta_spec.specs.Call.Call.{tick}
use Rattle.lta_spec.specs.Step as S
use Rattle.lta_spec.specs.declared.Shape.{Shape}
use Rattle.lta_spec.proofs.TestLaws.{pass}
use Rattle.call_run.specs.Runs.{Hosted, run_of}
use Rattle.call_run.proofs.FirstLaws.{both-passed}
use Rattle.call_run.proofs.StepLaws.{sound-shown, verdict-is}

pub record TicksAll (s : Shape) (mem samples : List ℕ) : Type 0 where
  pub hosted : Hosted s mem
  pub counted : length samples ≡ 3 * s.cells
  pub limited : (run_of s mem).t ≤ run_limit
  pub sound : S.units_sound s (run_of s mem).t (run_of s mem).units ≡ true

pub ticks-all : (s : Shape) (mem samples : List ℕ) → (Ok tt) ≡ S.verdict s mem (tick samples) → TicksAll s mem samples
ticks-all s mem samples e =
    let r = run_of s mem in
    let q =
    both-passed (host_tests s (length mem)) (S.call_tests s (tick samples) r)
    (sym (e ∙ verdict-is s mem (tick samples))) in
    let x = pass (samples_ok s.cells samples) _ _ q.1 in
    let v = pass (validity_ok s.cells samples) _ _ x.1 in
    let y = pass (not (eqb r.t run_limit)) _ _ v.1 in
    let z = sound-shown r.t (S.units_sound s r.t r.units) _ y.1 in
    record {
      hosted = q.0;
      counted = eqb-true (length samples) (3 * s.cells) x.0;
      limited = z.0;
      sound = z.1;
    }
