-- What the tests of an accepted dump showed, and of a speed dump.
use Rattle.std.specs.Prelude.{Ok}
use mathlib.Core.Path.{◌≡◌, sym, subst}
use mathlib.Core.Bool.{true}
use mathlib.Core.List.{List}
use Prim.Native.Nat.{ℕ, ◌<◌, ◌≤◌}
use lib.ListN.{length}
use borrow.Author.Tests.{leb-true}
use Rattle.lta_spec.specs.Call.{idle, speed, dump_fits}
use Rattle.lta_spec.specs.Call.Call.{dump}
use Rattle.lta_spec.specs.Damage as D
use Rattle.lta_spec.specs.Step as S
use Rattle.lta_spec.specs.declared.Shape.{Shape}
use Rattle.lta_spec.proofs.Passed.{DumpPassed, dump-passed}
use Rattle.call_run.specs.Runs.{Celled, run_of}
use Rattle.call_run.proofs.RunLaws.{shape-ok}
use Rattle.call_run.proofs.StepLaws.{cell-shown}
use Rattle.call_speed.specs.Sending.{SendsFrom}
use Rattle.call_dump.specs.Dumping.{dumped_by}

pub record Dumps (s : Shape) (mem : List ℕ) (c command bank phase : ℕ) : Type 0 where
  pub cell : Celled s mem c
  pub known : command ≤ idle
  pub sound : D.dump_unit_sound s.lags s.bins s.blocks (run_of s mem).t command (S.unit_at s c (run_of s mem))
      ≡ true
  pub bin : (dumped_by s.blocks command bank phase (S.unit_at s c (run_of s mem))).bin < s.bins

module _ (s : Shape) (mem : List ℕ) (c command bank phase : ℕ) (out : List ℕ)
    (e : (Ok tt) ≡ S.verdict s mem (dump c command bank phase out)) where
  passed : DumpPassed s mem c command bank phase (length out)
  passed = dump-passed s mem c command bank phase out (sym e)

  there : Celled s mem c
  unfolding S.verdict
  there = (cell-shown s mem c _ e).0

  pub dumps : Dumps s mem c command bank phase
  unfolding run_of
  dumps = record { cell = there; known = passed.known; sound = passed.sound; bin = passed.bin }

-- a speed dump
pub sends : (s : Shape) (mem : List ℕ) (c command bank phase : ℕ) (out : List ℕ)
    → (Ok tt) ≡ S.verdict s mem (dump c command bank phase out) → command ≡ speed → SendsFrom s mem c bank phase out
unfolding run_of dump_fits
sends s mem c command bank phase out e is =
    let at : (Ok tt) ≡ S.verdict s mem (dump c speed bank phase out) =
    subst (λ k. (Ok tt) ≡ S.verdict s mem (dump c k bank phase out)) is e in
    let p = passed s mem c speed bank phase out at in
    let q = there s mem c speed bank phase out at in
    record {
      cell = q;
      sends =
          record {
            shaped = shape-ok s mem q.hosted;
            celled = q.there;
            banked = p.in_banks;
            binned = p.bin;
            limited = p.time;
            sound = p.sound;
            room = leb-true _ _ p.room;
          };
    }
