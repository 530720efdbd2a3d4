-- A list of calls: the engine on work memory and the machine, from a fresh run, call by call.
use Rattle.std.specs.Prelude.{Ok, Err}
use Prim.Native.Nat.{ℕ, zero, suc, ◌*◌, ◌≤◌}
use mathlib.Core.Path.{◌≡◌, refl, sym, ap, ◌∙◌, subst}
use mathlib.Core.Bool.{cond}
use mathlib.Core.List.{List, [], ◌∷◌, map, append-nil}
use native.Mathlib.Omega.{arith}
use lib.ListN.{length, get_or, replicate, length-map, length-replicate}
use lib.Seq.{take_all}
use Rattle.lta_spec.specs.Refusals.{first_of, decided, Verdict}
use Rattle.lta_spec.specs.Size.{depth, memory_words, host_tests}
use Rattle.lta_spec.specs.Words.{zeros, over_all}
use Rattle.lta_spec.specs.Tick.{Sample}
use Rattle.lta_spec.specs.Place.{Bin, loss_count}
use Rattle.lta_spec.specs.Call.{Call, lent_to}
use Rattle.lta_spec.specs.Answer.{refusal}
use Rattle.lta_spec.specs.Machine as M
use Rattle.lta_spec.specs.Machine.{Ticks}
use Rattle.lta_spec.specs.MachineRun as R
use Rattle.lta_spec.specs.Engine as E
use Rattle.lta_spec.specs.Memory as W
use Rattle.lta_spec.specs.Memory.{run_layout}
use Rattle.lta_spec.specs.Step as S
use Rattle.lta_spec.specs.Demand.{Listed, AllStand, Refuses, machine_returns, machine_run, engine_returns, engine_mem}
use Rattle.lta_spec.specs.Demand.Listed.{on_run, on_other}
use Rattle.lta_spec.specs.declared.Shape.{Shape}
use Rattle.lta_spec.specs.declared.Refusal.{Refusal}
use Rattle.lta_spec.proofs.TestLaws.{first-append, pass-both}
use Rattle.lta_spec.proofs.ShapeLaws.{Shaped}
use Rattle.lta_spec.proofs.LayoutLaws.{All, Each}
use Rattle.lta_spec.proofs.MemoryLaws.{RowOk, BinOk, UnitOk, RunOk, run-law, run-width}
use Rattle.lta_spec.proofs.RowLaws.{length-numbers, window, window-length}
use Rattle.lta_spec.proofs.Carry.{row, map_stamped, map_bin, map_cell}
use Rattle.lta_spec.proofs.Conserve.{tally, over-places}
use Rattle.lta_spec.proofs.Sound.{BinSound}
use Rattle.lta_spec.proofs.SameCell.{Same}
use Rattle.lta_spec.proofs.SameRun.{AllSame, same_length, SameRun, SameDone, engine-is, beside}
use Rattle.lta_spec.proofs.SameVerdict.{verdict-same}
use Rattle.lta_spec.proofs.SameDone.{accepted-same}

-- a related engine run fits the layout
rows_ok : (n : ℕ) (xs ys : List Sample) (ls : List Ticks) → All (RowOk n) (map (row n xs ys) ls)
rows_ok n xs ys [] = tt
rows_ok n xs ys (s ∷ ls) = (length-numbers n xs ys s, rows_ok n xs ys ls)

bins-ok : (n : ℕ) (xs ys : List Sample) (bs : List (Bin Ticks)) → All (BinOk n) (map (map_bin (row n xs ys)) bs)
unfolding map_bin map_stamped
bins-ok n xs ys [] = tt
bins-ok n xs ys (b ∷ bs) = ((tt, (tt, length-numbers n xs ys b.content.members)), bins-ok n xs ys bs)

unit_ok : (sh : Shape) (t : ℕ) (e : E.Unit) (m : R.Unit) → Same sh t e m → UnitOk sh.lags sh.bins e
unfolding map_cell map_stamped
unit_ok sh t e m s =
    let n = sh.lags in
    let B = sh.bins in
    let c = s.cell [] [] in
    let f = s.good.sound.flat in
    record {
      opened = ap (λ z. length z.opened.members) c ∙ length-numbers n m.xs m.ys m.cell.opened.members;
      held =
          ap (λ z. length z.held.content.members) c
          ∙ length-numbers n m.xs m.ys m.cell.held.content.members;
      losses =
          subst (λ z. Each loss_count (RowOk n) z.losses) (sym c)
          (length-map m.cell.losses _ ∙ f.losses, rows_ok n m.xs m.ys m.cell.losses);
      xs = ap length s.xs ∙ window-length n m.xs;
      ys = ap length s.ys ∙ window-length n m.ys;
      bins =
          subst (λ z. Each (2 * B) (BinOk n) z.bins) (sym c)
          (length-map m.cell.bins _ ∙ f.bins, bins-ok n m.xs m.ys m.cell.bins);
    }

pub units-ok : (sh : Shape) (t : ℕ) (es : List E.Unit) (ms : List R.Unit) → AllSame sh t es ms
    → All (UnitOk sh.lags sh.bins) es
units-ok sh t [] [] a = tt
units-ok sh t [] (m ∷ ms) a = absurd a
units-ok sh t (e ∷ es) [] a = absurd a
units-ok sh t (e ∷ es) (m ∷ ms) a = (unit_ok sh t e m a.0, units-ok sh t es ms a.1)

run_ok : (sh : Shape) (e : W.Run) (m : R.Run) → SameRun sh e m → RunOk sh e
run_ok sh e m s =
    let units = units-ok sh m.t e.units m.units s.units in
    (tt, ((same_length sh m.t e.units m.units s.units ∙ s.cells, units), tt))

-- the words of a related run: read back they are the run, and as many as the shape needs
pub loaded : (sh : Shape) (e : W.Run) (m : R.Run) → SameRun sh e m → (run_layout sh).get ((run_layout sh).put e) ≡ e
loaded sh e m s =
    ap (run_layout sh).get (sym (append-nil ((run_layout sh).put e))) ∙ (run-law sh).back e (run_ok sh e m s) []

pub sized : (sh : Shape) (e : W.Run) (m : R.Run) → SameRun sh e m → length ((run_layout sh).put e) ≡ memory_words sh
sized sh e m s = (run-law sh).size e (run_ok sh e m s) ∙ run-width sh

-- one call on the run's own work memory
pub record SameStep (sh : Shape) (e : S.Step) (m : R.Step) : Type 0 where
  pub answer : e.answer ≡ m.answer
  pub out : e.out ≡ m.out
  pub run : W.Run
  pub mem : e.mem ≡ (run_layout sh).put run
  pub same : SameRun sh run m.run

module _ (sh : Shape) (wide : 2 ≤ sh.lags) (e : W.Run) (m : R.Run) (s : SameRun sh e m) (call : Call) where
  tests_same : first_of (S.call_tests sh call e) ≡ first_of (R.call_tests sh m call)
  tests_same =
      subst (λ r. first_of (S.call_tests sh call r) ≡ first_of (R.call_tests sh m call)) (sym (engine-is sh e m s))
      (verdict-same sh e.units m (beside sh e m s) call)

  done-same : first_of (R.call_tests sh m call) ≡ Ok tt → SameDone sh (S.accepted sh call e) (R.accepted sh call m)
  done-same v =
      subst (λ r. SameDone sh (S.accepted sh call r) (R.accepted sh call m)) (sym (engine-is sh e m s))
      (accepted-same sh e.units m (beside sh e m s) wide call v)

  -- the verdict, behind the tests of shape and length
  pub verdicts : S.verdict sh ((run_layout sh).put e) call ≡ R.verdict sh m (memory_words sh) call
  unfolding S.verdict R.verdict
  verdicts =
      rw (sized sh e m s, loaded sh e m s)
      (first-append (host_tests sh (memory_words sh)) (S.call_tests sh call e)
      ∙ ap (decided (first_of (host_tests sh (memory_words sh))) Err) tests_same
      ∙ sym (first-append (host_tests sh (memory_words sh)) (R.call_tests sh m call)))

  pub accepts : R.verdict sh m (memory_words sh) call ≡ Ok tt → first_of (R.call_tests sh m call) ≡ Ok tt
  unfolding R.verdict
  accepts v =
      (pass-both (first_of (host_tests sh (memory_words sh))) (first_of (R.call_tests sh m call))
      (sym (first-append (host_tests sh (memory_words sh)) (R.call_tests sh m call)) ∙ v)).1

  abbrev Outcome : Verdict → Type 0
  Outcome v =
      SameStep sh
      (decided v (λ r. record { answer = refusal r; out = lent_to call; mem = (run_layout sh).put e })
      (let d = S.accepted sh call ((run_layout sh).get ((run_layout sh).put e)) in
      record { answer = d.answer; out = d.out; mem = (run_layout sh).put d.run }))
      (decided v (λ r. record { answer = refusal r; out = lent_to call; run = m }) (R.accepted sh call m))

  by-verdict : (v : Verdict) → R.verdict sh m (memory_words sh) call ≡ v → Outcome v
  by-verdict (Err r) v = record { answer = refl; out = refl; run = e; mem = refl; same = s }
  by-verdict (Ok _) v =
      let d = done-same (accepts v) in
      rw (loaded sh e m s)
      (record { answer = d.answer; out = d.out; run = (S.accepted sh call e).run; mem = refl; same = d.run })

  pub run-same : SameStep sh (S.step sh call ((run_layout sh).put e)) (R.step sh (memory_words sh) call m)
  unfolding S.step R.step
  run-same = rw verdicts (by-verdict (R.verdict sh m (memory_words sh) call) refl)

-- a call with another shape or other work memory, which 1 or 2 refuses
module _ (shape : Shape) (call : Call) (given : List ℕ) (m : R.Run)
    (refuses : Refuses (first_of (host_tests shape (length given)))) where
  pub record Turned : Type 0 where
    pub why : Refusal
    pub engine : S.step shape call given ≡ record { answer = refusal why; out = lent_to call; mem = given }
    pub machine : R.step shape (length given) call m ≡ record { answer = refusal why; out = lent_to call; run = m }

  pub turned : Turned
  unfolding S.step R.step S.verdict R.verdict
  turned =
      by-verdict (first_of (host_tests shape (length given))) refl refuses
    where
      by-verdict : (v : Verdict) → first_of (host_tests shape (length given)) ≡ v → Refuses v → Turned
      by-verdict (Ok _) e r = absurd r
      by-verdict (Err r) e w =
          record {
            why = r;
            engine = rw (
              first-append (host_tests shape (length given))
                  (S.call_tests shape call ((run_layout shape).get given)),
              e,
            );
            machine = rw (first-append (host_tests shape (length given)) (R.call_tests shape m call), e);
          }

-- a list of calls
pub record Followed (sh : Shape) (cs : List Listed) (e : W.Run) (m : R.Run) : Type 0 where
  pub tells : engine_returns sh cs ((run_layout sh).put e) ≡ machine_returns sh cs m
  pub run : W.Run
  pub mem : engine_mem sh cs ((run_layout sh).put e) ≡ (run_layout sh).put run
  pub same : SameRun sh run (machine_run sh cs m)

pub follow : (sh : Shape) → 2 ≤ sh.lags → (cs : List Listed) → AllStand cs → (e : W.Run) (m : R.Run) → SameRun sh e m
    → Followed sh cs e m
unfolding machine_returns engine_returns machine_run engine_mem
follow sh w [] a e m s = record { tells = refl; run = e; mem = refl; same = s }
follow sh w (on_run call ∷ cs) a e m s =
    let x = run-same sh w e m s call in
    let y = follow sh w cs a.1 x.run (R.step sh (memory_words sh) call m).run x.same in
    record {
      tells = rw (x.answer, x.out, x.mem, y.tells);
      run = y.run;
      mem = ap (engine_mem sh cs) x.mem ∙ y.mem;
      same = y.same;
    }
follow sh w (on_other shape call given ∷ cs) a e m s =
    let x = turned shape call given m a.0 in
    let y = follow sh w cs a.1 e m s in
    record {
      tells = rw (x.engine, x.machine, y.tells);
      run = y.run;
      mem = y.mem;
      same = rw x.machine y.same;
    }

-- a fresh run
pub map-replicate : {A B : Type 0} (f : A → B) (n : ℕ) (a : A) → map f (replicate n a) ≡ replicate n (f a)
map-replicate f zero a = refl
map-replicate f (suc n) a = ap (λ r. f a ∷ r) (map-replicate f n a)

get_d_replicate : {A : Type 0} (n k : ℕ) (a : A) → get_or (replicate n a) k a ≡ a
get_d_replicate zero k a = refl
get_d_replicate (suc n) zero a = refl
get_d_replicate (suc n) (suc k) a = get_d_replicate n k a

over-replicate : {A : Type 0} (f : A → ℕ) (n : ℕ) (a : A) → f a ≡ 0 → over_all f (replicate n a) ≡ 0
over-replicate f zero a e = refl
over-replicate f (suc n) a e = omega (arith, over-replicate f n a e)

fresh-same : (sh : Shape) → Shaped sh → Same sh 0 (E.fresh_unit sh.lags sh.bins) (R.fresh_unit sh)
unfolding map_cell map_bin map_stamped M.bin_at M.ready_bins
fresh-same sh k =
    let some = k.some-bins in
    let one = k.some-blocks in
    let n = sh.lags in
    let B = sh.bins in
    let empty : window n [] ≡ zeros (depth n) =
    take_all (depth n) (zeros (depth n)) (omega (arith, length-replicate {A = ℕ} (depth n) 0)) in
    record {
      cell = λ gx gy. simp map-replicate;
      counter = ap (λ o. record { offset = o; last_code = 0 }) (omega arith);
      picks =
          ap (λ r. record { ready_bins = r; next = 0 })
          (sym (over-replicate (λ b. cond (M.is_ready b) 1 0) (2 * B) M.free_bin refl));
      xs = sym empty;
      ys = sym empty;
      good =
          record {
            taken_x = refl;
            taken_y = refl;
            sound =
                record {
                  flat = omega (arith, length-replicate (2 * B) M.free_bin);
                  bins = λ k. subst (BinSound 0) (sym (get_d_replicate (2 * B) k M.free_bin)) (omega arith);
                };
            counter = record { low = omega arith; high = omega arith; command = refl };
            picked = omega arith;
            once = λ f.
                omega (
                  arith,
                  over-places (tally f) (R.fresh_unit sh),
                  over-replicate (λ b. tally f b.content.members) (2 * B) M.free_bin refl,
                );
            frames = tt;
          };
    }

all-fresh : (sh : Shape) → Shaped sh → (k : ℕ)
    → AllSame sh 0 (replicate k (E.fresh_unit sh.lags sh.bins)) (replicate k (R.fresh_unit sh))
all-fresh sh is zero = tt
all-fresh sh is (suc k) = (fresh-same sh is, all-fresh sh is k)

pub start-same : (sh : Shape) → Shaped sh → SameRun sh (W.start sh) (R.start sh)
start-same sh is =
    record {
      t = refl;
      limit = omega arith;
      cells = length-replicate sh.cells (R.fresh_unit sh);
      served = is.some-cells;
      next = refl;
      units = all-fresh sh is sh.cells;
    }

-- every list behind a setup, and work memory behind it, read back
pub from_start : (sh : Shape) → Shaped sh → (cs : List Listed) → AllStand cs → Followed sh cs (W.start sh) (R.start sh)
from_start sh is cs stand = follow sh is.some-lags cs stand (W.start sh) (R.start sh) (start-same sh is)

pub read_behind : (sh : Shape) (cs : List Listed) (e : W.Run) (m : R.Run) (f : Followed sh cs e m)
    → (run_layout sh).get (engine_mem sh cs ((run_layout sh).put e)) ≡ f.run
read_behind sh cs e m f = ap (run_layout sh).get f.mem ∙ loaded sh f.run (machine_run sh cs m) f.same
