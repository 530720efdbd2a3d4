-- Two runs with X and Y exchanged: a fact of the plain machine, in which the same ticks stand in the same places, and
-- which the engine follows as in demand 3.
use Prim.Native.Nat.{ℕ, ◌*◌, ◌-◌, ◌/◌, ◌≤◌, ◌<◌}
use mathlib.Core.Path.{◌≡◌, refl, sym, ap, ◌∙◌, subst}
use mathlib.Core.Bool.{true}
use mathlib.Core.List.{List, [], ◌∷◌}
use native.Mathlib.Omega.{arith}
use lib.IntN.{neg_ℤ}
use lib.ListN.{get_or}
use borrow.Author.Tests.{eq-eqb, le-leb, lt-ltb}
use Rattle.lta_spec.specs.Shape.{shape_ok}
use Rattle.lta_spec.specs.Size.{memory_words, host_tests}
use Rattle.lta_spec.specs.Tick.{Sample}
use Rattle.lta_spec.specs.Place.{Stamped, loss_count}
use Rattle.lta_spec.specs.Call.Call.{reading}
use Rattle.lta_spec.specs.Answer.Answer.{entry}
use Rattle.lta_spec.specs.Machine as M
use Rattle.lta_spec.specs.Machine.{Ticks}
use Rattle.lta_spec.specs.Numbers.{Emitted, set_sums}
use Rattle.lta_spec.specs.MachineRun as R
use Rattle.lta_spec.specs.Engine as E
use Rattle.lta_spec.specs.Memory as W
use Rattle.lta_spec.specs.Memory.{run_layout}
use Rattle.lta_spec.specs.Step as S
use Rattle.lta_spec.specs.Demand.{Listed, AllStand, machine_after, mem_after, place_after, sent_fields, ReadBack}
use Rattle.lta_spec.specs.Demand.{AllRead, engine_returns, fresh_mem, frames_returned}
use Rattle.lta_spec.specs.Demand.Listed.{on_run, on_other}
use Rattle.lta_spec.specs.TwoRuns.{Pairs}
use Rattle.lta_spec.specs.Exchange.{
  exchanged_list,
  Exchanged,
  RowsExchanged,
  StampedExchanged,
  CellsExchanged,
  without_sums,
  FramesExchanged,
  ToldAlike,
  RunsExchanged,
  Exchange,
}
use Rattle.lta_spec.specs.declared.Shape.{Shape}
use Rattle.lta_spec.specs.declared.Sums.{Sums}
use Rattle.lta_spec.proofs.ShapeLaws.{Shaped, shaped}
use Rattle.lta_spec.proofs.SetLaws.{sums-read}
use Rattle.lta_spec.proofs.Carry.{row, map_stamped, map_bin, map_cell, bin-carry, loss-carry}
use Rattle.lta_spec.proofs.SameCell.{Same}
use Rattle.lta_spec.proofs.SameRun.{unit-same}
use Rattle.lta_spec.proofs.Follow.{Followed, run-same, start-same, map-replicate, from_start, read_behind}
use Rattle.lta_spec.proofs.ReadBack.{sums-of}
use Rattle.lta_spec.proofs.Demand.{demand3}
use Rattle.lta_spec.proofs.TwoRuns.{ListsKeep, lists-keep}
use Rattle.lta_spec.proofs.ExchangeLaws.{centre-count, set-exchanged}
use Rattle.lta_spec.proofs.ByteExchange.{byte-exchange}
use Rattle.lta_spec.proofs.Placement.{unit-at}
use Rattle.lta_spec.proofs.SamePlaces.{same-places}
use Rattle.lta_spec.proofs.ExchangeTold.{of_x, of_y, exchanged_unit, exchanged_run}
use Rattle.lta_spec.proofs.ExchangeSteps.{RunsAlike, CallsAlike, keep}

-- numbers that are, lag by lag, those of a place and of the exchanged place
exchanged-as : (n : ℕ) (one other one' other' : ℕ → Sums) → ((k : ℕ) → k < n → one' k ≡ one k)
    → ((k : ℕ) → k < n → other' k ≡ other k) → Exchanged n one other → Exchanged n one' other'
exchanged-as n one other one' other' p q x =
    record {
      in_phase = λ k low high.
          ap (λ s. s.i) (p k high) ∙ x.in_phase k low high ∙ ap (λ s. s.i) (sym (q (n - k) (omega arith)));
      quadrature = λ k low high.
          ap (λ s. s.q) (p k high) ∙ x.quadrature k low high ∙ ap (λ s. neg_ℤ s.q) (sym (q (n - k) (omega arith)));
      ticks = λ k h. ap (λ s. s.ticks) (p k h) ∙ x.ticks k h ∙ ap (λ s. s.ticks) (sym (q k h));
      centre = λ k h. ap (λ s. s.centre) (p k h) ∙ x.centre k h ∙ ap (λ s. s.centre) (sym (q k h));
    }

-- the rows of a set, and a place with its stamp
module _ (n : ℕ) (even : n ≡ 2 * (n / 2)) (xs ys : List Sample) where
  rows-exchanged : (s : Ticks) → RowsExchanged n (row n xs ys s) (row n ys xs s)
  rows-exchanged s =
      exchanged-as n _ _ _ _ (sums-read n xs ys s) (sums-read n ys xs s) (set-exchanged n even xs ys s)

  stamped-exchanged : (p : Stamped Ticks)
      → StampedExchanged n (map_stamped (row n xs ys) p) (map_stamped (row n ys xs) p)
  unfolding map_stamped
  stamped-exchanged p = record { numbers = rows-exchanged p.members; stamp = refl }

-- a cell that the engine follows, and the one that follows the exchanged cell
cell-exchanged : (sh : Shape) → sh.lags ≡ 2 * (sh.lags / 2) → (t t' : ℕ) (e e' : E.Unit) (m : R.Unit)
    → Same sh t e m → Same sh t' e' (exchanged_unit m) → CellsExchanged sh.lags e e'
unfolding map_cell map_bin
cell-exchanged sh even t t' e e' m s s' =
    let n = sh.lags in
    let xs = m.xs in
    let ys = m.ys in
    let c = s.cell [] [] in
    let c' = s'.cell [] [] in
    let bin : (k : ℕ) → E.bin_at n k e.cell ≡ map_bin (row n xs ys) (M.bin_at k m.cell) =
    λ k. ap (E.bin_at n k) c ∙ bin-carry n xs ys k m.cell in
    let bin' : (k : ℕ) → E.bin_at n k e'.cell ≡ map_bin (row n ys xs) (M.bin_at k m.cell) =
    λ k. ap (E.bin_at n k) c' ∙ bin-carry n ys xs k m.cell in
    record {
      opened = rw (c, c') (stamped-exchanged n even xs ys m.cell.opened);
      held = rw (c, c') (stamped-exchanged n even xs ys m.cell.held.content);
      occupied = ap (λ z. z.held.occupied) c ∙ ap (λ z. z.held.occupied) (sym c');
      label = ap (λ z. z.held.label) c ∙ ap (λ z. z.held.label) (sym c');
      bins = λ k. rw (bin k, bin' k) (stamped-exchanged n even xs ys (M.bin_at k m.cell).content);
      states = λ k. ap (λ z. z.state) (bin k) ∙ ap (λ z. z.state) (sym (bin' k));
      losses = λ i.
          rw (c, c', loss-carry n xs ys i m.cell, loss-carry n ys xs i m.cell)
          (rows-exchanged n even xs ys (get_or m.cell.losses i []));
      counter = s.counter ∙ sym s'.counter;
      picks = s.picks ∙ sym s'.picks;
      xs = s.xs ∙ sym s'.ys;
      ys = s.ys ∙ sym s'.xs;
    }

-- the frames of a cell
module _ (sh : Shape) (even : sh.lags ≡ 2 * (sh.lags / 2)) (c : ℕ) (xs ys : List Sample) where
  abbrev n : ℕ
  n = sh.lags

  frame-exchanged : (f f' : List ℕ) (e : Emitted) → ReadBack sh c xs ys f e → ReadBack sh c ys xs f' e
      → FramesExchanged n f f'
  frame-exchanged f f' e r r' =
      record {
        header = sent_fields sh c xs ys e;
        read = r.returned;
        other = ap without_sums r'.returned ∙ rw (centre-count n even xs ys e.content.members);
        numbers =
            exchanged-as n _ _ _ _ (λ k h. sums-of sh c xs ys k h f e r)
            (λ k h. sums-of sh c ys xs k h f' e r') (set-exchanged n even xs ys e.content.members);
      }

  frames-exchanged : (fs fs' : List (List ℕ)) (es : List Emitted) → AllRead sh c xs ys fs es
      → AllRead sh c ys xs fs' es → Pairs (FramesExchanged n) fs fs'
  frames-exchanged [] [] [] a a' = tt
  frames-exchanged [] (f' ∷ fs') [] a a' = absurd a'
  frames-exchanged (f ∷ fs) fs' [] a a' = absurd a
  frames-exchanged [] fs' (e ∷ es) a a' = absurd a
  frames-exchanged (f ∷ fs) [] (e ∷ es) a a' = absurd a'
  frames-exchanged (f ∷ fs) (f' ∷ fs') (e ∷ es) a a' =
      (frame-exchanged f f' e a.0 a'.0, frames-exchanged fs fs' es a.1 a'.1)

-- the second list may stand where the first does, and its calls are those of the first, exchanged
stand-exchanged : (cs : List Listed) → AllStand cs → AllStand (exchanged_list cs)
stand-exchanged [] a = tt
stand-exchanged (on_run call ∷ cs) a = (tt, stand-exchanged cs a.1)
stand-exchanged (on_other shape call given ∷ cs) a = (a.0, stand-exchanged cs a.1)

calls-exchanged : (sh : Shape) (cs : List Listed) → AllStand cs → Pairs (CallsAlike sh) cs (exchanged_list cs)
calls-exchanged sh [] a = tt
calls-exchanged sh (l ∷ cs) a = (record { stands = a.0; exchanges = refl }, calls-exchanged sh cs a.1)

-- behind a list of demand 3
module _ (sh : Shape) (ok : shape_ok sh ≡ true) (cs : List Listed) (stand : AllStand cs) where
  abbrev cs' : List Listed
  cs' = exchanged_list cs

  abbrev m : R.Run
  m = machine_after sh cs

  is : Shaped sh
  is = shaped sh ok

  stand' : AllStand cs'
  stand' = stand-exchanged cs stand

  -- the machine's runs
  start-alike : RunsAlike sh (R.start sh) (R.start sh)
  start-alike =
      record {
        engine = W.start sh;
        engine' = W.start sh;
        same = start-same sh is;
        same' = start-same sh is;
        exchanges =
            ap (λ us. record { t = 0; served = M.Latest.none; units = us })
            (sym (map-replicate exchanged_unit sh.cells (R.fresh_unit sh)));
      }

  machines : ListsKeep sh sh (RunsAlike sh) (ToldAlike sh) cs cs' (R.start sh) (R.start sh)
  machines =
      lists-keep sh sh (RunsAlike sh) (ToldAlike sh) (CallsAlike sh) (keep sh is) cs cs'
      (calls-exchanged sh cs stand) (R.start sh) (R.start sh) start-alike

  machine-is : machine_after sh cs' ≡ exchanged_run m
  machine-is = machines.runs.exchanges

  unit-is : (c : ℕ) → R.unit_at sh c (machine_after sh cs') ≡ exchanged_unit (R.unit_at sh c m)
  unit-is c = ap (R.unit_at sh c) machine-is ∙ unit-at of_y of_x sh refl c m

  -- the engine's
  followed : (ls : List Listed) → AllStand ls → Followed sh ls (W.start sh) (R.start sh)
  followed = from_start sh is

  run-read : (ls : List Listed) (a : AllStand ls) → (run_layout sh).get (mem_after sh ls) ≡ (followed ls a).run
  run-read ls a = read_behind sh ls (W.start sh) (R.start sh) (followed ls a)

  -- what a reading answers
  abbrev read : R.Unit → (loss k : ℕ) → Sums
  read u loss k = set_sums sh.lags u.xs u.ys (get_or u.cell.losses (loss - 1) []) k

  reads : (ls : List Listed) → AllStand ls → (c loss : ℕ) → c < sh.cells → 1 ≤ loss → loss ≤ loss_count → (k : ℕ)
      → k < sh.lags
      → (S.step sh (reading c k loss) (mem_after sh ls)).answer
      ≡ entry (read (R.unit_at sh c (machine_after sh ls)) loss k)
  unfolding R.step R.verdict R.accepted host_tests
  reads ls a c loss h low high k l =
      let f = followed ls a in
      ap (λ z. (S.step sh (reading c k loss) z).answer) f.mem
      ∙ (run-same sh is.some-lags f.run (machine_after sh ls) f.same (reading c k loss)).answer
      ∙ rw (
        ok,
        eq-eqb (memory_words sh) (memory_words sh) refl,
        lt-ltb c sh.cells h,
        lt-ltb k sh.lags l,
        le-leb 1 loss low,
        le-leb loss loss_count high,
      )

  -- the frames of a cell as their calls left them
  abbrev sent : (c : ℕ) → List Listed → List (List ℕ)
  sent c ls = frames_returned c ls (engine_returns sh ls (fresh_mem sh))

  runs-exchanged : RunsExchanged sh cs
  runs-exchanged =
      let d = demand3 sh ok cs stand in
      let d' = demand3 sh ok cs' stand' in
      let f = followed cs stand in
      let f' = followed cs' stand' in
      record {
        tells = rw (d.tells, d'.tells) machines.tells;
        time = d.time ∙ sym (d'.time ∙ ap (λ r. r.t) machine-is);
        next_cell = d.next_cell ∙ sym (d'.next_cell ∙ ap (λ r. place_after sh.cells r.served) machine-is);
        cells = λ c h.
            rw (run-read cs stand, run-read cs' stand')
            (cell-exchanged sh is.even m.t _ _ _ (R.unit_at sh c m) (unit-same sh f.run m f.same c h)
            (subst (Same sh _ _) (unit-is c) (unit-same sh f'.run _ f'.same c h)));
        frames = λ c h.
            let u = R.unit_at sh c m in
            frames-exchanged sh is.even c u.xs u.ys (sent c cs) (sent c cs') u.frames (d.read_back c h)
            (subst (λ z. AllRead sh c z.xs z.ys (sent c cs') z.frames) (unit-is c) (d'.read_back c h));
        readings = λ c loss h low high.
            let u = R.unit_at sh c m in
            record {
              one = read u loss;
              other = read (exchanged_unit u) loss;
              reads = reads cs stand c loss h low high;
              reads_other = λ k l. reads cs' stand' c loss h low high k l ∙ ap (λ z. entry (read z loss k)) (unit-is c);
              numbers =
                  set-exchanged sh.lags is.even u.xs u.ys (get_or u.cell.losses (loss - 1) []);
            };
      }

pub exchange : Exchange
exchange = record { of-bytes = byte-exchange; of_places = same-places; of-runs = runs-exchanged }
