-- What an accepted call does: the engine's answer, lent buffer and run are the machine's.
use Rattle.std.specs.Prelude.{Ok}
use Prim.Native.Nat.{ℕ, suc, ◌*◌, ◌-◌, ◌/◌, ◌%◌, ◌≤◌, ◌<◌}
use mathlib.Core.Path.{◌≡◌, refl, ap, ap₂, ◌∙◌}
use mathlib.Core.Bool.{Bool, true, false, not, ◌&&◌}
use mathlib.Core.List.{List, [], ◌∷◌, ◌++◌, map}
use native.Mathlib.Nat.{mod-lt}
use native.Mathlib.Omega.{arith}
use lib.Dec.{ltb, leb, eqb}
use lib.ListN.{length, get_or, set, drop, length-set}
use borrow.Author.Tests.{ltb-true, lt-ltb, eqb-true}
use Rattle.lta_spec.specs.Words.{splice, joined}
use Rattle.lta_spec.specs.Refusals.{first_of}
use Rattle.lta_spec.specs.Shape.{run_limit}
use Rattle.lta_spec.specs.Tick.{Sample}
use Rattle.lta_spec.specs.Place.{Label, Stamped, Cell, loss_count, ready}
use Rattle.lta_spec.specs.Call.{Call, samples_ok, validity_ok, speed, command_ok, phase_ok, bank_ok, bin_index}
use Rattle.lta_spec.specs.Call.Call.{tick, dump, integrate, emit, reading, forecast, page, pick}
use Rattle.lta_spec.specs.Answer.Answer.{number, entry}
use Rattle.lta_spec.specs.Row.{row_sums, row_counts, entry_word, x_entry, y_entry}
use Rattle.lta_spec.specs.Page.{counts_sum, page_of}
use Rattle.lta_spec.specs.Machine as M
use Rattle.lta_spec.specs.Numbers.{Emitted, set_frame}
use Rattle.lta_spec.specs.MachineRun as R
use Rattle.lta_spec.specs.Engine as E
use Rattle.lta_spec.specs.Memory as W
use Rattle.lta_spec.specs.Step as S
use Rattle.lta_spec.specs.declared.Shape.{Shape}
use Rattle.lta_spec.proofs.TestLaws.{and_both, pass}
use Rattle.lta_spec.proofs.TickLaws.{stored_entry, bit_is}
use Rattle.lta_spec.proofs.RowLaws.{numbers-size}
use Rattle.lta_spec.proofs.SetLaws.{stored-edge, stored-centre, sums-read, lags-read}
use Rattle.lta_spec.proofs.Carry.{row, map_stamped, map_bin, map_cell, room-carry, forecast-carry}
use Rattle.lta_spec.proofs.LedgerLaws.{counts-carry, ledger-total}
use Rattle.lta_spec.proofs.BlockLaws.{CounterSound, counted-sound}
use Rattle.lta_spec.proofs.LabelLaws.{bin-kept, label_kept}
use Rattle.lta_spec.proofs.PickLaws.{bank-is, bin-is, bank-below, index_is}
use Rattle.lta_spec.proofs.SameCell.{Same, tick-same, counter-same, dump-same, dump-answer, send-same}
use Rattle.lta_spec.proofs.SameCell.{integrate-same, integrate-answer, empty-same, pointed-same}
use Rattle.lta_spec.proofs.SameRun.{AllSame, same_set, SameRun, SameDone, engine_of, unit-same}
use Rattle.lta_spec.proofs.SameRun.{at, same, cell-is, binned, loss-is}
use Rattle.lta_spec.proofs.SamePick.{cell_same, cell_below, bin_same, bin-below, bin_ready}
use Rattle.lta_spec.proofs.SameVerdict.{tick-verdict}

-- the entries of a tick's bytes are those of its samples
x-entry : (samples : List ℕ) → x_entry samples ≡ stored_entry (R.x_sample samples)
x-entry samples = ap (entry_word (get_or samples 0 0)) (bit_is (get_or samples 2 0))

y-entry : (samples : List ℕ) → y_entry samples ≡ stored_entry (R.y_sample samples)
y-entry samples = ap (entry_word (get_or samples 1 0)) (bit_is (get_or samples 2 0 / 2))

-- a tick, all cells
tick-units : (sh : Shape) → 2 ≤ sh.lags → (t : ℕ) (samples : List ℕ) (es : List E.Unit) (ms : List R.Unit)
    → AllSame sh t es ms
    → AllSame sh (suc t) (S.tick_units sh samples es) (R.tick_units t samples ms)
unfolding S.tick_units R.tick_units
tick-units sh w t samples [] [] a = a
tick-units sh w t samples [] (m ∷ ms) a = absurd a
tick-units sh w t samples (e ∷ es) [] a = absurd a
tick-units sh w t samples (e ∷ es) (m ∷ ms) a = (
  rw (x-entry samples, y-entry samples) (tick-same sh t w (R.x_sample samples) (R.y_sample samples) e m a.0),
  tick-units sh w t (drop 3 samples) es ms
      a.1,
)

tick-length : (t : ℕ) (samples : List ℕ) (ms : List R.Unit) → length (R.tick_units t samples ms) ≡ length ms
unfolding R.tick_units
tick-length t samples [] = refl
tick-length t samples (m ∷ ms) = ap suc (tick-length t (drop 3 samples) ms)

held-off : (sh : Shape) (t : ℕ) (es : List E.Unit) (ms : List R.Unit) → AllSame sh t es ms
    → S.held_off sh es ≡ R.held_off ms
unfolding S.held_off R.held_off
held-off sh t [] [] a = refl
held-off sh t [] (m ∷ ms) a = absurd a
held-off sh t (e ∷ es) [] a = absurd a
held-off sh t (e ∷ es) (m ∷ ms) a =
    let room = ap (E.has_room sh.lags) (a.0.cell [] []) ∙ room-carry sh.lags m.xs m.ys m.cell in
    rw (room, held-off sh t es ms a.1)

-- the frame of a set is that of its row
pub set-frame : (sh : Shape) (c : ℕ) (xs ys : List Sample) (e : Emitted)
    → S.row_frame sh e.kind c e.bank e.bin (map_stamped (row sh.lags xs ys) e.content)
    ≡ set_frame sh c xs ys e
unfolding S.row_frame set_frame map_stamped
set-frame sh c xs ys e =
    let n = sh.lags in
    let s = e.content.members in
    rw (lags-read n xs ys s, numbers-size n xs ys s, stored-edge n xs ys s, stored-centre n xs ys s)

-- the page: the numbers of the sets are those of their rows, and the sums of the lines are those over the ledger
pub ledger-same : (sh : Shape) (t : ℕ) (es : List E.Unit) (ms : List R.Unit) → AllSame sh t es ms
    → map S.loss_counts es ≡ map (R.loss_counts sh.lags) ms
unfolding map_cell
ledger-same sh t [] [] a = refl
ledger-same sh t [] (m ∷ ms) a = absurd a
ledger-same sh t (e ∷ es) [] a = absurd a
ledger-same sh t (e ∷ es) (m ∷ ms) a =
    ap₂ ◌∷◌
    (ap (λ c. map row_counts c.losses) (a.0.cell [] []) ∙ counts-carry sh.lags m.xs m.ys m.cell.losses)
    (ledger-same sh t es ms a.1)

page-same : (sh : Shape) (es : List E.Unit) (m : R.Run) → AllSame sh m.t es m.units
    → S.loss_page (engine_of sh es m) ≡ R.loss_page sh m
unfolding S.loss_page R.loss_page
page-same sh es m a =
    ap (λ z. page_of z (counts_sum (joined z))) (ledger-same sh m.t es m.units a)
    ∙ ap (page_of _) (ledger-total sh.lags m.units)

-- the places of picks move behind cell c and behind bin k of it
points-same : (sh : Shape) (e : W.Run) (m : R.Run) → SameRun sh e m → (c k : ℕ) → c < sh.cells → k < 2 * sh.bins
    → SameRun sh (S.pointed sh c k e) (R.picked_from sh c k m)
unfolding S.pointed R.picked_from
points-same sh e m s c k h below =
    record {
      t = s.t;
      limit = s.limit;
      cells = length-set m.units c _ ∙ s.cells;
      served = h;
      next = refl;
      units =
          same_set sh m.t e.units m.units c _ _ s.units
          (pointed-same sh m.t _ _ (unit-same sh e m s c h) k below);
    }

-- an accepted call
module _ (sh : Shape) (es : List E.Unit) (m : R.Run) (q : SameRun sh (engine_of sh es m) m) where
  abbrev engine : W.Run
  engine = engine_of sh es m

  -- cell c becomes e' and m'
  put_same : (c : ℕ) (e' : E.Unit) (m' : R.Unit) → Same sh m.t e' m'
      → SameRun sh (S.with_unit sh c e' engine)
      (record { t = m.t; served = m.served; units = set m.units c m' })
  unfolding S.with_unit
  put_same c e' m' s =
      record {
        t = refl;
        limit = q.limit;
        cells = length-set m.units c m' ∙ q.cells;
        served = q.served;
        next = refl;
        units = same_set sh m.t es m.units c e' m' q.units s;
      }

  -- the row of a place of cell c is its set's, whatever bytes come later
  abbrev pub Carried : (c : ℕ) → Stamped E.Row → Stamped M.Ticks → Type 0
  Carried c x y =
      let u = R.unit_at sh c m in
      (gx gy : List Sample) → x ≡ map_stamped (row sh.lags (gx ++ u.xs) (gy ++ u.ys)) y

  pub bin-carried : (c k : ℕ) → ltb c sh.cells ≡ true
      → Carried c (E.bin_at sh.lags k (S.cell_at sh c engine)).content
      (M.bin_at k (R.unit_at sh c m).cell).content
  unfolding map_bin
  bin-carried c k h gx gy = ap (λ b. b.content) (binned sh es m q c h gx gy k)

  pub open-carried : (c : ℕ) → ltb c sh.cells ≡ true
      → Carried c (S.cell_at sh c engine).opened
      (R.unit_at sh c m).cell.opened
  unfolding map_cell
  open-carried c h gx gy = ap (λ z. z.opened) ((same sh es m q c h).cell gx gy)

  -- so the bytes of its frame are the set's
  pub frame_same : (c : ℕ) (e : Emitted) (x : Stamped E.Row) → Carried c x e.content → (gx gy : List Sample)
      → let u = R.unit_at sh c m in
      S.row_frame sh e.kind c e.bank e.bin x ≡ set_frame sh c (gx ++ u.xs) (gy ++ u.ys) e
  frame_same c e x carried gx gy =
      let u = R.unit_at sh c m in
      ap (S.row_frame sh e.kind c e.bank e.bin) (carried gx gy)
      ∙ set-frame sh c (gx ++ u.xs) (gy ++ u.ys) e

  -- a call that sends a frame of cell c, and one that moves its places
  sends-same : (c : ℕ) (e : Emitted) (x : Stamped E.Row) (left : E.Unit) (mp : Cell M.Ticks) (mk : M.Counter)
      (out : List ℕ) → Carried c x e.content
      → let u = R.unit_at sh c m in
      Same sh m.t left
      (record {
        cell = mp;
        counter = mk;
        picked = u.picked;
        frames = e ∷ u.frames;
        xs = u.xs;
        ys = u.ys;
      })
      → SameDone sh
      (S.sends sh e.kind c e.bank e.bin x left out engine)
      (R.sends sh c mp mk e out m)
  unfolding S.sends R.sends S.with_unit R.with_frame
  sends-same c e x left mp mk out carried s =
      record {
        answer = refl;
        out = ap (splice out 0) (frame_same c e x carried [] []);
        run = put_same c _ _ s;
      }

  module _ (c command bank phase : ℕ) (out : List ℕ) (h : ltb c sh.cells ≡ true) (ok : command_ok command ≡ true)
      (rule : bank_ok bank && phase_ok sh phase ≡ true) where
    same-cell : Same sh m.t (S.unit_at sh c engine) (R.unit_at sh c m)
    same-cell = same sh es m q c h

    abbrev k : M.Counter
    k = M.counted sh.start sh.blocks (M.counts_as command) (R.unit_at sh c m).counter

    abbrev l : Label
    l = M.dump_label sh.start sh.blocks command bank phase k.block

    among : CounterSound sh.start sh.blocks k
    among = counted-sound sh.start sh.blocks _ same-cell.good.counter command ok

    dumps-same : (b : Bool) → eqb command speed ≡ b
        → SameDone sh (S.dumps_by sh b c l (E.counted sh.blocks command (S.unit_at sh c engine).counter) out engine)
        (R.dumps_by b sh c l k out m)
    unfolding S.dumps_by R.dumps_by S.with_unit R.with_dump R.speed_sent
    dumps-same true e =
        let b = bin-kept sh command bank phase k rule among in
        sends-same c _ _ _ _ k out (open-carried c h)
        (send-same sh m.t _ _ same-cell bank _ command ok b.0 b.1)
    dumps-same false e =
        record {
          answer = ap number (dump-answer sh m.t _ _ same-cell l);
          out = refl;
          run =
              put_same c _ _
              (dump-same sh m.t _ _ same-cell l command ok (label_kept sh command bank phase k ok rule among e));
        }

  -- an emission
  emits-same : (c bank bin : ℕ) (out : List ℕ) → ltb c sh.cells ≡ true → bank < 2 → bin < sh.bins
      → (M.bin_at (bin_index sh.bins bank bin) (R.unit_at sh c m).cell).state ≡ ready
      → SameDone sh (S.emits sh c bank bin out engine) (R.emits sh c bank bin out m)
  unfolding S.emits R.emits R.emitted
  emits-same c bank bin out h hk hb is =
      sends-same c _ _ _ _ _ out (bin-carried c (bin_index sh.bins bank bin) h)
      (empty-same sh m.t _ _ (same sh es m q c h) bank bin hk hb is)

  -- a pick
  picks-same : (out : List ℕ) → R.some_ready m ≡ true
      → SameDone sh (S.picks_bin sh out engine) (R.picks sh out m)
  unfolding S.picks_bin R.picks
  picks-same out h =
      let B = sh.bins in
      let c = R.picked_cell sh m in
      let u = R.unit_at sh c m in
      let k = M.picked_bin B u.picked u.cell in
      let inside = cell_below sh es m q h in
      let below : k < 2 * B = bin-below sh es m q h in
      let some : 0 < B = omega arith in
      let d =
      emits-same c (k / B) (k % B) out (lt-ltb c sh.cells inside) (bank-below B k some below) (mod-lt k some)
      (ap (λ i. (M.bin_at i u.cell).state) (index_is B k some below) ∙ bin_ready sh es m q h) in
      rw (cell_same sh es m q h, bin_same sh es m q h, bank-is B k some below, bin-is B k some below)
      (record { answer = d.answer; out = d.out; run = points-same sh _ _ d.run c k inside below })

  pub accepted-same : 2 ≤ sh.lags → (call : Call) → first_of (R.call_tests sh m call) ≡ Ok tt
      → SameDone sh (S.accepted sh call engine) (R.accepted sh call m)
  unfolding S.accepted R.accepted R.with_dump R.with_cell
  accepted-same wide (tick samples) v =
      let a = pass (samples_ok sh.cells samples) _ _ v in
      let v = pass (validity_ok sh.cells samples) _ _ a.1 in
      let b = pass (not (eqb m.t run_limit)) _ _ v.1 in
      record {
        answer = ap number (held-off sh m.t es m.units q.units);
        out = refl;
        run =
            record {
              t = refl;
              limit = tick-verdict m.t q.limit b.0;
              cells = tick-length m.t samples m.units ∙ q.cells;
              served = q.served;
              next = refl;
              units = tick-units sh wide m.t samples es m.units q.units;
            };
      }
  accepted-same wide (dump c command bank phase out) v =
      let a = pass (ltb c sh.cells) _ _ v in
      let b = pass (command_ok command) _ _ a.1 in
      let d = pass (bank_ok bank && phase_ok sh phase) _ _ b.1 in
      let s = at sh es m q c a.0 in
      let same = dumps-same c command bank phase out a.0 b.0 d.0 (eqb command speed) refl in
      rw (counter-same sh m.t _ _ s command) (rw (counter-same sh m.t _ _ s command) at same)
  accepted-same wide (integrate c) v =
      let a = pass (ltb c sh.cells) _ _ v in
      let s = at sh es m q c a.0 in
      record {
        answer = ap number (integrate-answer sh m.t _ _ s);
        out = refl;
        run = put_same c _ _ (integrate-same sh m.t _ _ s);
      }
  accepted-same wide (emit c bank bin out) v =
      let a = pass (ltb c sh.cells) _ _ v in
      let b = pass (bank_ok bank && ltb bin sh.bins) _ _ a.1 in
      let d = and_both (bank_ok bank) (ltb bin sh.bins) b.0 in
      let r = pass (eqb (M.bin_at (bin_index sh.bins bank bin) (R.unit_at sh c m).cell).state ready) _ _ b.1 in
      emits-same c bank bin out a.0 (ltb-true bank 2 d.0) (ltb-true bin sh.bins d.1)
      (eqb-true _ ready r.0)
  accepted-same wide (reading c lag loss) v =
      let a = pass (ltb c sh.cells) _ _ v in
      let b = pass (ltb lag sh.lags && (leb 1 loss && leb loss loss_count)) _ _ a.1 in
      let d = and_both (ltb lag sh.lags) _ b.0 in
      let u = R.unit_at sh c m in
      record {
        answer =
            ap (λ z. entry (row_sums lag z)) (loss-is sh es m q c a.0 (loss - 1))
            ∙ ap entry
            (sums-read sh.lags u.xs u.ys (get_or u.cell.losses (loss - 1) []) lag
            (ltb-true lag sh.lags d.0));
        out = refl;
        run = q;
      }
  accepted-same wide (forecast c) v =
      let a = pass (ltb c sh.cells) _ _ v in
      let u = R.unit_at sh c m in
      record {
        answer = rw (
          cell-is sh es m q c a.0,
          forecast-carry sh.lags u.xs u.ys u.cell,
        );
        out = refl;
        run = q;
      }
  accepted-same wide (page out) v =
      record {
        answer = refl;
        out = ap (splice out 0) (page-same sh es m q.units);
        run = q;
      }
  accepted-same wide (pick out) v = picks-same out (pass (R.some_ready m) _ _ v).0
