-- What the tests of an accepted pick showed, and the words of the places of picks.
use Rattle.std.specs.Prelude.{Ok}
use mathlib.Core.Path.{◌≡◌, sym, ap, ◌∙◌, subst}
use mathlib.Core.Bool.{true, ◌&&◌}
use mathlib.Core.List.{List}
use Prim.Native.Nat.{ℕ, ◌+◌, ◌*◌, ◌-◌, ◌<◌}
use native.Mathlib.Omega.{arith}
use lib.Dec.{ltb, eqb}
use lib.ListN.{length, set}
use borrow.Author.Tests.{ltb-true}
use Rattle.lta_spec.specs.Words.{splice, every}
use Rattle.lta_spec.specs.Refusals.{first_of}
use Rattle.lta_spec.specs.Size.{host_tests}
use Rattle.lta_spec.specs.Call.Call.{pick}
use Rattle.lta_spec.specs.Engine as E
use Rattle.lta_spec.specs.Damage as D
use Rattle.lta_spec.specs.Memory.{run_layout}
use Rattle.lta_spec.specs.Step as S
use Rattle.lta_spec.specs.declared.Shape.{Shape}
use Rattle.lta_spec.proofs.TestLaws.{and_both, every-at}
use Rattle.lta_spec.proofs.MemoryLaws.{run-width}
use Rattle.lta_spec.proofs.PickPassed.{pick-passed}
use Rattle.cell_layout.specs.Lays.{Lays}
use Rattle.cell_layout.specs.Offsets.{next_bin_at, cell_at}
use Rattle.cell_layout.proofs.LaysLaws.{lays-set, lays-to}
use Rattle.cell_layout.proofs.Fields as F
use Rattle.call_run.specs.Runs.{Celled, run_of}
use Rattle.call_run.proofs.RunLaws.{length-is, whole, next_last, units-length}
use Rattle.call_run.proofs.FirstLaws.{both-passed}
use Rattle.call_run.proofs.StepLaws.{sound-shown}
use Rattle.call_emit.specs.Emission.{EmitsFrom, frame_at, emitted}
use Rattle.call_pick.specs.Picking.{PicksFrom, cell_of}

-- the place of a cell that a pick tested
turn-within : (bins t : ℕ) (u : E.Unit) → D.pick_sound bins t u ≡ true → u.picks.next < 2 * bins
unfolding D.pick_sound
turn-within bins t u ok =
    let x = and_both (every (D.bin_ok t) u.cell.bins) _ ok in
    ltb-true _ _ (and_both (eqb u.picks.ready_bins (D.count_ready u.cell.bins)) _ x.1).1

pub picks : (s : Shape) (mem out : List ℕ) → (Ok tt) ≡ S.verdict s mem (pick out) → PicksFrom s mem out
unfolding run_of S.verdict
picks s mem out e =
    let r = run_of s mem in
    let p = pick-passed s mem out (sym e) in
    let q = both-passed (host_tests s (length mem)) (S.call_tests s (pick out) r) (sym e) in
    let x = sound-shown r.t (D.picks_sound s.bins r.t r.units && ltb r.next s.cells) _ q.1 in
    let y = and_both (D.picks_sound s.bins r.t r.units) _ x.1 in
    let c = cell_of s mem in
    let inside : c < length r.units = omega (arith, p.emits.in_cells, units-length s mem q.0) in
    record {
      hosted = q.0;
      place = ltb-true _ _ y.1;
      turn =
          turn-within s.bins r.t (S.unit_at s c r)
          (every-at (D.pick_sound s.bins r.t) r.units y.0 c _ inside);
      below = p.below;
      emits =
          record {
            cell = record { hosted = q.0; there = p.emits.in_cells };
            named = record { banked = p.emits.in_banks; numbered = p.emits.in_bins };
            limited = p.emits.time;
            sound = p.emits.sound;
            some = p.emits.some;
            room = p.emits.room;
          };
    }

-- the two words of the places, stored one after the other
pub lays-pointed : (s : Shape) (mem : List ℕ) (c k : ℕ) → Celled s mem c → {at p q : ℕ}
    → at ≡ cell_at s.lags s.bins c → p ≡ E.after s.cells c → q ≡ E.after (2 * s.bins) k
    → Lays (run_layout s) (set (set mem (length mem - 1) p) (at + next_bin_at) q) (S.pointed s c k (run_of s mem))
unfolding S.pointed
lays-pointed s mem c k h e p q =
    let n = s.lags in
    let B = s.bins in
    rw (e, p, q, ← next_last s mem h.hosted)
    (lays-set (lays-set (whole s mem h.hosted) (F.next_cell s) (E.after s.cells c))
    (F.cell_word s c h.there (F.next_bin n B)) (E.after (2 * B) k))

-- what code finds: the cell, the place of the bin in it, its bank and its data bin
pub record Chosen (s : Shape) (mem : List ℕ) (c k bank bin : ℕ) : Type 0 where
  pub cell : c ≡ cell_of s mem
  pub place : k ≡ E.picked_bin s.lags s.bins (S.unit_at s c (run_of s mem))
  pub in_bank : bank ≡ E.bank_of s.bins k
  pub in_bin : bin ≡ E.data_bin_of s.bins k

module _ {s : Shape} {mem out : List ℕ} (q : PicksFrom s mem out) {c k bank bin : ℕ} (h : Chosen s mem c k bank bin)
  where
    pub chosen-emits : EmitsFrom s mem c bank bin out
    chosen-emits = rw (h.in_bin, h.in_bank, h.place, h.cell) q.emits

    pub chosen-below : k < 2 * s.bins
    chosen-below = rw (h.place, h.cell) q.below

    -- the frame, and the run with its places
    pub chosen-frame : splice out 0 (frame_at s c bank bin (run_of s mem)) ≡ (S.picks_bin s out (run_of s mem)).out
    unfolding S.picks_bin S.emits S.sends
    chosen-frame = rw (h.in_bin, h.in_bank, h.place, h.cell)

    chosen-run : S.pointed s c k (emitted s c bank bin (run_of s mem)) ≡ (S.picks_bin s out (run_of s mem)).run
    unfolding S.picks_bin S.emits S.sends
    chosen-run = rw (h.in_bin, h.in_bank, h.place, h.cell)

    -- behind the emission work memory is still that of a run, and the places move there
    module _ {sent : List ℕ} (l : Lays (run_layout s) sent (emitted s c bank bin (run_of s mem))) where
      pub still-celled : Celled s sent c
      still-celled =
          let long : length mem ≡ length sent =
          length-is s mem q.hosted ∙ sym (run-width s) ∙ sym l.size in
          record {
            hosted = subst (λ n. first_of (host_tests s n) ≡ Ok tt) long q.hosted;
            there = chosen-emits.cell.there;
          }

      pub chosen-leaves : {left : List ℕ} → Lays (run_layout s) left (S.pointed s c k (run_of s sent))
          → Lays (run_layout s) left (S.picks_bin s out (run_of s mem)).run
      unfolding run_of
      chosen-leaves v = lays-to v (ap (S.pointed s c k) l.is ∙ chosen-run)
