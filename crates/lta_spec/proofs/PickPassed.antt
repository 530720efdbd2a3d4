-- What the tests of an accepted pick showed: there is a Ready bin where its searches end, and its emission may go on.
use Rattle.std.specs.Prelude.{Ok}
use Prim.Native.Nat.{ℕ, ◌*◌, ◌≤◌, ◌<◌}
use mathlib.Core.Path.{◌≡◌, ap, ◌∙◌}
use mathlib.Core.Bool.{Bool, true, ◌&&◌}
use mathlib.Core.List.{List}
use native.Mathlib.Omega.{arith}
use lib.Dec.{leb, ltb, eqb}
use lib.ListN.{length, get_or}
use borrow.Author.Tests.{leb-true, ltb-true, eqb-true, le-leb}
use Rattle.lta_spec.specs.Words.{every}
use Rattle.lta_spec.specs.Shape.{run_limit}
use Rattle.lta_spec.specs.Place.{ready}
use Rattle.lta_spec.specs.Frame.{accumulated, frame_length}
use Rattle.lta_spec.specs.Call.Call.{pick}
use Rattle.lta_spec.specs.Engine as E
use Rattle.lta_spec.specs.Damage as D
use Rattle.lta_spec.specs.Memory.{Run, run_layout}
use Rattle.lta_spec.specs.Step as S
use Rattle.lta_spec.specs.declared.Shape.{Shape}
use Rattle.lta_spec.proofs.TestLaws.{and_both, and-le, every-at, some_at, pass}
use Rattle.lta_spec.proofs.MemoryLaws.{UnitOk, run-law, run-width}
use Rattle.lta_spec.proofs.PickLaws.{seek-holds, seek-below, engine-bank, engine-bin, engine-index}
use Rattle.lta_spec.proofs.ReadyLaws.{ready-some}
use Rattle.lta_spec.proofs.Passed.{tests, words-passed, unit-sized, EmitPassed}

-- of a cell that a pick tested and that has a Ready bin: the bin at which its search ends
module _ (n B t : ℕ) (u : E.Unit) (sized : UnitOk n B u) (ok : D.pick_sound B t u ≡ true)
    (some : 1 ≤ u.picks.ready_bins) where
  pub record BinPassed (k : ℕ) : Type 0 where
    pub below : k < 2 * B
    pub is : (E.bin_at n k u.cell).state ≡ ready
    pub sound : D.emit_sound n t k u.cell ≡ true

  pub bin-passed : BinPassed (E.picked_bin n B u)
  unfolding D.pick_sound D.emit_sound E.picked_bin E.bin_at
  bin-passed =
      let bins = u.cell.bins in
      let long = sized.bins.0 in
      let x = and_both (every (D.bin_ok t) bins) _ ok in
      let y = and_both (eqb u.picks.ready_bins (D.count_ready bins)) _ x.1 in
      let counted = eqb-true u.picks.ready_bins (D.count_ready bins) y.0 in
      let i = some_at (λ b. eqb b.state ready) bins (E.free_bin n)
      (ready-some bins ∙ le-leb 1 (D.count_ready bins) (omega arith)) in
      let f : ℕ → Bool = λ k. eqb (get_or bins k (E.free_bin n)).state ready in
      let found =
      seek-holds f (2 * B) u.picks.next i.at (ltb-true _ _ y.1) (omega (arith, i.inside)) i.holds in
      record {
        below = found.0;
        is = eqb-true _ ready found.1;
        sound = every-at (D.bin_ok t) bins x.0 _ (E.free_bin n) (omega (arith, found.0));
      }

module _ (sh : Shape) (mem : List ℕ) where
  abbrev run : Run
  run = (run_layout sh).get mem

  -- the cell and the bin that a pick takes
  abbrev pub cell : ℕ
  cell = S.picked_cell sh run

  abbrev pub bin : ℕ
  bin = E.picked_bin sh.lags sh.bins (S.unit_at sh cell run)

  pub record PickPassed (bytes : ℕ) : Type 0 where
    pub below : bin < 2 * sh.bins
    pub emits : EmitPassed sh mem cell (E.bank_of sh.bins bin) (E.data_bin_of sh.bins bin) bytes

  pub pick-passed : (out : List ℕ) → S.verdict sh mem (pick out) ≡ Ok tt → PickPassed (length out)
  unfolding S.picked_cell
  pick-passed out v =
      let n = sh.lags in
      let B = sh.bins in
      let sound = D.picks_sound B run.t run.units in
      let place = ltb run.next sh.cells in
      let x = pass (leb run.t run_limit && (sound && place)) _ _ (tests sh mem (pick out) v).1 in
      let y = pass (S.some_ready sh cell run) _ _ x.1 in
      let z = pass (leb (frame_length accumulated n) (length out)) _ _ y.1 in
      let t = and-le run.t run_limit _ x.0 in
      let s = and_both sound _ t.1 in
      let size = words-passed sh mem _ v in
      let inside : cell < sh.cells =
      seek-below (λ c. S.some_ready sh c run) sh.cells sh.cells run.next (ltb-true _ _ s.1) in
      let cells = ((run-law sh).fits mem (omega (arith, run-width sh))).1.0.0 in
      let some = ltb-true 0 _ y.0 in
      let b =
      bin-passed n B run.t (S.unit_at sh cell run) (unit-sized sh mem cell size inside)
      (every-at (D.pick_sound B run.t) run.units s.0 cell (E.fresh_unit n B) (omega arith)) some in
      let many : 0 < B = omega (arith, b.below) in
      let at = engine-index B bin many b.below in
      record {
        below = b.below;
        emits =
            record {
              in_cells = inside;
              in_banks = engine-bank B bin many b.below;
              in_bins = engine-bin B bin many b.below;
              time = t.0;
              sound = ap (λ k. D.emit_sound n run.t k (S.cell_at sh cell run)) at ∙ b.sound;
              some = some;
              room = leb-true _ _ z.0;
            };
      }
