-- What the tests of an accepted call on a run showed: of any call, of a dump, of an emission; and the parts of a dump's
-- test of 11.
use Rattle.std.specs.Prelude.{Ok}
use Prim.Native.Nat.{ℕ, ◌+◌, ◌*◌, ◌≤◌, ◌<◌}
use mathlib.Core.Path.{◌≡◌, refl, sym, ◌∙◌}
use mathlib.Core.Bool.{Bool, true, false, not, ◌&&◌, ◌||◌}
use mathlib.Core.List.{List}
use native.Mathlib.Omega.{arith}
use lib.Dec.{leb, ltb, eqb}
use lib.ListN.{length}
use borrow.Author.Tests.{leb-true, ltb-true, eqb-true, eqb-false, not-true}
use Rattle.lta_spec.specs.Refusals.{first_of}
use Rattle.lta_spec.specs.Shape.{shape_ok, run_limit, open_limit}
use Rattle.lta_spec.specs.Size.{memory_words, host_tests}
use Rattle.lta_spec.specs.Place.{ready}
use Rattle.lta_spec.specs.Frame.{accumulated, frame_length}
use Rattle.lta_spec.specs.Call.{Call, discard, idle, command_ok, dump_fits, phase_ok, bank_ok, bin_index}
use Rattle.lta_spec.specs.Call.Call.{dump, emit}
use Rattle.lta_spec.specs.Engine as E
use Rattle.lta_spec.specs.Damage as D
use Rattle.lta_spec.specs.Memory.{Run, run_layout}
use Rattle.lta_spec.specs.Step as S
use Rattle.lta_spec.specs.declared.Shape.{Shape}
use Rattle.lta_spec.proofs.TestLaws.{and_both, and-le, pass, pass-both, first-append}
use Rattle.lta_spec.proofs.LayoutLaws.{all-get}
use Rattle.lta_spec.proofs.MemoryLaws.{UnitOk, run-law, run-width}
use Rattle.lta_spec.proofs.BlockLaws.{offset-below, phase-below}

-- 6 leaves the commands up to 111
command-small : (c : ℕ) → command_ok c ≡ true → c ≤ idle
unfolding command_ok
command-small c ok = by-test (leb c discard) (eqb c idle) refl refl ok
  where
    by-test : (x y : Bool) → leb c discard ≡ x → eqb c idle ≡ y → x || y ≡ true → c ≤ idle
    by-test true y p q h = omega (arith, leb-true c discard p)
    by-test false true p q h = omega (arith, eqb-true c idle q)
    by-test false false p q h = let w : ◌≡◌ {A = ℕ} 0 1 = cc in absurd (omega arith)

-- 11 at a dump: the block counter and the cell's parts, Open among them
module _ (n bins blocks t command : ℕ) (u : E.Unit) (ok : D.dump_unit_sound n bins blocks t command u ≡ true) where
  pub dump-tested : (D.counter_ok blocks u.counter ≡ true) × (D.dump_sound n bins t command u.cell ≡ true)
  unfolding D.dump_unit_sound
  dump-tested = and_both (D.counter_ok blocks u.counter) _ ok

  pub open-tested : D.content_ok open_limit t u.cell.opened ≡ true
  unfolding D.dump_sound D.dump_parts
  open-tested = (and_both (D.open_ok t u.cell) _ (and_both (D.dump_parts bins t u.cell) _ dump-tested.1).0).0

-- work memory of the right length: cell c of its run has its words
pub unit-sized : (sh : Shape) (mem : List ℕ) (c : ℕ) → length mem ≡ memory_words sh → c < sh.cells
    → UnitOk sh.lags sh.bins (S.unit_at sh c ((run_layout sh).get mem))
unit-sized sh mem c words inside =
    let n = sh.lags in
    let B = sh.bins in
    let ok = (run-law sh).fits mem (omega (arith, run-width sh, words)) in
    all-get (UnitOk n B) ((run_layout sh).get mem).units (E.fresh_unit n B) ok.1.0.1 c
    (omega (arith, ok.1.0.0, inside))

-- 11 at an emission: the Ready number is not 0 where the bin is Ready
number-some : (bins number : ℕ) (is_ready : Bool) → is_ready ≡ true → D.number_fits bins number is_ready ≡ true
    → 1 ≤ number
unfolding D.number_fits
number-some bins number is_ready is ok =
    let fits : leb number (2 * bins) && not (eqb number 0) ≡ true = rw is at ok in
    let other : number ≡ 0 → ⊥ =
    eqb-false number 0 (not-true _ (and_both (leb number (2 * bins)) (not (eqb number 0)) fits).1) in
    omega arith

module _ (sh : Shape) (mem : List ℕ) where
  abbrev run : Run
  run = (run_layout sh).get mem

  -- 1 and 2, and the call's own
  module _ (call : Call) (v : S.verdict sh mem call ≡ Ok tt) where
    pub tests : (first_of (host_tests sh (length mem)) ≡ Ok tt) × (first_of (S.call_tests sh call run) ≡ Ok tt)
    unfolding S.verdict
    tests = pass-both (first_of (host_tests sh (length mem))) _ (sym (first-append (host_tests sh (length mem)) _) ∙ v)

    pub shape-passed : shape_ok sh ≡ true
    unfolding host_tests
    shape-passed = (pass (shape_ok sh) _ _ tests.0).0

    pub words-passed : length mem ≡ memory_words sh
    unfolding host_tests
    words-passed =
        eqb-true _ _ (pass (eqb (length mem) (memory_words sh)) _ _ (pass (shape_ok sh) _ _ tests.0).1).0

  pub record DumpPassed (c command bank phase bytes : ℕ) : Type 0 where
    pub in_cells : c < sh.cells
    pub known : command ≤ idle
    pub in_banks : bank < 2
    pub time : run.t ≤ run_limit
    pub sound : D.dump_unit_sound sh.lags sh.bins sh.blocks run.t command (S.unit_at sh c run) ≡ true
    -- the data bin of its label is one of the bank's
    pub bin : phase * sh.blocks + (E.counted sh.blocks command (S.unit_at sh c run).counter).offset < sh.bins
    pub room : dump_fits sh.lags command bytes ≡ true

  pub dump-passed : (c command bank phase : ℕ) (out : List ℕ)
      → S.verdict sh mem (dump c command bank phase out) ≡ Ok tt → DumpPassed c command bank phase (length out)
  dump-passed c command bank phase out v =
      let u = S.unit_at sh c run in
      let x = pass (ltb c sh.cells) _ _ (tests (dump c command bank phase out) v).1 in
      let y = pass (command_ok command) _ _ x.1 in
      let z = pass (bank_ok bank && phase_ok sh phase) _ _ y.1 in
      let q = pass (leb run.t run_limit && D.dump_unit_sound sh.lags sh.bins sh.blocks run.t command u) _ _
      z.1 in
      let w = pass (dump_fits sh.lags command (length out)) _ _ q.1 in
      let named = and_both (bank_ok bank) _ z.0 in
      let t = and-le run.t run_limit _ q.0 in
      record {
        in_cells = ltb-true c sh.cells x.0;
        known = command-small command y.0;
        in_banks = ltb-true bank 2 named.0;
        time = t.0;
        sound = t.1;
        bin =
            phase-below sh phase _ named.1
            (offset-below sh.blocks command u.counter (dump-tested _ _ sh.blocks _ command u t.1).0);
        room = w.0;
      }

  pub record EmitPassed (c bank bin bytes : ℕ) : Type 0 where
    pub in_cells : c < sh.cells
    pub in_banks : bank < 2
    pub in_bins : bin < sh.bins
    pub time : run.t ≤ run_limit
    pub sound : D.emit_sound sh.lags run.t (bin_index sh.bins bank bin) (S.cell_at sh c run) ≡ true
    -- there is a Ready bin to count off
    pub some : 1 ≤ (S.unit_at sh c run).picks.ready_bins
    pub room : frame_length accumulated sh.lags ≤ bytes

  pub emit-passed : (c bank bin : ℕ) (out : List ℕ) → S.verdict sh mem (emit c bank bin out) ≡ Ok tt
      → EmitPassed c bank bin (length out)
  unfolding D.emit_unit_sound
  emit-passed c bank bin out v =
      let k = bin_index sh.bins bank bin in
      let x = pass (ltb c sh.cells) _ _ (tests (emit c bank bin out) v).1 in
      let y = pass (bank_ok bank && ltb bin sh.bins) _ _ x.1 in
      let u = S.unit_at sh c run in
      let z = pass (leb run.t run_limit && D.emit_unit_sound sh.lags sh.bins run.t k u) _ _ y.1 in
      let q = pass (eqb (E.bin_at sh.lags k (S.cell_at sh c run)).state ready) _ _ z.1 in
      let w = pass (leb (frame_length accumulated sh.lags) (length out)) _ _ q.1 in
      let named = and_both (bank_ok bank) _ y.0 in
      let t = and-le run.t run_limit _ z.0 in
      let s = and_both (D.emit_sound sh.lags run.t k u.cell) _ t.1 in
      record {
        in_cells = ltb-true c sh.cells x.0;
        in_banks = ltb-true bank 2 named.0;
        in_bins = ltb-true bin sh.bins named.1;
        time = t.0;
        sound = s.0;
        some = number-some sh.bins u.picks.ready_bins _ q.0 s.1;
        room = leb-true _ _ w.0;
      }
