-- The edges P1 to P12 of document 01. The calls of P1 and of the worked run are taken through the plain machine; the
-- engine on work memory returns the same by demand 3.
use Prim.Native.Nat.{ℕ, ◌+◌}
use mathlib.Core.Path.{◌≡◌, refl, ◌∙◌}
use mathlib.Core.Bool.{Bool, true, false}
use native.Mathlib.Omega.{arith}
use lib.Dec.{ltb, eqb}
use lib.Seq.{get_or-set_same}
use borrow.Author.Tests.{lt-ltb, le-ltb}
use Rattle.lta_spec.specs.Shape.{lag_count_ok, shape_ok, open_limit, bin_limit}
use Rattle.lta_spec.specs.Size.{memory_words, host_tests}
use Rattle.lta_spec.specs.Tick.{
  from_sample,
  product,
  weight,
  in_phase,
  quadrature,
  valid_at,
  in_phase_at,
  quadrature_at,
}
use Rattle.lta_spec.specs.Words.{part}
use Rattle.lta_spec.specs.Place.{Label, Cell}
use Rattle.lta_spec.specs.Decimal.{decimal_within, decimal, right_aligned}
use Rattle.lta_spec.specs.Page.{counts_sum, page_line, cell_lines, ledger_lines, page_of, page_length}
use Rattle.lta_spec.specs.Frame.{sealed, frame_of, header, length_kind, fields_of, fixed_ok, fields_ok, bias_ok}
use Rattle.lta_spec.specs.FrameCalls.{marked, summed, ruled, normal_verdict}
use Rattle.lta_spec.specs.Call.{validity_ok, discard, command_ok, dump_fits, phase_ok, emitted_fields}
use Rattle.lta_spec.specs.Machine as M
use Rattle.lta_spec.specs.Machine.{Ticks}
use Rattle.lta_spec.specs.Numbers as N
use Rattle.lta_spec.specs.MachineRun as R
use Rattle.lta_spec.specs.Engine as E
use Rattle.lta_spec.specs.Demand.{machine_returns, engine_returns, fresh_mem}
use Rattle.lta_spec.specs.WorkedRun.{worked_shape, worked_run, calls_of, returned_by}
use Rattle.lta_spec.specs.Edges.{Edges, script_shape, script, script_returned}
use Rattle.lta_spec.proofs.Demand.{on-run, demand3}
use Rattle.lta_spec.proofs.BlockRows.{block-rows}

machine-returned : (machine_returns script_shape script (R.start script_shape) ≡ script_returned)
    × (machine_returns worked_shape (calls_of worked_run) (R.start worked_shape) ≡ returned_by worked_run)
unfolding
    lag_count_ok shape_ok memory_words host_tests from_sample product weight in_phase quadrature valid_at in_phase_at
    quadrature_at sealed frame_of header validity_ok command_ok dump_fits phase_ok emitted_fields M.lose M.has_room M.tick_by
    M.tick_cell
    M.forecast_of M.lose_open M.hold_open M.dump_by M.dump_cell M.send_open M.counts_as M.returns M.one_on M.counted M.release
    M.state_after M.stamp_after M.integrate_by M.bin_at M.integrate_at M.integrate_cell M.empty_bin N.up_to N.in_phase_sum
    N.quadrature_sum N.valid_count N.set_counts N.set_frame decimal_within decimal right_aligned counts_sum page_line
    cell_lines ledger_lines page_of page_length R.loss_page R.verdict R.tick_units R.held_off R.with_dump R.with_cell R.emitted
    R.speed_sent R.with_frame R.sends R.emits R.dumps_by R.accepted R.step machine_returns
machine-returned = (refl, refl)

-- the engine returns what the machine returns: demand 3
engine-returned : (engine_returns script_shape script (fresh_mem script_shape) ≡ script_returned)
    × (engine_returns worked_shape (calls_of worked_run) (fresh_mem worked_shape) ≡ returned_by worked_run)
unfolding lag_count_ok shape_ok
engine-returned = (
  (demand3 script_shape refl script (tt, (tt, (tt, (tt, (tt, (tt, (tt, tt)))))))).tells ∙ machine-returned.0,
  (demand3 worked_shape refl (calls_of worked_run) (on-run (λ l. l.call) worked_run)).tells ∙ machine-returned.1,
)

-- the two sides of a bin's ceiling
narrow : (a b : ℕ) → a ≡ 16777214 → b ≡ 1 → ltb bin_limit (a + b) ≡ false
narrow a b e f = le-ltb bin_limit (a + b) (omega arith)

wide : (a b : ℕ) → a ≡ 16777214 → b ≡ 2 → ltb bin_limit (a + b) ≡ true
wide a b e f = lt-ltb bin_limit (a + b) (omega arith)

room : (a : ℕ) → a ≡ 524287 → ltb a open_limit ≡ true
room a e = lt-ltb a open_limit (omega arith)

no_room : (a : ℕ) → a ≡ 524288 → ltb a open_limit ≡ false
no_room a e = le-ltb a open_limit (omega arith)

-- a dump other than 111 stamps Open with t
dumped : (dropped occupied : Bool) (l : Label) (t : ℕ) (c : Cell Ticks)
    → (M.dump_by false dropped occupied l t c).cell.opened.stamp ≡ t
unfolding M.dump_by M.lose_open M.hold_open
dumped true occupied l t c = refl
dumped false true l t c = refl
dumped false false l t c = refl

pub edges : Edges
unfolding
    from_sample product weight in_phase quadrature validity_ok phase_ok M.tick_cell M.tick_by M.has_room E.tick_by E.has_room
    M.integrate_at M.integrate_by M.state_after M.stamp_after E.integrate_at E.integrate_by M.dump_by M.dump_cell M.release
    M.bin_at M.empty_bin M.forecast_of E.forecast_of lag_count_ok normal_verdict marked summed ruled fields_of fixed_ok
    fields_ok length_kind bias_ok part
edges =
    record {
      p1-machine = machine-returned.0;
      p1-engine = engine-returned.0;
      worked-machine = machine-returned.1;
      worked-engine = engine-returned.1;
      worked-bytes = refl;
      p2-lag0 = (refl, refl);
      p2-lag1 = (refl, refl);
      p3 = (refl, refl);
      p3-ahead = (refl, refl);
      p3-behind = (refl, refl);
      p3-one-ahead = (refl, refl);
      p3-one-behind = (refl, refl);
      least-by-least = (refl, refl);
      least-turned = (refl, refl);
      least-by-most = (refl, refl);
      clear-x = (refl, refl);
      clear-y = (refl, refl);
      clear-counts = refl;
      least-counts = refl;
      p4 = refl;
      p5 = (refl, refl);
      p6 = refl;
      p7 = refl;
      blocks = block-rows;
      bin-order = refl;
      last-tick = refl;
      run-full = refl;
      validity = refl;
      other-bits = refl;
      next-cell = refl;
      samples-first = refl;
      refusal-numbers = refl;
      first-applies = refl;
      loss-numbers = refl;
      loss-places = refl;
      p8-machine = λ t c h. rw (room _ h) (refl, refl);
      p8-engine = λ n row c h. rw (room _ h) (refl, refl);
      p9-machine = λ t c h. rw (no_room _ h) (refl, refl);
      p9-engine = λ n row c h. rw (no_room _ h) (refl, refl);
      forecast-machine = λ k c h. omega arith;
      forecast-engine = λ k c h. omega arith;
      dump-stamp = λ l t c h. rw h (dumped (eqb l.command discard) (eqb c.held.occupied 1) l t c);
      idle-stamp = λ l t c h. rw h;
      bin-stamp = λ new old. (refl, refl);
      emptied-held = λ k b ls c. (refl, refl);
      emptied-bin = λ k c h. get_or-set_same c.bins k _ M.free_bin h;
      p10-machine = λ k b c a o p. rw (a.is_filling, a.adds, narrow _ _ o p);
      p10-joins = λ k b c a o p. rw (a.is_filling, a.adds, narrow _ _ o p);
      p10-engine = λ n k b c a o p. rw (a.is_filling, a.adds, narrow _ _ o p);
      p11-machine = λ k b c a o p. rw (a.is_filling, a.adds, wide _ _ o p);
      p11-lost = λ k b c a o p. rw (a.is_filling, a.adds, wide _ _ o p);
      p11-engine = λ n k b c a o p. rw (a.is_filling, a.adds, wide _ _ o p);
      normalised = refl;
      p12 = refl;
    }
