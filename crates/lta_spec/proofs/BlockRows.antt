-- The rows of the block counter: the machine's by computing, work memory's by demand 3.
use Prim.Native.Nat.{ℕ, ◌<◌}
use mathlib.Core.Path.{◌≡◌, refl, ap, ◌∙◌}
use mathlib.Core.Bool.{true}
use mathlib.Core.List.{List}
use native.Mathlib.Omega.{arith}
use Rattle.lta_spec.specs.Shape.{lag_count_ok, shape_ok}
use Rattle.lta_spec.specs.Size.{memory_words, host_tests}
use Rattle.lta_spec.specs.Call.{Call, command_ok, dump_fits, phase_ok}
use Rattle.lta_spec.specs.Machine as M
use Rattle.lta_spec.specs.MachineRun as R
use Rattle.lta_spec.specs.Demand.{machine_run, machine_after}
use Rattle.lta_spec.specs.BlockRows.{called_on, Ends, three_blocks, one_block, BlockRows}
use Rattle.lta_spec.specs.declared.Shape.{Shape}
use Rattle.lta_spec.proofs.Passed.{dump-passed}
use Rattle.lta_spec.proofs.Demand.{on-run, demand3}

-- work memory ends as the machine does
ends : (sh : Shape) → shape_ok sh ≡ true → 0 < sh.cells → (calls : List Call) (block bin : ℕ)
    → (R.unit_at sh 0 (machine_after sh (called_on calls))).counter.block ≡ block
    → (R.unit_at sh 0 (machine_after sh (called_on calls))).cell.held.label.bin ≡ bin
    → Ends sh calls block bin
ends sh ok some calls block bin p q =
    let same = (demand3 sh ok (called_on calls) (on-run (λ c. c) calls)).cells 0 some in
    record {
      machine-block = p;
      machine-bin = q;
      engine-block = same.block ∙ p;
      engine-bin = ap (λ l. l.bin) same.label ∙ q;
    }

pub block-rows : BlockRows
unfolding
    lag_count_ok shape_ok memory_words host_tests command_ok dump_fits phase_ok M.lose M.lose_open M.hold_open M.dump_by M.dump_cell
    M.send_open M.counts_as M.returns M.one_on M.counted M.release M.state_after M.stamp_after M.integrate_by M.bin_at
    M.integrate_at M.integrate_cell R.verdict R.with_dump R.with_cell R.with_frame R.sends R.emits R.dumps_by R.accepted
    R.step machine_run
block-rows =
    record {
      first-save = ends three_blocks refl (omega arith) _ _ _ refl refl;
      first-add = ends three_blocks refl (omega arith) _ _ _ refl refl;
      first-last = ends three_blocks refl (omega arith) _ _ _ refl refl;
      first-discard = ends three_blocks refl (omega arith) _ _ _ refl refl;
      one_on = ends three_blocks refl (omega arith) _ _ _ refl refl;
      last_block = ends three_blocks refl (omega arith) _ _ _ refl refl;
      back = ends three_blocks refl (omega arith) _ _ _ refl refl;
      single = ends one_block refl (omega arith) _ _ _ refl refl;
      discard = ends three_blocks refl (omega arith) _ _ _ refl refl;
      behind-discard = ends three_blocks refl (omega arith) _ _ _ refl refl;
      last-behind-save = ends three_blocks refl (omega arith) _ _ _ refl refl;
      last-behind-add = ends three_blocks refl (omega arith) _ _ _ refl refl;
      last-behind-last = ends three_blocks refl (omega arith) _ _ _ refl refl;
      last-behind-discard = ends three_blocks refl (omega arith) _ _ _ refl refl;
      idle-first = ends three_blocks refl (omega arith) _ _ _ refl refl;
      idle-moves-nothing = ends three_blocks refl (omega arith) _ _ _ refl refl;
      idle-behind-add = ends three_blocks refl (omega arith) _ _ _ refl refl;
      idle-behind-last = ends three_blocks refl (omega arith) _ _ _ refl refl;
      overrun = ends three_blocks refl (omega arith) _ _ _ refl refl;
      overrun-counts = ends three_blocks refl (omega arith) _ _ _ refl refl;
      first-speed = ends three_blocks refl (omega arith) _ _ _ refl refl;
      speed-one-on = ends three_blocks refl (omega arith) _ _ _ refl refl;
      speed-behind-save = ends three_blocks refl (omega arith) _ _ _ refl refl;
      last-behind-speed = ends three_blocks refl (omega arith) _ _ _ refl refl;
      speed-behind-last = ends three_blocks refl (omega arith) _ _ _ refl refl;
      speed-over-held = ends three_blocks refl (omega arith) _ _ _ refl refl;
      refused = ends three_blocks refl (omega arith) _ _ _ refl refl;
      refused-counts-not = ends three_blocks refl (omega arith) _ _ _ refl refl;
      bin-below = λ sh mem c command bank phase out v. (dump-passed sh mem c command bank phase out v).bin;
    }
