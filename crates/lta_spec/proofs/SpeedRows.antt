-- The rows of speed dumps: the machine's by computing, the engine's by demand 3.
use mathlib.Core.Path.{◌≡◌, refl, ◌∙◌}
use Rattle.lta_spec.specs.Words.{part}
use Rattle.lta_spec.specs.Shape.{lag_count_ok, shape_ok}
use Rattle.lta_spec.specs.Size.{memory_words, host_tests}
use Rattle.lta_spec.specs.Tick.{from_sample, product, weight, in_phase, quadrature}
use Rattle.lta_spec.specs.Tick.{valid_at, in_phase_at, quadrature_at}
use Rattle.lta_spec.specs.Frame.{sealed, frame_of, header, length_kind, fields_of, fixed_ok, fields_ok, bias_ok}
use Rattle.lta_spec.specs.FrameCalls.{marked, summed, ruled, normal_verdict}
use Rattle.lta_spec.specs.Call.{validity_ok, command_ok, dump_fits, phase_ok, emitted_fields}
use Rattle.lta_spec.specs.Machine as M
use Rattle.lta_spec.specs.Numbers as N
use Rattle.lta_spec.specs.MachineRun as R
use Rattle.lta_spec.specs.Demand.{machine_returns}
use Rattle.lta_spec.specs.WorkedRun.{calls_of, returned_by, worked_shape}
use Rattle.lta_spec.specs.Edges.{script_shape}
use Rattle.lta_spec.specs.SpeedRows.{SpeedRows, speed_script, speed_run}
use Rattle.lta_spec.proofs.Demand.{on-run, demand3}

machine-returned : (machine_returns script_shape (calls_of speed_script) (R.start script_shape) ≡ returned_by speed_script)
    × (machine_returns worked_shape (calls_of speed_run) (R.start worked_shape) ≡ returned_by speed_run)
unfolding
    lag_count_ok shape_ok memory_words host_tests from_sample product weight in_phase quadrature valid_at in_phase_at
    quadrature_at sealed frame_of header validity_ok command_ok dump_fits phase_ok emitted_fields M.lose M.has_room M.tick_by
    M.tick_cell
    M.lose_open M.hold_open M.dump_by M.dump_cell M.send_open M.counts_as M.returns M.one_on M.counted M.release
    M.state_after M.stamp_after M.integrate_by M.bin_at M.integrate_at M.integrate_cell M.empty_bin N.up_to N.in_phase_sum
    N.quadrature_sum N.valid_count N.set_frame R.verdict R.tick_units R.held_off R.with_dump R.with_cell R.emitted R.speed_sent
    R.with_frame R.sends R.emits R.dumps_by R.accepted R.step machine_returns
machine-returned = (refl, refl)

pub speed-rows : SpeedRows
unfolding lag_count_ok shape_ok normal_verdict marked summed ruled length_kind fields_of fixed_ok fields_ok bias_ok part
speed-rows =
    record {
      script =
          record {
            machine = machine-returned.0;
            engine =
                (demand3 script_shape refl (calls_of speed_script) (on-run (λ l. l.call) speed_script)).tells
                ∙ machine-returned.0;
          };
      run =
          record {
            machine = machine-returned.1;
            engine =
                (demand3 worked_shape refl (calls_of speed_run) (on-run (λ l. l.call) speed_run)).tells
                ∙ machine-returned.1;
          };
      normalised = refl;
      length = refl;
    }
