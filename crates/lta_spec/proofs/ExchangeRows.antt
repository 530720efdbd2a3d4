-- The worked run and its exchanged run: the machine's returns by computing, the engine's by demand 3.
use mathlib.Core.Path.{◌≡◌, refl, ◌∙◌}
use Rattle.lta_spec.specs.Shape.{lag_count_ok, shape_ok}
use Rattle.lta_spec.specs.Size.{memory_words, host_tests}
use Rattle.lta_spec.specs.Tick.{
  from_sample,
  product,
  weight,
  in_phase,
  quadrature,
  valid_at,
  in_phase_at,
  quadrature_at,
}
use Rattle.lta_spec.specs.Decimal.{decimal_within, decimal, right_aligned}
use Rattle.lta_spec.specs.Page.{counts_sum, page_line, cell_lines, ledger_lines, page_of, page_length}
use Rattle.lta_spec.specs.Frame.{sealed, frame_of, header}
use Rattle.lta_spec.specs.Call.{validity_ok, command_ok, dump_fits, phase_ok, emitted_fields}
use Rattle.lta_spec.specs.Machine as M
use Rattle.lta_spec.specs.Numbers as N
use Rattle.lta_spec.specs.MachineRun as R
use Rattle.lta_spec.specs.Demand.{machine_returns}
use Rattle.lta_spec.specs.Exchange.{bits_exchanged, exchanged}
use Rattle.lta_spec.specs.WorkedRun.{calls_of, returned_by, worked_shape}
use Rattle.lta_spec.specs.ExchangeRows.{Side, lines, here, there, SideTells, ExchangeRows}
use Rattle.lta_spec.proofs.Demand.{on-run, demand3}

-- the engine returns what the machine returns: demand 3
side-tells : (s : Side)
    → machine_returns worked_shape (calls_of (lines s)) (R.start worked_shape) ≡ returned_by (lines s) → SideTells s
unfolding lag_count_ok shape_ok
side-tells s p =
    record {
      machine = p;
      engine = (demand3 worked_shape refl (calls_of (lines s)) (on-run (λ l. l.call) (lines s))).tells ∙ p;
    }

pub exchange-rows : ExchangeRows
unfolding
    lag_count_ok shape_ok memory_words host_tests from_sample product weight in_phase quadrature valid_at in_phase_at
    quadrature_at sealed frame_of header validity_ok command_ok dump_fits phase_ok emitted_fields M.lose M.has_room M.tick_by
    M.tick_cell M.lose_open M.dump_by M.dump_cell M.send_open M.counts_as M.returns M.one_on M.counted N.up_to N.in_phase_sum
    N.quadrature_sum N.valid_count N.set_counts N.set_frame decimal_within decimal right_aligned counts_sum page_line
    cell_lines ledger_lines page_of page_length R.loss_page R.verdict R.tick_units R.held_off R.with_dump R.speed_sent
    R.with_frame R.sends R.dumps_by R.accepted R.step machine_returns bits_exchanged exchanged
exchange-rows =
    record {
      bits = refl;
      calls = refl;
      tells-here = side-tells here refl;
      tells-there = side-tells there refl;
    }
