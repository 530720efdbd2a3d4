-- The order of the refusals: each row is computed.
use mathlib.Core.Path.{refl}
use Rattle.lta_spec.specs.Words.{part}
use Rattle.lta_spec.specs.Shape.{lag_count_ok, shape_ok}
use Rattle.lta_spec.specs.Size.{memory_words, host_tests}
use Rattle.lta_spec.specs.Page.{page_length}
use Rattle.lta_spec.specs.Frame.{length_kind, fields_of, fixed_ok, fields_ok, bias_ok}
use Rattle.lta_spec.specs.FrameCalls.{marked, summed, ruled, read_verdict, write_verdict, normal_verdict}
use Rattle.lta_spec.specs.Call.{validity_ok, command_ok, dump_fits, phase_ok, emitted_fields}
use Rattle.lta_spec.specs.Row.{row_ok}
use Rattle.lta_spec.specs.Engine as E
use Rattle.lta_spec.specs.Damage as D
use Rattle.lta_spec.specs.Layout.{word, block, pair, many, fields}
use Rattle.lta_spec.specs.Memory.{bin_layout, unit_layout, run_layout}
use Rattle.lta_spec.specs.Step as S
use Rattle.lta_spec.specs.AnswerOrder.{Orders}

pub orders : Orders
unfolding
    lag_count_ok shape_ok memory_words host_tests part length_kind fields_of fixed_ok fields_ok bias_ok marked summed ruled
    read_verdict write_verdict normal_verdict emitted_fields validity_ok command_ok dump_fits phase_ok row_ok E.bin_at E.has_room
    E.forecast_of E.tick_by E.tick_unit E.resets E.offset_after E.kept_as E.counted E.dump_by E.dump_cell E.hold_open
    E.send_open E.seek E.integrate_by E.integrate_at E.integrate_cell S.picked_cell S.tick_units S.held_off S.with_unit
    S.row_frame S.sends S.dumps_by S.emits S.picks_bin S.accepted D.counter_ok D.dump_unit_sound D.losses_ok D.tick_sound
    D.dump_holds D.dump_parts D.loses_none D.dump_sound D.integrate_holds D.integrate_bin_sound D.integrate_sound
    D.integrate_unit_sound D.emit_sound D.emit_unit_sound D.number_fits D.pick_sound D.page_sound page_length word block pair
    many fields bin_layout unit_layout run_layout S.verdict S.step
orders =
    record {
      sampler = refl;
      sampler-last = refl;
      sampler-entry = refl;
      commander = refl;
      commander-last = refl;
      commands = refl;
      speeder = refl;
      speeder-damage = refl;
      speeder-last = refl;
      speeder-others = refl;
      speeder-losses = refl;
      counter-block = refl;
      counter-command = refl;
      counter-others = refl;
      integrator = refl;
      integrator-last = refl;
      taker = refl;
      taker-last = refl;
      reader = refl;
      forecaster = refl;
      forecaster-others = refl;
      forecaster-open = refl;
      forecaster-stamp = refl;
      pager = refl;
      pager-others = refl;
      pager-losses = refl;
      picker-host = refl;
      picker = refl;
      picker-none = refl;
      picker-last = refl;
      picker-bins = refl;
      picker-numbers = refl;
      picker-two = refl;
      picker-places = refl;
      picker-cells = refl;
      picker-every = refl;
      taker-numbers = refl;
      taker-filling = refl;
      integrator-numbers = refl;
      integrator-filling = refl;
      integrator-unoccupied = refl;
      picks-others = refl;
      sender = refl;
      normaliser = refl;
      sender-kinds = refl;
      sender-takes = refl;
      sender-before = refl;
      normaliser-kinds = refl;
      writer = refl;
      writer-kinds = refl;
      writer-room = refl;
    }
