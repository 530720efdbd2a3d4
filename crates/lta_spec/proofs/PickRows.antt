-- The rows of picks: the machine's by computing, the engine's by demand 3, and those on set memory by computing.
use Prim.Native.Nat.{ℕ, suc, ◌*◌, ◌<◌}
use mathlib.Core.Path.{◌≡◌, refl, ap, ◌∙◌}
use mathlib.Core.Bool.{true}
use mathlib.Core.List.{List, ◌++◌}
use native.Mathlib.Omega.{arith}
use lib.ListN.{length}
use Rattle.lta_spec.specs.Shape.{lag_count_ok, shape_ok}
use Rattle.lta_spec.specs.Size.{memory_words, host_tests}
use Rattle.lta_spec.specs.Place.{ready}
use Rattle.lta_spec.specs.Frame.{sealed, frame_of, header, fields_of}
use Rattle.lta_spec.specs.Call.{validity_ok, command_ok, dump_fits, phase_ok, emitted_fields}
use Rattle.lta_spec.specs.Machine as M
use Rattle.lta_spec.specs.Numbers as N
use Rattle.lta_spec.specs.MachineRun as R
use Rattle.lta_spec.specs.Row.{row_ok}
use Rattle.lta_spec.specs.Engine as E
use Rattle.lta_spec.specs.Damage as D
use Rattle.lta_spec.specs.Layout.{word, block, pair, many, fields}
use Rattle.lta_spec.specs.Memory.{bin_layout, unit_layout, run_layout}
use Rattle.lta_spec.specs.Step as S
use Rattle.lta_spec.specs.Demand.{AllStand, machine_returns, machine_run, machine_after, engine_returns, place_after}
use Rattle.lta_spec.specs.Forecasts.{in_turn}
use Rattle.lta_spec.specs.Fairness.{pick_told, picks_in, picks_ahead}
use Rattle.lta_spec.specs.WorkedRun.{calls_of, returned_by}
use Rattle.lta_spec.specs.PickRows.{
  PickLine,
  in_short,
  picked,
  Tells,
  run_after,
  PlacedAt,
  pick_shape,
  first_picks,
  all_picks,
  PickRows,
  Reached,
  one_cell,
  one_before,
  one_others,
  two_cells,
  two_before,
  two_others,
}
use Rattle.lta_spec.specs.declared.Shape.{Shape}
use Rattle.lta_spec.proofs.ShapeLaws.{shaped}
use Rattle.lta_spec.proofs.Follow.{follow, from_start}
use Rattle.lta_spec.proofs.Demand.{on-run, demand3}

stands : (ls : List PickLine) → AllStand (calls_of ls)
stands ls = on-run (λ l. l.call) ls

module _ (sh : Shape) (ok : shape_ok sh ≡ true) where
  -- the engine tells what the machine does
  tells : (ls : List PickLine)
      → in_short (calls_of ls) (machine_returns sh (calls_of ls) (R.start sh)) ≡ returned_by ls
      → Tells sh ls
  tells ls p =
      record {
        machine = p;
        engine = ap (in_short (calls_of ls)) (demand3 sh ok (calls_of ls) (stands ls)).tells ∙ p;
      }

  -- its Ready numbers and places are the machine's
  served : (ls : List PickLine) (next : ℕ) → place_after sh.cells (machine_after sh (calls_of ls)).served ≡ next
      → (run_after sh ls).next ≡ next
  served ls next p = (demand3 sh ok (calls_of ls) (stands ls)).next_cell ∙ p

  placed : (ls : List PickLine) (c ready_bins next : ℕ) → c < sh.cells
      → M.ready_bins (R.unit_at sh c (machine_after sh (calls_of ls))).cell ≡ ready_bins
      → place_after (2 * sh.bins) (R.unit_at sh c (machine_after sh (calls_of ls))).picked ≡ next
      → PlacedAt sh ls c ready_bins next
  placed ls c ready_bins next inside p q =
      let same = (demand3 sh ok (calls_of ls) (stands ls)).cells c inside in
      record { number = same.ready_bins ∙ p; place = same.next_bin ∙ q }

  -- the successful picks of a list behind another, by the machine's answers
  abbrev picks_of : (before behind : List PickLine) → ℕ
  picks_of before behind =
      length (in_turn pick_told (calls_of behind) (machine_returns sh (calls_of behind) (machine_after sh (calls_of before))))

  picks-in : (before behind : List PickLine) → picks_in sh (calls_of before) (calls_of behind) ≡ picks_of before behind
  picks-in before behind =
      let k = shaped sh ok in
      let wide = k.some-lags in
      let x = from_start sh k (calls_of before) (stands before) in
      ap (λ ts. length (in_turn pick_told (calls_of behind) ts))
      (ap (engine_returns sh (calls_of behind)) x.mem
      ∙ (follow sh wide (calls_of behind) (stands behind) x.run (machine_after sh (calls_of before)) x.same).tells)

  reached : (before others itself : List PickLine) (c k : ℕ) → c < sh.cells
      → let ls = before ++ (others ++ itself) in
      let m = machine_after sh (calls_of before) in
      let bound = sh.cells * (2 * sh.bins) in
      (M.bin_at k (R.unit_at sh c m).cell).state ≡ ready
      → in_short (calls_of ls) (machine_returns sh (calls_of ls) (R.start sh)) ≡ returned_by ls
      → suc (picks_ahead sh c k m) ≡ bound
      → suc (picks_of before others) ≡ bound
      → picks_of before (others ++ itself) ≡ bound
      → Reached sh before others itself c k
  reached before others itself c k inside state told ahead earlier all =
      record {
        waits = ((demand3 sh ok (calls_of before) (stands before)).cells c inside).states k ∙ state;
        tells = tells (before ++ (others ++ itself)) told;
        measure = ahead;
        earlier = ap suc (picks-in before others) ∙ earlier;
        all = picks-in before (others ++ itself) ∙ all;
      }

pub pick-rows : PickRows
unfolding
    lag_count_ok shape_ok memory_words host_tests sealed frame_of header fields_of validity_ok command_ok dump_fits phase_ok
    emitted_fields row_ok M.has_room M.tick_by M.tick_cell M.hold_open M.dump_by M.dump_cell M.counts_as M.returns M.one_on
    M.counted M.release M.state_after M.integrate_by M.bin_at M.integrate_at M.integrate_cell M.empty_bin M.ready_bins
    M.round_from M.first_with M.picked_bin N.set_frame R.verdict R.tick_units R.held_off R.with_dump R.with_cell R.emitted
    R.with_frame R.sends R.emits R.picked_cell R.picked_from R.picks R.dumps_by R.accepted R.step machine_returns
    machine_run E.lose E.bin_at E.release E.state_after E.integrate_by E.integrate_at E.integrate_cell E.raised E.empty_bin
    E.lowered E.seek E.picked_bin D.losses_ok D.integrate_holds D.integrate_bin_sound D.integrate_sound D.number_fits
    D.integrate_unit_sound D.pick_sound S.picked_cell S.with_unit S.row_frame S.sends S.emits S.pointed S.picks_bin
    S.accepted S.verdict S.step word block pair many fields bin_layout unit_layout run_layout engine_returns
pick-rows =
    record {
      tells = tells pick_shape refl all_picks refl;
      middle = served pick_shape refl first_picks 1 refl;
      middle-0 = placed pick_shape refl first_picks 0 1 3 (omega arith) refl refl;
      middle-1 = placed pick_shape refl first_picks 1 1 2 (omega arith) refl refl;
      middle-2 = placed pick_shape refl first_picks 2 1 1 (omega arith) refl refl;
      end = served pick_shape refl all_picks 2 refl;
      end-0 = placed pick_shape refl all_picks 0 0 3 (omega arith) refl refl;
      end-1 = placed pick_shape refl all_picks 1 0 0 (omega arith) refl refl;
      end-2 = placed pick_shape refl all_picks 2 1 2 (omega arith) refl refl;
      wide = record { tells = refl; number = refl };
      full = record { tells = refl; number = refl };
      reached =
          reached one_cell refl one_before one_others (picked 0 0 0 5) 0 0 (omega arith) refl refl refl refl refl;
      reached-two =
          reached two_cells refl two_before two_others (picked 1 0 0 4) 1 0 (omega arith) refl refl refl refl refl;
    }
