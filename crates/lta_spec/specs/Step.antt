-- What a call makes of work memory: the refusals in their order, then what is done. What the contracts of the calls
-- cite.
use Rattle.std.specs.Prelude.{ℕ, suc, ◌+◌, ◌*◌, ◌-◌, Bool, true, false, cond, not, ◌&&◌, List, [], ◌∷◌, ◌++◌, map, leb, ltb, eqb, length, get_or, set, drop}
use Rattle.lta_spec.specs.Words.{splice, joined, every}
use Rattle.lta_spec.specs.Refusals.{Test, test, first_of, decided, Verdict}
use Rattle.lta_spec.specs.Shape.{shape_ok, run_limit}
use Rattle.lta_spec.specs.Size.{memory_words, host_tests}
use Rattle.lta_spec.specs.Place.{Label, Stamped, Cell, ready, loss_count}
use Rattle.lta_spec.specs.Page.{counts_sum, page_of, page_length}
use Rattle.lta_spec.specs.Frame.{accumulated, speed_frame, frame_length, frame_of, lag_words, header}
use Rattle.lta_spec.specs.Call.{
  Call,
  lent_to,
  samples_ok,
  validity_ok,
  speed,
  command_ok,
  dump_fits,
  phase_ok,
  bank_ok,
  bin_index,
  emitted_fields,
}
use Rattle.lta_spec.specs.Call.Call.{tick, dump, integrate, emit, reading, forecast, page, pick}
use Rattle.lta_spec.specs.Answer.{Answer, refusal}
use Rattle.lta_spec.specs.Answer.Answer.{number, entry}
use Rattle.lta_spec.specs.Row.{ticks_of, edge_of, centre_of, row_lags, row_sums, row_counts, x_entry, y_entry}
use Rattle.lta_spec.specs.Engine.{
  Row,
  Counter,
  Picks,
  Unit,
  after,
  seek,
  bank_of,
  data_bin_of,
  loss_at,
  bin_at,
  has_room,
  tick_unit,
  forecast_of,
  counted,
  dump_label,
  dump_cell,
  send_open,
  integrate_cell,
  raised,
  empty_bin,
  lowered,
  picked_bin,
  fresh_unit,
}
use Rattle.lta_spec.specs.Damage.{tick_sound, dump_unit_sound, integrate_unit_sound, emit_unit_sound, read_sound}
use Rattle.lta_spec.specs.Damage.{forecast_sound, ledgers_sound, picks_sound}
use Rattle.lta_spec.specs.Memory.{Run, run_layout, start}
use Rattle.lta_spec.specs.declared.Shape.{Shape}
use Rattle.lta_spec.specs.declared.Counts.{Counts}
use Rattle.lta_spec.specs.declared.Refusal.TheVariants.{
  BadShape,
  WrongSamples,
  RunFull,
  NoCell,
  BadCommand,
  NoBin,
  NothingHeld,
  NotReady,
  ShortBuffer,
  Damaged,
  NoLag,
  BadValidity,
  NothingReady,
}

-- how many words a shape needs
abbrev pub size_answer : Shape → Answer
size_answer sh = cond (shape_ok sh) (number (memory_words sh)) (refusal BadShape)

-- setup
abbrev pub setup_answer : Shape → (mem : List ℕ) → Answer
setup_answer sh mem = decided (first_of (host_tests sh (length mem))) refusal (number 0)

abbrev pub setup_leaves : Shape → (mem : List ℕ) → List ℕ
setup_leaves sh mem = decided (first_of (host_tests sh (length mem))) (λ r. mem) ((run_layout sh).put (start sh))

-- what an accepted call answers, and leaves of the lent buffer and of the run
pub record Done : Type 0 where
  pub answer : Answer
  pub out : List ℕ
  pub run : Run

-- the numbers of the losses of a cell, and of every cell's; their page, as totals "the sums of the lines"
abbrev pub loss_counts : Unit → List Counts
loss_counts u = map row_counts u.cell.losses

abbrev pub ledger_counts : Run → List (List Counts)
ledger_counts r = map loss_counts r.units

unfoldable pub loss_page : Run → List ℕ
loss_page r = page_of (ledger_counts r) (counts_sum (joined (ledger_counts r)))

module _ (sh : Shape) where
  abbrev pub unit_at : (c : ℕ) → Run → Unit
  unit_at c r = get_or r.units c (fresh_unit sh.lags sh.bins)

  abbrev pub cell_at : (c : ℕ) → Run → Cell Row
  cell_at c r = (unit_at c r).cell

  -- 11: "t is above 2,147,483,648, or in the parts tested .."
  abbrev pub sound_at : (sound : Bool) → Run → Test
  sound_at sound r = test (leb r.t run_limit && sound) Damaged

  -- the cell at which a search from the run's place of picks ends: the first one whose Ready number is not 0
  abbrev pub some_ready : (c : ℕ) → Run → Bool
  some_ready c r = ltb 0 (unit_at c r).picks.ready_bins

  unfoldable pub picked_cell : Run → ℕ
  picked_cell r = seek (λ c. some_ready c r) sh.cells sh.cells r.next

  abbrev pub units_sound : (t : ℕ) → List Unit → Bool
  units_sound t us = every (tick_sound sh.lags t) us

  -- each call's refusals behind 1 and 2, in document 01's order
  abbrev pub call_tests : Call → Run → List Test
  call_tests (tick samples) r =
      test (samples_ok sh.cells samples) WrongSamples
      ∷ test (validity_ok sh.cells samples) BadValidity
      ∷ test (not (eqb r.t run_limit)) RunFull
      ∷ sound_at (units_sound r.t r.units) r
      ∷ []
  call_tests (dump c command bank phase out) r =
      test (ltb c sh.cells) NoCell
      ∷ test (command_ok command) BadCommand
      ∷ test (bank_ok bank && phase_ok sh phase) NoBin
      ∷ sound_at (dump_unit_sound sh.lags sh.bins sh.blocks r.t command (unit_at c r)) r
      ∷ test (dump_fits sh.lags command (length out)) ShortBuffer
      ∷ []
  call_tests (integrate c) r =
      test (ltb c sh.cells) NoCell
      ∷ sound_at (integrate_unit_sound sh.lags sh.bins r.t (unit_at c r)) r
      ∷ test (eqb (cell_at c r).held.occupied 1) NothingHeld
      ∷ []
  call_tests (emit c bank bin out) r =
      let k = bin_index sh.bins bank bin in
      test (ltb c sh.cells) NoCell
      ∷ test (bank_ok bank && ltb bin sh.bins) NoBin
      ∷ sound_at (emit_unit_sound sh.lags sh.bins r.t k (unit_at c r)) r
      ∷ test (eqb (bin_at sh.lags k (cell_at c r)).state ready) NotReady
      ∷ test (leb (frame_length accumulated sh.lags) (length out)) ShortBuffer
      ∷ []
  call_tests (reading c lag loss) r =
      test (ltb c sh.cells) NoCell
      ∷ test (ltb lag sh.lags && (leb 1 loss && leb loss loss_count)) NoLag
      ∷ sound_at (read_sound (cell_at c r)) r
      ∷ []
  call_tests (forecast c) r = test (ltb c sh.cells) NoCell ∷ sound_at (forecast_sound r.t (cell_at c r)) r ∷ []
  call_tests (page out) r =
      sound_at (ledgers_sound r.units) r
      ∷ test (leb (page_length sh.cells) (length out)) ShortBuffer
      ∷ []
  call_tests (pick out) r =
      sound_at (picks_sound sh.bins r.t r.units && ltb r.next sh.cells) r
      ∷ test (some_ready (picked_cell r) r) NothingReady
      ∷ test (leb (frame_length accumulated sh.lags) (length out)) ShortBuffer
      ∷ []

  unfoldable pub tick_units : (samples : List ℕ) → List Unit → List Unit
  tick_units samples [] = []
  tick_units samples (u ∷ us) =
      tick_unit sh.lags (x_entry samples) (y_entry samples) u ∷ tick_units (drop 3 samples) us

  unfoldable pub held_off : List Unit → ℕ
  held_off [] = 0
  held_off (u ∷ us) = cond (has_room sh.lags u.cell) 0 1 + held_off us

  -- the run with cell c changed
  unfoldable pub with_unit : (c : ℕ) → Unit → Run → Run
  with_unit c u r = record { t = r.t; next = r.next; units = set r.units c u }

  -- cell c with its places and its block counter changed
  abbrev pub unit_dumped : (c : ℕ) → Cell Row → Counter → Run → Unit
  unit_dumped c places k r =
      let u = unit_at c r in record { cell = places; counter = k; picks = u.picks; xs = u.xs; ys = u.ys }

  -- cell c with its places and its picks changed
  abbrev pub unit_binned : (c : ℕ) → Cell Row → Picks → Run → Unit
  unit_binned c places p r =
      let u = unit_at c r in record { cell = places; counter = u.counter; picks = p; xs = u.xs; ys = u.ys }

  -- the bytes of the frame of a row, a bin's or Open's
  unfoldable pub row_frame : (kind cell bank bin : ℕ) → Stamped Row → List ℕ
  row_frame kind cell bank bin b =
      let row = b.members in
      frame_of (header (emitted_fields sh kind cell bank bin b.stamp (ticks_of row) (edge_of row) (centre_of row)))
      (lag_words (row_lags (ticks_of row) (drop 3 row)))

  -- the frame of a row of cell c goes into the front of the lent buffer, and the cell becomes u
  unfoldable pub sends : (kind c bank bin : ℕ) → Stamped Row → Unit → (out : List ℕ) → Run → Done
  sends kind c bank bin b u out r =
      record {
        answer = number (frame_length kind sh.lags);
        out = splice out 0 (row_frame kind c bank bin b);
        run = with_unit c u r;
      }

  -- a dump by its label: 011 sends Open's row, any other command moves it
  unfoldable pub dumps_by : (speeds : Bool) (c : ℕ) → Label → Counter → (out : List ℕ) → Run → Done
  dumps_by true c l k out r =
      let x = cell_at c r in
      sends speed_frame c l.bank l.bin x.opened (unit_dumped c (send_open sh.lags r.t x) k r) out r
  dumps_by false c l k out r =
      let x = dump_cell sh.lags l r.t (cell_at c r) in
      record { answer = number x.answer; out = out; run = with_unit c (unit_dumped c x.cell k r) r }

  -- the emission of a bin of cell c
  unfoldable pub emits : (c bank bin : ℕ) (out : List ℕ) → Run → Done
  emits c bank bin out r =
      let n = sh.lags in
      let k = bin_index sh.bins bank bin in
      let u = unit_at c r in
      sends accumulated c bank bin (bin_at n k u.cell).content
      (unit_binned c (empty_bin n k u.cell) (lowered u.picks) r) out r

  -- the run with its places of picks behind cell c and behind bin k of it
  unfoldable pub pointed : (c k : ℕ) → Run → Run
  pointed c k r =
      let u = unit_at c r in
      let p : Picks = record { ready_bins = u.picks.ready_bins; next = after (2 * sh.bins) k } in
      record {
        t = r.t;
        next = after sh.cells c;
        units = set r.units c (unit_binned c u.cell p r);
      }

  -- a pick: the emission of the bin that it finds, and the places of picks behind it
  unfoldable pub picks_bin : (out : List ℕ) → Run → Done
  picks_bin out r =
      let c = picked_cell r in
      let k = picked_bin sh.lags sh.bins (unit_at c r) in
      let d = emits c (bank_of sh.bins k) (data_bin_of sh.bins k) out r in
      record { answer = d.answer; out = d.out; run = pointed c k d.run }

  -- what an accepted call answers and leaves
  unfoldable pub accepted : Call → Run → Done
  accepted (tick samples) r =
      record {
        answer = number (held_off r.units);
        out = [];
        run = record { t = suc r.t; next = r.next; units = tick_units samples r.units };
      }
  accepted (dump c command bank phase out) r =
      let k = counted sh.blocks command (unit_at c r).counter in
      dumps_by (eqb command speed) c (dump_label sh.blocks command bank phase k.offset) k out r
  accepted (integrate c) r =
      let u = unit_at c r in
      let x = integrate_cell sh.lags sh.bins u.cell in
      let p = raised sh.lags sh.bins u.cell u.picks in
      record { answer = number x.answer; out = []; run = with_unit c (unit_binned c x.cell p r) r }
  accepted (emit c bank bin out) r = emits c bank bin out r
  accepted (reading c lag loss) r =
      record { answer = entry (row_sums lag (loss_at sh.lags (loss - 1) (cell_at c r).losses)); out = []; run = r }
  accepted (forecast c) r = record { answer = number (forecast_of (cell_at c r)); out = []; run = r }
  accepted (page out) r =
      record { answer = number (page_length sh.cells); out = splice out 0 (loss_page r); run = r }
  accepted (pick out) r = picks_bin out r

  unfoldable pub verdict : (mem : List ℕ) → Call → Verdict
  verdict mem call = first_of (host_tests sh (length mem) ++ call_tests call ((run_layout sh).get mem))

-- what a call leaves: its answer, the lent buffer, and work memory
pub record Step : Type 0 where
  pub answer : Answer
  pub out : List ℕ
  pub mem : List ℕ

-- a call on work memory: "A refusal returns its number alone and changes nothing."
unfoldable pub step : Shape → Call → (mem : List ℕ) → Step
step sh call mem =
    decided (verdict sh mem call)
    (λ why. record { answer = refusal why; out = lent_to call; mem = mem })
    (let d = accepted sh call ((run_layout sh).get mem) in
    record { answer = d.answer; out = d.out; mem = (run_layout sh).put d.run })
