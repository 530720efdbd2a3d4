-- Document 01, "The plain machine", a run: its cells, the refusals, the calls. It is fed the arguments of setup and
-- of each call, of work memory the length alone.
use Rattle.std.specs.Prelude.{ℕ, suc, ◌+◌, ◌-◌, ◌/◌, ◌%◌, Bool, true, false, cond, not, ◌&&◌, List, [], ◌∷◌, ◌++◌, map, leb, ltb, eqb, length, get_or, set, drop, replicate}
use Rattle.lta_spec.specs.Words.{splice, joined, some}
use Rattle.lta_spec.specs.Refusals.{Test, test, first_of, decided, Verdict}
use Rattle.lta_spec.specs.Shape.{run_limit}
use Rattle.lta_spec.specs.Size.{host_tests}
use Rattle.lta_spec.specs.Place.{Label, Cell, ready, loss_count}
use Rattle.lta_spec.specs.Page.{counts_sum, page_of, page_length}
use Rattle.lta_spec.specs.Frame.{accumulated, speed_frame, frame_length}
use Rattle.lta_spec.specs.Tick.{Sample}
use Rattle.lta_spec.specs.Call.{Call, lent_to, samples_ok, validity_ok, speed, command_ok, dump_fits, phase_ok, bank_ok}
use Rattle.lta_spec.specs.Call.{bin_index}
use Rattle.lta_spec.specs.Call.Call.{tick, dump, integrate, emit, reading, forecast, page, pick}
use Rattle.lta_spec.specs.Answer.{Answer, refusal}
use Rattle.lta_spec.specs.Answer.Answer.{number, entry}
use Rattle.lta_spec.specs.Machine.{Ticks, has_room, tick_cell, dump_cell, integrate_cell, bin_at, empty_bin, fresh_cell}
use Rattle.lta_spec.specs.Machine.{forecast_of, send_open, Counter, counts_as, counted, dump_label, fresh_counter}
use Rattle.lta_spec.specs.Machine.{Latest, is_ready, ready_bins, round_from, first_with, picked_bin}
use Rattle.lta_spec.specs.Machine.Latest.{none, was}
use Rattle.lta_spec.specs.Numbers.{Emitted, set_sums, set_counts, set_frame}
use Rattle.lta_spec.specs.declared.Shape.{Shape}
use Rattle.lta_spec.specs.declared.Counts.{Counts}
use Rattle.lta_spec.specs.declared.Refusal.TheVariants.{WrongSamples, RunFull, NoCell, BadCommand, NoBin}
use Rattle.lta_spec.specs.declared.Refusal.TheVariants.{NothingHeld, NotReady, ShortBuffer, NoLag, BadValidity}
use Rattle.lta_spec.specs.declared.Refusal.TheVariants.{NothingReady}

-- One cell of a run: its places, its block counter, "the bin last picked in that cell" by its place in the list of
-- bins, its emitted frames, newest first, and what the accepted ticks brought of X and Y, newest first, from which all
-- numbers follow
pub record Unit : Type 0 where
  pub cell : Cell Ticks
  pub counter : Counter
  pub picked : Latest
  pub frames : List Emitted
  pub xs : List Sample
  pub ys : List Sample

-- served is the cell that the last pick took, "the last one served"
pub record Run : Type 0 where
  pub t : ℕ
  pub served : Latest
  pub units : List Unit

abbrev pub fresh_unit : Shape → Unit
fresh_unit sh =
    record {
      cell = fresh_cell sh.bins;
      counter = fresh_counter sh.start;
      picked = none;
      frames = [];
      xs = [];
      ys = [];
    }

-- a fresh run: "tick number t = 0, all sets empty"
abbrev pub start : Shape → Run
start sh = record { t = 0; served = none; units = replicate sh.cells (fresh_unit sh) }

abbrev pub unit_at : Shape → (c : ℕ) → Run → Unit
unit_at sh c r = get_or r.units c (fresh_unit sh)

-- some cell has a Ready bin
abbrev pub some_ready : Run → Bool
some_ready r = some (λ u. some is_ready u.cell.bins) r.units

-- "The machine judges refusals by those arguments and its own t, sets, flags and bin states; 11 never arises." Each
-- call's refusals in order
module _ (sh : Shape) (r : Run) where
  abbrev pub call_tests : Call → List Test
  call_tests (tick samples) =
      test (samples_ok sh.cells samples) WrongSamples
      ∷ test (validity_ok sh.cells samples) BadValidity
      ∷ test (not (eqb r.t run_limit)) RunFull
      ∷ []
  call_tests (dump cell command bank phase out) =
      test (ltb cell sh.cells) NoCell
      ∷ test (command_ok command) BadCommand
      ∷ test (bank_ok bank && phase_ok sh phase) NoBin
      ∷ test (dump_fits sh.lags command (length out)) ShortBuffer
      ∷ []
  call_tests (integrate cell) =
      test (ltb cell sh.cells) NoCell
      ∷ test (eqb (unit_at sh cell r).cell.held.occupied 1) NothingHeld
      ∷ []
  call_tests (emit cell bank bin out) =
      test (ltb cell sh.cells) NoCell
      ∷ test (bank_ok bank && ltb bin sh.bins) NoBin
      ∷ test (eqb (bin_at (bin_index sh.bins bank bin) (unit_at sh cell r).cell).state ready) NotReady
      ∷ test (leb (frame_length accumulated sh.lags) (length out)) ShortBuffer
      ∷ []
  call_tests (reading cell lag loss) =
      test (ltb cell sh.cells) NoCell
      ∷ test (ltb lag sh.lags && (leb 1 loss && leb loss loss_count)) NoLag
      ∷ []
  call_tests (forecast cell) = test (ltb cell sh.cells) NoCell ∷ []
  call_tests (page out) = test (leb (page_length sh.cells) (length out)) ShortBuffer ∷ []
  -- "20 when no cell has a Ready bin, tested .. before 10"
  call_tests (pick out) =
      test (some_ready r) NothingReady
      ∷ test (leb (frame_length accumulated sh.lags) (length out)) ShortBuffer
      ∷ []

  unfoldable pub verdict : (words : ℕ) → Call → Verdict
  verdict words call = first_of (host_tests sh words ++ call_tests call)

-- what a call leaves: its answer, the lent buffer, and the run
pub record Step : Type 0 where
  pub answer : Answer
  pub out : List ℕ
  pub run : Run

-- "a validity byte with bit 0 for X and bit 1 for Y"
abbrev pub x_sample : (samples : List ℕ) → Sample
x_sample samples = record { byte = get_or samples 0 0; valid = eqb (get_or samples 2 0 % 2) 1 }

abbrev pub y_sample : (samples : List ℕ) → Sample
y_sample samples = record { byte = get_or samples 1 0; valid = eqb (get_or samples 2 0 / 2 % 2) 1 }

-- Tick, all cells: "three bytes for each cell: X, Y, and a validity byte"
unfoldable pub tick_units : (t : ℕ) (samples : List ℕ) → List Unit → List Unit
tick_units t samples [] = []
tick_units t samples (u ∷ us) =
    record {
      cell = tick_cell t u.cell;
      counter = u.counter;
      picked = u.picked;
      frames = u.frames;
      xs = x_sample samples ∷ u.xs;
      ys = y_sample samples ∷ u.ys;
    }
    ∷ tick_units t (drop 3 samples) us

-- the cells held off
unfoldable pub held_off : List Unit → ℕ
held_off [] = 0
held_off (u ∷ us) = cond (has_room u.cell) 0 1 + held_off us

-- the run with cell c changed
abbrev pub with_unit : (c : ℕ) → Unit → Run → Run
with_unit c u r = record { t = r.t; served = r.served; units = set r.units c u }

-- the run with the places and the block counter of cell c as a dump leaves them
unfoldable pub with_dump : Shape → (c : ℕ) → Cell Ticks → Counter → Run → Run
with_dump sh c places k r =
    let u = unit_at sh c r in
    with_unit c
    (record { cell = places; counter = k; picked = u.picked; frames = u.frames; xs = u.xs; ys = u.ys }) r

-- the run with the places of cell c as an integration leaves them
unfoldable pub with_cell : Shape → (c : ℕ) → Cell Ticks → Run → Run
with_cell sh c places r = with_dump sh c places (unit_at sh c r).counter r

-- what an emission of a bin of cell c sends
unfoldable pub emitted : Shape → (c bank bin : ℕ) → Run → Emitted
emitted sh c bank bin r =
    record {
      kind = accumulated;
      bank = bank;
      bin = bin;
      content = (bin_at (bin_index sh.bins bank bin) (unit_at sh c r).cell).content;
    }

-- what a speed dump of cell c sends: "W1 carries the bin of the dump's label; W5 and W6 use the integration's stamp"
unfoldable pub speed_sent : Shape → (c : ℕ) → Label → Run → Emitted
speed_sent sh c l r =
    record { kind = speed_frame; bank = l.bank; bin = l.bin; content = (unit_at sh c r).cell.opened }

-- the run with the places and the block counter of cell c as a call leaves them that sends a frame, and its set among
-- the frames: "its set becomes that of a frame"
unfoldable pub with_frame : Shape → (c : ℕ) → Cell Ticks → Counter → Emitted → Run → Run
with_frame sh c places k e r =
    let u = unit_at sh c r in
    with_unit c
    (record { cell = places; counter = k; picked = u.picked; frames = e ∷ u.frames; xs = u.xs; ys = u.ys }) r

-- a call that sends a frame of cell c: its bytes into the front of the lent buffer, its length as the answer
unfoldable pub sends : Shape → (c : ℕ) → Cell Ticks → Counter → Emitted → (out : List ℕ) → Run → Step
sends sh c places k e out r =
    let u = unit_at sh c r in
    record {
      answer = number (frame_length e.kind sh.lags);
      out = splice out 0 (set_frame sh c u.xs u.ys e);
      run = with_frame sh c places k e r;
    }

-- the emission of a bin of cell c
unfoldable pub emits : Shape → (c bank bin : ℕ) (out : List ℕ) → Run → Step
emits sh c bank bin out r =
    let u = unit_at sh c r in
    sends sh c (empty_bin (bin_index sh.bins bank bin) u.cell) u.counter (emitted sh c bank bin r) out r

-- Request 2026-07, the cell that a pick takes: "Starting from the cell after the last one served (cell 0 in a fresh
-- run) and going round, it takes the first cell with a Ready bin."
unfoldable pub picked_cell : Shape → Run → ℕ
picked_cell sh r =
    first_with (λ c. leb 1 (ready_bins (unit_at sh c r).cell)) (round_from sh.cells r.served)

-- the run in which cell c was served last, and bin k last picked in it
unfoldable pub picked_from : Shape → (c k : ℕ) → Run → Run
picked_from sh c k r =
    let u = unit_at sh c r in
    record {
      t = r.t;
      served = was c;
      units =
          set r.units c
          (record {
            cell = u.cell;
            counter = u.counter;
            picked = was k;
            frames = u.frames;
            xs = u.xs;
            ys = u.ys;
          });
    }

-- a pick: it emits that bin as an emission does, of bank k div B and data bin k mod B; "Naming a bin to emit moves no
-- place"
unfoldable pub picks : Shape → (out : List ℕ) → Run → Step
picks sh out r =
    let c = picked_cell sh r in
    let u = unit_at sh c r in
    let k = picked_bin sh.bins u.picked u.cell in
    let s = emits sh c (k / sh.bins) (k % sh.bins) out r in
    record { answer = s.answer; out = s.out; run = picked_from sh c k s.run }

-- a dump of cell c by its label, whose block the counter k has: 011, or another
unfoldable pub dumps_by : (speeds : Bool) → Shape → (c : ℕ) → Label → Counter → (out : List ℕ) → Run → Step
dumps_by true sh c l k out r =
    sends sh c (send_open r.t (unit_at sh c r).cell) k (speed_sent sh c l r) out r
dumps_by false sh c l k out r =
    let x = dump_cell l r.t (unit_at sh c r).cell in
    record { answer = number x.answer; out = out; run = with_dump sh c x.cell k r }

-- the numbers of the losses of a cell, and of all ticks in them
abbrev pub loss_counts : (n : ℕ) → Unit → List Counts
loss_counts n u = map (set_counts n u.xs u.ys) u.cell.losses

abbrev pub lost_counts : (n : ℕ) → Unit → Counts
lost_counts n u = set_counts n u.xs u.ys (joined u.cell.losses)

-- the loss page: the numbers of each loss, and as totals "the sums over the ledger of the run"
unfoldable pub loss_page : Shape → Run → List ℕ
loss_page sh r = page_of (map (loss_counts sh.lags) r.units) (counts_sum (map (lost_counts sh.lags) r.units))

-- what an accepted call does
unfoldable pub accepted : Shape → Call → Run → Step
accepted sh (tick samples) r =
    record {
      answer = number (held_off r.units);
      out = [];
      run = record { t = suc r.t; served = r.served; units = tick_units r.t samples r.units };
    }
accepted sh (dump c command bank phase out) r =
    let k = counted sh.start sh.blocks (counts_as command) (unit_at sh c r).counter in
    dumps_by (eqb command speed) sh c (dump_label sh.start sh.blocks command bank phase k.block) k out r
accepted sh (integrate c) r =
    let x = integrate_cell sh.bins (unit_at sh c r).cell in
    record { answer = number x.answer; out = []; run = with_cell sh c x.cell r }
accepted sh (emit c bank bin out) r = emits sh c bank bin out r
accepted sh (reading c lag loss) r =
    let u = unit_at sh c r in
    record {
      answer = entry (set_sums sh.lags u.xs u.ys (get_or u.cell.losses (loss - 1) []) lag);
      out = [];
      run = r;
    }
accepted sh (forecast c) r =
    record { answer = number (forecast_of (unit_at sh c r).cell); out = []; run = r }
accepted sh (page out) r =
    record { answer = number (page_length sh.cells); out = splice out 0 (loss_page sh r); run = r }
accepted sh (pick out) r = picks sh out r

-- a call with its own shape and length of work memory. "Reading, and every refused call: nothing changes."
unfoldable pub step : Shape → (words : ℕ) → Call → Run → Step
step sh words call r =
    decided (verdict sh r words call)
    (λ why. record { answer = refusal why; out = lent_to call; run = r })
    (accepted sh call r)
