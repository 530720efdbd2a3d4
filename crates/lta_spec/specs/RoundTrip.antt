-- The two round trips of a frame of either kind, for every N, that no bytes are accepted as both kinds, that speed
-- frames of the limit before are refused, and the reading of a frame that a run sent, as one statement about the calls.
-- proofs/EmittedBack.antt proves it, with RoundTrips, Rewritten and WrittenBefore beside it.
use Rattle.std.specs.Prelude.{ℕ, ◌*◌, ◌≤◌, ◌<◌, ◌≡◌, true, List, [], ◌++◌, map, ℤ, length, get_or, take, drop, Ok}
use Rattle.lta_spec.specs.Words.{splice, every}
use Rattle.lta_spec.specs.Bytes.{words_of, signed}
use Rattle.lta_spec.specs.Answer.Answer.{refused, fields}
use Rattle.lta_spec.specs.Shape.{lag_count_ok}
use Rattle.lta_spec.specs.Place.{Stamped}
use Rattle.lta_spec.specs.Frame.{accumulated, speed_frame, frame_length, frame_of, body_of, lag_words, lag_numbers}
use Rattle.lta_spec.specs.Frame.{header_with, fields_of, fields_ok, within}
use Rattle.lta_spec.specs.FrameCalls.{read_verdict, read_answer, lag_part, write_verdict, write_leaves}
use Rattle.lta_spec.specs.Call.{speed, bin_index, emitted_fields}
use Rattle.lta_spec.specs.Call.Call.{dump, emit, pick}
use Rattle.lta_spec.specs.Row.{ticks_of, edge_of, centre_of, row_lags}
use Rattle.lta_spec.specs.Engine.{Row, bin_at, counted, dump_label, bank_of, data_bin_of, picked_bin}
use Rattle.lta_spec.specs.Memory.{run_layout}
use Rattle.lta_spec.specs.Step as S
use Rattle.lta_spec.specs.declared.Fields.{Fields}
use Rattle.lta_spec.specs.declared.Shape.{Shape}

-- the bytes that an accepted write leaves at the start of its buffer
abbrev pub written_to : (n : ℕ) → Fields → List ℤ → (out : List ℕ) → List ℕ
written_to n f zs out = take (frame_length f.kind n) (write_leaves n f zs out)

-- the lag numbers in the lag part that the reader gives
abbrev pub lags_read : (n : ℕ) (frame : List ℕ) → List ℤ
lags_read n frame = map signed (words_of (lag_part n frame))

-- the row and stamp of a bin of cell c in work memory
abbrev pub stored_bin : Shape → (c bank bin : ℕ) (mem : List ℕ) → Stamped Row
stored_bin sh c bank bin mem =
    (bin_at sh.lags (bin_index sh.bins bank bin) (S.cell_at sh c ((run_layout sh).get mem))).content

-- the bytes that an emission leaves at the start of its buffer
abbrev pub emitted_to : Shape → (c bank bin : ℕ) (mem out : List ℕ) → List ℕ
emitted_to sh c bank bin mem out =
    take (frame_length accumulated sh.lags) (S.step sh (emit c bank bin out) mem).out

-- the bin that a pick takes, by its cell, bank and data bin
pub record Named : Type 0 where
  pub cell : ℕ
  pub bank : ℕ
  pub bin : ℕ

abbrev pub picked_place : Shape → (mem : List ℕ) → Named
picked_place sh mem =
    let r = (run_layout sh).get mem in
    let c = S.picked_cell sh r in
    let k = picked_bin sh.lags sh.bins (S.unit_at sh c r) in
    record { cell = c; bank = bank_of sh.bins k; bin = data_bin_of sh.bins k }

-- the bytes that a pick leaves at the start of its buffer
abbrev pub picked_to : Shape → (mem out : List ℕ) → List ℕ
picked_to sh mem out = take (frame_length accumulated sh.lags) (S.step sh (pick out) mem).out

-- the row and stamp of Open of cell c, and the data bin of the label that a speed dump of it makes
abbrev pub stored_open : Shape → (c : ℕ) (mem : List ℕ) → Stamped Row
stored_open sh c mem = (S.cell_at sh c ((run_layout sh).get mem)).opened

abbrev pub speed_bin : Shape → (c bank phase : ℕ) (mem : List ℕ) → ℕ
speed_bin sh c bank phase mem =
    let k = counted sh.blocks speed (S.unit_at sh c ((run_layout sh).get mem)).counter in
    (dump_label sh.blocks speed bank phase k.offset).bin

-- the bytes that a speed dump leaves at the start of its buffer
abbrev pub speed_to : Shape → (c bank phase : ℕ) (mem out : List ℕ) → List ℕ
speed_to sh c bank phase mem out =
    take (frame_length speed_frame sh.lags) (S.step sh (dump c speed bank phase out) mem).out

-- a frame's bytes, read back, are a row and a stamp in numbers
pub record RowBack (sh : Shape) (kind c bank bin : ℕ) (b : Stamped Row) (frame : List ℕ) : Type 0 where
  pub returned : read_answer sh.lags frame
      ≡ fields
      (emitted_fields sh kind c bank bin b.stamp (ticks_of b.members) (edge_of b.members)
      (centre_of b.members))
  pub lags : lags_read sh.lags frame ≡ row_lags (ticks_of b.members) (drop 3 b.members)

-- a speed frame as it was written before request 2026-06, with 98 where there is 128 now
pub record WrittenBefore (n : ℕ) (f : Fields) (zs : List ℤ) : Type 0 where
  pub count : lag_count_ok n ≡ true
  pub kind : f.kind ≡ speed_frame
  pub fields : fields_ok f ≡ true
  pub length : length zs ≡ 2 * n
  pub lags : every (within (98 * f.ticks)) zs ≡ true

pub record RoundTrip : Type 0 where
  -- a frame written and read back gives its fields, and its lag part the lag numbers
  pub fields_back : (n : ℕ) (f : Fields) (zs : List ℤ) (out : List ℕ) → write_verdict n f zs (length out) ≡ Ok tt
      → read_answer n (written_to n f zs out) ≡ fields f
  pub lags-back : (n : ℕ) (f : Fields) (zs : List ℤ) (out : List ℕ) → write_verdict n f zs (length out) ≡ Ok tt
      → lags_read n (written_to n f zs out) ≡ zs
  -- an accepted frame, written again from what was read, gives its bytes
  pub bytes_back : (n : ℕ) (s out : List ℕ) → ((i : ℕ) → get_or s i 0 < 256) → read_verdict n s ≡ Ok tt
      → length s ≤ length out
      → write_leaves n (fields_of (body_of s)) (lag_numbers (fields_of (body_of s)).kind n (body_of s)) out ≡ splice out 0 s
  -- no bytes are accepted as both kinds: an accepted frame with bytes behind it is no accepted frame
  pub one-kind : (n : ℕ) (s behind : List ℕ) → read_verdict n s ≡ Ok tt → read_verdict n (s ++ behind) ≡ Ok tt
      → behind ≡ []
  -- "A speed frame written before with any ticks in it is then refused by 18."
  pub written-before : (n : ℕ) (f : Fields) (zs : List ℤ) → WrittenBefore n f zs → 0 < f.ticks
      → read_answer n (frame_of (header_with (98 * f.ticks) f) (lag_words zs)) ≡ refused 18
  -- an emission that is accepted, whatever work memory holds: what is read back is what stood in the bin
  pub emitted-back : (sh : Shape) (c bank bin : ℕ) (mem out : List ℕ)
      → S.verdict sh mem (emit c bank bin out) ≡ Ok tt
      → RowBack sh accumulated c bank bin (stored_bin sh c bank bin mem) (emitted_to sh c bank bin mem out)
  -- a pick that is accepted: what is read back is what stood in the bin that it took, under that bin's name
  pub picked-back : (sh : Shape) (mem out : List ℕ) → S.verdict sh mem (pick out) ≡ Ok tt
      → let p = picked_place sh mem in
      RowBack sh accumulated p.cell p.bank p.bin (stored_bin sh p.cell p.bank p.bin mem)
      (picked_to sh mem out)
  -- a speed dump that is accepted: what is read back is what stood in Open, under the dump's label
  pub speed-back : (sh : Shape) (c bank phase : ℕ) (mem out : List ℕ)
      → S.verdict sh mem (dump c speed bank phase out) ≡ Ok tt
      → RowBack sh speed_frame c bank (speed_bin sh c bank phase mem) (stored_open sh c mem)
      (speed_to sh c bank phase mem out)
