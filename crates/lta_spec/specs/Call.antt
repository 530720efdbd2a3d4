-- The calls on a run, and the rules on their arguments.
use Rattle.std.specs.Prelude.{ℕ, zero, suc, ◌+◌, ◌*◌, ◌/◌, ◌%◌, Bool, true, not, ◌&&◌, ◌||◌, List, [], leb, ltb, eqb, length, get_or, drop}
use Rattle.lta_spec.specs.Frame.{speed_frame, frame_length}
use Rattle.lta_spec.specs.declared.Shape.{Shape}
use Rattle.lta_spec.specs.declared.Fields.{Fields}

-- a call with its own arguments; shape and work memory stand beside it
pub data Call : Type 0 where
  tick : (samples : List ℕ) → Call
  dump : (cell command bank phase : ℕ) (out : List ℕ) → Call
  integrate : (cell : ℕ) → Call
  emit : (cell bank bin : ℕ) (out : List ℕ) → Call
  reading : (cell lag loss : ℕ) → Call
  forecast : (cell : ℕ) → Call
  page : (out : List ℕ) → Call
  pick : (out : List ℕ) → Call

-- the buffer that a call is lent
abbrev pub lent_to : Call → List ℕ
lent_to (tick samples) = []
lent_to (dump cell command bank phase out) = out
lent_to (integrate cell) = []
lent_to (emit cell bank bin out) = out
lent_to (reading cell lag loss) = []
lent_to (forecast cell) = []
lent_to (page out) = out
lent_to (pick out) = out

-- what is not refused by 3, "not 2C bytes"; request 2026-06: "Refusal 3 tests for 3C bytes"
abbrev pub samples_ok : (cells : ℕ) (samples : List ℕ) → Bool
samples_ok cells samples = eqb (length samples) (3 * cells)

-- what is not refused by 19, "when a validity byte has another bit set" than bits 0 and 1: the last byte of each cell
unfoldable pub validity_ok : (cells : ℕ) (samples : List ℕ) → Bool
validity_ok zero samples = true
validity_ok (suc c) samples = leb (get_or samples 2 0) 3 && validity_ok c (drop 3 samples)

-- dump commands, three binary digits: 000, 001, 010, 011, 100, 111
abbrev pub save : ℕ
save = 0

abbrev pub add : ℕ
add = 1

abbrev pub last : ℕ
last = 2

abbrev pub speed : ℕ
speed = 3

abbrev pub discard : ℕ
discard = 4

abbrev pub idle : ℕ
idle = 7

-- what is not refused by 6, "command 011, 101, 110 or above 111"; request 2026-04: "Refusal 6 no longer covers 011"
unfoldable pub command_ok : ℕ → Bool
command_ok c = leb c discard || eqb c idle

-- 10 of a dump: "Other commands leave that buffer alone", whatever its length
unfoldable pub dump_fits : (n command room : ℕ) → Bool
dump_fits n command room = not (eqb command speed) || leb (frame_length speed_frame n) room

-- "Accepted only if .. (phase + 1) × M ≤ B": the data bins of a phase, one for each block, are all there
unfoldable pub phase_ok : Shape → (phase : ℕ) → Bool
phase_ok sh phase = leb (suc phase * sh.blocks) sh.bins

abbrev pub bank_ok : ℕ → Bool
bank_ok bank = ltb bank 2

-- a bin's place in a cell's list: bank 0's bins, then bank 1's
abbrev pub bin_index : (bins bank bin : ℕ) → ℕ
bin_index bins bank bin = bank * bins + bin

-- the fields of a frame that a run sends: "Y block, S + (data bin mod M)", "W5: Z + stamp div R. W6: bits 0-28 stamp
-- mod R"
unfoldable pub emitted_fields : Shape → (kind cell bank bin stamp ticks edge centre : ℕ) → Fields
emitted_fields sh kind cell bank bin stamp ticks edge centre =
    record {
      kind = kind;
      cell = cell;
      block = sh.start + bin % sh.blocks;
      bin = bin;
      bank = bank;
      ticks = ticks;
      centre = centre;
      edge = edge;
      second = sh.second + stamp / sh.rate;
      offset = stamp % sh.rate;
    }
