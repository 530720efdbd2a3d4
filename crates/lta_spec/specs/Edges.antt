-- Document 01, "Edges of the rules": the rows marked P, as one statement about the definitions, with rows that a
-- wrong sign, order or number would break, and those of the requests. proofs/Edges.antt proves it.
use Rattle.std.specs.Prelude.{ℕ, ◌+◌, ◌-◌, ◌%◌, ◌<◌, ◌≡◌, true, false, List, [], ◌∷◌, ◌++◌, map, eqb, ℤ, pos, length, replicate, take, Ok, Err}
use Rattle.lta_spec.specs.Words.{sums}
use Rattle.lta_spec.specs.Refusals.{refusal_number, loss_number, test, first_of, Verdict}
use Rattle.lta_spec.specs.Bytes.{bytes_of}
use Rattle.lta_spec.specs.Frame.{mark, accumulated, frame_length}
use Rattle.lta_spec.specs.Tick.{Entry, from_sample, x_delay, y_delay, weight, both_valid, in_phase, quadrature}
use Rattle.lta_spec.specs.Place.{Label, Bin, Cell, free, filling}
use Rattle.lta_spec.specs.Place.{ordered, overrun, full, replaced, too_wide, holdoff}
use Rattle.lta_spec.specs.Call.{add, phase_ok, bin_index}
use Rattle.lta_spec.specs.Call.Call.{tick, dump, integrate, emit}
use Rattle.lta_spec.specs.FrameCalls.{quotient, normal_answer}
use Rattle.lta_spec.specs.Answer.Answer.{refused, number, normal}
use Rattle.lta_spec.specs.Machine as M
use Rattle.lta_spec.specs.Machine.{Ticks}
use Rattle.lta_spec.specs.Machine.Latest.{none}
use Rattle.lta_spec.specs.MachineRun as R
use Rattle.lta_spec.specs.Engine as E
use Rattle.lta_spec.specs.Engine.{Row}
use Rattle.lta_spec.specs.Row.{ticks_of}
use Rattle.lta_spec.specs.Demand.{Listed, Returned, machine_returns, engine_returns, fresh_mem}
use Rattle.lta_spec.specs.Demand.Listed.{on_run}
use Rattle.lta_spec.specs.BlockRows.{BlockRows}
use Rattle.lta_spec.specs.WorkedRun.{answer_only, minus, worked_shape, worked_run, worked_frame, calls_of, returned_by}
use Rattle.lta_spec.specs.declared.Shape.{Shape}
use Rattle.lta_spec.specs.declared.Refusal.{Refusal}
use Rattle.lta_spec.specs.declared.Refusal.TheVariants as no
use Rattle.lta_spec.specs.declared.Loss.{Loss}
use Rattle.lta_spec.specs.declared.Loss.TheVariants.{Ordered, Overrun, Full, Replaced, Wide, Holdoff}

-- "C=1, N=2, B=2, M=1, S=0, R=4, Z=0"
abbrev pub script_shape : Shape
script_shape = record { cells = 1; lags = 2; bins = 2; blocks = 1; start = 0; rate = 4; second = 0 }

-- the buffer that the script program lends: room for a frame of either kind
abbrev pub script_lent : List ℕ
script_lent = replicate 54 0

-- "TK 02 03, TK 01 0F, TK 08 02 (hexadecimal), DP 0 2 0 0 0, IN 0, EM 0 0 0, IN 0", the DP without its last number by
-- request 2026-01, "with validity bytes 03, 03 and 02" by request 2026-06
abbrev pub script : List Listed
script =
    on_run (tick (2 ∷ 3 ∷ 3 ∷ []))
    ∷ on_run (tick (1 ∷ 15 ∷ 3 ∷ []))
    ∷ on_run (tick (8 ∷ 2 ∷ 2 ∷ []))
    ∷ on_run (dump 0 2 0 0 script_lent)
    ∷ on_run (integrate 0)
    ∷ on_run (emit 0 0 0 script_lent)
    ∷ on_run (integrate 0)
    ∷ []

-- "EM 0 2 0 3 2 1 0 0 6 0 10 0 24" behind the mark, byte by byte
abbrev pub script_frame : List ℕ
script_frame = mark ++ bytes_of (2 ∷ 0 ∷ 3 ∷ 2 ∷ 1 ∷ 0 ∷ 0 ∷ 6 ∷ 0 ∷ 10 ∷ 0 ∷ 24 ∷ [])

abbrev pub script_returned : List Returned
script_returned =
    answer_only (number 0)
    ∷ answer_only (number 0)
    ∷ answer_only (number 0)
    ∷ record { answer = number 0; out = script_lent }
    ∷ answer_only (number 0)
    ∷ record { answer = number 50; out = script_frame ++ replicate 4 0 }
    ∷ answer_only (refused 8)
    ∷ []

-- a shape with M blocks and B bins, S = 0
abbrev pub block_shape : (blocks bins : ℕ) → Shape
block_shape blocks bins =
    record { cells = 1; lags = 2; bins = bins; blocks = blocks; start = 0; rate = 1; second = 0 }

-- what one tick adds at a lag where two entries meet
abbrev pub Meet : (x y : Entry) (i q : ℤ) → Type 0
Meet x y i q = (in_phase x y ≡ i) × (quadrature x y ≡ q)

-- the entry of a byte with its validity bit, set or clear
abbrev pub valid_byte : (byte : ℕ) → Entry
valid_byte b = from_sample (record { byte = b; valid = true })

abbrev pub invalid_byte : (byte : ℕ) → Entry
invalid_byte b = from_sample (record { byte = b; valid = false })

-- of two valid bytes
abbrev pub Adds : (x y : ℕ) (i q : ℤ) → Type 0
Adds x y i q = Meet (valid_byte x) (valid_byte y) i q

-- a run of the plain machine at tick number t; its cells do not matter to the tests of a tick
abbrev pub before_tick : (t : ℕ) → R.Run
before_tick t = record { t = t; served = none; units = [] }

-- the bytes of a tick of two cells, with these validity bytes
abbrev pub six_bytes : (v w : ℕ) → List ℕ
six_bytes v w = 0x12 ∷ 0x34 ∷ v ∷ 0x56 ∷ 0x78 ∷ w ∷ []

-- what the sampler is told at tick number t
abbrev pub told : (t v w : ℕ) → Verdict
told t v w = first_of (R.call_tests worked_shape (before_tick t) (tick (six_bytes v w)))

-- the refusals in the order of document 01's numbers
abbrev pub all_refusals : List Refusal
all_refusals =
    no.BadShape ∷ no.WrongMemory ∷ no.WrongSamples ∷ no.RunFull ∷ no.NoCell ∷ no.BadCommand ∷ no.NoBin
    ∷ no.NothingHeld ∷ no.NotReady ∷ no.ShortBuffer ∷ no.Damaged ∷ no.NoLag
    ∷ no.WrongLength ∷ no.WrongMark ∷ no.WrongSum ∷ no.BadField ∷ no.BadRecord ∷ no.WrongBias
    ∷ no.BadValidity
    ∷ []

-- the six losses, and the place of a loss in a cell's list by its number
abbrev pub six_losses : List Loss
six_losses = Ordered ∷ Overrun ∷ Full ∷ Replaced ∷ Wide ∷ Holdoff ∷ []

abbrev pub loss_place : (loss : ℕ) → ℕ
loss_place loss = loss - 1

-- command 001 onto a Filling bin
pub record Adding {P : Type 0} (b : Bin P) (c : Cell P) : Type 0 where
  pub is_filling : b.state ≡ filling
  pub adds : c.held.label.command ≡ add

-- the bin with Held's set joined to its own
abbrev pub joined : Bin Ticks → Cell Ticks → Bin Ticks
joined b c =
    record {
      state = b.state;
      content = M.stamped (b.content.members ++ c.held.content.members) b.content.stamp;
    }

pub record Edges : Type 0 where
  -- P1 the frame above
  pub p1-machine : machine_returns script_shape script (R.start script_shape) ≡ script_returned
  pub p1-engine : engine_returns script_shape script (fresh_mem script_shape) ≡ script_returned
  -- the worked run; the mark, W0 and W1 of its frame as bytes
  pub worked-machine : machine_returns worked_shape (calls_of worked_run) (R.start worked_shape) ≡ returned_by worked_run
  pub worked-engine : engine_returns worked_shape (calls_of worked_run) (fresh_mem worked_shape) ≡ returned_by worked_run
  pub worked-bytes : take 10 worked_frame ≡ 0x4C ∷ 0x54 ∷ 0x02 ∷ 0x08 ∷ 0 ∷ 0 ∷ 0 ∷ 0x15 ∷ 0x04 ∷ 0x80 ∷ []
  -- P2 N=2 lag 0: delays 0 and 1; lag 1: 1 and 1
  pub p2-lag0 : (x_delay 0 0 ≡ 0) × (y_delay 2 0 0 ≡ 1)
  pub p2-lag1 : (x_delay 0 1 ≡ 1) × (y_delay 2 0 1 ≡ 1)
  -- P3 d=4: I weight 0, Q weight 2
  pub p3 : (weight 4 ≡ pos 0) × (weight ((4 + 12) % 16) ≡ pos 2)
  -- samples 3 and -5: X phase 9 and Y phase 5, d=4; X phase 5 and Y phase 9, d=12
  pub p3-ahead : Adds 0x93 0x5B (pos 0) (minus 30)
  pub p3-behind : Adds 0x53 0x9B (pos 0) (pos 30)
  -- X phase 0 and Y phase 15, d=1: weights 2 and 1; X phase 15 and Y phase 0, d=15: weights 2 and -1
  pub p3-one-ahead : Adds 0x03 0xFB (minus 30) (minus 15)
  pub p3-one-behind : Adds 0xF3 0x0B (minus 30) (pos 15)
  -- request 2026-06, "uses -8 as a true sample": -8 × -8 at weights 2 and 1, at -2 and -1, and -8 × 7
  pub least-by-least : Adds 0x18 0x08 (pos 128) (pos 64)
  pub least-turned : Adds 0x98 0x08 (minus 128) (minus 64)
  pub least-by-most : Adds 0x18 0x07 (minus 112) (minus 56)
  -- a clear bit, whatever the four bits are: nothing is added, and the product is not valid
  pub clear-x : Meet (invalid_byte 0x15) (valid_byte 0x27) (pos 0) (pos 0)
  pub clear-y : Meet (valid_byte 0x18) (invalid_byte 0x28) (pos 0) (pos 0)
  pub clear-counts : both_valid (invalid_byte 0x15) (valid_byte 0x27) ∷ both_valid (valid_byte 0x18) (invalid_byte 0x28) ∷ []
      ≡ false ∷ false ∷ []
  pub least-counts : both_valid (valid_byte 0x18) (valid_byte 0x28) ≡ true
  -- P4 M=16, B=1,000, phase 61 fits; P5 phase 62, offset 0, is refused though 992 < 1,000
  pub p4 : phase_ok (block_shape 16 1000) 61 ≡ true
  pub p5 : (phase_ok (block_shape 16 1000) 62 ≡ false) × (M.data_bin 0 16 62 0 ≡ 992)
  -- P6 M=4, B=1,000: phase 249 fits; P7 250 doesn't
  pub p6 : phase_ok (block_shape 4 1000) 249 ≡ true
  pub p7 : phase_ok (block_shape 4 1000) 250 ≡ false
  -- request 2026-01
  pub blocks : BlockRows
  -- the bins of bank 0, then those of bank 1
  pub bin-order : bin_index 6 1 4 ≡ 10
  -- "4: t is 2,147,483,648"
  pub last-tick : told 2147483647 3 3 ≡ Ok tt
  pub run-full : told 2147483648 3 3 ≡ Err no.RunFull
  -- 19 "when a validity byte has another bit set, tested after 3 and before 4": bit 2, bit 7 alone, of either cell
  pub validity : map (λ v. told 2147483648 v 0) (0 ∷ 1 ∷ 2 ∷ 3 ∷ []) ≡ replicate 4 (Err no.RunFull)
  pub other-bits : map (λ v. told 2147483648 v 3) (4 ∷ 7 ∷ 8 ∷ 16 ∷ 32 ∷ 64 ∷ 128 ∷ 255 ∷ [])
      ≡ replicate 8 (Err no.BadValidity)
  pub next-cell : map (told 0 3) (3 ∷ 4 ∷ 128 ∷ []) ≡ Ok tt ∷ Err no.BadValidity ∷ Err no.BadValidity ∷ []
  pub samples-first : first_of (R.call_tests worked_shape (before_tick 0) (tick (1 ∷ 2 ∷ 128 ∷ 0 ∷ 0 ∷ [])))
      ≡ Err no.WrongSamples
  -- "Who may be told no": 1 to 17, 18 of request 2026-04 and 19 of 2026-06
  pub refusal-numbers : map refusal_number all_refusals
      ≡ 1 ∷ 2 ∷ 3 ∷ 4 ∷ 5 ∷ 6 ∷ 7 ∷ 8 ∷ 9 ∷ 10 ∷ 11 ∷ 12 ∷ 13 ∷ 14 ∷ 15 ∷ 16 ∷ 17 ∷ 18 ∷ 19 ∷ []
  -- "Where several apply, the order stands after each group."
  pub first-applies : first_of (test false no.NoCell ∷ test false no.BadCommand ∷ []) ≡ Err no.NoCell
  -- "1 ordered, 2 overrun, 3 full, 4 replaced, 5 wide, 6 holdoff"
  pub loss-numbers : map loss_number six_losses ≡ 1 ∷ 2 ∷ 3 ∷ 4 ∷ 5 ∷ 6 ∷ []
  pub loss-places : map (λ l. loss_place (loss_number l)) six_losses
      ≡ ordered ∷ overrun ∷ full ∷ replaced ∷ too_wide ∷ holdoff ∷ []
  -- P8 Open at 524,287 takes a tick; P9 at 524,288 it is held off
  pub p8-machine : (t : ℕ) (c : Cell Ticks) → length c.opened.members ≡ 524287
      → ((M.tick_cell t c).opened.members ≡ c.opened.members ++ t ∷ []) × ((M.tick_cell t c).losses ≡ c.losses)
  pub p8-engine : (n : ℕ) (row : Row) (c : Cell Row) → ticks_of c.opened.members ≡ 524287
      → let d = E.tick_by n (E.has_room n c) row c in
      (d.opened.members ≡ sums c.opened.members row) × (d.losses ≡ c.losses)
  pub p9-machine : (t : ℕ) (c : Cell Ticks) → length c.opened.members ≡ 524288
      → let d = M.tick_cell t c in
      (d.opened ≡ c.opened) × (d.losses ≡ M.lose (loss_place 6) (t ∷ []) c.losses)
  pub p9-engine : (n : ℕ) (row : Row) (c : Cell Row) → ticks_of c.opened.members ≡ 524288
      → let d = E.tick_by n (E.has_room n c) row c in
      (d.opened ≡ c.opened) × (d.losses ≡ E.lose n (loss_place 6) row c.losses)
  -- a forecast of k ticks: with those of Open they are 524,288
  pub forecast-machine : (k : ℕ) (c : Cell Ticks) → length c.opened.members + k ≡ 524288 → M.forecast_of c ≡ k
  pub forecast-engine : (k : ℕ) (c : Cell Row) → ticks_of c.opened.members + k ≡ 524288 → E.forecast_of c ≡ k
  -- "An integration's stamp is t at its cell's previous accepted dump other than 111"
  pub dump-stamp : (l : Label) (t : ℕ) (c : Cell Ticks) → eqb l.command 7 ≡ false
      → (M.dump_cell l t c).cell.opened.stamp ≡ t
  pub idle-stamp : (l : Label) (t : ℕ) (c : Cell Ticks) → eqb l.command 7 ≡ true → (M.dump_cell l t c).cell ≡ c
  -- "A bin's stamp is that of the integration that took it out of Free or replaced its set."
  pub bin-stamp : (new old : ℕ) → (M.stamp_after true new old ≡ new) × (M.stamp_after false new old ≡ old)
  -- "An emptied Held keeps its label and stamp, an emptied bin its stamp."
  pub emptied-held : (k : ℕ) (b : Bin Ticks) (ls : List Ticks) (c : Cell Ticks)
      → let h = (M.release k b ls c).held in
      (h.label ≡ c.held.label) × (h.content ≡ M.stamped [] c.held.content.stamp)
  pub emptied-bin : (k : ℕ) (c : Cell Ticks) → k < length c.bins
      → M.bin_at k (M.empty_bin k c) ≡ record { state = free; content = M.stamped [] (M.bin_at k c).content.stamp }
  -- P10 bin at 16,777,214 plus 1 joins; P11 plus 2 is wide
  pub p10-machine : (k : ℕ) (b : Bin Ticks) (c : Cell Ticks) → Adding b c
      → length b.content.members ≡ 16777214 → length c.held.content.members ≡ 1
      → (M.integrate_at k b c).answer ≡ 0
  pub p10-joins : (k : ℕ) (b : Bin Ticks) (c : Cell Ticks) → Adding b c
      → length b.content.members ≡ 16777214 → length c.held.content.members ≡ 1
      → (M.integrate_at k b c).cell ≡ M.release k (joined b c) c.losses c
  pub p10-engine : (n k : ℕ) (b : Bin Row) (c : Cell Row) → Adding b c
      → ticks_of b.content.members ≡ 16777214 → ticks_of c.held.content.members ≡ 1
      → (E.integrate_at n k b c).answer ≡ 0
  pub p11-machine : (k : ℕ) (b : Bin Ticks) (c : Cell Ticks) → Adding b c
      → length b.content.members ≡ 16777214 → length c.held.content.members ≡ 2
      → (M.integrate_at k b c).answer ≡ 5
  pub p11-lost : (k : ℕ) (b : Bin Ticks) (c : Cell Ticks) → Adding b c
      → length b.content.members ≡ 16777214 → length c.held.content.members ≡ 2
      → (M.integrate_at k b c).cell ≡ M.release k b (M.lose (loss_place 5) c.held.content.members c.losses) c
  pub p11-engine : (n k : ℕ) (b : Bin Row) (c : Cell Row) → Adding b c
      → ticks_of b.content.members ≡ 16777214 → ticks_of c.held.content.members ≡ 2
      → (E.integrate_at n k b c).answer ≡ 5
  -- the worked frame at lag 2, "I and Q each divided by the centre count", 2
  pub normalised : normal_answer 4 worked_frame 2
      ≡ normal (record { re = quotient (minus 97) 2; im = quotient (pos 1) 2 })
  -- P12 N=128 frame: 1,058 bytes
  pub p12 : frame_length accumulated 128 ≡ 1058
