-- Document 01, "Who may be told no": "Where several apply, the order stands after each group." Rows of calls to which
-- several apply: on work memory set by the row, since demand 3 never meets 11, and on frames. proofs/AnswerOrder.antt
-- proves them.
use Rattle.std.specs.Prelude.{ℕ, ◌+◌, ◌≡◌, true, false, List, [], ◌∷◌, ◌++◌, map, pos, replicate}
use Rattle.lta_spec.specs.Shape.{run_limit}
use Rattle.lta_spec.specs.Place.{Held, Stamped, Bin, Cell, free, filling, ready}
use Rattle.lta_spec.specs.Bytes.{bytes_of}
use Rattle.lta_spec.specs.Frame.{mark, accumulated}
use Rattle.lta_spec.specs.FrameCalls.{read_answer, write_answer, normal_answer}
use Rattle.lta_spec.specs.Call.{Call, command_ok, emitted_fields}
use Rattle.lta_spec.specs.Call.Call.{tick, dump, integrate, emit, reading, forecast, page, pick}
use Rattle.lta_spec.specs.Answer.{Answer}
use Rattle.lta_spec.specs.Answer.Answer.{refused, number, fields}
use Rattle.lta_spec.specs.Engine.{Row, Counter, Picks, Unit, stamped, fresh_unit}
use Rattle.lta_spec.specs.Memory.{run_layout}
use Rattle.lta_spec.specs.Step.{step}
use Rattle.lta_spec.specs.WorkedRun.{sums_read}
use Rattle.lta_spec.specs.Edges.{script_shape, script_frame}
use Rattle.lta_spec.specs.PickRows.{ticks_row, bin_with}
use Rattle.lta_spec.specs.declared.Shape.{Shape}
use Rattle.lta_spec.specs.declared.Fields.{Fields}

-- a cell of the script's shape in a fresh run
abbrev pub fresh_one : Unit
fresh_one = fresh_unit script_shape.lags script_shape.bins

-- with another flag of Held, another Open, other bins and other losses
abbrev pub cell_with : (flag : ℕ) → Stamped Row → List (Bin Row) → (losses : List Row) → Cell Row
cell_with flag opened bins losses =
    let h = fresh_one.cell.held in
    let held : Held Row = record { occupied = flag; label = h.label; content = h.content } in
    record { opened = opened; held = held; bins = bins; losses = losses }

-- a run of a shape with these cells
abbrev pub mem_units : Shape → (t next : ℕ) → List Unit → List ℕ
mem_units sh t next us = (run_layout sh).put (record { t = t; next = next; units = us })

-- a fresh run of the script's shape but for t, Held's flag, the newest entry of X's register and the block counter
abbrev pub mem_counted : Counter → (t flag entry : ℕ) → List ℕ
mem_counted counter t flag entry =
    let c = fresh_one.cell in
    let cell = cell_with flag c.opened c.bins c.losses in
    mem_units script_shape t 0
    (record { cell = cell; counter = counter; picks = fresh_one.picks; xs = entry ∷ 0 ∷ []; ys = fresh_one.ys } ∷ [])

abbrev pub counter_with : (offset last_code : ℕ) → Counter
counter_with offset code = record { offset = offset; last_code = code }

abbrev pub mem_with : (t flag entry : ℕ) → List ℕ
mem_with = mem_counted (counter_with 0 0)

-- a fresh cell but for its places and its picks
abbrev pub unit_with : Cell Row → Picks → Unit
unit_with cell picks =
    record { cell = cell; counter = fresh_one.counter; picks = picks; xs = fresh_one.xs; ys = fresh_one.ys }

-- a fresh run of the script's shape but for Open and the losses, at t = 7
abbrev pub mem_places : Stamped Row → (losses : List Row) → List ℕ
mem_places opened losses =
    mem_units script_shape 7 0 (unit_with (cell_with 0 opened fresh_one.cell.bins losses) fresh_one.picks ∷ [])

-- Open has so many ticks and this stamp
abbrev pub mem_opened : (ticks stamp : ℕ) → List ℕ
mem_opened ticks stamp = mem_places (stamped (ticks_row ticks) stamp) (replicate 6 (ticks_row 0))

-- the losses have so many ticks
abbrev pub mem_lost : List ℕ → List ℕ
mem_lost ticks = mem_places (stamped (ticks_row 0) 0) (map ticks_row ticks)

-- the bins of a cell: the first one as given, the third one Ready with three ticks
abbrev pub bins_with : Bin Row → List (Bin Row)
bins_with b = b ∷ bin_with filling 2 4 ∷ bin_with ready 3 4 ∷ bin_with free 0 7 ∷ []

-- a cell with such bins, the first of which is Held's, and this flag of Held, Ready number and place of picks
abbrev pub unit_picked : (flag : ℕ) → Bin Row → (ready_bins place : ℕ) → Unit
unit_picked flag b ready_bins place =
    let c = fresh_one.cell in
    unit_with (cell_with flag c.opened (bins_with b) c.losses) (record { ready_bins = ready_bins; next = place })

-- a run with such a cell and this place of picks, at t = 7
abbrev pub mem_picked : (flag : ℕ) → Bin Row → (ready_bins place next : ℕ) → List ℕ
mem_picked flag b ready_bins place next = mem_units script_shape 7 next (unit_picked flag b ready_bins place ∷ [])

-- the script's shape with so many cells
abbrev pub shape_of : (cells : ℕ) → Shape
shape_of cells =
    let s = script_shape in
    record {
      cells = cells;
      lags = s.lags;
      bins = s.bins;
      blocks = s.blocks;
      start = s.start;
      rate = s.rate;
      second = s.second;
    }

-- a run of two cells: cell 0 has a Ready bin, and cell 1 is as given
abbrev pub mem_pair : Unit → List ℕ
mem_pair u = mem_units (shape_of 2) 7 0 (unit_picked 0 (bin_with free 0 0) 1 3 ∷ u ∷ [])

-- a buffer of so many bytes
abbrev pub bytes : ℕ → List ℕ
bytes n = replicate n 9

-- what each call answers on the same work memory
abbrev pub returned : (mem : List ℕ) → List Call → List Answer
returned mem calls = map (λ call. (step script_shape call mem).answer) calls

-- what one call answers on each of several
abbrev pub on_each : {A : Type 0} → (mem : A → List ℕ) → Call → List A → List Answer
on_each mem call xs = map (λ x. (step script_shape call (mem x)).answer) xs

abbrev pub refusals : List ℕ → List Answer
refusals ks = map refused ks

-- the bytes of a frame of zeros with so much for its sum
abbrev pub zero_frame : (sum : ℕ) → List ℕ
zero_frame sum = mark ++ bytes_of (replicate 11 0 ++ sum ∷ [])

-- the bytes of a speed frame of one tick without a valid product, with this kind in W0, DATA_BIAS and sum; and those of
-- a frame without DATA_BIAS
abbrev pub speed_words : (kind bias sum : ℕ) → List ℕ
speed_words kind bias sum = mark ++ bytes_of (kind ∷ 0 ∷ 1 ∷ replicate 4 0 ++ bias ∷ replicate 4 0 ++ sum ∷ [])

abbrev pub short_words : (kind sum : ℕ) → List ℕ
short_words kind sum = mark ++ bytes_of (kind ∷ 0 ∷ 1 ∷ replicate 8 0 ++ sum ∷ [])

-- their fields
abbrev pub tick_fields : (kind : ℕ) → Fields
tick_fields kind = emitted_fields script_shape kind 0 0 0 0 1 0 0

-- the fields of a frame without ticks
abbrev pub no_ticks : Fields
no_ticks = emitted_fields script_shape accumulated 0 0 0 0 0 0 0

pub record Orders : Type 0 where
  -- "3 .. 4 .. Then 11", 19 "after 3 and before 4": the run is full, and 512 is no entry of a register
  pub sampler : returned (mem_with run_limit 0 512)
      (tick (0 ∷ 0 ∷ []) ∷ tick (0 ∷ 0 ∷ 4 ∷ 0 ∷ []) ∷ tick (0 ∷ 0 ∷ 128 ∷ []) ∷ tick (0 ∷ 0 ∷ 3 ∷ []) ∷ [])
      ≡ refusals (3 ∷ 3 ∷ 19 ∷ 4 ∷ [])
  pub sampler-last : returned (mem_with 0 0 512) (tick (0 ∷ 0 ∷ []) ∷ tick (0 ∷ 0 ∷ 4 ∷ []) ∷ tick (0 ∷ 0 ∷ 3 ∷ []) ∷ [])
      ≡ refusals (3 ∷ 19 ∷ 11 ∷ [])
  -- the last entry that a register may have
  pub sampler-entry : returned (mem_with 0 0 511) (tick (0 ∷ 0 ∷ 3 ∷ []) ∷ []) ≡ number 0 ∷ []
  -- "Order 5, 6, 7, 11, for every command": t is too high; then a flag of 2
  pub commander : returned (mem_with (run_limit + 1) 0 0)
      (dump 1 5 2 0 [] ∷ dump 0 5 2 0 [] ∷ dump 0 2 2 0 [] ∷ dump 0 4 2 0 [] ∷ dump 0 7 2 0 [] ∷ [])
      ≡ refusals (5 ∷ 6 ∷ 7 ∷ 7 ∷ 7 ∷ [])
  pub commander-last : returned (mem_with 0 2 0) (dump 0 2 0 0 [] ∷ dump 0 4 0 0 [] ∷ dump 0 7 0 0 [] ∷ [])
      ≡ refusals (11 ∷ 11 ∷ 11 ∷ [])
  -- request 2026-04, "Refusal 6 no longer covers 011": 000 to 100, and 111
  pub commands : map command_ok (0 ∷ 1 ∷ 2 ∷ 3 ∷ 4 ∷ 5 ∷ 6 ∷ 7 ∷ 8 ∷ 4294967299 ∷ [])
      ≡ true ∷ true ∷ true ∷ true ∷ true ∷ false ∷ false ∷ true ∷ false ∷ false ∷ []
  -- 011, "10 applies to it last": no such cell, no such bank, t is too high, a flag of 2; then buffers around a frame
  pub speeder : returned (mem_with (run_limit + 1) 0 0) (dump 1 3 2 0 [] ∷ dump 0 3 2 0 [] ∷ dump 0 3 0 0 [] ∷ [])
      ≡ refusals (5 ∷ 7 ∷ 11 ∷ [])
  pub speeder-damage : returned (mem_with 0 2 0) (dump 0 3 0 0 [] ∷ []) ≡ refusals (11 ∷ [])
  pub speeder-last : returned (mem_with 0 1 0)
      (dump 0 3 0 0 [] ∷ dump 0 3 0 0 (bytes 53) ∷ dump 0 3 0 0 (bytes 54) ∷ dump 0 3 0 0 (bytes 55) ∷ [])
      ≡ refused 10 ∷ refused 10 ∷ number 54 ∷ number 54 ∷ []
  -- no other command wants a buffer
  pub speeder-others : returned (mem_with 0 0 0)
      (dump 0 0 0 0 [] ∷ dump 0 1 0 0 [] ∷ dump 0 2 0 0 [] ∷ dump 0 4 0 0 [] ∷ dump 0 7 0 0 [] ∷ [])
      ≡ number 0 ∷ number 0 ∷ number 0 ∷ number 1 ∷ number 7 ∷ []
  -- it adds to no loss: loss 1 is full, and Open has a tick
  pub speeder-losses : returned
      (mem_places (stamped (ticks_row 1) 7) (map ticks_row (2147483648 ∷ 0 ∷ 0 ∷ 0 ∷ 0 ∷ 0 ∷ [])))
      (dump 0 4 0 0 (bytes 54) ∷ dump 0 3 0 0 (bytes 54) ∷ [])
      ≡ refused 11 ∷ number 54 ∷ []
  -- request 2026-01, M=1: a block past the last one, a last command that is none of 000, 001, 010 and 100
  pub counter-block : returned (mem_counted (counter_with 1 0) 0 0 0)
      (dump 0 5 2 0 [] ∷ dump 0 2 2 0 [] ∷ dump 0 2 0 2 [] ∷ dump 0 2 0 0 [] ∷ dump 0 3 0 0 [] ∷ dump 0 4 0 0 []
      ∷ dump 0 7 0 0 []
      ∷ [])
      ≡ refusals (6 ∷ 7 ∷ 7 ∷ 11 ∷ 11 ∷ 11 ∷ 11 ∷ [])
  pub counter-command :
      map (λ code. (step script_shape (dump 0 2 0 1 []) (mem_counted (counter_with 0 code) 0 0 0)).answer)
      (0 ∷ 1 ∷ 2 ∷ 3 ∷ 4 ∷ 5 ∷ 6 ∷ 8 ∷ [])
      ≡ number 0 ∷ number 0 ∷ number 0 ∷ number 0 ∷ refused 11 ∷ number 0 ∷ refused 11 ∷ refused 11 ∷ []
  -- no other call tests them
  pub counter-others : returned (mem_counted (counter_with 1 4) 0 0 0)
      (tick (0 ∷ 0 ∷ 0 ∷ []) ∷ integrate 0 ∷ emit 0 0 0 [] ∷ forecast 0 ∷ [])
      ≡ number 0 ∷ refused 8 ∷ refused 9 ∷ number 524288 ∷ []
  -- "Order 5, 11, then 8"
  pub integrator : returned (mem_with (run_limit + 1) 0 0) (integrate 1 ∷ integrate 0 ∷ []) ≡ refusals (5 ∷ 11 ∷ [])
  pub integrator-last : returned (mem_with 0 2 0) (integrate 0 ∷ []) ≡ refusals (11 ∷ [])
  -- "Order 5, 7 .., 11, 9 .., 10": t is too high; then no bin is Ready, and the buffer is empty
  pub taker : returned (mem_with (run_limit + 1) 0 0) (emit 1 2 0 [] ∷ emit 0 2 0 [] ∷ emit 0 0 0 [] ∷ [])
      ≡ refusals (5 ∷ 7 ∷ 11 ∷ [])
  pub taker-last : returned (mem_with 0 0 0) (emit 0 0 0 [] ∷ []) ≡ refusals (9 ∷ [])
  -- "5, 12 .., 11"
  pub reader : returned (mem_with (run_limit + 1) 0 0) (reading 1 2 0 ∷ reading 0 2 0 ∷ reading 0 0 1 ∷ [])
      ≡ refusals (5 ∷ 12 ∷ 11 ∷ [])
  -- forecasts, "Refused by 1, 2, 5, 11": t is too high; a flag of 2 and no entry of a register, which they do not test
  pub forecaster : returned (mem_with (run_limit + 1) 0 0) (forecast 1 ∷ forecast 0 ∷ []) ≡ refusals (5 ∷ 11 ∷ [])
  pub forecaster-others : returned (mem_with 0 2 512) (forecast 1 ∷ forecast 0 ∷ []) ≡ refused 5 ∷ number 524288 ∷ []
  -- request 2026-02, "exactly 524,288 less the ticks in the open integration"; "ticks pass their limit", "a stamp
  -- passes t"
  pub forecaster-open : map (λ k. (step script_shape (forecast 0) (mem_opened k 7)).answer)
      (1 ∷ 524287 ∷ 524288 ∷ 524289 ∷ [])
      ≡ number 524287 ∷ number 1 ∷ number 0 ∷ refused 11 ∷ []
  pub forecaster-stamp : returned (mem_opened 3 8) (forecast 0 ∷ []) ≡ refusals (11 ∷ [])
  -- request 2026-03, "refused by 10 after 1, 2 and 11": t is too high; a flag of 2 and no entry of a register, which
  -- pages do not test
  pub pager : returned (mem_with (run_limit + 1) 0 0) (page [] ∷ page (bytes 287) ∷ []) ≡ refusals (11 ∷ 11 ∷ [])
  pub pager-others : returned (mem_with 0 2 512) (page [] ∷ page (bytes 286) ∷ page (bytes 287) ∷ page (bytes 288) ∷ [])
      ≡ refused 10 ∷ refused 10 ∷ number 287 ∷ number 287 ∷ []
  -- "every cell's losses": one alone; "and six that together pass 2,147,483,648 ticks", each within its own limit
  pub pager-losses : map (λ ticks. (step script_shape (page (bytes 287)) (mem_lost ticks)).answer)
      ((0 ∷ 0 ∷ 0 ∷ 0 ∷ 2147483648 ∷ 0 ∷ [])
      ∷ (0 ∷ 0 ∷ 0 ∷ 0 ∷ 2147483649 ∷ 0 ∷ [])
      ∷ (1 ∷ 20 ∷ 300 ∷ 4000 ∷ 50000 ∷ 2147429327 ∷ [])
      ∷ (1 ∷ 20 ∷ 300 ∷ 4000 ∷ 50000 ∷ 2147429328 ∷ [])
      ∷ (2147483648 ∷ 0 ∷ 0 ∷ 0 ∷ 0 ∷ 1 ∷ [])
      ∷ [])
      ≡ number 287 ∷ refused 11 ∷ number 287 ∷ refused 11 ∷ refused 11 ∷ []
  -- request 2026-07, "20 when no cell has a Ready bin, tested after 1, 2 and 11 and before 10": 17 cells, no words, t
  -- too high; a flag of 2 and no entry of a register, which picks do not test; then buffers around a frame
  pub picker-host : map (λ sh. (step sh (pick []) []).answer) (shape_of 17 ∷ shape_of 16 ∷ []) ≡ refusals (1 ∷ 2 ∷ [])
  pub picker : returned (mem_with (run_limit + 1) 0 0) (pick [] ∷ pick (bytes 50) ∷ []) ≡ refusals (11 ∷ 11 ∷ [])
  pub picker-none : returned (mem_with 0 2 512) (pick [] ∷ pick (bytes 49) ∷ pick (bytes 50) ∷ [])
      ≡ refusals (20 ∷ 20 ∷ 20 ∷ [])
  pub picker-last : returned (mem_picked 2 (bin_with filling 6 7) 1 3 0)
      (pick [] ∷ pick (bytes 49) ∷ pick (bytes 50) ∷ pick (bytes 51) ∷ [])
      ≡ refused 10 ∷ refused 10 ∷ number 50 ∷ number 50 ∷ []
  -- "here 11 covers every cell's bins": of a bin that is not picked a state of 3, a tick though it is Free, a stamp
  -- above t, a tick too many
  pub picker-bins : on_each (λ b. mem_picked 0 b 1 3 0) (pick (bytes 50))
      (bin_with filling 16777215 7
      ∷ bin_with 3 6 7
      ∷ bin_with free 0 7
      ∷ bin_with free 1 7
      ∷ bin_with filling 6 8
      ∷ bin_with filling 16777216 7
      ∷ [])
      ≡ number 50 ∷ refused 11 ∷ number 50 ∷ refused 11 ∷ refused 11 ∷ refused 11 ∷ []
  -- "Ready numbers that differ from them": one Ready bin, then two
  pub picker-numbers : on_each (λ k. mem_picked 0 (bin_with filling 6 7) k 3 0) (pick (bytes 50))
      (0 ∷ 1 ∷ 2 ∷ [])
      ≡ refused 11 ∷ number 50 ∷ refused 11 ∷ []
  pub picker-two : on_each (λ k. mem_picked 0 (bin_with ready 6 7) k 3 0) (pick (bytes 50))
      (1 ∷ 2 ∷ 3 ∷ [])
      ≡ refused 11 ∷ number 50 ∷ refused 11 ∷ []
  -- "and places not in the run": place 4 of a cell's bins, cell 1
  pub picker-places : on_each (λ k. mem_picked 0 (bin_with free 0 7) 1 k 0) (pick (bytes 50))
      (0 ∷ 3 ∷ 4 ∷ [])
      ≡ number 50 ∷ number 50 ∷ refused 11 ∷ []
  pub picker-cells : on_each (λ c. mem_picked 0 (bin_with free 0 7) 1 3 c) (pick (bytes 50))
      (0 ∷ 1 ∷ [])
      ≡ number 50 ∷ refused 11 ∷ []
  -- the same in a cell that is not served: a state of 3, a Ready number that differs, a place 4
  pub picker-every : map (λ u. (step (shape_of 2) (pick (bytes 50)) (mem_pair u)).answer)
      (unit_picked 2 (bin_with filling 6 7) 1 3
      ∷ unit_picked 2 (bin_with 3 6 7) 1 3
      ∷ unit_picked 2 (bin_with filling 6 7) 2 3
      ∷ unit_picked 2 (bin_with filling 6 7) 1 4
      ∷ [])
      ≡ number 50 ∷ refused 11 ∷ refused 11 ∷ refused 11 ∷ []
  -- "integration and emission give it where the cell's Ready number is above 2B, or is 0 though the bin tested is
  -- Ready, or 2B though it isn't": 2B is 4, and the bin Ready, then Filling. They test no place.
  pub taker-numbers : on_each (λ k. mem_picked 0 (bin_with ready 6 7) k 4 1) (emit 0 0 0 (bytes 50))
      (0 ∷ 1 ∷ 3 ∷ 4 ∷ 5 ∷ [])
      ≡ refused 11 ∷ number 50 ∷ number 50 ∷ number 50 ∷ refused 11 ∷ []
  pub taker-filling : on_each (λ k. mem_picked 0 (bin_with filling 6 7) k 4 1) (emit 0 0 0 [])
      (0 ∷ 1 ∷ 3 ∷ 4 ∷ 5 ∷ [])
      ≡ refusals (9 ∷ 9 ∷ 9 ∷ 11 ∷ 11 ∷ [])
  -- a 000 is held for it: loss 3, loss 4
  pub integrator-numbers : on_each (λ k. mem_picked 1 (bin_with ready 6 7) k 4 1) (integrate 0)
      (0 ∷ 1 ∷ 3 ∷ 4 ∷ 5 ∷ [])
      ≡ refused 11 ∷ number 3 ∷ number 3 ∷ number 3 ∷ refused 11 ∷ []
  pub integrator-filling : on_each (λ k. mem_picked 1 (bin_with filling 6 7) k 4 1) (integrate 0)
      (0 ∷ 1 ∷ 3 ∷ 4 ∷ 5 ∷ [])
      ≡ number 4 ∷ number 4 ∷ number 4 ∷ refused 11 ∷ refused 11 ∷ []
  -- where Held is unoccupied no bin is tested
  pub integrator-unoccupied : on_each (λ k. mem_picked 0 (bin_with ready 6 7) k 4 1) (integrate 0)
      (0 ∷ 4 ∷ 5 ∷ [])
      ≡ refusals (8 ∷ 8 ∷ 11 ∷ [])
  -- no other call tests Ready number and places
  pub picks-others : returned (mem_picked 0 (bin_with filling 6 7) 5 4 1)
      (tick (0 ∷ 0 ∷ 0 ∷ []) ∷ dump 0 4 0 0 [] ∷ dump 0 2 0 0 [] ∷ dump 0 3 0 0 (bytes 54) ∷ reading 0 0 1 ∷ forecast 0
      ∷ page (bytes 287)
      ∷ [])
      ≡ number 0 ∷ number 1 ∷ number 0 ∷ number 54 ∷ sums_read (pos 0) (pos 0) 0 0 0 ∷ number 524288 ∷ number 287 ∷ []
  -- "1 for N, then 13 .., 14 .., 15 .., 16"; "Normalising: 12 last"
  pub sender : read_answer 3 [] ∷ map (read_answer 2) ([] ∷ replicate 50 0 ∷ zero_frame 1 ∷ zero_frame 0 ∷ [])
      ≡ refusals (1 ∷ 13 ∷ 14 ∷ 15 ∷ 16 ∷ [])
  pub normaliser : normal_answer 2 (zero_frame 0) 2 ∷ normal_answer 2 script_frame 2 ∷ [] ≡ refusals (16 ∷ 12 ∷ [])
  -- request 2026-04: "13 when the length is neither kind's", 15 with DATA_BIAS in the sum, "16 when W0 names the kind
  -- of the other length" or none, 18 "tested after 16"; 12 behind 18
  pub sender-kinds : map (read_answer 2)
      (replicate 52 0
      ∷ speed_words 3 128 130
      ∷ speed_words 2 127 130
      ∷ speed_words 4 127 132
      ∷ short_words 3 4
      ∷ speed_words 3 127 131
      ∷ speed_words 3 256 260
      ∷ [])
      ≡ refusals (13 ∷ 15 ∷ 16 ∷ 16 ∷ 16 ∷ 18 ∷ 18 ∷ [])
  pub sender-takes : map (read_answer 2) (speed_words 3 128 132 ∷ short_words 2 3 ∷ [])
      ≡ fields (tick_fields 3) ∷ fields (tick_fields 2) ∷ []
  -- request 2026-06, "A speed frame written before with any ticks in it": its DATA_BIAS is 98
  pub sender-before : read_answer 2 (speed_words 3 98 102) ≡ refused 18
  pub normaliser-kinds : map (λ s. normal_answer 2 s 2) (speed_words 3 98 102 ∷ speed_words 3 128 132 ∷ [])
      ≡ refusals (18 ∷ 12 ∷ [])
  -- "Writing fields: 1, 16, 10"
  pub writer : write_answer 3 no_ticks [] 0
      ∷ write_answer 2 no_ticks [] 0
      ∷ write_answer 2 no_ticks (replicate 4 (pos 0)) 0
      ∷ [] ≡ refusals (1 ∷ 16 ∷ 10 ∷ [])
  -- "The writer takes the kind too, 2 or 3, else 16": kinds 0 to 4 without room, and rooms for kind 3
  pub writer-kinds : map (λ kind. write_answer 2 (tick_fields kind) (replicate 4 (pos 0)) 0) (0 ∷ 1 ∷ 2 ∷ 3 ∷ 4 ∷ [])
      ≡ refusals (16 ∷ 16 ∷ 10 ∷ 10 ∷ 16 ∷ [])
  pub writer-room : map (write_answer 2 (tick_fields 3) (replicate 4 (pos 0))) (50 ∷ 53 ∷ 54 ∷ [])
      ≡ refused 10 ∷ refused 10 ∷ number 54 ∷ []
