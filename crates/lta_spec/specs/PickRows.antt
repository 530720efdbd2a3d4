-- Request 2026-07: worked rows of picks. What each call tells, and the Ready numbers and places of picks in work
-- memory, were worked out from documents 01 and 02, not from the definitions here. proofs/PickRows.antt proves them,
-- of the machine by computing and of the engine by demand 3.
use Rattle.std.specs.Prelude.{ℕ, suc, ◌*◌, ◌≡◌, true, List, [], ◌∷◌, ◌++◌, map, replicate}
use Rattle.lta_spec.specs.Words.{joined}
use Rattle.lta_spec.specs.Place.{Label, Held, Bin, Cell, filling, ready}
use Rattle.lta_spec.specs.Frame.{body_of, fields_of}
use Rattle.lta_spec.specs.Call.{Call, last}
use Rattle.lta_spec.specs.Call.Call.{tick, dump, integrate, emit, reading, forecast, page, pick}
use Rattle.lta_spec.specs.Answer.{Answer}
use Rattle.lta_spec.specs.Answer.Answer.{refused, number}
use Rattle.lta_spec.specs.MachineRun as R
use Rattle.lta_spec.specs.Engine as E
use Rattle.lta_spec.specs.Engine.{Row}
use Rattle.lta_spec.specs.Memory.{Run, run_layout}
use Rattle.lta_spec.specs.Step as S
use Rattle.lta_spec.specs.Demand.{Listed, Returned, machine_returns, engine_returns, machine_after}
use Rattle.lta_spec.specs.Demand.{fresh_mem, mem_after, frame_if}
use Rattle.lta_spec.specs.Demand.Listed.{on_run, on_other}
use Rattle.lta_spec.specs.Fairness.{picks_in, picks_ahead}
use Rattle.lta_spec.specs.WorkedRun.{LineOf, calls_of, returned_by}
use Rattle.lta_spec.specs.declared.Shape.{Shape}

-- a frame in short, read back from its bytes
pub record FrameRead : Type 0 where
  pub cell : ℕ
  pub bank : ℕ
  pub bin : ℕ
  pub ticks : ℕ

abbrev pub read_short : (frame : List ℕ) → FrameRead
read_short frame =
    let f = fields_of (body_of frame) in
    record { cell = f.cell; bank = f.bank; bin = f.bin; ticks = f.ticks }

-- what a call tells in short: its answer, and the frame that a pick or an emission sends
pub record Told : Type 0 where
  pub answer : Answer
  pub sent : List FrameRead

abbrev pub sent_by : Listed → Returned → List FrameRead
sent_by (on_run (pick out)) t = map read_short (frame_if true t.answer t.out)
sent_by (on_run (emit c bank bin out)) t = map read_short (frame_if true t.answer t.out)
sent_by (on_run (tick samples)) t = []
sent_by (on_run (dump c command bank phase out)) t = []
sent_by (on_run (integrate c)) t = []
sent_by (on_run (reading c lag loss)) t = []
sent_by (on_run (forecast c)) t = []
sent_by (on_run (page out)) t = []
sent_by (on_other shape call given) t = []

abbrev pub in_short : List Listed → List Returned → List Told
in_short [] ts = []
in_short (l ∷ ls) [] = []
in_short (l ∷ ls) (t ∷ ts) = record { answer = t.answer; sent = sent_by l t } ∷ in_short ls ts

-- a call of a list, and what it tells
abbrev pub PickLine : Type 0
PickLine = LineOf Told

abbrev pub line : Call → Answer → PickLine
line call a = record { call = call; returned = record { answer = a; sent = [] } }

-- a buffer with one byte more than a frame of two lags, and one with a byte less
abbrev pub lent : List ℕ
lent = replicate 51 9

abbrev pub short : List ℕ
short = replicate 49 9

abbrev pub frame_line : Call → (cell bank bin ticks : ℕ) → List PickLine
frame_line call cell bank bin ticks =
    let f : FrameRead = record { cell = cell; bank = bank; bin = bin; ticks = ticks } in
    record { call = call; returned = record { answer = number 50; sent = f ∷ [] } } ∷ []

-- a pick, and the cell, bank, data bin and ticks of the frame that it sends
abbrev pub picked : (cell bank bin ticks : ℕ) → List PickLine
picked = frame_line (pick lent)

-- a pick that is refused
abbrev pub unpicked : (out : List ℕ) (refusal : ℕ) → List PickLine
unpicked out refusal = line (pick out) (refused refusal) ∷ []

-- an emission that names its bin
abbrev pub named : (cell bank bin ticks : ℕ) → List PickLine
named cell bank bin ticks = frame_line (emit cell bank bin lent) cell bank bin ticks

-- so many ticks with the same bytes
abbrev pub ticked : (bytes : List ℕ) (many : ℕ) → List PickLine
ticked bytes many = replicate many (line (tick bytes) (number 0))

-- what is open in a cell goes by 010 to a bin, M being 1; the integration answers 0, or 3 where the bin is Ready
abbrev pub binned : (cell bank bin answer : ℕ) → List PickLine
binned cell bank bin answer =
    line (dump cell last bank bin []) (number 0) ∷ line (integrate cell) (number answer) ∷ []

-- a run of the plain machine and of the engine tells what is listed
pub record Tells (sh : Shape) (ls : List PickLine) : Type 0 where
  pub machine : in_short (calls_of ls) (machine_returns sh (calls_of ls) (R.start sh)) ≡ returned_by ls
  pub engine : in_short (calls_of ls) (engine_returns sh (calls_of ls) (fresh_mem sh)) ≡ returned_by ls

-- work memory behind a list
abbrev pub run_after : Shape → List PickLine → Run
run_after sh ls = (run_layout sh).get (mem_after sh (calls_of ls))

-- the Ready number of a cell, and the place in its list of bins at which the next pick starts
pub record PlacedAt (sh : Shape) (ls : List PickLine) (c ready_bins next : ℕ) : Type 0 where
  pub number : (S.unit_at sh c (run_after sh ls)).picks.ready_bins ≡ ready_bins
  pub place : (S.unit_at sh c (run_after sh ls)).picks.next ≡ next

-- three cells of four bins: places 0 and 1 are bank 0's, 2 and 3 bank 1's
abbrev pub pick_shape : Shape
pick_shape = record { cells = 3; lags = 2; bins = 2; blocks = 1; start = 7; rate = 3; second = 1000 }

abbrev pub ticks : (many : ℕ) → List PickLine
ticks = ticked (0x12 ∷ 0x2F ∷ 3 ∷ 0x38 ∷ 0x45 ∷ 3 ∷ 0xE6 ∷ 0x0D ∷ 3 ∷ [])

abbrev pub first_picks : List PickLine
first_picks =
    joined
    (ticks 1
    ∷ binned 0 0 1 0
    ∷ ticks 2
    ∷ binned 0 1 0 0
    ∷ binned 2 1 1 0
    ∷ ticks 1
    ∷ binned 2 0 0 0
    ∷ binned 1 0 1 0
    ∷ ticks 2
    ∷ binned 0 1 1 0
    -- a 010 onto a Ready bin, loss 3
    ∷ binned 2 1 1 3
    -- cell 0 in a fresh run, bank 0 before bank 1; its bin is Ready again at once
    ∷ picked 0 0 1 1
    ∷ ticks 1
    ∷ binned 0 0 1 0
    ∷ picked 1 0 1 4
    ∷ picked 2 0 0 1
    -- neither a named emission nor a refused pick moves a place: the next one is of cell 0, behind its last picked bin
    ∷ named 0 1 1 3
    ∷ unpicked short 10
    ∷ picked 0 1 0 2
    ∷ binned 1 0 0 0
    ∷ [])

abbrev pub all_picks : List PickLine
all_picks =
    joined
    (first_picks
    -- cell 1, where the search comes past bank 1 to bank 0 again
    ∷ picked 1 0 0 3
    ∷ ticks 1
    ∷ binned 0 0 0 0
    ∷ picked 2 1 1 3
    -- cell 0: the bin that was Ready again at once is its last one, and the cell is served twice, being the only one
    ∷ picked 0 0 0 1
    ∷ picked 0 0 1 1
    -- no cell has a Ready bin; "before 10"
    ∷ unpicked lent 20
    ∷ unpicked [] 20
    -- cell 0 was served last, and comes last
    ∷ ticks 1
    ∷ binned 0 1 0 0
    ∷ binned 1 1 0 0
    ∷ ticks 1
    ∷ binned 1 1 1 0
    ∷ binned 2 0 1 0
    ∷ ticks 1
    ∷ binned 2 1 0 0
    ∷ picked 1 1 0 2
    ∷ picked 2 0 1 4
    ∷ picked 0 1 0 1
    ∷ picked 1 1 1 1
    ∷ [])

abbrev pub one_cell : Shape
one_cell = record { cells = 1; lags = 2; bins = 2; blocks = 1; start = 7; rate = 3; second = 1000 }

-- a row of so many ticks, without a valid product
abbrev pub ticks_row : (ticks : ℕ) → Row
ticks_row ticks = ticks ∷ replicate 6 0

abbrev pub bin_with : (state ticks stamp : ℕ) → Bin Row
bin_with state ticks stamp = record { state = state; content = E.stamped (ticks_row ticks) stamp }

-- one cell in which a 010 of two ticks is held for data bin 0 of bank 1, a bin with this state and so many ticks; data
-- bin 1 of bank 1 is Ready with five ticks. The next pick starts at place 2.
abbrev pub mem_held : (state ticks ready_bins : ℕ) → List ℕ
mem_held state ticks ready_bins =
    let u = E.fresh_unit 2 2 in
    let label : Label = record { command = last; bank = 1; bin = 0 } in
    let held : Held Row = record { occupied = 1; label = label; content = E.stamped (ticks_row 2) 8 } in
    let bins = E.free_bin 2 ∷ E.free_bin 2 ∷ bin_with state ticks 6 ∷ bin_with ready 5 7 ∷ [] in
    let cell : Cell Row = record { opened = u.cell.opened; held = held; bins = bins; losses = u.cell.losses } in
    let picks : E.Picks = record { ready_bins = ready_bins; next = 2 } in
    (run_layout one_cell).put
    (record {
      t = 20000000;
      next = 0;
      units =
          record { cell = cell; counter = u.counter; picks = picks; xs = u.xs; ys = u.ys } ∷ [];
    })

-- the engine on set memory tells what is listed, and has so many Ready bins behind the first call
pub record Goes (mem : List ℕ) (ready_bins : ℕ) (first : PickLine) (rest : List PickLine) : Type 0 where
  pub tells : in_short (calls_of (first ∷ rest)) (engine_returns one_cell (calls_of (first ∷ rest)) mem)
      ≡ returned_by (first ∷ rest)
  pub number : (S.unit_at one_cell 0 ((run_layout one_cell).get (S.step one_cell first.call mem).mem)).picks.ready_bins
      ≡ ready_bins

-- Fairness: a Ready bin is emitted "within C × 2B successful picks", and no lower number would do. Behind the list
-- `before` the bin at place k of cell c is Ready; the picks `others` take other bins, one fewer than C × 2B; the one
-- behind them, the last of C × 2B, takes it.
pub record Reached (sh : Shape) (before others itself : List PickLine) (c k : ℕ) : Type 0 where
  pub waits : (E.bin_at sh.lags k (S.cell_at sh c (run_after sh before))).state ≡ ready
  pub tells : Tells sh (before ++ (others ++ itself))
  -- so the bounds of `Fair.below`, `Sent.within` and `Sent.measured` are reached
  pub measure : suc (picks_ahead sh c k (machine_after sh (calls_of before))) ≡ sh.cells * (2 * sh.bins)
  pub earlier : suc (picks_in sh (calls_of before) (calls_of others)) ≡ sh.cells * (2 * sh.bins)
  pub all : picks_in sh (calls_of before) (calls_of (others ++ itself)) ≡ sh.cells * (2 * sh.bins)

-- C = 1, B = 2: four bins are Ready, the first is picked, and it is Ready again
abbrev pub tick_one : (many : ℕ) → List PickLine
tick_one = ticked (0x12 ∷ 0x2F ∷ 3 ∷ [])

abbrev pub one_before : List PickLine
one_before =
    joined
    (tick_one 1
    ∷ binned 0 0 0 0
    ∷ tick_one 2
    ∷ binned 0 0 1 0
    ∷ tick_one 3
    ∷ binned 0 1 0 0
    ∷ tick_one 4
    ∷ binned 0 1 1 0
    ∷ picked 0 0 0 1
    ∷ tick_one 5
    ∷ binned 0 0 0 0
    ∷ [])

abbrev pub one_others : List PickLine
one_others = joined (picked 0 0 1 2 ∷ picked 0 1 0 3 ∷ picked 0 1 1 4 ∷ [])

-- C = 2, B = 1: a bin of cell 1 was picked last, and all four are Ready
abbrev pub two_cells : Shape
two_cells = record { cells = 2; lags = 2; bins = 1; blocks = 1; start = 7; rate = 3; second = 1000 }

abbrev pub tick_two : (many : ℕ) → List PickLine
tick_two = ticked (0x12 ∷ 0x2F ∷ 3 ∷ 0x38 ∷ 0x45 ∷ 3 ∷ [])

abbrev pub two_before : List PickLine
two_before =
    joined
    (tick_two 1
    ∷ binned 0 0 0 0
    ∷ binned 1 0 0 0
    ∷ tick_two 2
    ∷ binned 0 1 0 0
    ∷ binned 1 1 0 0
    ∷ picked 0 0 0 1
    ∷ picked 1 0 0 1
    ∷ tick_two 3
    ∷ binned 0 0 0 0
    ∷ tick_two 1
    ∷ binned 1 0 0 0
    ∷ [])

abbrev pub two_others : List PickLine
two_others = joined (picked 0 1 0 2 ∷ picked 1 1 0 2 ∷ picked 0 0 0 3 ∷ [])

pub record PickRows : Type 0 where
  pub tells : Tells pick_shape all_picks
  -- the Ready numbers and places of the three cells, and the run's place, in the middle and at the end
  pub middle : (run_after pick_shape first_picks).next ≡ 1
  pub middle-0 : PlacedAt pick_shape first_picks 0 1 3
  pub middle-1 : PlacedAt pick_shape first_picks 1 1 2
  pub middle-2 : PlacedAt pick_shape first_picks 2 1 1
  pub end : (run_after pick_shape all_picks).next ≡ 2
  pub end-0 : PlacedAt pick_shape all_picks 0 0 3
  pub end-1 : PlacedAt pick_shape all_picks 1 0 0
  pub end-2 : PlacedAt pick_shape all_picks 2 1 2
  -- "After 010 a bin is Ready, also after loss 5": 16,777,214 ticks and 2 are wide, and there is one Ready bin more
  pub wide : Goes (mem_held filling 16777214 1) 2 (line (integrate 0) (number 5))
      (joined (picked 0 1 0 16777214 ∷ picked 0 1 1 5 ∷ unpicked lent 20 ∷ []))
  -- a 010 onto a Ready bin makes none more
  pub full : Goes (mem_held ready 9 2) 2 (line (integrate 0) (number 3))
      (joined (picked 0 1 0 9 ∷ picked 0 1 1 5 ∷ unpicked lent 20 ∷ []))
  -- the bound of Fairness is reached
  pub reached : Reached one_cell one_before one_others (picked 0 0 0 5) 0 0
  pub reached-two : Reached two_cells two_before two_others (picked 1 0 0 4) 1 0
