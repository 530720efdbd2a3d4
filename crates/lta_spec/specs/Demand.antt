-- Document 01, demand 3, as one statement for every list of calls after one setup: "One theorem covers the list from
-- end to end". proofs/Demand.antt proves it.
use Rattle.std.specs.Prelude.{ℕ, zero, suc, ◌+◌, ◌*◌, ◌/◌, ◌%◌, ◌≤◌, ◌<◌, ◌≡◌, Bool, cond, ◌&&◌, eqb, ℤ, pos, ◌+ℤ◌, length, get_or, take, Ok, Err}
use mathlib.Core.List.{List, [], ◌∷◌, ◌++◌, map, Memᴰ}
use Rattle.lta_spec.specs.Words.{over_all}
use Rattle.lta_spec.specs.Refusals.{first_of, Verdict}
use Rattle.lta_spec.specs.Size.{memory_words, host_tests}
use Rattle.lta_spec.specs.Tick.{Sample, edge_lag, centre_lag}
use Rattle.lta_spec.specs.Place.{Stamped, Cell}
use Rattle.lta_spec.specs.Frame.{body_of, fields_of}
use Rattle.lta_spec.specs.FrameCalls.{read_answer}
use Rattle.lta_spec.specs.Call.{Call, speed}
use Rattle.lta_spec.specs.Answer.{Answer, number_in}
use Rattle.lta_spec.specs.Call.Call.{tick, dump, integrate, emit, reading, forecast, page, pick}
use Rattle.lta_spec.specs.Answer.Answer.{refused, fields}
use Rattle.lta_spec.specs.Machine.{Ticks, Latest, bin_at, ready_bins}
use Rattle.lta_spec.specs.Machine.Latest.{none, was}
use Rattle.lta_spec.specs.Numbers.{
  Emitted,
  sum_over,
  in_phase_sum,
  quadrature_sum,
  valid_count,
  lag_sums,
  set_sums,
  set_frame,
}
use Rattle.lta_spec.specs.MachineRun as M
use Rattle.lta_spec.specs.Row.{ticks_of, edge_of, centre_of, unbiased, row_sums}
use Rattle.lta_spec.specs.Engine as E
use Rattle.lta_spec.specs.Engine.{Row}
use Rattle.lta_spec.specs.Memory.{run_layout, start}
use Rattle.lta_spec.specs.Step as S
use Rattle.lta_spec.specs.RoundTrip.{lags_read}
use Rattle.lta_spec.specs.declared.Shape.{Shape}
use Rattle.lta_spec.specs.declared.Fields.{Fields}
use Rattle.lta_spec.specs.declared.Sums.{Sums}

-- A call as it stands in a list: on the run's own work memory with the setup's shape, or with another shape or other
-- work memory, whose words are `given`.
pub data Listed : Type 0 where
  on_run : Call → Listed
  on_other : Shape → Call → (given : List ℕ) → Listed

abbrev pub Refuses : Verdict → Type 0
Refuses (Ok _) = ⊥
Refuses (Err r) = Prim.Unit {0}

-- "A call with another shape or length of work memory stands there only if 1 or 2 refuses it."
abbrev pub Stands : Listed → Type 0
Stands (on_run call) = Prim.Unit {0}
Stands (on_other shape call given) = Refuses (first_of (host_tests shape (length given)))

abbrev pub AllStand : List Listed → Type 0
AllStand [] = Prim.Unit {0}
AllStand (c ∷ cs) = Stands c × AllStand cs

-- what a call tells: its answer, and the lent buffer as it left it
pub record Returned : Type 0 where
  pub answer : Answer
  pub out : List ℕ

-- The plain machine: "fed the arguments of setup and of each call, of work memory the length alone".
abbrev pub machine_step : Shape → Listed → M.Run → M.Step
machine_step sh (on_run call) r = M.step sh (memory_words sh) call r
machine_step sh (on_other shape call given) r = M.step shape (length given) call r

unfoldable pub machine_returns : Shape → List Listed → M.Run → List Returned
machine_returns sh [] r = []
machine_returns sh (c ∷ cs) r =
    let s = machine_step sh c r in record { answer = s.answer; out = s.out } ∷ machine_returns sh cs s.run

unfoldable pub machine_run : Shape → List Listed → M.Run → M.Run
machine_run sh [] r = r
machine_run sh (c ∷ cs) r = machine_run sh cs (machine_step sh c r).run

abbrev pub machine_after : Shape → List Listed → M.Run
machine_after sh cs = machine_run sh cs (M.start sh)

-- The engine: "Each call gets work memory .. as the call before left .. it, and nothing else writes them meanwhile."
abbrev pub engine_step : Shape → Listed → (mem : List ℕ) → S.Step
engine_step sh (on_run call) mem = S.step sh call mem
engine_step sh (on_other shape call given) mem =
    let s = S.step shape call given in record { answer = s.answer; out = s.out; mem = mem }

unfoldable pub engine_returns : Shape → List Listed → (mem : List ℕ) → List Returned
engine_returns sh [] mem = []
engine_returns sh (c ∷ cs) mem =
    let s = engine_step sh c mem in record { answer = s.answer; out = s.out } ∷ engine_returns sh cs s.mem

unfoldable pub engine_mem : Shape → List Listed → (mem : List ℕ) → List ℕ
engine_mem sh [] mem = mem
engine_mem sh (c ∷ cs) mem = engine_mem sh cs (engine_step sh c mem).mem

-- work memory as setup leaves it, and after a list
abbrev pub fresh_mem : Shape → List ℕ
fresh_mem sh = (run_layout sh).put (start sh)

abbrev pub mem_after : Shape → List Listed → List ℕ
mem_after sh cs = engine_mem sh cs (fresh_mem sh)

-- a call with other work memory leaves that as it was
abbrev pub Keeps : Listed → Type 0
Keeps (on_run call) = Prim.Unit {0}
Keeps (on_other shape call given) = (S.step shape call given).mem ≡ given

abbrev pub AllKeep : List Listed → Type 0
AllKeep [] = Prim.Unit {0}
AllKeep (c ∷ cs) = Keeps c × AllKeep cs

-- "Demand 3 equates each place's numbers, in work memory by the builder's layout .., with its set's."
pub record Equal (n : ℕ) (xs ys : List Sample) (row : Row) (s : Ticks) : Type 0 where
  pub ticks : ticks_of row ≡ length s
  pub edge : edge_of row ≡ valid_count n xs ys s edge_lag
  pub centre : centre_of row ≡ valid_count n xs ys s (centre_lag n)
  pub in_phase : (k : ℕ) → k < n → unbiased (ticks_of row) (get_or row (3 + 2 * k) 0) ≡ in_phase_sum n xs ys s k
  pub quadrature : (k : ℕ) → k < n → unbiased (ticks_of row) (get_or row (4 + 2 * k) 0) ≡ quadrature_sum n xs ys s k

-- a place with its stamp
pub record EqualStamped (n : ℕ) (xs ys : List Sample) (e : Stamped Row) (m : Stamped Ticks) : Type 0 where
  pub numbers : Equal n xs ys e.members m.members
  pub stamp : e.stamp ≡ m.stamp

-- the last command that a stored word is
abbrev pub last_of : (code : ℕ) → Latest
last_of zero = none
last_of (suc command) = was command

-- the place behind the latest of so many, going round; in a fresh run the first
abbrev pub place_after : (size : ℕ) → Latest → ℕ
place_after size none = 0
place_after size (was k) = suc k % size

-- all places of one cell, with Held's flag and label and the bins' states, its block counter, its number of Ready bins
-- and its place of picks
pub record EqualCell (n B start : ℕ) (e : E.Unit) (m : M.Unit) : Type 0 where
  pub opened : EqualStamped n m.xs m.ys e.cell.opened m.cell.opened
  pub held : EqualStamped n m.xs m.ys e.cell.held.content m.cell.held.content
  pub occupied : e.cell.held.occupied ≡ m.cell.held.occupied
  pub label : e.cell.held.label ≡ m.cell.held.label
  pub bins : (k : ℕ) → EqualStamped n m.xs m.ys (E.bin_at n k e.cell).content (bin_at k m.cell).content
  pub states : (k : ℕ) → (E.bin_at n k e.cell).state ≡ (bin_at k m.cell).state
  pub losses : (i : ℕ) → Equal n m.xs m.ys (E.loss_at n i e.cell.losses) (get_or m.cell.losses i [])
  pub block : start + e.counter.offset ≡ m.counter.block
  pub last_command : last_of e.counter.last_code ≡ m.counter.last_command
  -- "a number of Ready bins for each cell, always equal to the bins themselves"
  pub ready_bins : e.picks.ready_bins ≡ ready_bins m.cell
  pub next_bin : e.picks.next ≡ place_after (2 * B) m.picked

-- "a place is a cell's Open, Held, one bin, one loss or one emitted frame": the sets of all places of a cell
abbrev pub places : M.Unit → List Ticks
places u =
    let c = u.cell in
    c.opened.members
    ∷ c.held.content.members
    ∷ map (λ b. b.content.members) c.bins ++ (c.losses ++ map (λ e. e.content.members) u.frames)

-- how often tick i is in a set
abbrev pub is_tick : (i j : ℕ) → ℕ
is_tick i j = cond (eqb i j) 1 0

abbrev pub times_in : (i : ℕ) → Ticks → ℕ
times_in i s = over_all (is_tick i) s

-- a sum of whole numbers over a list
abbrev pub over_allℤ : {A : Type 0} → (A → ℤ) → List A → ℤ
over_allℤ f [] = pos 0
over_allℤ f (x ∷ xs) = f x +ℤ over_allℤ f xs

-- the ticks 0 to t - 1
abbrev pub ticks_below : ℕ → Ticks
ticks_below zero = []
ticks_below (suc t) = t ∷ ticks_below t

-- the frames of cell c, newest first, as many bytes of the buffer as the call answered: "in a frame's words as its call
-- left them". Request 2026-04: "a speed frame counts among the emitted ones".
abbrev pub frame_if : (named : Bool) → Answer → List ℕ → List (List ℕ)
frame_if named a out = cond named (map (λ k. take k out) (number_in a)) []

abbrev pub frame_returned : (c : ℕ) → Listed → Returned → List (List ℕ)
frame_returned c (on_run (emit d bank bin out)) t = frame_if (eqb d c) t.answer t.out
frame_returned c (on_run (dump d command bank phase out)) t = frame_if (eqb command speed && eqb d c) t.answer t.out
frame_returned c (on_run (tick samples)) t = []
frame_returned c (on_run (integrate d)) t = []
frame_returned c (on_run (reading d lag loss)) t = []
frame_returned c (on_run (forecast d)) t = []
frame_returned c (on_run (page out)) t = []
-- request 2026-07, "picked frames count as emitted": the frame names its cell
frame_returned c (on_run (pick out)) t = frame_if (eqb (fields_of (body_of t.out)).cell c) t.answer t.out
frame_returned c (on_other shape call given) t = []

abbrev pub frames_returned : (c : ℕ) → List Listed → List Returned → List (List ℕ)
frames_returned c [] ts = []
frames_returned c (l ∷ ls) [] = []
frames_returned c (l ∷ ls) (t ∷ ts) = frames_returned c ls ts ++ frame_returned c l t

-- The fields of the frame of a set, "The frame" again in numbers: W0 its kind and the cell, W1 Y block, data bin and
-- bank, W2 to W4 ticks, centre and edge count, W5 the second and W6 the ticks of the stamp.
abbrev pub sent_fields : Shape → (c : ℕ) (xs ys : List Sample) → Emitted → Fields
sent_fields sh c xs ys e =
    record {
      kind = e.kind;
      cell = c;
      block = sh.start + e.bin % sh.blocks;
      bin = e.bin;
      bank = e.bank;
      ticks = length e.content.members;
      centre = valid_count sh.lags xs ys e.content.members (sh.lags / 2);
      edge = valid_count sh.lags xs ys e.content.members 0;
      second = sh.second + e.content.stamp / sh.rate;
      offset = e.content.stamp % sh.rate;
    }

-- A frame as its call left it, read back: the reader accepts it, its fields are the set's, and its lags are the signed
-- sums themselves, with no wrap at 32 bits.
pub record ReadBack (sh : Shape) (c : ℕ) (xs ys : List Sample) (frame : List ℕ) (e : Emitted) : Type 0 where
  pub few : length e.content.members ≤ 16777215
  pub returned : read_answer sh.lags frame ≡ fields (sent_fields sh c xs ys e)
  pub lags : lags_read sh.lags frame ≡ lag_sums sh.lags xs ys e.content.members sh.lags 0

-- frames and the machine's sets, one by one
abbrev pub AllRead : Shape → (c : ℕ) (xs ys : List Sample) → List (List ℕ) → List Emitted → Type 0
AllRead sh c xs ys [] [] = Prim.Unit {0}
AllRead sh c xs ys [] (e ∷ es) = ⊥
AllRead sh c xs ys (f ∷ fs) [] = ⊥
AllRead sh c xs ys (f ∷ fs) (e ∷ es) = ReadBack sh c xs ys f e × AllRead sh c xs ys fs es

-- the rows of a cell's places in work memory: Open, Held, the bins, the losses
abbrev pub rows : Cell Row → List Row
rows c = c.opened.members ∷ c.held.content.members ∷ map (λ b. b.content.members) c.bins ++ c.losses

-- the numbers at lag k of a frame read back
abbrev pub read_sums : (n k : ℕ) (frame : List ℕ) → Sums
read_sums n k frame =
    let f = fields_of (body_of frame) in
    record {
      i = get_or (lags_read n frame) (2 * k) (pos 0);
      q = get_or (lags_read n frame) (2 * k + 1) (pos 0);
      ticks = f.ticks;
      edge = f.edge;
      centre = f.centre;
    }

-- numbers that add up: ticks and counts as naturals, sums as whole numbers
pub record AddUp (parts : List Sums) (whole : Sums) : Type 0 where
  pub in_phase : over_allℤ (λ p. p.i) parts ≡ whole.i
  pub quadrature : over_allℤ (λ p. p.q) parts ≡ whole.q
  pub ticks : over_all (λ p. p.ticks) parts ≡ whole.ticks
  pub edge : over_all (λ p. p.edge) parts ≡ whole.edge
  pub centre : over_all (λ p. p.centre) parts ≡ whole.centre

-- Demand 3, of one list of calls
pub record Demand3 (sh : Shape) (cs : List Listed) : Type 0 where
  -- call by call the machine's answers, and the lent buffers as they were left: frames and pages
  pub tells : engine_returns sh cs (fresh_mem sh) ≡ machine_returns sh cs (M.start sh)
  -- "11 never arises"
  pub clean : (t : Returned) → Memᴰ t (engine_returns sh cs (fresh_mem sh)) → t.answer ≡ refused 11 → ⊥
  -- other work memory is left alone
  pub others : AllKeep cs
  -- work memory keeps its length, and t is the machine's
  pub words : length (mem_after sh cs) ≡ memory_words sh
  pub time : ((run_layout sh).get (mem_after sh cs)).t ≡ (machine_after sh cs).t
  -- the run's place of picks is behind the cell that the machine served last
  pub next_cell : ((run_layout sh).get (mem_after sh cs)).next ≡ place_after sh.cells (machine_after sh cs).served
  -- every place of every cell: the numbers in work memory are those of the machine's set; and its block counter
  pub cells : (c : ℕ) → c < sh.cells
      → EqualCell sh.lags sh.bins sh.start (S.unit_at sh c ((run_layout sh).get (mem_after sh cs)))
      (M.unit_at sh c (machine_after sh cs))
  -- every emitted frame: its bytes as its call left them are those of its set's numbers
  pub frames : (c : ℕ) → c < sh.cells
      → frames_returned c cs (engine_returns sh cs (fresh_mem sh))
      ≡ map (set_frame sh c (M.unit_at sh c (machine_after sh cs)).xs (M.unit_at sh c (machine_after sh cs)).ys)
      (M.unit_at sh c (machine_after sh cs)).frames
  -- each tick taken is in exactly one place of every cell, and nothing else is in any
  pub once : (c i : ℕ) → c < sh.cells → i < (machine_after sh cs).t
      → over_all (times_in i) (places (M.unit_at sh c (machine_after sh cs))) ≡ 1
  pub never : (c i : ℕ) → c < sh.cells → (machine_after sh cs).t ≤ i
      → over_all (times_in i) (places (M.unit_at sh c (machine_after sh cs))) ≡ 0
  -- so whatever is summed over ticks, as I and Q at each lag, sums over the places to the sum over all ticks taken
  pub adds-up : (c : ℕ) → c < sh.cells → (f : ℕ → ℤ)
      → over_allℤ (sum_over f) (places (M.unit_at sh c (machine_after sh cs))) ≡ sum_over f
      (ticks_below (machine_after sh cs).t)
  -- every emitted frame, read back, is the machine's in numbers
  pub read_back : (c : ℕ) → c < sh.cells
      → let u = M.unit_at sh c (machine_after sh cs) in
      AllRead sh c u.xs u.ys (frames_returned c cs (engine_returns sh cs (fresh_mem sh))) u.frames
  -- of every cell and lag, the numbers in work memory and those of the frames read back are, added up, the numbers of
  -- all ticks taken
  pub totals : (c k : ℕ) → c < sh.cells → k < sh.lags
      → let u = M.unit_at sh c (machine_after sh cs) in
      AddUp
      (map (row_sums k) (rows (S.cell_at sh c ((run_layout sh).get (mem_after sh cs))))
      ++ map (read_sums sh.lags k) (frames_returned c cs (engine_returns sh cs (fresh_mem sh))))
      (set_sums sh.lags u.xs u.ys (ticks_below (machine_after sh cs).t) k)
