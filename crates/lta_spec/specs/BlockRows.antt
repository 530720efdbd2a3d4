-- Requests 2026-01 and 2026-04: lists of calls, and the block that each ends with. proofs/BlockRows.antt proves them,
-- of the machine by computing and of work memory by demand 3.
use Rattle.std.specs.Prelude.{ℕ, ◌+◌, ◌<◌, ◌≡◌, List, [], ◌∷◌, ◌++◌, map, replicate, Ok}
use Rattle.lta_spec.specs.Call.{Call}
use Rattle.lta_spec.specs.Call.Call.{dump, integrate}
use Rattle.lta_spec.specs.MachineRun as R
use Rattle.lta_spec.specs.Engine as E
use Rattle.lta_spec.specs.Memory.{run_layout}
use Rattle.lta_spec.specs.Step as S
use Rattle.lta_spec.specs.Demand.{Listed, machine_after, mem_after}
use Rattle.lta_spec.specs.Demand.Listed.{on_run}
use Rattle.lta_spec.specs.declared.Shape.{Shape}

abbrev pub called_on : List Call → List Listed
called_on calls = map (λ c. on_run c) calls

-- the current block of cell 0 behind a list of calls, and the data bin of Held's label, in the machine and in work
-- memory
pub record Ends (sh : Shape) (calls : List Call) (block bin : ℕ) : Type 0 where
  pub machine-block : (R.unit_at sh 0 (machine_after sh (called_on calls))).counter.block ≡ block
  pub machine-bin : (R.unit_at sh 0 (machine_after sh (called_on calls))).cell.held.label.bin ≡ bin
  pub engine-block : sh.start + (S.unit_at sh 0 ((run_layout sh).get (mem_after sh (called_on calls)))).counter.offset
      ≡ block
  pub engine-bin : (S.cell_at sh 0 ((run_layout sh).get (mem_after sh (called_on calls)))).held.label.bin ≡ bin

-- M=3, S=20: blocks 20, 21 and 22; of phase 1 they are data bins 3, 4 and 5
abbrev pub three_blocks : Shape
three_blocks = record { cells = 1; lags = 2; bins = 6; blocks = 3; start = 20; rate = 1; second = 0 }

-- M=1, S=7: block 7; of phase 1 it is data bin 1
abbrev pub one_block : Shape
one_block = record { cells = 1; lags = 2; bins = 2; blocks = 1; start = 7; rate = 1; second = 0 }

-- a buffer with room for a speed frame of two lags
abbrev pub speed_room : List ℕ
speed_room = replicate 54 9

-- a dump in phase 1
abbrev pub dumped : (command : ℕ) → Call
dumped command = dump 0 command 1 1 speed_room

-- dumps with these commands, Held emptied behind each
abbrev pub dumps : List ℕ → List Call
dumps [] = []
dumps (command ∷ cs) = dumped command ∷ integrate 0 ∷ dumps cs

pub record BlockRows : Type 0 where
  -- "A cell's first dump but 111 in a fresh run uses S", whatever its command
  pub first-save : Ends three_blocks (dumped 0 ∷ []) 20 3
  pub first-add : Ends three_blocks (dumped 1 ∷ []) 20 3
  pub first-last : Ends three_blocks (dumped 2 ∷ []) 20 3
  pub first-discard : Ends three_blocks (dumps (4 ∷ []) ++ dumped 0 ∷ []) 21 4
  -- "any other accepted dump but 111 moves it one on, from S + M - 1 back to S"
  pub one_on : Ends three_blocks (dumps (0 ∷ []) ++ dumped 1 ∷ []) 21 4
  pub last_block : Ends three_blocks (dumps (0 ∷ 1 ∷ []) ++ dumped 0 ∷ []) 22 5
  pub back : Ends three_blocks (dumps (0 ∷ 1 ∷ 0 ∷ []) ++ dumped 1 ∷ []) 20 3
  pub single : Ends one_block (dumps (0 ∷ 1 ∷ []) ++ dumped 0 ∷ []) 7 1
  -- "It returns to S on 100": the dump behind it is one on
  pub discard : Ends three_blocks (dumps (0 ∷ 0 ∷ []) ++ dumped 4 ∷ []) 20 4
  pub behind-discard : Ends three_blocks (dumps (0 ∷ 0 ∷ 4 ∷ []) ++ dumped 0 ∷ []) 21 4
  -- "and on a 010 whose cell's last command before it was 000 or 001"
  pub last-behind-save : Ends three_blocks (dumps (0 ∷ 0 ∷ []) ++ dumped 2 ∷ []) 20 3
  pub last-behind-add : Ends three_blocks (dumps (0 ∷ 1 ∷ []) ++ dumped 2 ∷ []) 20 3
  pub last-behind-last : Ends three_blocks (dumps (0 ∷ 2 ∷ []) ++ dumped 2 ∷ []) 21 4
  pub last-behind-discard : Ends three_blocks (dumps (0 ∷ 4 ∷ []) ++ dumped 2 ∷ []) 21 4
  -- "111 never counts as an earlier command"
  pub idle-first : Ends three_blocks (dumps (7 ∷ []) ++ dumped 1 ∷ []) 20 3
  pub idle-moves-nothing : Ends three_blocks (dumps (0 ∷ 7 ∷ []) ++ dumped 1 ∷ []) 21 4
  pub idle-behind-add : Ends three_blocks (dumps (0 ∷ 1 ∷ 7 ∷ []) ++ dumped 2 ∷ []) 20 3
  pub idle-behind-last : Ends three_blocks (dumps (0 ∷ 2 ∷ 7 ∷ []) ++ dumped 2 ∷ []) 21 4
  -- an overrun moves the block, and counts as a command
  pub overrun : Ends three_blocks (dumped 0 ∷ dumps (1 ∷ []) ++ dumped 1 ∷ []) 22 5
  pub overrun-counts : Ends three_blocks (dumped 0 ∷ dumps (2 ∷ []) ++ dumped 2 ∷ []) 21 4
  -- request 2026-04, of 011: "For the block counter it counts as a 001", and it leaves Held and its label
  pub first-speed : Ends three_blocks (dumps (3 ∷ []) ++ dumped 0 ∷ []) 21 4
  pub speed-one-on : Ends three_blocks (dumps (0 ∷ []) ++ dumped 3 ∷ []) 21 3
  pub speed-behind-save : Ends three_blocks (dumps (0 ∷ 0 ∷ 3 ∷ []) ++ dumped 1 ∷ []) 20 3
  pub last-behind-speed : Ends three_blocks (dumps (0 ∷ 3 ∷ []) ++ dumped 2 ∷ []) 20 3
  pub speed-behind-last : Ends three_blocks (dumps (0 ∷ 2 ∷ 3 ∷ []) ++ dumped 2 ∷ []) 20 3
  pub speed-over-held : Ends three_blocks (dumped 0 ∷ dumped 3 ∷ []) 21 3
  -- a dump that 6, 7 or 10 refuses does neither
  pub refused : Ends three_blocks
      (dumps (0 ∷ 1 ∷ 5 ∷ []) ++ dump 0 4 1 2 [] ∷ dump 0 2 2 1 [] ∷ dump 0 3 1 1 (replicate 53 9) ∷ dumped 1 ∷ []) 22 5
  pub refused-counts-not : Ends three_blocks (dumps (0 ∷ 1 ∷ []) ++ dump 0 4 1 2 [] ∷ dumped 2 ∷ []) 20 3
  -- every accepted dump, on any work memory, names a data bin of its bank
  pub bin-below : (sh : Shape) (mem : List ℕ) (c command bank phase : ℕ) (out : List ℕ)
      → S.verdict sh mem (dump c command bank phase out) ≡ Ok tt
      → let k = E.counted sh.blocks command (S.unit_at sh c ((run_layout sh).get mem)).counter in
      (E.dump_label sh.blocks command bank phase k.offset).bin < sh.bins
