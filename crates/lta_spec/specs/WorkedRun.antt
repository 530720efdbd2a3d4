-- A worked run beside P1, in which little is 0: two cells of four lags, S and Z above 0, M = 3, bank 1, a data bin
-- above M, phases that turn, invalid samples, samples of -8, losses 1 to 4, a loss page. What each call returns was
-- computed from documents 01 and 02, not from the definitions here.
use Rattle.std.specs.Prelude.{ℕ, List, [], ◌∷◌, ◌++◌, map, ℤ, pos, neg_ℤ, replicate}
use Rattle.lta_spec.specs.Words.{joined}
use Rattle.lta_spec.specs.Decimal.{ascii}
use Rattle.lta_spec.specs.Bytes.{bytes_of}
use Rattle.lta_spec.specs.Frame.{mark}
use Rattle.lta_spec.specs.Call.{Call}
use Rattle.lta_spec.specs.Call.Call.{tick, dump, integrate, emit, reading, forecast, page}
use Rattle.lta_spec.specs.Answer.{Answer}
use Rattle.lta_spec.specs.Answer.Answer.{refused, number, entry}
use Rattle.lta_spec.specs.Demand.{Listed, Returned}
use Rattle.lta_spec.specs.Demand.Listed.{on_run}
use Rattle.lta_spec.specs.declared.Shape.{Shape}

-- C=2, N=4, B=6, M=3, S=20, R=3, Z=1000
abbrev pub worked_shape : Shape
worked_shape = record { cells = 2; lags = 4; bins = 6; blocks = 3; start = 20; rate = 3; second = 1000 }

-- a call of a run, and what is told of it
pub record LineOf (A : Type 0) : Type 0 where
  pub call : Call
  pub returned : A

abbrev pub calls_of : {A : Type 0} → List (LineOf A) → List Listed
calls_of ls = map (λ l. on_run l.call) ls

abbrev pub returned_by : {A : Type 0} → List (LineOf A) → List A
returned_by ls = map (λ l. l.returned) ls

-- here its answer, and the lent buffer as it leaves it
abbrev pub CallLine : Type 0
CallLine = LineOf Returned

abbrev pub answer_only : Answer → Returned
answer_only a = record { answer = a; out = [] }

abbrev pub line : Call → Answer → CallLine
line call a = record { call = call; returned = answer_only a }

abbrev pub minus : ℕ → ℤ
minus n = neg_ℤ (pos n)

-- a reading: "the I and Q sums, ticks, and both counts", edge before centre
abbrev pub sums_read : (i q : ℤ) (ticks edge centre : ℕ) → Answer
sums_read i q ticks edge centre = entry (record { i = i; q = q; ticks = ticks; edge = edge; centre = centre })

-- the frame of ticks 5, 6 and 7 of cell 1, with stamp 5
abbrev pub worked_frame : List ℕ
worked_frame =
    mark
    ++ bytes_of
    -- W0: bits 0-2 = 2, cell 1 in bits 11-14
    (0x0000_0802
    -- W1: Y block 20 + 4 mod 3 = 15h, data bin 4, bank 1
    ∷ 0x8004_1500
    -- W2 ticks, W3 centre count, W4 edge count
    ∷ 3
    ∷ 2
    ∷ 1
    -- W5: 1000 + 5 div 3; W6: 5 mod 3
    ∷ 1001
    ∷ 2
    -- I and Q of lag 0, 8 and 8; of lag 1, -1 and -2; of lag 2, -97 and 1; of lag 3, 5 and 13
    ∷ 8
    ∷ 8
    ∷ 0xFFFF_FFFF
    ∷ 0xFFFF_FFFE
    ∷ 0xFFFF_FF9F
    ∷ 1
    ∷ 5
    ∷ 13
    -- "sum of all words before it, wrapping at 32 bits"
    ∷ 0x8004_20B2
    ∷ [])

-- the page at the end: of cell 0 ticks 0 to 2 in loss 1 and 5 to 7 in loss 2, of cell 1 tick 8 in loss 3 and 0 to 4 in
-- loss 4
abbrev pub worked_page : List ℕ
worked_page =
    joined
    (map ascii
    (" 0 1           3           1           2\n"
    ∷ " 0 2           3           2           3\n"
    ∷ " 0 3           0           0           0\n"
    ∷ " 0 4           0           0           0\n"
    ∷ " 0 5           0           0           0\n"
    ∷ " 0 6           0           0           0\n"
    ∷ " 1 1           0           0           0\n"
    ∷ " 1 2           0           0           0\n"
    ∷ " 1 3           1           1           1\n"
    ∷ " 1 4           5           3           2\n"
    ∷ " 1 5           0           0           0\n"
    ∷ " 1 6           0           0           0\n"
    ∷ "** *          12           7           8\n"
    ∷ []))

-- a frame buffer with one byte more than a frame
abbrev pub lent : List ℕ
lent = replicate 67 9

-- a tick brings X, Y and validity of cell 0, then of cell 1; a dump has cell, command, bank and phase; an emission has
-- cell, bank and data bin
abbrev pub worked_run : List CallLine
worked_run =
    -- cell 1: its first dump uses block 20, Open is empty
    line (dump 1 4 1 1 []) (number 1)
    ∷ line (tick (0x0A ∷ 0x63 ∷ 3 ∷ 0x36 ∷ 0x79 ∷ 2 ∷ [])) (number 0)
    ∷ line (tick (0x96 ∷ 0xD4 ∷ 3 ∷ 0x48 ∷ 0x64 ∷ 3 ∷ [])) (number 0)
    ∷ line (tick (0xA2 ∷ 0x84 ∷ 1 ∷ 0x69 ∷ 0x04 ∷ 3 ∷ [])) (number 0)
    -- cell 0: 100, ticks 0 to 2 go to loss 1
    ∷ line (dump 0 4 0 0 []) (number 1)
    ∷ line (tick (0x85 ∷ 0xB6 ∷ 3 ∷ 0x87 ∷ 0x68 ∷ 1 ∷ [])) (number 0)
    ∷ line (tick (0x36 ∷ 0xC8 ∷ 3 ∷ 0x0F ∷ 0xAF ∷ 3 ∷ [])) (number 0)
    -- Open has two ticks in cell 0 and five in cell 1
    ∷ line (forecast 0) (number 524286)
    ∷ line (forecast 1) (number 524283)
    -- cell 0 holds ticks 3 and 4; cell 1 saves ticks 0 to 4 in bank 1, block 21, data bin 1 × 3 + (21 - 20)
    ∷ line (dump 0 1 0 0 []) (number 0)
    ∷ line (dump 1 0 1 1 []) (number 0)
    -- cell 1: two overruns without ticks move on to block 22, and back to 20
    ∷ line (dump 1 1 1 1 []) (number 2)
    ∷ line (dump 1 1 1 1 []) (number 2)
    ∷ line (integrate 1) (number 0)
    ∷ line (tick (0x26 ∷ 0xFB ∷ 3 ∷ 0x5F ∷ 0x0B ∷ 1 ∷ [])) (number 0)
    -- 111 does nothing: Open's stamp stays 5, and the block 20
    ∷ line (dump 1 7 0 0 []) (number 7)
    ∷ line (tick (0x48 ∷ 0xBD ∷ 3 ∷ 0xC8 ∷ 0x4A ∷ 3 ∷ [])) (number 0)
    -- cell 1, block 21: ticks 5 and 6 replace ticks 0 to 4, which go to loss 4; an overrun by 010 behind 000 returns to
    -- block 20
    ∷ line (dump 1 0 1 1 []) (number 0)
    ∷ line (dump 1 2 1 1 []) (number 2)
    ∷ line (integrate 1) (number 4)
    ∷ line (tick (0xDB ∷ 0x81 ∷ 2 ∷ 0x14 ∷ 0x6F ∷ 3 ∷ [])) (number 0)
    -- cell 0: Held is occupied, and ticks 5 to 7 go to loss 2; cell 1: 010 behind 010 moves on to block 21, tick 7
    -- joins, and the bin is Ready
    ∷ line (dump 0 2 0 0 []) (number 2)
    ∷ line (dump 1 2 1 1 []) (number 0)
    ∷ line (dump 1 1 1 1 []) (number 2)
    ∷ line (dump 1 0 1 1 []) (number 2)
    ∷ line (integrate 1) (number 0)
    ∷ line (tick (0x54 ∷ 0x6C ∷ 3 ∷ 0x76 ∷ 0xD6 ∷ 3 ∷ [])) (number 0)
    -- cell 1, block 21 again: tick 8 goes to loss 3
    ∷ line (dump 1 1 1 1 []) (number 0)
    ∷ line (integrate 1) (number 3)
    -- a reading has cell, lag and loss number
    ∷ line (reading 0 2 1) (sums_read (pos 18) (minus 30) 3 1 2)
    ∷ line (reading 0 3 2) (sums_read (pos 36) (pos 2) 3 2 3)
    ∷ line (reading 1 1 3) (sums_read (minus 24) (pos 48) 1 1 1)
    ∷ line (reading 1 0 4) (sums_read (pos 118) (minus 21) 5 3 2)
    -- data bin 4 of bank 0 is Free
    ∷ record { call = emit 1 0 4 lent; returned = record { answer = refused 9; out = lent } }
    ∷ record { call = emit 1 1 4 lent; returned = record { answer = number 66; out = worked_frame ++ 9 ∷ [] } }
    -- 41 × (6 × 2 + 1) bytes: one byte short, and two more than the page
    ∷ record { call = page (replicate 532 9); returned = record { answer = refused 10; out = replicate 532 9 } }
    ∷ record {
      call = page (replicate 535 9);
      returned = record { answer = number 533; out = worked_page ++ 9 ∷ 9 ∷ [] };
    }
    ∷ []
