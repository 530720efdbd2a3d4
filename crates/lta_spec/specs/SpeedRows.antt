-- Request 2026-04: the example script with a 011 in place of the 010, and a worked run of speed dumps in which little
-- is 0. What each call returns was computed from documents 01 and 02, not from the definitions here.
-- proofs/SpeedRows.antt proves them, of the machine by computing and of the engine by demand 3.
use Rattle.std.specs.Prelude.{ℕ, ◌≡◌, List, [], ◌∷◌, ◌++◌, pos, replicate}
use Rattle.lta_spec.specs.Bytes.{bytes_of}
use Rattle.lta_spec.specs.Frame.{mark, speed_frame, frame_length}
use Rattle.lta_spec.specs.FrameCalls.{quotient, normal_answer}
use Rattle.lta_spec.specs.Call.{Call}
use Rattle.lta_spec.specs.Call.Call.{tick, dump, integrate, emit, reading}
use Rattle.lta_spec.specs.Answer.{Answer}
use Rattle.lta_spec.specs.Answer.Answer.{refused, number, normal}
use Rattle.lta_spec.specs.MachineRun as R
use Rattle.lta_spec.specs.Demand.{machine_returns, engine_returns, fresh_mem}
use Rattle.lta_spec.specs.WorkedRun.{CallLine, calls_of, returned_by, line, lent, minus, sums_read, worked_shape}
use Rattle.lta_spec.specs.Edges.{script_shape, script_lent}
use Rattle.lta_spec.specs.declared.Shape.{Shape}

-- a call that is lent a buffer: its answer, and the buffer as it leaves it
abbrev pub lent_line : Call → Answer → (out : List ℕ) → CallLine
lent_line call a out = record { call = call; returned = record { answer = a; out = out } }

-- "DP then prints the frame's words": 3 0 3 2 1 0 0, DATA_BIAS 384, then 6 0 10 0 and their sum 409
abbrev pub script_speed : List ℕ
script_speed = mark ++ bytes_of (3 ∷ 0 ∷ 3 ∷ 2 ∷ 1 ∷ 0 ∷ 0 ∷ 384 ∷ 6 ∷ 0 ∷ 10 ∷ 0 ∷ 409 ∷ [])

-- the script of document 01 with DP 0 3 0 0: nothing is held, and no bin is Ready
abbrev pub speed_script : List CallLine
speed_script =
    line (tick (2 ∷ 3 ∷ 3 ∷ [])) (number 0)
    ∷ line (tick (1 ∷ 15 ∷ 3 ∷ [])) (number 0)
    ∷ line (tick (8 ∷ 2 ∷ 2 ∷ [])) (number 0)
    ∷ lent_line (dump 0 3 0 0 script_lent) (number 54) script_speed
    ∷ line (integrate 0) (refused 8)
    ∷ lent_line (emit 0 0 0 script_lent) (refused 9) script_lent
    ∷ line (integrate 0) (refused 8)
    ∷ []

-- a buffer with one byte more than a speed frame of four lags, and one with a byte less
abbrev pub speed_lent : List ℕ
speed_lent = replicate 71 9

abbrev pub speed_short : List ℕ
speed_short = replicate 69 9

-- the speed frame of ticks 5, 6 and 7 of cell 1, with stamp 5: the lags of the worked frame
abbrev pub three_ticks : List ℕ
three_ticks =
    mark
    ++ bytes_of
    -- W0: bits 0-2 = 3, cell 1; W1: Y block 20 + 4 mod 3 = 15h, data bin 4, bank 1
    (0x0000_0803
    ∷ 0x8004_1500
    -- W2 ticks, W3 centre count, W4 edge count; W5: 1000 + 5 div 3; W6: 5 mod 3
    ∷ 3
    ∷ 2
    ∷ 1
    ∷ 1001
    ∷ 2
    -- DATA_BIAS, 128 × 3
    ∷ 384
    -- I and Q of lag 0, 8 and 8; of lag 1, -1 and -2; of lag 2, -97 and 1; of lag 3, 5 and 13
    ∷ 8
    ∷ 8
    ∷ 0xFFFF_FFFF
    ∷ 0xFFFF_FFFE
    ∷ 0xFFFF_FF9F
    ∷ 1
    ∷ 5
    ∷ 13
    ∷ 0x8004_2233
    ∷ [])

-- of tick 8, with stamp 8: Y block 22, data bin 2, bank 0
abbrev pub one_tick : List ℕ
one_tick =
    mark
    ++ bytes_of
    (0x0000_0803 ∷ 0x0002_1600 ∷ 1 ∷ 1 ∷ 1 ∷ 1002 ∷ 2 ∷ 128
    ∷ 0xFFFF_FFDC ∷ 0xFFFF_FFB8 ∷ 0xFFFF_FFE8 ∷ 48 ∷ 4 ∷ 8 ∷ 0xFFFF_FFF8 ∷ 8 ∷ 0x0002_222A
    ∷ [])

-- of no tick, with stamp 9: Y block 20, data bin 3, bank 1
abbrev pub no_tick : List ℕ
no_tick = mark ++ bytes_of (0x0000_0803 ∷ 0x8003_1400 ∷ 0 ∷ 0 ∷ 0 ∷ 1003 ∷ 0 ∷ replicate 9 0 ++ 0x8003_1FEE ∷ [])

-- the frame of ticks 0 to 4, which were held meanwhile
abbrev pub held_frame : List ℕ
held_frame =
    mark
    ++ bytes_of
    (0x0000_0802 ∷ 0x8003_1400 ∷ 5 ∷ 2 ∷ 3 ∷ 1000 ∷ 0
    ∷ 118 ∷ 0xFFFF_FFEB ∷ 0xFFFF_FFC8 ∷ 0xFFFF_FF90 ∷ 0xFFFF_FFFC ∷ 4 ∷ 0 ∷ 0xFFFF_FFC0 ∷ 0x8003_1F6D
    ∷ [])

abbrev pub speed_run : List CallLine
speed_run =
    line (tick (0x0A ∷ 0x63 ∷ 3 ∷ 0x36 ∷ 0x79 ∷ 2 ∷ [])) (number 0)
    ∷ line (tick (0x96 ∷ 0xD4 ∷ 3 ∷ 0x48 ∷ 0x64 ∷ 3 ∷ [])) (number 0)
    ∷ line (tick (0xA2 ∷ 0x84 ∷ 1 ∷ 0x69 ∷ 0x04 ∷ 3 ∷ [])) (number 0)
    ∷ line (tick (0x85 ∷ 0xB6 ∷ 3 ∷ 0x87 ∷ 0x68 ∷ 1 ∷ [])) (number 0)
    ∷ line (tick (0x36 ∷ 0xC8 ∷ 3 ∷ 0x0F ∷ 0xAF ∷ 3 ∷ [])) (number 0)
    -- cell 1 holds ticks 0 to 4 for block 20, data bin 3; "Other commands leave that buffer alone"
    ∷ lent_line (dump 1 0 1 1 speed_lent) (number 0) speed_lent
    ∷ line (tick (0x26 ∷ 0xFB ∷ 3 ∷ 0x5F ∷ 0x0B ∷ 1 ∷ [])) (number 0)
    ∷ line (tick (0x48 ∷ 0xBD ∷ 3 ∷ 0xC8 ∷ 0x4A ∷ 3 ∷ [])) (number 0)
    ∷ line (tick (0xDB ∷ 0x81 ∷ 2 ∷ 0x14 ∷ 0x6F ∷ 3 ∷ [])) (number 0)
    -- "10 applies to it last": nothing moves, the block neither
    ∷ lent_line (dump 1 3 1 1 speed_short) (refused 10) speed_short
    -- block 21; the byte behind the frame stays, and so does what is held
    ∷ lent_line (dump 1 3 1 1 speed_lent) (number 70) (three_ticks ++ 9 ∷ [])
    ∷ line (integrate 1) (number 0)
    ∷ lent_line (dump 1 7 0 0 speed_lent) (number 7) speed_lent
    ∷ line (tick (0x54 ∷ 0x6C ∷ 3 ∷ 0x76 ∷ 0xD6 ∷ 3 ∷ [])) (number 0)
    -- block 22, and with nothing open block 20
    ∷ lent_line (dump 1 3 0 0 speed_lent) (number 70) (one_tick ++ 9 ∷ [])
    ∷ lent_line (dump 1 3 1 1 speed_lent) (number 70) (no_tick ++ 9 ∷ [])
    -- 010 behind a 011, "it counts as a 001": it returns to block 20, and data bin 3 is Ready
    ∷ line (dump 1 2 1 1 []) (number 0)
    ∷ line (integrate 1) (number 0)
    ∷ lent_line (emit 1 1 3 lent) (number 66) (held_frame ++ 9 ∷ [])
    -- no loss has grown
    ∷ line (reading 1 1 2) (sums_read (pos 0) (pos 0) 0 0 0)
    ∷ []

-- a run of the plain machine and of the engine returns what is listed
pub record Returns (sh : Shape) (ls : List CallLine) : Type 0 where
  pub machine : machine_returns sh (calls_of ls) (R.start sh) ≡ returned_by ls
  pub engine : engine_returns sh (calls_of ls) (fresh_mem sh) ≡ returned_by ls

pub record SpeedRows : Type 0 where
  pub script : Returns script_shape speed_script
  pub run : Returns worked_shape speed_run
  -- the lags of the speed frame, normalised: lag 2 by the centre count, 2
  pub normalised : normal_answer 4 three_ticks 2
      ≡ normal (record { re = quotient (minus 97) 2; im = quotient (pos 1) 2 })
  -- "Its length is 38 + 8N": N=128, 1,062 bytes
  pub length : frame_length speed_frame 128 ≡ 1062
