-- Request 2026-08: a worked run and its exchanged run, in which little is 0. What each call returns was computed from
-- documents 01 and 02, not from the definitions here. proofs/ExchangeRows.antt proves them, of the machine by computing
-- and of the engine by demand 3.
use Rattle.std.specs.Prelude.{ℕ, suc, ◌≡◌, List, [], ◌∷◌, ◌++◌, map, pos, replicate}
use Rattle.lta_spec.specs.Words.{joined}
use Rattle.lta_spec.specs.Decimal.{ascii}
use Rattle.lta_spec.specs.Bytes.{bytes_of}
use Rattle.lta_spec.specs.Frame.{mark}
use Rattle.lta_spec.specs.Call.Call.{tick, dump, reading, page}
use Rattle.lta_spec.specs.Answer.{Answer}
use Rattle.lta_spec.specs.Answer.Answer.{refused, number}
use Rattle.lta_spec.specs.MachineRun as R
use Rattle.lta_spec.specs.Demand.{machine_returns, engine_returns, fresh_mem}
use Rattle.lta_spec.specs.Exchange.{bits_exchanged, exchanged_list}
use Rattle.lta_spec.specs.WorkedRun.{CallLine, calls_of, returned_by, line, minus, sums_read, worked_shape}
use Rattle.lta_spec.specs.SpeedRows.{lent_line, speed_lent}

-- what differs between the two runs: the bytes of ticks 0 to 3 and 4 to 7, of a tick that is a byte short and of one
-- with another bit of a validity byte set; the readings at lags 0 to 3; the edge count, the lag pairs and the last word
-- of a frame; the lines of a page that show ticks
pub record Side : Type 0 where
  pub first : List (List ℕ)
  pub later : List (List ℕ)
  pub cut : List ℕ
  pub other_bit : List ℕ
  pub lags : List Answer
  pub edge : ℕ
  pub pairs : List ℕ
  pub cell0 : List ℕ
  pub cell1 : List ℕ
  pub totals : List ℕ

abbrev pub taken : List (List ℕ) → List CallLine
taken ticks = map (λ bytes. line (tick bytes) (number 0)) ticks

-- readings of loss 1 of cell 1 from a lag on
abbrev pub readings_from : (lag : ℕ) → List Answer → List CallLine
readings_from lag [] = []
readings_from lag (a ∷ answers) = line (reading 1 lag 1) a ∷ readings_from (suc lag) answers

-- The speed frame of ticks 4 to 7 of cell 1, with stamp 4. W0: bits 0-2 = 3, cell 1; W1: Y block 20 + 4 mod 3 = 15h,
-- data bin 4, bank 1; W2 ticks, W3 centre count, W4 edge count; W5: 1000 + 4 div 3; W6: 4 mod 3; DATA_BIAS, 128 × 4
abbrev pub four_ticks : Side → List ℕ
four_ticks s =
    mark ++ bytes_of (0x0000_0803 ∷ 0x8004_1500 ∷ 4 ∷ 2 ∷ s.edge ∷ 1001 ∷ 1 ∷ 512 ∷ s.pairs)

-- the lines of losses 2 to 6, without ticks
abbrev pub page_text : Side → List ℕ
page_text s =
    joined
    (s.cell0
    ∷ ascii " 0 2           0           0           0\n"
    ∷ ascii " 0 3           0           0           0\n"
    ∷ ascii " 0 4           0           0           0\n"
    ∷ ascii " 0 5           0           0           0\n"
    ∷ ascii " 0 6           0           0           0\n"
    ∷ s.cell1
    ∷ ascii " 1 2           0           0           0\n"
    ∷ ascii " 1 3           0           0           0\n"
    ∷ ascii " 1 4           0           0           0\n"
    ∷ ascii " 1 5           0           0           0\n"
    ∷ ascii " 1 6           0           0           0\n"
    ∷ s.totals
    ∷ [])

abbrev pub lines : Side → List CallLine
lines s =
    joined
    (taken s.first
    -- cell 1: 100, ticks 0 to 3 go to loss 1
    ∷ (line (dump 1 4 1 1 []) (number 1) ∷ [])
    ∷ readings_from 0 s.lags
    ∷ (line (tick s.cut) (refused 3) ∷ line (tick s.other_bit) (refused 19) ∷ [])
    ∷ taken s.later
    -- cell 1: 011, ticks 4 to 7 are sent; cell 0: 100, its eight ticks go to loss 1
    ∷ (lent_line (dump 1 3 1 1 speed_lent) (number 70) (four_ticks s ++ 9 ∷ [])
    ∷ line (dump 0 4 0 0 []) (number 1)
    ∷ lent_line (page (replicate 534 9)) (number 533) (page_text s ++ 9 ∷ [])
    ∷ [])
    ∷ [])

-- X, Y and validity of cell 0, then of cell 1. Lags 1 to 3 here are lags 3 to 1 there, with Q negated. Lag 0 here,
-- where X meets the Y of two ticks ago, would be lag 4 there, and lag 0 there would be lag 4 here: there is no such
-- lag, and the two share no product. The edge counts are those of lag 0, and differ too.
abbrev pub here : Side
here =
    record {
      first =
          (0x58 ∷ 0x68 ∷ 3 ∷ 0x06 ∷ 0x3A ∷ 3 ∷ [])
          ∷ (0x84 ∷ 0x28 ∷ 3 ∷ 0x9B ∷ 0xE1 ∷ 3 ∷ [])
          ∷ (0x33 ∷ 0x08 ∷ 0 ∷ 0xE4 ∷ 0x1B ∷ 3 ∷ [])
          ∷ (0x02 ∷ 0x4C ∷ 2 ∷ 0x30 ∷ 0x5F ∷ 2 ∷ [])
          ∷ [];
      later =
          (0x95 ∷ 0x98 ∷ 3 ∷ 0x8E ∷ 0x64 ∷ 1 ∷ [])
          ∷ (0x0C ∷ 0xA1 ∷ 1 ∷ 0xA9 ∷ 0x6E ∷ 3 ∷ [])
          ∷ (0x34 ∷ 0x7C ∷ 0 ∷ 0xB7 ∷ 0xBB ∷ 3 ∷ [])
          ∷ (0xFE ∷ 0xBD ∷ 2 ∷ 0xD1 ∷ 0x35 ∷ 1 ∷ [])
          ∷ [];
      cut = 0x58 ∷ 0x68 ∷ 1 ∷ 0x06 ∷ 0x3A ∷ [];
      other_bit = 0x58 ∷ 0x68 ∷ 3 ∷ 0x06 ∷ 0x3A ∷ 5 ∷ [];
      lags =
          sums_read (pos 24) (pos 48) 4 1 3
          ∷ sums_read (minus 22) (pos 30) 4 1 3
          ∷ sums_read (minus 51) (pos 122) 4 1 3
          ∷ sums_read (minus 44) (pos 6) 4 1 3
          ∷ [];
      edge = 3;
      -- -23 and 22, 16 and -24, -70 and 28, 82 and -27
      pairs =
          0xFFFF_FFE9 ∷ 22 ∷ 16 ∷ 0xFFFF_FFE8 ∷ 0xFFFF_FFBA ∷ 28 ∷ 82 ∷ 0xFFFF_FFE5 ∷ 0x8004_22FA ∷ [];
      cell0 = ascii " 0 1           8           1           3\n";
      cell1 = ascii " 1 1           4           1           3\n";
      totals = ascii "** *          12           2           6\n";
    }

abbrev pub there : Side
there =
    record {
      first =
          (0x68 ∷ 0x58 ∷ 3 ∷ 0x3A ∷ 0x06 ∷ 3 ∷ [])
          ∷ (0x28 ∷ 0x84 ∷ 3 ∷ 0xE1 ∷ 0x9B ∷ 3 ∷ [])
          ∷ (0x08 ∷ 0x33 ∷ 0 ∷ 0x1B ∷ 0xE4 ∷ 3 ∷ [])
          ∷ (0x4C ∷ 0x02 ∷ 1 ∷ 0x5F ∷ 0x30 ∷ 1 ∷ [])
          ∷ [];
      later =
          (0x98 ∷ 0x95 ∷ 3 ∷ 0x64 ∷ 0x8E ∷ 2 ∷ [])
          ∷ (0xA1 ∷ 0x0C ∷ 2 ∷ 0x6E ∷ 0xA9 ∷ 3 ∷ [])
          ∷ (0x7C ∷ 0x34 ∷ 0 ∷ 0xBB ∷ 0xB7 ∷ 3 ∷ [])
          ∷ (0xBD ∷ 0xFE ∷ 1 ∷ 0x35 ∷ 0xD1 ∷ 2 ∷ [])
          ∷ [];
      cut = 0x68 ∷ 0x58 ∷ 2 ∷ 0x3A ∷ 0x06 ∷ [];
      other_bit = 0x68 ∷ 0x58 ∷ 3 ∷ 0x3A ∷ 0x06 ∷ 6 ∷ [];
      lags =
          sums_read (minus 60) (minus 40) 4 2 3
          ∷ sums_read (minus 44) (minus 6) 4 2 3
          ∷ sums_read (minus 51) (minus 122) 4 2 3
          ∷ sums_read (minus 22) (minus 30) 4 2 3
          ∷ [];
      edge = 1;
      -- 10 and 20, 82 and 27, -70 and -28, 16 and 24
      pairs = 10 ∷ 20 ∷ 82 ∷ 27 ∷ 0xFFFF_FFBA ∷ 0xFFFF_FFE4 ∷ 16 ∷ 24 ∷ 0x8004_2345 ∷ [];
      cell0 = ascii " 0 1           8           2           3\n";
      cell1 = ascii " 1 1           4           2           3\n";
      totals = ascii "** *          12           4           6\n";
    }

-- a run of the plain machine and of the engine tells what is listed
pub record SideTells (s : Side) : Type 0 where
  pub machine : machine_returns worked_shape (calls_of (lines s)) (R.start worked_shape) ≡ returned_by (lines s)
  pub engine : engine_returns worked_shape (calls_of (lines s)) (fresh_mem worked_shape) ≡ returned_by (lines s)

pub record ExchangeRows : Type 0 where
  -- validity bytes with bits 0 and 1 exchanged, and others that stay
  pub bits : map bits_exchanged (0 ∷ 1 ∷ 2 ∷ 3 ∷ 4 ∷ 5 ∷ 6 ∷ 0xFD ∷ [])
      ≡ 0 ∷ 2 ∷ 1 ∷ 3 ∷ 4 ∷ 6 ∷ 5 ∷ 0xFE ∷ []
  -- the calls there are those here with X and Y exchanged
  pub calls : exchanged_list (calls_of (lines here)) ≡ calls_of (lines there)
  pub tells-here : SideTells here
  pub tells-there : SideTells there
