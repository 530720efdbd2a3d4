-- Document 01, "The frame": its words and bytes, its fields and their rules. The memo's LTA dump data frame, figure
-- 4-36. Request 2026-04 adds its second kind, the memo's speed dump frame, figure 4-37.
use Rattle.std.specs.Prelude.{ℕ, ◌+◌, ◌*◌, ◌/◌, ◌%◌, Bool, cond, true, ◌&&◌, ◌||◌, List, [], ◌∷◌, ◌++◌, map, leb, eqb, ℤ, nat_abs, get_or, drop}
use Rattle.lta_spec.specs.Words.{part, all, every}
use Rattle.lta_spec.specs.Shape.{bin_limit, peak}
use Rattle.lta_spec.specs.Bytes.{word_range, bytes_of, words_of, total, number_word, signed}
use Rattle.lta_spec.specs.declared.Fields.{Fields}

-- "Two mark bytes 4Ch 54h"
abbrev pub mark : List ℕ
mark = 76 ∷ 84 ∷ []

-- the kind of a frame that the accumulator sends: W0 "bits 0-2 = 2"
abbrev pub accumulated : ℕ
accumulated = 2

-- the kind of a speed frame: "W0 bits 0-2 are 3"
abbrev pub speed_frame : ℕ
speed_frame = 3

-- how many header words a frame of a kind has: W0 to W6, and DATA_BIAS behind them in a speed frame
abbrev pub head_words : (kind : ℕ) → ℕ
head_words kind = cond (eqb kind speed_frame) 8 7

-- mark, header words, N pairs, last word: "Length 34 + 8N bytes", and of a speed frame "38 + 8N"
abbrev pub frame_length : (kind n : ℕ) → ℕ
frame_length kind n = 2 + 4 * head_words kind + 8 * n + 4

-- where the lag pairs of a frame start, in bytes
abbrev pub lags_at : (kind : ℕ) → ℕ
lags_at kind = 2 + 4 * head_words kind

-- the kind that has frames of so many bytes, where one has
unfoldable pub length_kind : (n len : ℕ) → ℕ
length_kind n len = cond (eqb len (frame_length speed_frame n)) speed_frame accumulated

-- "sum of all words before it, wrapping at 32 bits"
abbrev pub checksum : List ℕ → ℕ
checksum ws = total ws % word_range

-- header and lag words with the last word behind them
unfoldable pub sealed : (head lags : List ℕ) → List ℕ
sealed head lags = (head ++ lags) ++ checksum (head ++ lags) ∷ []

-- the bytes of a frame
unfoldable pub frame_of : (head lags : List ℕ) → List ℕ
frame_of head lags = mark ++ bytes_of (sealed head lags)

-- the words behind the mark
abbrev pub body_of : List ℕ → List ℕ
body_of s = words_of (drop 2 s)

-- the words of lag numbers, "N pairs I, Q, two's complement", and the numbers of such words
abbrev pub lag_words : List ℤ → List ℕ
lag_words zs = map number_word zs

abbrev pub lag_numbers : (kind n : ℕ) → (body : List ℕ) → List ℤ
lag_numbers kind n body = map signed (part (head_words kind) (2 * n) body)

-- "W0: bits 0-2 = 2; bits 11-14 cell; rest 0."
abbrev pub w0 : Fields → ℕ
w0 f = f.kind + 2048 * f.cell

-- "W1: bits 8-15 Y block ..; bits 16-30 data bin; bit 31 bank; bits 0-7 0."
abbrev pub w1 : Fields → ℕ
w1 f = 256 * f.block + 65536 * f.bin + 2147483648 * f.bank

-- "a word DATA_BIAS .. stands between W6 and the lags"
abbrev pub bias_words : (kind bias : ℕ) → List ℕ
bias_words kind bias = cond (eqb kind speed_frame) (bias ∷ []) []

-- "W2 ticks; W3 centre count; W4 edge count", W5 the stamp's second, W6 its ticks within the second
abbrev pub first_words : Fields → List ℕ
first_words f = w0 f ∷ w1 f ∷ f.ticks ∷ f.centre ∷ f.edge ∷ f.second ∷ f.offset ∷ []

abbrev pub header_with : (bias : ℕ) → Fields → List ℕ
header_with bias f = first_words f ++ bias_words f.kind bias

-- DATA_BIAS is "equal to 98 × ticks", by request 2026-06 128 × ticks
unfoldable pub header : Fields → List ℕ
header f = header_with (peak * f.ticks) f

-- the fields of header words
unfoldable pub fields_of : (body : List ℕ) → Fields
fields_of ws =
    record {
      kind = get_or ws 0 0 % 8;
      cell = get_or ws 0 0 / 2048 % 16;
      block = get_or ws 1 0 / 256 % 256;
      bin = get_or ws 1 0 / 65536 % 32768;
      bank = get_or ws 1 0 / 2147483648;
      ticks = get_or ws 2 0;
      centre = get_or ws 3 0;
      edge = get_or ws 4 0;
      second = get_or ws 5 0;
      offset = get_or ws 6 0;
    }

-- "a fixed bit wrong": W0 and W1 have no bit set but their fields'
unfoldable pub fixed_ok : (body : List ℕ) → Bool
fixed_ok ws = eqb (get_or ws 0 0) (w0 (fields_of ws)) && eqb (get_or ws 1 0) (w1 (fields_of ws))

-- "The writer takes the kind too, 2 or 3, else 16"
abbrev pub kind_ok : (kind : ℕ) → Bool
kind_ok kind = eqb kind accumulated || eqb kind speed_frame

-- the rules of 16 on fields, for reader and writer: "data bin above 999, ticks above 16,777,215, a count above ticks,
-- W6 above 255,999,999", "a field too wide for its bits"
unfoldable pub fields_ok : Fields → Bool
fields_ok f =
    all
    (kind_ok f.kind
    ∷ leb f.cell 15
    ∷ leb f.block 255
    ∷ leb f.bin 999
    ∷ leb f.bank 1
    ∷ leb f.ticks bin_limit
    ∷ leb f.centre f.ticks
    ∷ leb f.edge f.ticks
    ∷ leb f.second 4294967295
    ∷ leb f.offset 255999999
    ∷ [])

-- a number is no further from 0 than a limit
abbrev pub within : (limit : ℕ) → ℤ → Bool
within limit z = leb (nat_abs z) limit

-- 18: "when a speed frame's DATA_BIAS differs from 98 × ticks", by request 2026-06 from 128 × ticks
unfoldable pub bias_ok : (kind : ℕ) (body : List ℕ) → Bool
bias_ok kind ws = cond (eqb kind speed_frame) (eqb (get_or ws 7 0) (peak * get_or ws 2 0)) true

-- "a lag beyond 98 × ticks", by request 2026-06 beyond 128 × ticks
abbrev pub lags_ok : Fields → List ℤ → Bool
lags_ok f zs = every (within (peak * f.ticks)) zs
