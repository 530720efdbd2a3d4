-- Document 01, "Shape of a run", and the ceilings on ticks.
use Rattle.std.specs.Prelude.{ℕ, ◌+◌, ◌%◌, Bool, List, [], ◌∷◌, leb, eqb}
use Rattle.lta_spec.specs.Words.{all}
use Rattle.lta_spec.specs.declared.Shape.{Shape}

-- N: "even, 2 to 128". The frame reader tests it too.
unfoldable pub lag_count_ok : ℕ → Bool
lag_count_ok n = all (leb 2 n ∷ leb n 128 ∷ eqb (n % 2) 0 ∷ [])

-- "C cells (1 to 16), N lags per cell .., B data bins per bank (1 to 1,000 ..), M recirculation blocks (1 to 256)
-- with start block S (S + M at most 256), R ticks per second (1 to 256,000,000) and start second Z (0 to
-- 2,147,483,647)"
abbrev pub shape_tests : Shape → List Bool
shape_tests s =
    leb 1 s.cells
    ∷ leb s.cells 16
    ∷ lag_count_ok s.lags
    ∷ leb 1 s.bins
    ∷ leb s.bins 1000
    ∷ leb 1 s.blocks
    ∷ leb s.blocks 256
    ∷ leb (s.start + s.blocks) 256
    ∷ leb 1 s.rate
    ∷ leb s.rate 256000000
    ∷ leb s.second 2147483647
    ∷ []

unfoldable pub shape_ok : Shape → Bool
shape_ok s = all (shape_tests s)

-- "A run takes 2,147,483,648 ticks at most", and so does a loss
abbrev pub run_limit : ℕ
run_limit = 2147483648

-- ticks of Open and Held, the memo's burst of 512k samples
abbrev pub open_limit : ℕ
open_limit = 524288

-- ticks of a bin, and of a frame
abbrev pub bin_limit : ℕ
bin_limit = 16777215

-- the most that one tick adds to a sum, in size: 8 × 8 × 2. Request 2026-06: "Every 98 in document 01 and in the speed
-- frame becomes 128".
abbrev pub peak : ℕ
peak = 128
