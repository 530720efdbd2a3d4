-- A row of words: the numbers of a place as the engine keeps them. Ticks, edge count, centre count, then I and Q of
-- each lag, each sum biased: sum + 128 × ticks, as the memo's accumulators are (4.2.2.2.5, DATA_BIAS). A cleared row
-- is the row of no tick.
use Rattle.std.specs.Prelude.{ℕ, zero, suc, ◌+◌, ◌*◌, ◌/◌, ◌%◌, Bool, cond, not, ◌&&◌, List, [], ◌∷◌, leb, ltb, eqb, ℤ, pos, nat_abs, ◌+ℤ◌, ◌-ℤ◌, get_or, drop}
use Rattle.lta_spec.specs.Words.{zeros, every}
use Rattle.lta_spec.specs.Shape.{peak}
use Rattle.lta_spec.specs.Size.{row_words}
use Rattle.lta_spec.specs.Tick.{Entry, nibble, valid_at, in_phase_at, quadrature_at, edge_lag, centre_lag}
use Rattle.lta_spec.specs.declared.Sums.{Sums}
use Rattle.lta_spec.specs.declared.Counts.{Counts}

abbrev pub ticks_of : List ℕ → ℕ
ticks_of row = get_or row 0 0

abbrev pub edge_of : List ℕ → ℕ
edge_of row = get_or row 1 0

abbrev pub centre_of : List ℕ → ℕ
centre_of row = get_or row 2 0

-- the row of no tick
abbrev pub empty_row : (n : ℕ) → List ℕ
empty_row n = zeros (row_words n)

-- what one tick adds to a stored sum: 128 + z, never below 0
abbrev pub biased : ℤ → ℕ
biased z = nat_abs (pos peak +ℤ z)

-- a stored sum without its bias
abbrev pub unbiased : (ticks stored : ℕ) → ℤ
unbiased ticks stored = pos stored -ℤ pos (peak * ticks)

-- what one tick adds to the row of the place that it joins; xs and ys are the entries of that tick and those before
-- it
module _ (n : ℕ) (xs ys : List Entry) where
  abbrev pub lag_row : (count k : ℕ) → List ℕ
  lag_row zero k = []
  lag_row (suc m) k = biased (in_phase_at n xs ys k) ∷ biased (quadrature_at n xs ys k) ∷ lag_row m (suc k)

  unfoldable pub tick_row : List ℕ
  tick_row = 1 ∷ cond (valid_at n xs ys edge_lag) 1 0 ∷ cond (valid_at n xs ys (centre_lag n)) 1 0 ∷ lag_row n 0

-- the signed lag pairs of a row
abbrev pub row_lags : (ticks : ℕ) → List ℕ → List ℤ
row_lags ticks [] = []
row_lags ticks (w ∷ ws) = unbiased ticks w ∷ row_lags ticks ws

-- what a reading gives of a row at lag k
abbrev pub row_sums : (k : ℕ) → List ℕ → Sums
row_sums k row =
    record {
      i = unbiased (ticks_of row) (get_or row (3 + 2 * k) 0);
      q = unbiased (ticks_of row) (get_or row (4 + 2 * k) 0);
      ticks = ticks_of row;
      edge = edge_of row;
      centre = centre_of row;
    }

-- what a page shows of a row
abbrev pub row_counts : List ℕ → Counts
row_counts row = record { ticks = ticks_of row; edge = edge_of row; centre = centre_of row }

-- 11: "a sum passes 98 × ticks in size", by request 2026-06 128 × ticks, which is a stored sum above 256 × ticks
abbrev pub sum_ok : (ticks stored : ℕ) → Bool
sum_ok ticks stored = leb stored (2 * peak * ticks)

-- 11: "ticks pass their limit .., a count passes its ticks", or a sum its size
unfoldable pub row_ok : (limit : ℕ) → List ℕ → Bool
row_ok limit row =
    leb (ticks_of row) limit
    && (leb (edge_of row) (ticks_of row)
    && (leb (centre_of row) (ticks_of row)
    && every (sum_ok (ticks_of row)) (drop 3 row)))

-- A stored shift register entry: sample + 8, 16 × phase, and 256 × its validity bit. A cleared word is invalid.
abbrev pub entry_word : (byte bit : ℕ) → ℕ
entry_word b v = (b % 16 + 8) % 16 + 16 * (b / 16 % 16) + 256 * v

-- the entries of a tick's bytes, from a cell's first on
abbrev pub x_entry : (samples : List ℕ) → ℕ
x_entry samples = entry_word (get_or samples 0 0) (get_or samples 2 0 % 2)

abbrev pub y_entry : (samples : List ℕ) → ℕ
y_entry samples = entry_word (get_or samples 1 0) (get_or samples 2 0 / 2 % 2)

unfoldable pub from_word : ℕ → Entry
from_word w =
    record { valid = not (eqb (w / 256 % 2) 0); sample = nibble ((w % 16 + 8) % 16); phase = w / 16 % 16 }

-- 11: "a shift register entry is one that no sampler byte gives"
abbrev pub entry_ok : ℕ → Bool
entry_ok w = ltb w 512
