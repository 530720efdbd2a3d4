-- A tick that is added to a row: what it asks of the words, and what it leaves.
use Rattle.std.specs.Prelude.{◌≡◌, cond, List, [], ◌∷◌, map, ℕ, ◌+◌, ◌*◌, ◌/◌, ◌<◌, ◌≤◌, ◌^◌, length, get_or}
use Rattle.lta_spec.specs.Words.{part, splice, sums}
use Rattle.lta_spec.specs.Shape.{peak}
use Rattle.lta_spec.specs.Size.{depth, row_words}
use Rattle.lta_spec.specs.Tick.{Entry, valid_at, edge_lag, centre_lag}
use Rattle.lta_spec.specs.Row.{from_word, tick_row}

-- the entries of the register at `at`, for n lags
abbrev pub entries_at : (n at : ℕ) (l : List ℕ) → List Entry
entries_at n at l = map from_word (part at (depth n) l)

-- the first words of a tick's row
abbrev pub tick_counts : (n : ℕ) (xs ys : List Entry) → List ℕ
tick_counts n xs ys = 1 ∷ cond (valid_at n xs ys edge_lag) 1 0 ∷ cond (valid_at n xs ys (centre_lag n)) 1 0 ∷ []

-- what a tick asks of the words: N is even and at most 128, both registers and the row are in the list, and each word
-- of the row has room for what a tick adds
pub record Ready (l : List ℕ) (x y to n : ℕ) : Type 0 where
  pub even : n ≡ 2 * (n / 2)
  pub most : n ≤ 128
  pub x-in : x + depth n ≤ length l
  pub y-in : y + depth n ≤ length l
  pub to_in : to + row_words n ≤ length l
  pub room : (i : ℕ) → i < row_words n → get_or l (to + i) 0 + 2 * peak < 2 ^ 64

-- the words after the tick whose registers stand at x and y is added to the row at `to`
abbrev pub ticked : (l : List ℕ) (x y to n : ℕ) → List ℕ
ticked l x y to n =
    splice l to (sums (part to (row_words n) l) (tick_row n (entries_at n x l) (entries_at n y l)))
