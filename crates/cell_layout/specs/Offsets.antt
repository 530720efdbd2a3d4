-- Where the fields of a cell stand among its words, and the cells in work memory.
use Rattle.std.specs.Prelude.{◌≡◌, ℕ, ◌+◌, ◌*◌, ◌≤◌}
use Rattle.lta_spec.specs.Size.{row_words, depth, bin_words, cell_words}
use Rattle.lta_spec.specs.Place.{loss_count}

-- Held's flag and label, the stamps of Open and of Held
abbrev pub occupied_at : ℕ
occupied_at = 0

abbrev pub command_at : ℕ
command_at = 1

abbrev pub bank_at : ℕ
bank_at = 2

abbrev pub data_bin_at : ℕ
data_bin_at = 3

abbrev pub open_stamp_at : ℕ
open_stamp_at = 4

abbrev pub held_stamp_at : ℕ
held_stamp_at = 5

-- the block counter: the current block's offset from S, and the last command's code
abbrev pub block_at : ℕ
block_at = 6

abbrev pub last_command_at : ℕ
last_command_at = 7

-- the picks: the Ready number, and the place at which the next pick starts
abbrev pub ready_bins_at : ℕ
ready_bins_at = 8

abbrev pub next_bin_at : ℕ
next_bin_at = 9

-- the rows of Open, of Held and of the losses
abbrev pub open_row_at : ℕ
open_row_at = 10

abbrev pub held_row_at : (n : ℕ) → ℕ
held_row_at n = open_row_at + row_words n

abbrev pub loss_row_at : (n i : ℕ) → ℕ
loss_row_at n i = open_row_at + (2 + i) * row_words n

-- the X and the Y shift register
abbrev pub xs_at : (n : ℕ) → ℕ
xs_at n = open_row_at + (2 + loss_count) * row_words n

abbrev pub ys_at : (n : ℕ) → ℕ
ys_at n = xs_at n + depth n

-- in a bin, whose first word is its state: its stamp and its row
abbrev pub stamp_in : ℕ
stamp_in = 1

abbrev pub row_in : ℕ
row_in = 2

-- bin k of both banks: its state, its stamp and its row
abbrev pub state_at : (n k : ℕ) → ℕ
state_at n k = ys_at n + depth n + k * bin_words n

abbrev pub stamp_at : (n k : ℕ) → ℕ
stamp_at n k = state_at n k + stamp_in

abbrev pub bin_row_at : (n k : ℕ) → ℕ
bin_row_at n k = state_at n k + row_in

-- t, the cells behind it, and behind those the cell at which the next pick starts
abbrev pub time_at : ℕ
time_at = 0

abbrev pub cell_at : (n bins c : ℕ) → ℕ
cell_at n bins c = 1 + c * cell_words n bins

abbrev pub next_cell_at : (n bins cells : ℕ) → ℕ
next_cell_at n bins cells = cell_at n bins cells

-- the words of a cell before its bins
abbrev pub fixed_words : (n : ℕ) → ℕ
fixed_words n = ys_at n + depth n

-- r is the offset `at`, and so many words there are among the first `whole` words of a cell
pub record Stands (at words whole r : ℕ) : Type 0 where
  pub is : r ≡ at
  pub inside : r + words ≤ whole
  pub small : whole ≤ 600000
