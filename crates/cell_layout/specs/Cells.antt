-- What the functions on one cell ask of its slice, and its words as a value.
use Rattle.std.specs.Prelude.{◌≡◌, List, ℕ, ◌*◌, ◌≤◌, length, get_or}
use Rattle.lta_spec.specs.Shape.{run_limit, peak}
use Rattle.lta_spec.specs.Size.{cell_words}
use Rattle.lta_spec.specs.Place.{Cell}
use Rattle.lta_spec.specs.Engine.{Row, Counter, Picks, Unit}
use Rattle.lta_spec.specs.Memory.{unit_layout}
use Rattle.cell_layout.specs.Lays.{Lays}

-- a slice of as many words as a cell of n lags and 2 × bins bins has
pub record Fits (l : List ℕ) (n B : ℕ) : Type 0 where
  pub size : length l ≡ cell_words n B
  pub lags : n ≤ 128
  pub bins : B ≤ 1000

-- the cell that the words are
unfoldable pub unit_of : (n bins : ℕ) → List ℕ → Unit
unit_of n bins l = (unit_layout n bins).get l

abbrev pub places_of : (n bins : ℕ) → List ℕ → Cell Row
places_of n bins l = (unit_of n bins l).cell

-- a cell with its places changed, its block counter, picks and registers as they were
abbrev pub with_places : Unit → Cell Row → Unit
with_places u c = record { cell = c; counter = u.counter; picks = u.picks; xs = u.xs; ys = u.ys }

-- a cell with its block counter changed
abbrev pub with_counter : Unit → Counter → Unit
with_counter u k = record { cell = u.cell; counter = k; picks = u.picks; xs = u.xs; ys = u.ys }

-- a cell with its picks changed
abbrev pub with_picks : Unit → Picks → Unit
with_picks u p = record { cell = u.cell; counter = u.counter; picks = p; xs = u.xs; ys = u.ys }

-- a function on words l leaves words m: f on the cell's places, its block counter, picks and registers as they were
abbrev pub Changes : (n bins : ℕ) → (f : Cell Row → Cell Row) → (l m : List ℕ) → Type 0
Changes n bins f l m = Lays (unit_layout n bins) m (with_places (unit_of n bins l) (f (places_of n bins l)))

-- the most that a word of a row within its limits holds
abbrev pub sum_limit : ℕ
sum_limit = 2 * peak * run_limit

-- two words of such rows have a sum that fits a word
abbrev pub Small : Row → Type 0
Small r = (i : ℕ) → get_or r i 0 ≤ sum_limit
