-- "A call tells how many words of work memory .. a shape needs, by a formula of the builder's". Words are of 64 bits.
use Rattle.std.specs.Prelude.{ℕ, ◌+◌, ◌*◌, ◌/◌, List, [], ◌∷◌, eqb}
use Rattle.lta_spec.specs.Refusals.{Test, test}
use Rattle.lta_spec.specs.Shape.{shape_ok}
use Rattle.lta_spec.specs.declared.Shape.{Shape}
use Rattle.lta_spec.specs.declared.Refusal.TheVariants.{BadShape, WrongMemory}

-- a row of n lags: ticks, edge and centre count, I and Q of each lag
abbrev pub row_words : (n : ℕ) → ℕ
row_words n = 3 + 2 * n

-- entries of a shift register: those of 0 to N/2 ticks ago
abbrev pub depth : (n : ℕ) → ℕ
depth n = n / 2 + 1

-- a bin: state, stamp, row
abbrev pub bin_words : (n : ℕ) → ℕ
bin_words n = 2 + row_words n

-- a cell: flag, label, two stamps, the block counter, the Ready number and the place of picks; Open, Held and six
-- losses; two shift registers; the bins of both banks
abbrev pub cell_words : (n bins : ℕ) → ℕ
cell_words n bins = 10 + 8 * row_words n + 2 * depth n + 2 * bins * bin_words n

-- t, ahead of the cells, and the run's place of picks, behind them
abbrev pub run_words : ℕ
run_words = 2

unfoldable pub memory_words : Shape → ℕ
memory_words sh = run_words + sh.cells * cell_words sh.lags sh.bins

-- "Setup and every call on a run test 1, then 2, first." words is the length of the work memory that the call is
-- given.
unfoldable pub host_tests : Shape → (words : ℕ) → List Test
host_tests sh words = test (shape_ok sh) BadShape ∷ test (eqb words (memory_words sh)) WrongMemory ∷ []
