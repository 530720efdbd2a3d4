-- A run as a value: 1 and 2 do not apply to its words, and what holds of a cell holds of its words.
use mathlib.Core.Path.{◌≡◌, sym, ap, ap₂, ◌∙◌, subst}
use mathlib.Core.Bool.{Bool, true, ◌&&◌}
use mathlib.Core.List.{List}
use Prim.Native.Nat.{ℕ, ◌<◌}
use lib.Dec.{leb}
use lib.ListN.{length}
use borrow.Author.Tests.{eq-eqb}
use Rattle.lta_spec.specs.Shape.{shape_ok, run_limit}
use Rattle.lta_spec.specs.Size.{cell_words, memory_words, host_tests}
use Rattle.lta_spec.specs.Place as P
use Rattle.lta_spec.specs.Engine.{Row, Unit}
use Rattle.lta_spec.specs.Step.{unit_at, cell_at}
use Rattle.lta_spec.specs.declared.Shape.{Shape}
use Rattle.cell_layout.specs.Cells.{unit_of}
use Rattle.cell_layout.specs.declared.cell.Cell.{Cell}
use Rattle.cell_layout.specs.Views.{unit_in, places_in}
use Rattle.call_run.specs.declared.run.Run.{Run}
use Rattle.call_run.specs.Runs.{Hosted, Celled, run_of, CellOf}

-- 1 and 2 passed
pub hosted_by : (s : Shape) (mem : List ℕ) → shape_ok s ≡ true → length mem ≡ memory_words s → Hosted s mem
unfolding host_tests
hosted_by s mem a b = rw (a, eq-eqb _ _ b)

pub hosted_in : (r : Run) → Hosted r.shape r.mem.now
hosted_in r = hosted_by r.shape r.mem.now r.shaped r.whole

-- and 5
pub celled_in : (r : Run) {c : ℕ} → c < r.shape.cells → Celled r.shape r.mem.now c
celled_in r there = record { hosted = hosted_in r; there = there }

-- the words l are those of cell c
pub record CellPart (s : Shape) (mem : List ℕ) (c : ℕ) (l : List ℕ) : Type 0 where
  pub size : length l ≡ cell_words s.lags s.bins
  pub unit : unit_of s.lags s.bins l ≡ unit_at s c (run_of s mem)

module _ {s : Shape} {mem : List ℕ} {c : ℕ} {p : Cell} (k : CellOf s mem c p) where
  -- a cell's words
  pub cell-part : CellPart s mem c p.words.now
  cell-part =
      record {
        size = p.fits ∙ ap₂ cell_words k.lags k.bins;
        unit = ap₂ (λ n b. unit_of n b p.words.now) (sym k.lags) (sym k.bins) ∙ k.unit;
      }

  -- what holds of its places holds of its words
  pub cell-holds : (H : P.Cell Row → Type 0) → H (cell_at s c (run_of s mem)) → H (places_in p)
  cell-holds H h = subst H (ap (λ u. u.cell) (sym k.unit)) h

  -- 11: t, and what f says of the cell
  pub cell-sound : (f : (n bins t : ℕ) → Unit → Bool) {t : ℕ} {x : Bool} → t ≡ (run_of s mem).t
      → x ≡ f p.shape.lags p.shape.bins t (unit_in p)
      → leb t run_limit && x
      ≡ leb (run_of s mem).t run_limit && f s.lags s.bins (run_of s mem).t (unit_at s c (run_of s mem))
  cell-sound f {t} e d =
      rw (← e)
      (ap (λ y. leb t run_limit && y)
      (d ∙ ap₂ (λ n b. f n b t (unit_in p)) k.lags k.bins ∙ ap (f s.lags s.bins t) k.unit))
