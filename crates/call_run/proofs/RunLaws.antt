-- Work memory that 1 and 2 do not refuse: the run that it is, t, and each cell as a part that is lent and comes back.
use mathlib.Core.Path.{◌≡◌, refl, sym, ◌∙◌}
use mathlib.Core.Bool.{true}
use mathlib.Core.List.{List}
use Prim.Native.Nat.{ℕ, suc, ◌+◌, ◌*◌, ◌-◌, ◌<◌, ◌≤◌}
use native.Mathlib.Nat.{suc-mul, mul-le-mul_right}
use native.Mathlib.Omega.{arith}
use lib.Dec.{eqb}
use lib.ListN.{length, get_or}
use borrow.Author.Tests.{eqb-true}
use Rattle.lta_spec.specs.Words.{part}
use Rattle.lta_spec.specs.Shape.{shape_ok}
use Rattle.lta_spec.specs.Size.{cell_words, memory_words, host_tests}
use Rattle.lta_spec.specs.Memory.{run_layout}
use Rattle.lta_spec.specs.declared.Shape.{Shape}
use Rattle.lta_spec.proofs.TestLaws.{pass}
use Rattle.lta_spec.proofs.ShapeLaws.{Shaped, shaped, all_small}
use Rattle.lta_spec.proofs.MemoryLaws.{unit-law, unit-width, run-law, run-width}
use Rattle.cell_layout.specs.Lays.{Lays}
use Rattle.cell_layout.specs.Offsets.{time_at, next_cell_at, cell_at}
use Rattle.cell_layout.specs.Cells.{unit_of}
use Rattle.cell_layout.proofs.LaysLaws.{lays, lays-part, word_of}
use Rattle.cell_layout.proofs.Fields.{time, next_cell, cell}
use Rattle.lta_spec.specs.Step.{unit_at}
use Rattle.call_run.specs.Runs.{Hosted, Celled, run_of, Starts}

module _ (s : Shape) (mem : List ℕ) (h : Hosted s mem) where
  -- 1 and 2 passed
  pub shape-ok : shape_ok s ≡ true
  unfolding host_tests
  shape-ok = (pass (shape_ok s) _ _ h).0

  pub length-is : length mem ≡ memory_words s
  unfolding host_tests
  length-is =
      eqb-true (length mem) (memory_words s)
      (pass (eqb (length mem) (memory_words s)) _ _ (pass (shape_ok s) _ _ h).1).0

  pub shape_is : Shaped s
  shape_is = shaped s shape-ok

  -- the words are the run
  pub whole : Lays (run_layout s) mem (run_of s mem)
  unfolding run_of
  whole = lays (run_layout s) mem (length-is ∙ sym (run-width s))

  pub time-is : get_or mem time_at 0 ≡ (run_of s mem).t
  time-is = word_of whole (time s)

  pub some_words : time_at < length mem
  unfolding memory_words
  some_words = omega (arith, length-is)

  -- the run's place of picks
  pub next_last : next_cell_at s.lags s.bins s.cells ≡ length mem - 1
  unfolding memory_words
  next_last = omega (arith, length-is)

  pub next-is : get_or mem (length mem - 1) 0 ≡ (run_of s mem).next
  next-is = rw (← next_last) (word_of whole (next_cell s))

  -- as many cells as the shape says
  pub units-length : length (run_of s mem).units ≡ s.cells
  unfolding run_of
  units-length = ((run-law s).fits mem (omega (arith, whole.size))).1.0.0

module _ {s : Shape} {mem : List ℕ} {c : ℕ} (q : Celled s mem c) where
  pub starts : Starts s mem c (cell_at s.lags s.bins c)
  unfolding memory_words
  starts =
      let K = cell_words s.lags s.bins in
      let m : suc c * K ≤ s.cells * K = mul-le-mul_right K q.there in
      record { is = refl; inside = omega (arith, length-is s mem q.hosted, suc-mul c K) }

  pub small : cell_at s.lags s.bins c + cell_words s.lags s.bins ≤ 9600002
  unfolding memory_words
  small =
      omega (arith, length-is s mem q.hosted, all_small s (shape_is s mem q.hosted), starts.inside)

  -- the words of cell c
  pub cell-size : length (part (cell_at s.lags s.bins c) (cell_words s.lags s.bins) mem) ≡ cell_words s.lags s.bins
  cell-size =
      let l = lays-part (unit-law s.lags s.bins) (cell s c q.there) (whole s mem q.hosted) in
      (rw (unit-width s.lags s.bins) at l).size

  pub cell-unit : unit_of s.lags s.bins (part (cell_at s.lags s.bins c) (cell_words s.lags s.bins) mem)
      ≡ unit_at s c (run_of s mem)
  unfolding unit_of
  cell-unit =
      let l = lays-part (unit-law s.lags s.bins) (cell s c q.there) (whole s mem q.hosted) in
      (rw (unit-width s.lags s.bins) at l).is
