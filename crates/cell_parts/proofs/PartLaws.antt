-- The tests of refusal 11 on the parts of a cell, by its words.
use mathlib.Core.Path.{◌≡◌, sym, ap, ◌∙◌}
use mathlib.Core.Logic.{⊎_elim}
use mathlib.Core.Bool.{true, false, ◌&&◌}
use mathlib.Core.List.{List}
use Prim.Native.Nat.{ℕ, ◌+◌, ◌-◌, ◌<◌, ◌≤◌}
use native.Mathlib.Omega.{arith}
use lib.Dec.{leb}
use lib.ListN.{length, get_or, take}
use lib.Seq.{take_all}
use borrow.Author.Tests.{le-leb, lt-leb}
use Rattle.lta_spec.specs.Words.{part, every}
use Rattle.lta_spec.specs.Shape.{open_limit, run_limit}
use Rattle.lta_spec.specs.Size.{row_words}
use Rattle.lta_spec.specs.Place.{loss_count}
use Rattle.lta_spec.specs.Row.{ticks_of, empty_row, row_ok}
use Rattle.lta_spec.specs.Engine.{Row, loss_at}
use Rattle.lta_spec.specs.Damage.{open_ok, losses_ok, loss_holds}
use Rattle.lta_spec.proofs.TestLaws.{every-at}
use Rattle.cell_layout.specs.Offsets.{occupied_at, open_stamp_at, open_row_at, held_row_at, loss_row_at}
use Rattle.cell_layout.specs.Cells.{Fits, Small, places_of}
use Rattle.cell_layout.proofs.LaysLaws.{word_of, row_of, row_first}
use Rattle.cell_layout.proofs.Fields as F
use Rattle.cell_layout.proofs.CellLaws.{laid, lists}
use Rattle.cell_layout.proofs.RowLaws.{lt-or-le, small_row}

-- a sum's test without the sum
pub sum_over : (a b limit : ℕ) → limit < a → false ≡ leb (a + b) limit
sum_over a b limit h = sym (lt-leb (a + b) limit (omega arith))

pub sum-within : (a b limit : ℕ) → a ≤ limit → leb b (limit - a) ≡ leb (a + b) limit
sum-within a b limit h =
    ⊎_elim (λ k. lt-leb b (limit - a) k ∙ sym (lt-leb (a + b) limit (omega arith)))
    (λ k. le-leb b (limit - a) k ∙ sym (le-leb (a + b) limit (omega arith))) (lt-or-le (limit - a) b)

-- the losses, tested one after another
pub losses-all : (ls : List Row) (i : ℕ) → length ls ≡ i → every (row_ok run_limit) (take i ls) ≡ losses_ok ls
unfolding losses_ok
losses-all ls i e = ap (every (row_ok run_limit)) (take_all i ls (omega arith))

module _ {l : List ℕ} {n bins : ℕ} (f : Fits l n bins) where
  pub open-test : (t : ℕ)
      → row_ok open_limit (part open_row_at (row_words n) l) && leb (get_or l open_stamp_at 0) t
      ≡ open_ok t (places_of n bins l)
  open-test t = rw (row_of (laid f) (F.open_row n bins), word_of (laid f) (F.open_stamp n bins))

  pub open-ticks : get_or l open_row_at 0 ≡ ticks_of (places_of n bins l).opened.members
  open-ticks = row_first (laid f) (F.open_row n bins) (omega arith)

  pub held-ticks : get_or l (held_row_at n) 0 ≡ ticks_of (places_of n bins l).held.content.members
  held-ticks = row_first (laid f) (F.held_row n bins) (omega arith)

  pub occupied-is : get_or l occupied_at 0 ≡ (places_of n bins l).held.occupied
  occupied-is = word_of (laid f) (F.occupied n bins)

  pub six : length (places_of n bins l).losses ≡ loss_count
  six = (lists f).losses.0

  module _ (i : ℕ) (h : i < loss_count) where
    pub loss-is : part (loss_row_at n i) (row_words n) l ≡ loss_at n i (places_of n bins l).losses
    loss-is = row_of (laid f) (F.loss n bins i h)

    pub loss-ticks : get_or l (loss_row_at n i) 0 ≡ ticks_of (loss_at n i (places_of n bins l).losses)
    loss-ticks = row_first (laid f) (F.loss n bins i h) (omega arith)

    -- room in a loss, by its word
    pub loss-over : (more : ℕ) → run_limit < get_or l (loss_row_at n i) 0
        → false ≡ loss_holds n i more (places_of n bins l)
    loss-over more k = rw (← loss-ticks) (sum_over _ more run_limit k)

    pub loss-within : (more : ℕ) → get_or l (loss_row_at n i) 0 ≤ run_limit
        → leb more (run_limit - get_or l (loss_row_at n i) 0) ≡ loss_holds n i more (places_of n bins l)
    loss-within more k = sum-within _ more run_limit k ∙ ap (λ x. leb (x + more) run_limit) loss-ticks

    -- of losses that passed their test
    module _ (ok : losses_ok (places_of n bins l).losses ≡ true) where
      pub loss-ok : row_ok run_limit (loss_at n i (places_of n bins l).losses) ≡ true
      unfolding losses_ok
      loss-ok = every-at (row_ok run_limit) (places_of n bins l).losses ok i (empty_row n) (omega (arith, six))

      pub loss-small : Small (loss_at n i (places_of n bins l).losses)
      loss-small = small_row run_limit _ loss-ok (omega arith)
