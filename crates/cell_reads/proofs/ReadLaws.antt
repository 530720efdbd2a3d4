-- The words that a reading and a forecast look at.
use mathlib.Core.Path.{◌≡◌}
use mathlib.Core.Bool.{Bool, true, false, cond}
use mathlib.Core.List.{List}
use Prim.Native.Nat.{ℕ, zero, suc, ◌+◌, ◌*◌, ◌-◌, ◌<◌, ◌≤◌, ◌^◌}
use native.Mathlib.Omega.{arith}
use lib.Dec.{ltb}
use lib.IntN.{pos, negsuc, ◌-ℤ◌}
use lib.ListN.{get_or}
use mir.Syntax.{w64}
use mir.Val.{SFits, to_z, of_z}
use mir.Facts.{to_z-of_z}
use Rattle.lta_spec.specs.Shape.{open_limit, run_limit, peak}
use Rattle.lta_spec.specs.Size.{row_words}
use Rattle.lta_spec.specs.Place.{loss_count}
use Rattle.lta_spec.specs.Row.{ticks_of, unbiased, row_ok}
use Rattle.lta_spec.specs.Engine.{Row, loss_at}
use Rattle.lta_spec.specs.Damage.{losses_ok, open_ok}
use Rattle.lta_spec.proofs.TestLaws.{and_both}
use Rattle.lta_spec.proofs.RowLaws.{ticks-within}
use Rattle.cell_layout.specs.Offsets.{open_row_at, loss_row_at}
use Rattle.cell_layout.specs.Cells.{Fits, sum_limit, places_of}
use Rattle.cell_layout.proofs.LaysLaws.{row_word}
use Rattle.cell_layout.proofs.Fields as F
use Rattle.cell_layout.proofs.CellLaws.{laid}
use Rattle.cell_parts.proofs.PartLaws.{open-ticks, loss-ok, loss-small}

-- a difference of two small naturals fits a signed word
pub difference : (a b : ℕ) → a < 2 ^ 62 → b < 2 ^ 62 → SFits w64 (pos a -ℤ pos b)
difference a zero h k = record { sfits = omega arith }
difference a (suc b) h k = by (ltb a (suc b))
  where
    by : (t : Bool) → SFits w64 (cond t (negsuc (suc b - suc a)) (pos (a - suc b)))
    by true = record { sfits = omega arith }
    by false = record { sfits = omega arith }

module _ {l : List ℕ} {n bins : ℕ} (f : Fits l n bins) where
  pub open-few : (t : ℕ) → open_ok t (places_of n bins l) ≡ true → get_or l open_row_at 0 ≤ open_limit
  open-few t ok =
      rw (open-ticks f) (ticks-within open_limit _ (and_both (row_ok open_limit _) _ ok).0)

  -- the words of a loss
  module _ (i : ℕ) (h : i < loss_count) where
    pub loss-word : (j : ℕ) → j < row_words n
        → get_or l (loss_row_at n i + j) 0 ≡ get_or (loss_at n i (places_of n bins l).losses) j 0
    loss-word j k = row_word (laid f) (F.loss n bins i h) j k

    module _ (ok : losses_ok (places_of n bins l).losses ≡ true) where
      pub loss-few : get_or l (loss_row_at n i + 0) 0 ≤ run_limit
      loss-few = rw (loss-word 0 (omega arith)) (ticks-within run_limit _ (loss-ok f i h ok))

      pub loss-sum : (j : ℕ) → j < row_words n → get_or l (loss_row_at n i + j) 0 ≤ sum_limit
      loss-sum j k = rw (loss-word j k) (loss-small f i h ok j)

      -- a sum without its bias is read back as it is
      pub loss-unbiased : (j : ℕ) → j < row_words n → let r = loss_at n i (places_of n bins l).losses in
          to_z w64 (of_z w64 (unbiased (ticks_of r) (get_or r j 0))) ≡ unbiased (ticks_of r) (get_or r j 0)
      loss-unbiased j k =
          let r : Row = loss_at n i (places_of n bins l).losses in
          to_z-of_z
          (difference (get_or r j 0) (peak * ticks_of r) (omega (arith, loss-small f i h ok j))
          (omega (arith, ticks-within run_limit r (loss-ok f i h ok))))
