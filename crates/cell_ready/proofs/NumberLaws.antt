-- The word of a Ready number: what it is, and one less behind an emission.
use mathlib.Core.Path.{◌≡◌, ap}
use mathlib.Core.List.{List}
use Prim.Native.Nat.{ℕ, ◌-◌}
use lib.ListN.{get_or, set}
use Rattle.lta_spec.specs.Engine.{Unit, empty_bin, lowered}
use Rattle.lta_spec.specs.Memory.{unit_layout}
use Rattle.cell_layout.specs.Lays.{Lays}
use Rattle.cell_layout.specs.Offsets.{ready_bins_at}
use Rattle.cell_layout.specs.Cells.{Fits, unit_of, with_places, with_picks}
use Rattle.cell_layout.proofs.LaysLaws.{word_of, lays-set, lays-to}
use Rattle.cell_layout.proofs.Fields as F
use Rattle.cell_layout.proofs.CellLaws.{laid}
use Rattle.cell_ready.specs.Taken.{taken}

pub number_is : {l : List ℕ} {n bins : ℕ} → Fits l n bins
    → get_or l ready_bins_at 0 ≡ (unit_of n bins l).picks.ready_bins
number_is {n = n} {bins = bins} f = word_of (laid f) (F.ready_bins n bins)

-- bin k of cell u is emptied, and then the number lowered
module _ {l : List ℕ} (n bins k : ℕ) (u : Unit)
    (s : Lays (unit_layout n bins) l (with_places u (empty_bin n k u.cell))) where
  pub number-left : get_or l ready_bins_at 0 ≡ u.picks.ready_bins
  number-left = word_of s (F.ready_bins n bins)

  pub lays-taken : Lays (unit_layout n bins) (set l ready_bins_at (get_or l ready_bins_at 0 - 1)) (taken n k u)
  unfolding lowered
  lays-taken =
      lays-to (lays-set s (F.ready_bins n bins) (get_or l ready_bins_at 0 - 1))
      (ap (λ r. with_picks (with_places u (empty_bin n k u.cell)) (record { ready_bins = r - 1; next = u.picks.next }))
      number-left)
