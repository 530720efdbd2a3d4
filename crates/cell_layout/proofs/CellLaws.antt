-- What is known of a slice that fits a cell: its length, and the lengths of the lists in it.
use mathlib.Core.Path.{refl, sym, ◌∙◌}
use mathlib.Core.List.{List}
use Prim.Native.Nat.{ℕ, suc, ◌*◌, ◌<◌, ◌≤◌}
use native.Mathlib.Nat.{mul-le-mul_right, suc-mul}
use native.Mathlib.Omega.{arith}
use lib.ListN.{length}
use Rattle.lta_spec.specs.Size.{bin_words, cell_words}
use Rattle.lta_spec.specs.Memory.{unit_layout}
use Rattle.lta_spec.proofs.ShapeLaws.{cell-small}
use Rattle.lta_spec.proofs.MemoryLaws.{UnitOk, unit-law, unit-width}
use Rattle.cell_layout.specs.Lays.{Lays}
use Rattle.cell_layout.specs.Offsets.{state_at, fixed_words, Stands}
use Rattle.cell_layout.specs.Cells.{Fits, unit_of}
use Rattle.cell_layout.proofs.LaysLaws.{lays}

-- where a bin stands
pub bin-stands : (n bins k : ℕ) → n ≤ 128 → bins ≤ 1000 → k < 2 * bins
    → Stands (state_at n k) (bin_words n) (cell_words n bins) (state_at n k)
bin-stands n bins k a b h =
    let m : suc k * bin_words n ≤ 2 * bins * bin_words n = mul-le-mul_right (bin_words n) h in
    record { is = refl; inside = omega (arith, suc-mul k (bin_words n)); small = cell-small n bins a b }

module _ {l : List ℕ} {n bins : ℕ} (f : Fits l n bins) where
  pub laid : Lays (unit_layout n bins) l (unit_of n bins l)
  unfolding unit_of
  laid = lays (unit_layout n bins) l (f.size ∙ sym (unit-width n bins))

  -- the rows and the registers lie before the bins
  pub long : fixed_words n ≤ length l
  long = omega (arith, f.size)

  pub lists : UnitOk n bins (unit_of n bins l)
  unfolding unit_of
  lists = (unit-law n bins).fits l (omega (arith, f.size, unit-width n bins))
