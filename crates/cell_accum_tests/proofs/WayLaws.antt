-- The bin that Held's label names, and the tests by which an integration into it goes, by the words.
use mathlib.Core.Path.{◌≡◌, ap₂, ◌∙◌}
use mathlib.Core.Bool.{true, ◌&&◌}
use mathlib.Core.List.{List}
use Prim.Native.Nat.{ℕ, ◌+◌, ◌*◌, ◌<◌}
use lib.Dec.{leb, eqb, ltb}
use lib.ListN.{get_or}
use borrow.Author.Tests.{ltb-true}
use Rattle.lta_spec.specs.Shape.{bin_limit}
use Rattle.lta_spec.specs.Place.{filling}
use Rattle.lta_spec.specs.Call.{save, last}
use Rattle.lta_spec.specs.Engine.{bin_at, is_replacing, is_too_wide, held_bin}
use Rattle.lta_spec.specs.Damage as D
use Rattle.lta_spec.proofs.TestLaws.{and_both}
use Rattle.cell_layout.specs.Offsets.{command_at, bank_at, data_bin_at, held_row_at, state_at, bin_row_at}
use Rattle.cell_layout.specs.Cells.{Fits, places_of}
use Rattle.cell_layout.proofs.LaysLaws.{word_of}
use Rattle.cell_layout.proofs.Fields as F
use Rattle.cell_layout.proofs.CellLaws.{laid}
use Rattle.cell_parts.proofs.PartLaws.{held-ticks}
use Rattle.cell_bins.specs.Bins.{Numbers}
use Rattle.cell_bins.proofs.BinLaws.{state-is, bin-ticks}

-- the label, by the words: it names a bin, and which
module _ {l : List ℕ} {n bins : ℕ} (f : Fits l n bins) where
  pub label-within : D.label_ok bins (places_of n bins l).held.label ≡ true
      → (get_or l bank_at 0 < 2) × (get_or l data_bin_at 0 < bins)
  label-within ok =
      let x = (places_of n bins l).held.label in
      let a = and_both (leb x.command last) _ ok in
      let b = and_both (ltb x.bank 2) _ a.1 in
      rw (word_of (laid f) (F.bank n bins), word_of (laid f) (F.data_bin n bins))
      (ltb-true _ _ b.0, ltb-true _ _ b.1)

  pub number_is : (k : ℕ) → Numbers bins (get_or l bank_at 0) (get_or l data_bin_at 0) k
      → k ≡ held_bin n bins (places_of n bins l)
  number_is k e = e.is ∙ rw (word_of (laid f) (F.bank n bins), word_of (laid f) (F.data_bin n bins))

-- the tests by which an integration into bin k goes, by the words
module _ {l : List ℕ} {n bins : ℕ} (f : Fits l n bins) (k : ℕ) (j : k < 2 * bins) where
  pub command-is : get_or l command_at 0 ≡ (places_of n bins l).held.label.command
  command-is = word_of (laid f) (F.command n bins)

  pub replacing-is : eqb (get_or l command_at 0) save && eqb (get_or l (state_at n k) 0) filling
      ≡ is_replacing n (bin_at n k (places_of n bins l)) (places_of n bins l)
  replacing-is = ap₂ (λ x y. eqb x save && eqb y filling) command-is (state-is f k j)

  pub wide_is : ltb bin_limit (get_or l (bin_row_at n k) 0 + get_or l (held_row_at n) 0)
      ≡ is_too_wide n (bin_at n k (places_of n bins l)) (places_of n bins l)
  wide_is = ap₂ (λ x y. ltb bin_limit (x + y)) (bin-ticks f k j) (held-ticks f)
