-- The moves of an integration: the words after them are the cell after them.
use mathlib.Core.Path.{◌≡◌, sym, ap, subst, ◌∙◌}
use mathlib.Core.Logic.{inl, inr}
use mathlib.Core.List.{List}
use Prim.Native.Nat.{ℕ, ◌+◌, ◌*◌, ◌<◌, ◌≤◌}
use native.Mathlib.Nat.{mul-le-mul_right, suc-mul}
use native.Mathlib.Omega.{arith}
use lib.ListN.{get_or, set}
use lib.Seq.{get_or-set_same, set-set}
use Rattle.lta_spec.specs.Words.{sums}
use Rattle.lta_spec.specs.Size.{row_words}
use Rattle.lta_spec.specs.Place.{Bin, loss_count, filling, replaced}
use Rattle.lta_spec.specs.Row.{empty_row}
use Rattle.lta_spec.specs.Engine as E
use Rattle.lta_spec.specs.Engine.{Row, Unit, stamped, free_bin, loss_at, lose, bin_at}
use Rattle.lta_spec.specs.Memory.{unit_layout}
use Rattle.words.specs.Moves.{Folds, folded}
use Rattle.words.proofs.MoveLaws.{length-folded}
use Rattle.cell_layout.specs.Lays.{Lays}
use Rattle.cell_layout.specs.Offsets.{occupied_at, held_stamp_at, held_row_at, loss_row_at}
use Rattle.cell_layout.specs.Offsets.{state_at, stamp_at, bin_row_at}
use Rattle.cell_layout.specs.Cells.{Fits, Small, unit_of, places_of, with_places}
use Rattle.cell_layout.proofs.LaysLaws.{word_of, row-length, lays-set, lays-move}
use Rattle.cell_layout.proofs.Fields as F
use Rattle.cell_layout.proofs.CellLaws.{laid}
use Rattle.lta_spec.proofs.RowLaws.{zeros-sums}
use Rattle.cell_layout.proofs.RowLaws.{folds, small-zeros}
use Rattle.cell_accum_moves.specs.HeldMoves.{held_lost, held_joined, bin_replaced}
use Rattle.cell_bins.proofs.BinLaws.{with', lays-state, lays-stamp, lays-drop, lays-join, bins-long, start}

-- the moves of an integration into bin k
module _ {l : List ℕ} {n bins : ℕ} (f : Fits l n bins) (k : ℕ) (j : k < 2 * bins) where
  pub lays-lose-held : (i v : ℕ) → i < loss_count
      → Lays (unit_layout n bins)
      (set (set (folded l (held_row_at n) (loss_row_at n i) (row_words n)) (state_at n k) v) occupied_at 0)
      (with_places (unit_of n bins l) (held_lost n k i v (places_of n bins l)))
  unfolding E.release lose
  lays-lose-held i v g =
      let u = unit_of n bins l in
      let a = lays-move (start f k j) (F.held_row n bins) (F.loss n bins i g) in
      lays-set (lays-state n bins k j u (bins-long f k j) _ a v) (F.occupied n bins) 0

  pub lays-join-held : (v t : ℕ)
      → Lays (unit_layout n bins)
      (set (set (set (folded l (held_row_at n) (bin_row_at n k) (row_words n)) (stamp_at n k) t) (state_at n k) v)
      occupied_at 0)
      (with_places (unit_of n bins l) (held_joined n k v t (places_of n bins l)))
  unfolding E.release
  lays-join-held v t =
      let u = unit_of n bins l in
      let a = lays-join n bins k j u (bins-long f k j) _ (start f k j) in
      let b = lays-stamp n bins k j u (bins-long f k j) _ a t in
      lays-set (lays-state n bins k j u (bins-long f k j) _ b v) (F.occupied n bins) 0

  -- the moves fit
  pub lose-folds : (i : ℕ) → i < loss_count → Small (places_of n bins l).held.content.members
      → Small (loss_at n i (places_of n bins l).losses) → Folds l (held_row_at n) (loss_row_at n i) (row_words n)
  lose-folds i h a b =
      let m : 2 * row_words n ≤ (2 + i) * row_words n = mul-le-mul_right (row_words n) (omega arith) in
      folds (laid f) (F.held_row n bins) (F.loss n bins i h) a b (inl (omega arith))

  pub join-folds : Small (places_of n bins l).held.content.members
      → Small (bin_at n k (places_of n bins l)).content.members
      → Folds l (held_row_at n) (bin_row_at n k) (row_words n)
  join-folds a b = folds (laid f) (F.held_row n bins) (F.bin_row n bins k j) a b (inl (omega arith))

  pub drop-folds : (i : ℕ) → i < loss_count → Small (bin_at n k (places_of n bins l)).content.members
      → Small (loss_at n i (places_of n bins l).losses) → Folds l (bin_row_at n k) (loss_row_at n i) (row_words n)
  drop-folds i h a b =
      let m : (3 + i) * row_words n ≤ 8 * row_words n = mul-le-mul_right (row_words n) (omega arith) in
      folds (laid f) (F.bin_row n bins k j) (F.loss n bins i h) a b
      (inr (omega (arith, suc-mul (2 + i) (row_words n))))

  -- the bin's set has gone to loss 4: what is left, for Held to join
  abbrev pub dropped : List ℕ
  dropped = folded l (bin_row_at n k) (loss_row_at n replaced) (row_words n)

  pub dropped-fits : Fits dropped n bins
  dropped-fits =
      record {
        size = length-folded l (bin_row_at n k) (loss_row_at n replaced) (row_words n) ∙ f.size;
        lags = f.lags;
        bins = f.bins;
      }

  abbrev emptied : Bin Row
  emptied =
      let b = bin_at n k (places_of n bins l) in
      record { state = b.state; content = stamped (empty_row n) b.content.stamp }

  abbrev left : Unit
  left =
      let c = places_of n bins l in
      with' (unit_of n bins l) c.held (lose n replaced (bin_at n k c).content.members c.losses) k emptied

  dropped-is : unit_of n bins dropped ≡ left
  unfolding unit_of
  dropped-is = (lays-drop n bins k j (unit_of n bins l) (bins-long f k j) _ (start f k j) replaced (omega arith)).is

  dropped-bin : bin_at n k left.cell ≡ emptied
  unfolding bin_at
  dropped-bin = get_or-set_same (places_of n bins l).bins k emptied (free_bin n) (bins-long f k j)

  pub dropped-held : Small (places_of n bins l).held.content.members
      → Small (places_of n bins dropped).held.content.members
  dropped-held a = subst (λ (x : Unit). Small x.cell.held.content.members) (sym dropped-is) a

  pub dropped-small : Small (bin_at n k (places_of n bins dropped)).content.members
  dropped-small =
      subst (λ (x : Unit). Small (bin_at n k x.cell).content.members) (sym dropped-is)
      (subst (λ (b : Bin Row). Small b.content.members) (sym dropped-bin) (small-zeros (row_words n)))

  pub replacing : with_places (unit_of n bins dropped)
      (held_joined n k filling (get_or l held_stamp_at 0) (places_of n bins dropped))
      ≡ with_places (unit_of n bins l) (bin_replaced n k (places_of n bins l))
  unfolding E.release
  replacing =
      let c = places_of n bins l in
      let z : sums (empty_row n) c.held.content.members ≡ c.held.content.members =
      zeros-sums (row_words n) c.held.content.members (row-length (laid f) (F.held_row n bins)) in
      ap (λ (x : Unit). with_places x (held_joined n k filling (get_or l held_stamp_at 0) x.cell)) dropped-is
      ∙ rw (dropped-bin, z, word_of (laid f) (F.held_stamp n bins), set-set c.bins k emptied _)
