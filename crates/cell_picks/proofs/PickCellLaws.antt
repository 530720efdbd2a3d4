-- The bins of a cell one by one, as a pick tests and counts them; its Ready number and its place.
use mathlib.Core.Path.{◌≡◌, sym, ap, ap₂, ◌∙◌}
use mathlib.Core.Bool.{Bool, cond, ◌&&◌}
use mathlib.Core.List.{List}
use Prim.Native.Nat.{ℕ, ◌+◌, ◌*◌, ◌<◌, ◌≤◌}
use native.Mathlib.Numerals.{add-one}
use native.Mathlib.Omega.{arith}
use lib.Dec.{ltb, eqb}
use lib.ListN.{length, get_or, take}
use lib.Seq.{take_all}
use Rattle.lta_spec.specs.Words.{every}
use Rattle.lta_spec.specs.Place.{Bin, ready}
use Rattle.lta_spec.specs.Engine.{Row, free_bin, bin_at}
use Rattle.lta_spec.specs.Damage.{bin_ok, emit_sound, count_ready, pick_sound}
use Rattle.lta_spec.proofs.WordLaws.{over-next}
use Rattle.lta_spec.proofs.TestLaws.{bit-small, every-next}
use Rattle.cell_layout.specs.Offsets.{ready_bins_at, next_bin_at}
use Rattle.cell_layout.specs.declared.cell.Cell.{Cell}
use Rattle.cell_layout.specs.Cells.{Fits, unit_of, places_of}
use Rattle.cell_layout.specs.Views.{places_in}
use Rattle.cell_layout.proofs.LaysLaws.{word_of}
use Rattle.cell_layout.proofs.Fields as F
use Rattle.cell_layout.proofs.CellLaws.{laid, lists}

-- is bin k Ready?
abbrev pub ready_in : Cell → ℕ → Bool
ready_in c k = eqb (bin_at c.shape.lags k (places_in c)).state ready

-- one Ready bin more at most
pub one_more : (count k state after : ℕ) → count ≤ k → after ≡ count + cond (eqb state ready) 1 0 → after ≤ k + 1
one_more count k state after low is = omega (arith, bit-small (eqb state ready))

module _ {l : List ℕ} {n bins : ℕ} (f : Fits l n bins) where
  pub place_is : get_or l next_bin_at 0 ≡ (unit_of n bins l).picks.next
  place_is = word_of (laid f) (F.next_bin n bins)

  abbrev all : List (Bin Row)
  all = (places_of n bins l).bins

  -- bin k behind those before it
  module _ (k : ℕ) (h : k < 2 * bins) where
    inside : k < length all
    inside = omega (arith, (lists f).bins.0)

    pub sound-next : (t : ℕ) {ok x : Bool} → ok ≡ every (bin_ok t) (take k all)
        → x ≡ emit_sound n t k (places_of n bins l)
        → ok && x ≡ every (bin_ok t) (take (k + 1) all)
    unfolding emit_sound bin_at
    sound-next t before here =
        ap₂ ◌&&◌ before here ∙ sym (every-next (bin_ok t) all k (free_bin n) inside)
        ∙ ap (λ j. every (bin_ok t) (take j all)) (sym (add-one k))

    pub count_next : {count state after : ℕ} → count ≡ count_ready (take k all)
        → state ≡ (bin_at n k (places_of n bins l)).state → after ≡ count + cond (eqb state ready) 1 0
        → after ≡ count_ready (take (k + 1) all)
    unfolding bin_at
    count_next before here is =
        is ∙ ap₂ (λ c s. c + cond (eqb s ready) 1 0) before here
        ∙ sym (over-next (λ b. cond (eqb b.state ready) 1 0) all k (free_bin n) inside)
        ∙ ap (λ j. count_ready (take j all)) (sym (add-one k))

  -- and behind the last one the number and the place
  pub sound-all : (t k : ℕ) {ok : Bool} {count : ℕ} → 2 * bins ≤ k → ok ≡ every (bin_ok t) (take k all)
      → count ≡ count_ready (take k all)
      → ok && (eqb (get_or l ready_bins_at 0) count && ltb (get_or l next_bin_at 0) (2 * bins))
      ≡ pick_sound bins t (unit_of n bins l)
  unfolding pick_sound
  sound-all t k past sound counted =
      let whole : take k all ≡ all = take_all k all (omega (arith, (lists f).bins.0)) in
      rw (sound, counted, whole, word_of (laid f) (F.ready_bins n bins), place_is)
