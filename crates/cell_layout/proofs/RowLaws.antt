-- A row that passes its test: its words are small, so a move of one to another fits, and without ticks it is clear.
use mathlib.Core.Path.{◌≡◌, refl, sym, ◌∙◌}
use mathlib.Core.Logic.{◌⊎◌, ⊎_elim, inl, inr}
use mathlib.Core.Bool.{Bool, true, false}
use mathlib.Core.List.{List}
use Prim.Native.Nat.{ℕ, zero, suc, ◌+◌, ◌*◌, ◌<◌, ◌≤◌}
use native.Mathlib.Omega.{arith}
use lib.Dec.{ltb}
use lib.ListN.{length, get_or, drop, length-drop, length-replicate, get_or-replicate, get_or-eq_default}
use lib.Seq.{get_or-drop, ext_get_or}
use borrow.Author.Tests.{leb-true, ltb-true, ltb-false}
use Rattle.lta_spec.specs.Words.{zeros, every}
use Rattle.lta_spec.specs.Row.{ticks_of, sum_ok, row_ok}
use Rattle.lta_spec.specs.Shape.{run_limit, peak}
use Rattle.lta_spec.specs.Layout.{Layout, block}
use Rattle.lta_spec.proofs.WordLaws.{length-zeros}
use Rattle.lta_spec.proofs.TestLaws.{and-le, every-at}
use Rattle.lta_spec.proofs.RowLaws.{ticks-within}
use Rattle.lta_spec.proofs.LayoutLaws.{Long}
use Rattle.words.specs.Moves.{Folds}
use Rattle.cell_layout.specs.Lays.{Lays}
use Rattle.cell_layout.specs.Cells.{Small}
use Rattle.cell_layout.proofs.Field.{Field}
use Rattle.cell_layout.proofs.LaysLaws.{row_in, row_word}

pub lt-or-le : (a b : ℕ) → (a < b) ⊎ (b ≤ a)
lt-or-le a b = by-test (ltb a b) refl
  where
    by-test : (t : Bool) → ltb a b ≡ t → (a < b) ⊎ (b ≤ a)
    by-test true e = inl (ltb-true a b e)
    by-test false e = inr (ltb-false a b e)

module _ (limit : ℕ) (r : List ℕ) (ok : row_ok limit r ≡ true) where
  -- every word of the row is at most twice the peak for each of its ticks
  pub word-within : (i : ℕ) → i < length r → get_or r i 0 ≤ 2 * peak * ticks_of r
  unfolding row_ok
  word-within i h =
      let a = and-le (ticks_of r) limit _ ok in
      let b = and-le (get_or r 1 0) (ticks_of r) _ a.1 in
      let c = and-le (get_or r 2 0) (ticks_of r) _ b.1 in
      at b.0 c.0 c.1 i h
    where
      at : get_or r 1 0 ≤ ticks_of r → get_or r 2 0 ≤ ticks_of r → every (sum_ok (ticks_of r)) (drop 3 r) ≡ true
          → (i : ℕ) → i < length r → get_or r i 0 ≤ 2 * peak * ticks_of r
      at b c e zero h = omega arith
      at b c e (suc zero) h = omega arith
      at b c e (suc (suc zero)) h = omega arith
      at b c e (suc (suc (suc j))) h =
          let z : 3 + j ≡ suc (suc (suc j)) = omega arith in
          let k : j < length (drop 3 r) = simp length-drop (omega arith) in
          let g : get_or (drop 3 r) j 0 ≤ 2 * peak * ticks_of r =
          leb-true _ _ (every-at (sum_ok (ticks_of r)) (drop 3 r) e j 0 k) in
          rw (← z) (omega (arith, get_or-drop 3 r j 0))

  -- so without ticks the row is clear
  pub clear : ticks_of r ≡ 0 → r ≡ zeros (length r)
  clear z =
      ext_get_or 0 r (zeros (length r)) (sym (length-replicate (length r) 0))
      (λ i h. let k : get_or r i 0 ≡ 0 = omega (arith, word-within i h) in
      k ∙ sym (get_or-replicate (length r) i 0 0 h))

  pub small_row : limit ≤ run_limit → Small r
  small_row h i =
      ⊎_elim (λ k. omega (arith, ticks-within limit r ok, word-within i k))
      (λ k. omega (arith, get_or-eq_default r 0 {n = i} k)) (lt-or-le i (length r))

pub small-zeros : (n : ℕ) → Small (zeros n)
small-zeros n i =
    ⊎_elim (λ k. omega (arith, get_or-replicate {A = ℕ} n i 0 0 k))
    (λ k. omega (arith, get_or-eq_default (zeros n) 0 {n = i} (omega (arith, length-zeros n)))) (lt-or-le i n)

-- a small row may be moved to another
pub folds : {A : Type 0} {a : Layout A} {l : List ℕ} {x : A} (s : Lays a l x) {n from to : ℕ} {v w : A → List ℕ}
    {f g : A → List ℕ → A} → Field a (block n) (Long n) from v f → Field a (block n) (Long n) to w g → Small (v x)
    → Small (w x) → (from + n ≤ to) ⊎ (to + n ≤ from) → Folds l from to n
folds s k j p q apart =
    record {
      from_in = row_in s k;
      to_in = row_in s j;
      apart = apart;
      fit = λ i h. omega (arith, row_word s k i h, row_word s j i h, p i, q i);
    }
