-- A tick is added to a row: its counts to the first words, and then its terms to those behind.
use mathlib.Core.Path.{◌≡◌, refl, ◌∙◌}
use mathlib.Core.List.{List}
use Prim.Native.Nat.{ℕ, ◌+◌, ◌*◌, ◌/◌, ◌<◌, ◌^◌}
use native.Mathlib.Nat.{add_assoc}
use native.Mathlib.Omega.{arith}
use lib.ListN.{length, get_or}
use Rattle.lta_spec.specs.Words.{part, splice, sums}
use Rattle.lta_spec.specs.Size.{depth}
use Rattle.lta_spec.specs.Row.{lag_row, tick_row}
use Rattle.lag_registers.specs.Registers.{Registers}
use Rattle.lag_terms.specs.Terms.{lag_terms}
use Rattle.lag_counts.specs.Counts.{flag_counts}
use Rattle.lag.specs.Lag.{entries_at, tick_counts, Ready, ticked}
use Rattle.lag.proofs.Loops.{get_or-behind, added-append}
use Rattle.lag.proofs.RowLaws.{length-lag_row, lag_row-small}
use Rattle.lag.proofs.Decoding.{terms-are, counts-are}

module _ (l : List ℕ) (x y to n : ℕ) (p : Ready l x y to n) where
  abbrev counts : List ℕ
  counts = tick_counts n (entries_at n x l) (entries_at n y l)

  -- I and Q of the tick's lags
  abbrev row : List ℕ
  row = lag_row n (entries_at n x l) (entries_at n y l) n 0

  -- the counts added, each word behind them has room for its term
  fits : (i : ℕ) → i < 2 * n
      → get_or (splice l to (sums (part to 3 l) counts)) (to + 3 + i) 0 + get_or row i 0 < 2 ^ 64
  fits i h =
      let behind = get_or-behind l to counts 3 i refl (omega (arith, p.to_in)) in
      rw behind
      (omega (
        arith,
        lag_row-small n (part x (depth n) l) (part y (depth n) l) n 0 i,
        rw (← add_assoc to 3 i) at (p.room (3 + i) (omega arith)),
      ))

  module _ {xs ys k : List ℕ} (r : Registers l x y n xs ys)
      (counted : k ≡ splice l to (sums (part to 3 l) (flag_counts n xs ys))) where
    k-is : k ≡ splice l to (sums (part to 3 l) counts)
    k-is = counted ∙ rw (counts-are l x y n xs ys r)

    pub terms-fit : (i : ℕ) → i < 4 * (n / 2)
        → get_or k (to + 3 + i) 0 + get_or (lag_terms xs ys (depth n) (n / 2)) i 0 < 2 ^ 64
    terms-fit i h = rw (k-is, terms-are l x y n xs ys r p.even) (fits i (omega (arith, p.even)))

    pub row-added : {e : List ℕ}
        → e ≡ splice k (to + 3) (sums (part (to + 3) (4 * (n / 2)) k) (lag_terms xs ys (depth n) (n / 2)))
        → e ≡ ticked l x y to n
    unfolding tick_row
    row-added e-is =
        let q : 4 * (n / 2) ≡ 2 * n = omega (arith, p.even) in
        let lr : length row ≡ 2 * n = length-lag_row n (entries_at n x l) (entries_at n y l) n 0 in
        e-is
        ∙ rw (k-is, terms-are l x y n xs ys r p.even, q) (added-append l to counts row 3 (2 * n) refl lr p.to_in)
