-- Registers that were read decoded: the terms of the lag loop and the counts are the tick's.
use mathlib.Core.Path.{◌≡◌, sym, ap, ap₂, ◌∙◌}
use mathlib.Core.Bool.{cond}
use mathlib.Core.List.{List, [], ◌∷◌}
use Prim.Native.Nat.{ℕ, ◌*◌, ◌-◌, ◌/◌, ◌≤◌}
use native.Mathlib.Omega.{arith}
use Rattle.lta_spec.specs.Words.{part}
use Rattle.lta_spec.specs.Size.{depth}
use Rattle.lta_spec.specs.Tick.{x_delay, y_delay, valid_at, edge_lag, centre_lag}
use Rattle.lta_spec.specs.Row.{lag_row}
use Rattle.signal.specs.Decoded.{x_place, y_place}
use Rattle.signal.proofs.SignalLaws.{flags-are}
use Rattle.lag_registers.specs.Registers.{entry_at, Registers}
use Rattle.lag_terms.specs.Terms.{lag_term, lag_terms}
use Rattle.lag_counts.specs.Counts.{lag_flag, flag_counts}
use Rattle.lag.specs.Lag.{entries_at, tick_counts}
use Rattle.lag.proofs.RowLaws.{ago-is, stored, lag_terms-are}

module _ (l : List ℕ) (x y n : ℕ) (xs ys : List ℕ) (r : Registers l x y n xs ys) where
  pub terms-are : n ≡ 2 * (n / 2)
      → lag_terms xs ys (depth n) (n / 2) ≡ lag_row n (entries_at n x l) (entries_at n y l) n 0
  terms-are even =
      let us : List ℕ = part x (depth n) l in
      let vs : List ℕ = part y (depth n) l in
      let same : (i j turn : ℕ) → i ≤ n / 2 → j ≤ n / 2
      → lag_term xs ys (depth n) i j turn ≡ stored n us vs i (n / 2 - j) turn =
      λ i j turn hi hj.
      rw (
        r.x-is.sample i (omega arith),
        r.x-is.phase i (omega arith),
        r.y-is.sample j (omega arith),
        r.y-is.phase j (omega arith),
      ) in
      lag_terms-are n us vs xs ys (depth n) (n / 2) even same (n / 2) (omega arith)
      ∙ ap (λ (m : ℕ). lag_row n (entries_at n x l) (entries_at n y l) m 0) (sym even)

  flag_is : (k : ℕ) → k ≤ n / 2 → lag_flag n xs ys k ≡ cond (valid_at n (entries_at n x l) (entries_at n y l) k) 1 0
  unfolding valid_at
  flag_is k h =
      let back : n / 2 - y_place n k ≡ y_delay n 0 k = omega arith in
      rw (
        r.x-is.valid (x_place k) (omega arith),
        r.y-is.valid (y_place n k) (omega arith),
        back,
        ago-is (part x (depth n) l) (x_delay 0 k),
        ago-is (part y (depth n) l) (y_delay n 0 k),
      )
      (flags-are (entry_at l x n (x_delay 0 k)) (entry_at l y n (y_delay n 0 k)))

  pub counts-are : flag_counts n xs ys ≡ tick_counts n (entries_at n x l) (entries_at n y l)
  counts-are =
      ap₂ (λ (e c : ℕ). 1 ∷ e ∷ c ∷ []) (flag_is edge_lag (omega arith)) (flag_is (centre_lag n) (omega arith))
