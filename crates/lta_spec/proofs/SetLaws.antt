-- The row of a set is its numbers: stored sums without their bias are the signed sums, and the counts are the counts.
use Prim.Native.Nat.{ℕ, zero, suc, ◌+◌, ◌*◌, ◌-◌, ◌<◌}
use mathlib.Core.Path.{◌≡◌, refl, sym, ap, ap₂, ◌∙◌}
use mathlib.Core.Bool.{Bool, cond}
use mathlib.Core.List.{List, [], ◌∷◌, map}
use native.Mathlib.Omega.{arith}
use lib.IntN.{ℤ, pos, ◌+ℤ◌, ◌-ℤ◌, pos-+ℤ-pos, +ℤ_assoc, +ℤ_comm, +ℤ-neg_ℤ_cancel}
use lib.ListN.{length, get_or, drop, drop_of_length-le}
use lib.Seq.{drop-cons}
use Rattle.lta_spec.specs.Shape.{peak}
use Rattle.lta_spec.specs.Size.{row_words}
use Rattle.lta_spec.specs.Tick.{Sample, Entry, from_sample, lag_x, lag_y, x_delay, y_delay, in_phase, quadrature}
use Rattle.lta_spec.specs.Tick.{valid_at, in_phase_at, quadrature_at, edge_lag, centre_lag}
use Rattle.lta_spec.specs.Row.{ticks_of, edge_of, centre_of, biased, unbiased, lag_row, tick_row, row_lags, row_sums}
use Rattle.lta_spec.specs.Machine.{Ticks}
use Rattle.lta_spec.specs.Numbers.{up_to, sum_over, count_over, in_phase_sum, quadrature_sum, valid_count, lag_sums}
use Rattle.lta_spec.specs.Numbers.{set_sums}
use Rattle.lta_spec.proofs.TickLaws.{in_phase-bound, quadrature-bound, biased-is}
use Rattle.lta_spec.proofs.RowLaws.{numbers, numbers-size, length-numbers, tick-apart, get_or-sums, sampled}
use Rattle.lta_spec.proofs.RowLaws.{zero-at}

-- sums of pairs
pub regroup : (a b c d : ℤ) → (a +ℤ b) +ℤ (c +ℤ d) ≡ (a +ℤ c) +ℤ (b +ℤ d)
regroup a b c d =
    +ℤ_assoc a b (c +ℤ d)
    ∙ ap (λ z. a +ℤ z) (sym (+ℤ_assoc b c d) ∙ ap (λ z. z +ℤ d) (+ℤ_comm b c) ∙ +ℤ_assoc c b d)
    ∙ sym (+ℤ_assoc a c (b +ℤ d))

-- I and Q of a lag stand side by side in a tick's row
lag-words : (n : ℕ) (xs ys : List Entry) (m k j i : ℕ) → k + j ≡ i → j < m
    → (get_or (lag_row n xs ys m k) (2 * j) 0 ≡ biased (in_phase_at n xs ys i))
    × (get_or (lag_row n xs ys m k) (suc (2 * j)) 0 ≡ biased (quadrature_at n xs ys i))
lag-words n xs ys zero k j i e h = absurd (omega arith)
lag-words n xs ys (suc m) k zero i e h =
    let f : k ≡ i = omega arith in
    (ap (λ a. biased (in_phase_at n xs ys a)) f, ap (λ a. biased (quadrature_at n xs ys a)) f)
lag-words n xs ys (suc m) k (suc j) i e h =
    let d : 2 * suc j ≡ suc (suc (2 * j)) = omega arith in
    rw d (lag-words n xs ys m (suc k) j i (omega arith) (omega arith))

module _ (n : ℕ) (xs ys : List Sample) where
  -- a column of a set's row whose words are biased numbers: their sum and the bias of each tick
  column : (f : ℕ → ℤ) (j : ℕ)
      → ((i : ℕ) → pos (get_or (tick_row n (up_to xs i) (up_to ys i)) j 0) ≡ pos peak +ℤ f i)
      → (s : Ticks) → pos (get_or (numbers n xs ys s) j 0) ≡ sum_over f s +ℤ pos (peak * length s)
  column f j h [] = ap pos (zero-at (row_words n) j)
  column f j h (i ∷ s) =
      ap pos (get_or-sums (tick_row n (up_to xs i) (up_to ys i)) (numbers n xs ys s) j (tick-apart n xs ys i s))
      ∙ sym (pos-+ℤ-pos _ _)
      ∙ ap₂ ◌+ℤ◌ (h i ∙ +ℤ_comm (pos peak) (f i)) (column f j h s)
      ∙ regroup (f i) (pos peak) (sum_over f s) (pos (peak * length s))
      ∙ ap (λ z. (f i +ℤ sum_over f s) +ℤ z) (pos-+ℤ-pos peak (peak * length s) ∙ ap pos (omega arith))

  -- what a tick's row has at a lag
  tick-words : (k i : ℕ) → k < n
      → (pos (get_or (tick_row n (up_to xs i) (up_to ys i)) (3 + 2 * k) 0) ≡ pos peak +ℤ in_phase_at n (up_to xs i) (up_to ys i)
      k)
      × (pos (get_or (tick_row n (up_to xs i) (up_to ys i)) (4 + 2 * k) 0)
      ≡ pos peak +ℤ quadrature_at n (up_to xs i) (up_to ys i) k)
  unfolding tick_row in_phase_at quadrature_at up_to
  tick-words k i h =
      let p : 3 + 2 * k ≡ suc (suc (suc (2 * k))) = omega arith in
      let q : 4 + 2 * k ≡ suc (suc (suc (suc (2 * k)))) = omega arith in
      let px = drop (length xs - suc i) xs in
      let py = drop (length ys - suc i) ys in
      let x = lag_x (map from_sample px) k in
      let y = lag_y n (map from_sample py) k in
      let sx = sampled px (x_delay 0 k) in
      let sy = sampled py (y_delay n 0 k) in
      let w = lag-words n (map from_sample px) (map from_sample py) n 0 k k (omega arith) h in
      rw (p, q) (
        ap pos w.0 ∙ biased-is (in_phase x y) (in_phase-bound x y sx sy),
        ap pos w.1 ∙ biased-is (quadrature x y) (quadrature-bound x y sx sy),
      )

  unbias : (f : ℕ → ℤ) (j : ℕ)
      → ((i : ℕ) → pos (get_or (tick_row n (up_to xs i) (up_to ys i)) j 0) ≡ pos peak +ℤ f i)
      → (s : Ticks) → unbiased (ticks_of (numbers n xs ys s)) (get_or (numbers n xs ys s) j 0) ≡ sum_over f s
  unbias f j h s =
      ap (λ t. unbiased t (get_or (numbers n xs ys s) j 0)) (numbers-size n xs ys s)
      ∙ ap (λ z. z -ℤ pos (peak * length s)) (column f j h s)
      ∙ +ℤ-neg_ℤ_cancel (sum_over f s) (pos (peak * length s))

  -- a stored sum of a set's row, without its bias
  pub stored-in_phase : (s : Ticks) (k : ℕ) → k < n
      → unbiased (ticks_of (numbers n xs ys s)) (get_or (numbers n xs ys s) (3 + 2 * k) 0) ≡ in_phase_sum n xs ys s k
  unfolding in_phase_sum
  stored-in_phase s k h =
      unbias (λ i. in_phase_at n (up_to xs i) (up_to ys i) k) (3 + 2 * k) (λ i. (tick-words k i h).0) s

  pub stored-quadrature : (s : Ticks) (k : ℕ) → k < n
      → unbiased (ticks_of (numbers n xs ys s)) (get_or (numbers n xs ys s) (4 + 2 * k) 0) ≡ quadrature_sum n xs ys s k
  unfolding quadrature_sum
  stored-quadrature s k h =
      unbias (λ i. quadrature_at n (up_to xs i) (up_to ys i) k) (4 + 2 * k) (λ i. (tick-words k i h).1) s

  -- a count of a set's row
  counted : (f : ℕ → Bool) (j : ℕ) → ((i : ℕ) → get_or (tick_row n (up_to xs i) (up_to ys i)) j 0 ≡ cond (f i) 1 0)
      → (s : Ticks) → get_or (numbers n xs ys s) j 0 ≡ count_over f s
  counted f j h [] = zero-at (row_words n) j
  counted f j h (i ∷ s) =
      get_or-sums (tick_row n (up_to xs i) (up_to ys i)) (numbers n xs ys s) j (tick-apart n xs ys i s)
      ∙ ap₂ ◌+◌ (h i) (counted f j h s)

  pub stored-edge : (s : Ticks) → edge_of (numbers n xs ys s) ≡ valid_count n xs ys s edge_lag
  unfolding valid_count tick_row
  stored-edge s = counted (λ i. valid_at n (up_to xs i) (up_to ys i) edge_lag) 1 (λ i. refl) s

  pub stored-centre : (s : Ticks) → centre_of (numbers n xs ys s) ≡ valid_count n xs ys s (centre_lag n)
  unfolding valid_count tick_row
  stored-centre s = counted (λ i. valid_at n (up_to xs i) (up_to ys i) (centre_lag n)) 2 (λ i. refl) s

  -- a reading of a set's row
  pub sums-read : (s : Ticks) (k : ℕ) → k < n → row_sums k (numbers n xs ys s) ≡ set_sums n xs ys s k
  sums-read s k h =
      rw (stored-in_phase s k h, stored-quadrature s k h, numbers-size n xs ys s, stored-edge s, stored-centre s)

  -- the lag pairs of a set's row, from lag k on
  lags-from : (s : Ticks) (m k : ℕ) → k + m ≡ n
      → row_lags (ticks_of (numbers n xs ys s)) (drop (3 + 2 * k) (numbers n xs ys s)) ≡ lag_sums n xs ys s m k
  lags-from s zero k e =
      ap (row_lags (ticks_of (numbers n xs ys s)))
      (drop_of_length-le (numbers n xs ys s) {i = 3 + 2 * k} (omega (arith, length-numbers n xs ys s)))
  lags-from s (suc m) k e =
      let r = numbers n xs ys s in
      let l : length r ≡ row_words n = length-numbers n xs ys s in
      let p : suc (3 + 2 * k) ≡ 4 + 2 * k = omega arith in
      let q : suc (4 + 2 * k) ≡ 3 + 2 * suc k = omega arith in
      let first : drop (3 + 2 * k) r ≡ get_or r (3 + 2 * k) 0 ∷ drop (4 + 2 * k) r =
      drop-cons r (3 + 2 * k) 0 (omega arith) ∙ ap (λ j. get_or r (3 + 2 * k) 0 ∷ drop j r) p in
      let second : drop (4 + 2 * k) r ≡ get_or r (4 + 2 * k) 0 ∷ drop (3 + 2 * suc k) r =
      drop-cons r (4 + 2 * k) 0 (omega arith) ∙ ap (λ j. get_or r (4 + 2 * k) 0 ∷ drop j r) q in
      rw (first, second, stored-in_phase s k (omega arith), stored-quadrature s k (omega arith))
      (ap (λ z. in_phase_sum n xs ys s k ∷ quadrature_sum n xs ys s k ∷ z) (lags-from s m (suc k) (omega arith)))

  pub lags-read : (s : Ticks)
      → row_lags (ticks_of (numbers n xs ys s)) (drop 3 (numbers n xs ys s)) ≡ lag_sums n xs ys s n 0
  lags-read s = lags-from s n 0 (omega arith)
