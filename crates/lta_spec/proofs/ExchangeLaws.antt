-- X and Y exchanged: in the bytes of a tick, in what a tick adds at a lag, and in the numbers of a set.
use Prim.Native.Nat.{ℕ, zero, suc, ◌+◌, ◌*◌, ◌-◌, ◌/◌, ◌%◌, ◌≤◌, ◌<◌}
use mathlib.Core.Path.{◌≡◌, refl, sym, ap, ap₂, ◌∙◌, fun_ext}
use mathlib.Core.Bool.{Bool, true, false, cond, ◌&&◌}
use mathlib.Core.List.{List, [], ◌∷◌, map}
use native.Mathlib.Nat.{not-suc-le-zero}
use native.Mathlib.Omega.{arith}
use lib.IntN.{ℤ, pos, negsuc, neg_ℤ, ◌+ℤ◌, ◌*ℤ◌, neg_ℤ-neg_ℤ, neg_ℤ-+ℤ, *ℤ_comm, *ℤ-zero, *ℤ-negsuc}
use lib.ListN.{length, get_or, drop}
use Rattle.lta_spec.specs.Words.{numbers_from}
use Rattle.lta_spec.specs.Tick.{Sample, Entry, ago, x_delay, y_delay, both_valid, product, turn, weight}
use Rattle.lta_spec.specs.Tick.{in_phase, quadrature, lag_x, lag_y, valid_at, in_phase_at, quadrature_at, centre_lag}
use Rattle.lta_spec.specs.Machine.{Ticks}
use Rattle.lta_spec.specs.Numbers.{up_to, sum_over, count_over, in_phase_sum, quadrature_sum, valid_count, set_sums}
use Rattle.lta_spec.specs.Exchange.{Exchanged}
use Rattle.lta_spec.proofs.TickLaws.{Sampled}
use Rattle.lta_spec.proofs.RowLaws.{sampled}

-- a test computed over the numbers below 16 is a law of each of them
number_at : (f : ℕ → ℤ) (k many d i : ℕ) → k + d ≡ i → d < many → get_or (map f (numbers_from k many)) d (pos 0) ≡ f i
number_at f k zero d i e h = absurd (not-suc-le-zero h)
number_at f k (suc many) zero i e h = ap f (omega arith)
number_at f k (suc many) (suc d) i e h = number_at f (suc k) many d i (omega arith) (omega arith)

each_below : (f g : ℕ → ℤ) → map f (numbers_from 0 16) ≡ map g (numbers_from 0 16) → (d : ℕ) → d < 16 → f d ≡ g d
each_below f g e d h =
    sym (number_at f 0 16 d d (omega arith) h)
    ∙ ap (λ l. get_or l d (pos 0)) e
    ∙ number_at g 0 16 d d (omega arith) h

-- w is even, and turned by 8 it is negated
weight-even : (d : ℕ) → d < 16 → weight ((16 - d) % 16) ≡ weight d
unfolding weight
weight-even = each_below (λ d. weight ((16 - d) % 16)) weight refl

weight-turned : (d : ℕ) → d < 16 → weight ((d + 8) % 16) ≡ neg_ℤ (weight d)
unfolding weight
weight-turned = each_below (λ d. weight ((d + 8) % 16)) (λ d. neg_ℤ (weight d)) refl

-- so, turned by 12, it is odd
weight-odd : (d : ℕ) → d < 16 → weight (((16 - d) % 16 + 12) % 16) ≡ neg_ℤ (weight ((d + 12) % 16))
weight-odd d h =
    let back : ((16 - d) % 16 + 12) % 16 ≡ (16 - (d + 4) % 16) % 16 = omega arith in
    let on : (d + 4) % 16 ≡ ((d + 12) % 16 + 8) % 16 = omega arith in
    ap weight back
    ∙ weight-even ((d + 4) % 16) (omega arith)
    ∙ ap weight on
    ∙ weight-turned ((d + 12) % 16) (omega arith)

-- products
times-neg : (a b : ℤ) → a *ℤ neg_ℤ b ≡ neg_ℤ (a *ℤ b)
times-neg a (pos zero) = *ℤ-zero a ∙ sym (ap neg_ℤ (*ℤ-zero a))
times-neg a (pos (suc n)) = *ℤ-negsuc a n
times-neg a (negsuc n) = sym (ap neg_ℤ (*ℤ-negsuc a n) ∙ neg_ℤ-neg_ℤ (a *ℤ pos (suc n)))

both-comm : (a b : Bool) → a && b ≡ b && a
both-comm true true = refl
both-comm true false = refl
both-comm false true = refl
both-comm false false = refl

-- what a pair of entries adds, and the exchanged pair
module _ (x y : Entry) where
  valid-exchanged : both_valid y x ≡ both_valid x y
  valid-exchanged = both-comm y.valid x.valid

  product-exchanged : product y x ≡ product x y
  unfolding product
  product-exchanged =
      ap₂ (λ v p. cond v p (pos 0)) valid-exchanged (*ℤ_comm y.sample x.sample)

  module _ (p : Sampled x) (q : Sampled y) where
    turn-exchanged : turn y x ≡ (16 - turn x y) % 16
    turn-exchanged = omega (arith, p.phase, q.phase)

    in_phase-exchanged : in_phase y x ≡ in_phase x y
    unfolding in_phase
    in_phase-exchanged =
        ap₂ ◌*ℤ◌ product-exchanged (ap weight turn-exchanged ∙ weight-even (turn x y) (omega arith))

    quadrature-exchanged : quadrature y x ≡ neg_ℤ (quadrature x y)
    unfolding quadrature
    quadrature-exchanged =
        ap₂ ◌*ℤ◌ product-exchanged
        (ap (λ d. weight ((d + 12) % 16)) turn-exchanged ∙ weight-odd (turn x y) (omega arith))
        ∙ times-neg (product x y) (weight ((turn x y + 12) % 16))

-- (k + 1) div 2 = N/2 - ((N - k) div 2): Y's delay at lag N - k is X's at lag k
delay-exchanged : (n k : ℕ) → n ≡ 2 * (n / 2) → k ≤ n → y_delay n 0 (n - k) ≡ x_delay 0 k
delay-exchanged n k even h = omega arith

-- at lag N - k of the exchanged run the entries of lag k meet, exchanged
module _ (n : ℕ) (even : n ≡ 2 * (n / 2)) (xs ys : List Entry) (k : ℕ) (h : k ≤ n) where
  x-exchanged : lag_x ys (n - k) ≡ lag_y n ys k
  x-exchanged =
      let back : n - (n - k) ≡ k = omega arith in
      ap (ago ys) (sym (delay-exchanged n (n - k) even (omega arith)) ∙ ap (y_delay n 0) back)

  y-exchanged : lag_y n xs (n - k) ≡ lag_x xs k
  y-exchanged = ap (ago xs) (delay-exchanged n k even h)

  valid-at : valid_at n ys xs (n - k) ≡ valid_at n xs ys k
  unfolding valid_at
  valid-at = ap₂ both_valid x-exchanged y-exchanged ∙ valid-exchanged (lag_x xs k) (lag_y n ys k)

  module _ (p : Sampled (lag_x xs k)) (q : Sampled (lag_y n ys k)) where
    in_phase-at : in_phase_at n ys xs (n - k) ≡ in_phase_at n xs ys k
    unfolding in_phase_at
    in_phase-at = ap₂ in_phase x-exchanged y-exchanged ∙ in_phase-exchanged (lag_x xs k) (lag_y n ys k) p q

    quadrature-at : quadrature_at n ys xs (n - k) ≡ neg_ℤ (quadrature_at n xs ys k)
    unfolding quadrature_at
    quadrature-at = ap₂ quadrature x-exchanged y-exchanged ∙ quadrature-exchanged (lag_x xs k) (lag_y n ys k) p q

-- sums over a set
sum-neg : (f : ℕ → ℤ) (s : Ticks) → sum_over (λ i. neg_ℤ (f i)) s ≡ neg_ℤ (sum_over f s)
sum-neg f [] = refl
sum-neg f (i ∷ s) = ap (λ z. neg_ℤ (f i) +ℤ z) (sum-neg f s) ∙ sym (neg_ℤ-+ℤ (f i) (sum_over f s))

-- the numbers of a set, and those under exchanged samples
module _ (n : ℕ) (even : n ≡ 2 * (n / 2)) (xs ys : List Sample) where
  abbrev x_at : (i : ℕ) → List Entry
  x_at i = up_to xs i

  abbrev y_at : (i : ℕ) → List Entry
  y_at i = up_to ys i

  x-sampled : (i k : ℕ) → Sampled (lag_x (x_at i) k)
  unfolding up_to
  x-sampled i k = sampled (drop (length xs - suc i) xs) (x_delay 0 k)

  y-sampled : (i k : ℕ) → Sampled (lag_y n (y_at i) k)
  unfolding up_to
  y-sampled i k = sampled (drop (length ys - suc i) ys) (y_delay n 0 k)

  in_phase-sum : (s : Ticks) (k : ℕ) → k ≤ n → in_phase_sum n ys xs s (n - k) ≡ in_phase_sum n xs ys s k
  unfolding in_phase_sum
  in_phase-sum s k h =
      ap (λ f. sum_over f s)
      (fun_ext (λ i. in_phase-at n even (x_at i) (y_at i) k h (x-sampled i k) (y-sampled i k)))

  quadrature-sum : (s : Ticks) (k : ℕ) → k ≤ n → quadrature_sum n ys xs s (n - k) ≡ neg_ℤ (quadrature_sum n xs ys s k)
  unfolding quadrature_sum
  quadrature-sum s k h =
      ap (λ f. sum_over f s)
      (fun_ext (λ i. quadrature-at n even (x_at i) (y_at i) k h (x-sampled i k) (y-sampled i k)))
      ∙ sum-neg (λ i. quadrature_at n (x_at i) (y_at i) k) s

  pub centre-count : (s : Ticks) → valid_count n ys xs s (centre_lag n) ≡ valid_count n xs ys s (centre_lag n)
  unfolding valid_count
  centre-count s =
      let middle : n / 2 ≡ n - n / 2 = omega arith in
      ap (λ f. count_over f s)
      (fun_ext
      (λ i. ap (valid_at n (y_at i) (x_at i)) middle ∙ valid-at n even (x_at i) (y_at i) (n / 2) (omega arith)))

  pub set-exchanged : (s : Ticks) → Exchanged n (set_sums n xs ys s) (set_sums n ys xs s)
  set-exchanged s =
      record {
        in_phase = λ k low high. sym (in_phase-sum s k (omega arith));
        quadrature = λ k low high.
            sym (ap neg_ℤ (quadrature-sum s k (omega arith)) ∙ neg_ℤ-neg_ℤ (quadrature_sum n xs ys s k));
        ticks = λ k h. refl;
        centre = λ k h. sym (centre-count s);
      }
