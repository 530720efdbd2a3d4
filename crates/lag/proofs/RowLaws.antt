-- The terms that the lag loop writes are document 01's row of a tick.
use mathlib.Core.Path.{◌≡◌, refl, sym, ap, ◌∙◌}
use mathlib.Core.List.{List, [], ◌∷◌, ◌++◌, map}
use Prim.Native.Nat.{ℕ, zero, suc, ◌+◌, ◌*◌, ◌-◌, ◌≤◌}
use native.Mathlib.Nat.{add-zero}
use native.Mathlib.Omega.{arith}
use lib.ListN.{length, get_or, get_or-map}
use Rattle.lta_spec.specs.Tick.{Entry, ago, x_delay, y_delay, in_phase_at, quadrature_at}
use Rattle.lta_spec.specs.Row.{biased, from_word, lag_row}
use Rattle.lta_spec.specs.Shape.{peak}
use Rattle.signal.specs.Signal.{turn_i, turn_q}
use Rattle.signal.proofs.SignalLaws.{adds, in-phase-is, in-phase-small, quadrature-is, quadrature-small}
use Rattle.lag_terms.specs.Terms.{lag_term, lag_pair, lag_terms}

-- an entry of a stored register; what lies past its end reads as no sample, as a cleared word does
pub ago-is : (ws : List ℕ) (d : ℕ) → ago (map from_word ws) d ≡ from_word (get_or ws d 0)
unfolding from_word
ago-is ws d = get_or-map from_word ws d 0

join : {ps qs us vs : List ℕ} → ps ≡ qs → us ≡ vs → ps ++ us ≡ qs ++ vs
join e f = cc

-- a row of lags, one lag more at its end
module _ (n : ℕ) (xs ys : List Entry) where
  abbrev pub row_pair : (k : ℕ) → List ℕ
  row_pair k = biased (in_phase_at n xs ys k) ∷ biased (quadrature_at n xs ys k) ∷ []

  pub length-lag_row : (m k : ℕ) → length (lag_row n xs ys m k) ≡ 2 * m
  length-lag_row zero k = refl
  length-lag_row (suc m) k = omega (arith, length-lag_row m (suc k))

  lag_row-next : (m k : ℕ) → lag_row n xs ys (suc m) k ≡ lag_row n xs ys m k ++ row_pair (k + m)
  lag_row-next zero k = rw add-zero
  lag_row-next (suc m) k =
      let e : k + suc m ≡ suc k + m = omega arith in
      ap (λ (r : List ℕ). biased (in_phase_at n xs ys k) ∷ biased (quadrature_at n xs ys k) ∷ r)
      (lag_row-next m (suc k) ∙ ap (λ (q : ℕ). lag_row n xs ys m (suc k) ++ row_pair q) (sym e))

-- the row of two stored registers
module _ (n : ℕ) (us vs : List ℕ) where
  abbrev pub stored : (i j turn : ℕ) → ℕ
  stored i j turn = adds (get_or us i 0) (get_or vs j 0) turn

  row_pair-is : (k : ℕ)
      → row_pair n (map from_word us) (map from_word vs) k
      ≡ stored (x_delay 0 k) (y_delay n 0 k) turn_i ∷ stored (x_delay 0 k) (y_delay n 0 k) turn_q ∷ []
  unfolding in_phase_at quadrature_at
  row_pair-is k =
      let x : ℕ = get_or us (x_delay 0 k) 0 in
      let y : ℕ = get_or vs (y_delay n 0 k) 0 in
      rw (ago-is us (x_delay 0 k), ago-is vs (y_delay n 0 k), ← in-phase-is x y, ← quadrature-is x y)

  pub lag_row-small : (m k i : ℕ) → get_or (lag_row n (map from_word us) (map from_word vs) m k) i 0 ≤ 2 * peak
  lag_row-small zero k i = omega arith
  lag_row-small (suc m) k zero =
      let e = ap (λ (r : List ℕ). get_or r 0 0) (row_pair-is k) in
      omega (arith, e, in-phase-small (get_or us (x_delay 0 k) 0) (get_or vs (y_delay n 0 k) 0))
  lag_row-small (suc m) k (suc zero) =
      let e = ap (λ (r : List ℕ). get_or r 1 0) (row_pair-is k) in
      omega (arith, e, quadrature-small (get_or us (x_delay 0 k) 0) (get_or vs (y_delay n 0 k) 0))
  lag_row-small (suc m) k (suc (suc i)) = lag_row-small m (suc k) i

  -- decoded registers of N = 2h lags: X newest first, Y oldest first
  module _ (gs hs : List ℕ) (m h : ℕ) (even : n ≡ 2 * h)
      (same : (i j turn : ℕ) → i ≤ h → j ≤ h → lag_term gs hs m i j turn ≡ stored i (h - j) turn) where
    lag_pair-is : (i j k : ℕ) → i ≤ h → j ≤ h → x_delay 0 k ≡ i → y_delay n 0 k ≡ h - j
        → row_pair n (map from_word us) (map from_word vs) k ≡ lag_pair gs hs m i j
    lag_pair-is i j k hi hj ex ey =
        row_pair-is k ∙ rw (ex, ey) (rw (same i j turn_i hi hj, same i j turn_q hi hj))

    pub lag_terms-are : (j : ℕ) → j ≤ h
        → lag_terms gs hs m j ≡ lag_row n (map from_word us) (map from_word vs) (2 * j) 0
    lag_terms-are zero hj = refl
    lag_terms-are (suc j) hj =
        let k = 2 * j in
        let e : suc (suc k) ≡ 2 * suc j = omega arith in
        let xs : List Entry = map from_word us in
        let ys : List Entry = map from_word vs in
        let low = lag_pair-is j j (0 + k) (omega arith) (omega arith) (omega arith) (omega arith) in
        let high = lag_pair-is (suc j) j (0 + suc k) hj (omega arith) (omega arith) (omega arith) in
        join (join (lag_terms-are j (omega arith)) (sym low) ∙ sym (lag_row-next n xs ys k 0)) (sym high)
        ∙ sym (lag_row-next n xs ys (suc k) 0)
        ∙ ap (λ (m : ℕ). lag_row n xs ys m 0) e
