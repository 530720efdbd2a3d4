-- The terms of the lags of decoded entries, and what they are at each lag. xs and ys are the registers X and Y of m
-- entries, decoded; their words are any at all.
use Rattle.std.specs.Prelude.{◌≡◌, List, [], ◌∷◌, ◌++◌, ℕ, zero, suc, ◌+◌, ◌*◌, ◌<◌, get_or}
use Rattle.lta_spec.specs.Shape.{peak}
use Rattle.signal.specs.Signal.{turn_i, turn_q, contribution}
use Rattle.signal.specs.Decoded.{sample_in, phase_in, flag_in, ZeroWhereInvalid, x_place, y_place}

-- what the lags add: lag 2j multiplies X[j] and Y[j], lag 2j + 1 X[j + 1] and Y[j]
module _ (xs ys : List ℕ) (m : ℕ) where
  abbrev pub lag_term : (i j turn : ℕ) → ℕ
  lag_term i j turn = contribution (sample_in xs i) (phase_in m xs i) (sample_in ys j) (phase_in m ys j) turn

  abbrev pub lag_pair : (i j : ℕ) → List ℕ
  lag_pair i j = lag_term i j turn_i ∷ lag_term i j turn_q ∷ []

  abbrev pub lag_terms : (h : ℕ) → List ℕ
  lag_terms zero = []
  lag_terms (suc j) = (lag_terms j ++ lag_pair j j) ++ lag_pair (suc j) j

-- lag k adds these two numbers
pub record Adds (terms : List ℕ) (k i q : ℕ) : Type 0 where
  pub in-phase : get_or terms (2 * k) 0 ≡ i
  pub quadrature : get_or terms (2 * k + 1) 0 ≡ q

-- The lag loop at every lag, for any decoded entries. Stored sums carry a bias of `peak` a tick: a lag that adds `peak`
-- adds nothing. proofs/LagLoop.antt proves it.
pub record LagLoop : Type 0 where
  -- what a lag adds is the contribution of the entries of its delays
  pub adds : (xs ys : List ℕ) (h k : ℕ) → k < 2 * h
      → let t = lag_term xs ys (h + 1) (x_place k) (y_place (2 * h) k) in
      Adds (lag_terms xs ys (h + 1) h) k (t turn_i) (t turn_q)
  -- "an invalid X entry is shown to add nothing at its lags, whatever stands in Y"; and the same with X and Y
  -- exchanged
  pub invalid-x : (xs ys : List ℕ) (h k : ℕ) → k < 2 * h → ZeroWhereInvalid (h + 1) xs
      → flag_in (h + 1) xs (x_place k) ≡ 0 → Adds (lag_terms xs ys (h + 1) h) k peak peak
  pub invalid-y : (xs ys : List ℕ) (h k : ℕ) → k < 2 * h → ZeroWhereInvalid (h + 1) ys
      → flag_in (h + 1) ys (y_place (2 * h) k) ≡ 0 → Adds (lag_terms xs ys (h + 1) h) k peak peak
