-- The words of stored sums without their bias.
use Rattle.std.proofs.Common.{◌≡◌, ℕ, List, [], ◌∷◌, map, refl, ap}
use Rattle.lta_spec.specs.Bytes.{number_word}
use Rattle.lta_spec.specs.Row.{unbiased, row_lags}
use Rattle.lta_spec.specs.Frame.{lag_words}

pub sums_mapped : (ticks : ℕ) (ws : List ℕ)
    → map (λ w. number_word (unbiased ticks w)) ws ≡ lag_words (row_lags ticks ws)
sums_mapped ticks [] = refl
sums_mapped ticks (w ∷ ws) = ap (λ (r : List ℕ). number_word (unbiased ticks w) ∷ r) (sums_mapped ticks ws)
