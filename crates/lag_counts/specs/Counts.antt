-- The counts of a tick, by the validity of decoded entries.
use Rattle.std.specs.Prelude.{List, [], ◌∷◌, ℕ}
use Rattle.lta_spec.specs.Size.{depth}
use Rattle.lta_spec.specs.Tick.{edge_lag, centre_lag}
use Rattle.signal.specs.Signal.{both_flag}
use Rattle.signal.specs.Decoded.{flag_in, x_place, y_place}

-- 1 where the product at lag k of n is valid, else 0; xs and ys are the registers, decoded
abbrev pub lag_flag : (n : ℕ) (xs ys : List ℕ) (k : ℕ) → ℕ
lag_flag n xs ys k = both_flag (flag_in (depth n) xs (x_place k)) (flag_in (depth n) ys (y_place n k))

-- the first words of a tick's row: the tick, and its valid products at the edge and the centre
abbrev pub flag_counts : (n : ℕ) (xs ys : List ℕ) → List ℕ
flag_counts n xs ys = 1 ∷ lag_flag n xs ys edge_lag ∷ lag_flag n xs ys (centre_lag n) ∷ []
