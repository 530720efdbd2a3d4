-- Document 01, "A set's numbers": what the accepted ticks' bytes make of a set of tick numbers, and the frame of a
-- set.
use Rattle.std.specs.Prelude.{ℕ, zero, suc, ◌+◌, ◌-◌, Bool, cond, List, [], ◌∷◌, map, ℤ, pos, ◌+ℤ◌, length, drop}
use Rattle.lta_spec.specs.Tick.{Sample, Entry, from_sample, valid_at, in_phase_at, quadrature_at, edge_lag, centre_lag}
use Rattle.lta_spec.specs.Place.{Stamped}
use Rattle.lta_spec.specs.Frame.{frame_of, lag_words, header}
use Rattle.lta_spec.specs.Call.{emitted_fields}
use Rattle.lta_spec.specs.Machine.{Ticks}
use Rattle.lta_spec.specs.declared.Shape.{Shape}
use Rattle.lta_spec.specs.declared.Fields.{Fields}
use Rattle.lta_spec.specs.declared.Sums.{Sums}
use Rattle.lta_spec.specs.declared.Counts.{Counts}

-- "A set's numbers are its I and Q sums at each lag, its ticks, and its edge and centre counts, of ticks whose
-- product at that lag is valid". The entries as they were just after tick i
unfoldable pub up_to : (taken : List Sample) (i : ℕ) → List Entry
up_to taken i = map from_sample (drop (length taken - suc i) taken)

abbrev pub sum_over : (ℕ → ℤ) → Ticks → ℤ
sum_over f [] = pos 0
sum_over f (i ∷ s) = f i +ℤ sum_over f s

abbrev pub count_over : (ℕ → Bool) → Ticks → ℕ
count_over f [] = 0
count_over f (i ∷ s) = cond (f i) 1 0 + count_over f s

module _ (n : ℕ) (xs ys : List Sample) (s : Ticks) where
  unfoldable pub in_phase_sum : (k : ℕ) → ℤ
  in_phase_sum k = sum_over (λ i. in_phase_at n (up_to xs i) (up_to ys i) k) s

  unfoldable pub quadrature_sum : (k : ℕ) → ℤ
  quadrature_sum k = sum_over (λ i. quadrature_at n (up_to xs i) (up_to ys i) k) s

  unfoldable pub valid_count : (k : ℕ) → ℕ
  valid_count k = count_over (λ i. valid_at n (up_to xs i) (up_to ys i) k) s

  -- the lag pairs from lag k on
  abbrev pub lag_sums : (count k : ℕ) → List ℤ
  lag_sums zero k = []
  lag_sums (suc m) k = in_phase_sum k ∷ quadrature_sum k ∷ lag_sums m (suc k)

  -- what a reading gives of a set
  abbrev pub set_sums : (k : ℕ) → Sums
  set_sums k =
      record {
        i = in_phase_sum k;
        q = quadrature_sum k;
        ticks = length s;
        edge = valid_count edge_lag;
        centre = valid_count (centre_lag n);
      }

  -- what a page shows of a set
  unfoldable pub set_counts : Counts
  set_counts =
      record { ticks = length s; edge = valid_count edge_lag; centre = valid_count (centre_lag n) }

-- an emitted frame: its kind, the bin that it came from or that a speed dump's label names, its set and stamp
pub record Emitted : Type 0 where
  pub kind : ℕ
  pub bank : ℕ
  pub bin : ℕ
  pub content : Stamped Ticks

-- the fields and the bytes of the frame of a set: "The machine's frames .. carry its sets' numbers."
abbrev pub set_fields : Shape → (cell : ℕ) → (xs ys : List Sample) → Emitted → Fields
set_fields sh cell xs ys e =
    let n = sh.lags in
    let s = e.content.members in
    emitted_fields sh e.kind cell e.bank e.bin e.content.stamp (length s) (valid_count n xs ys s edge_lag)
    (valid_count n xs ys s (centre_lag n))

unfoldable pub set_frame : Shape → (cell : ℕ) → (xs ys : List Sample) → Emitted → List ℕ
set_frame sh cell xs ys e =
    frame_of (header (set_fields sh cell xs ys e))
    (lag_words (lag_sums sh.lags xs ys e.content.members sh.lags 0))
