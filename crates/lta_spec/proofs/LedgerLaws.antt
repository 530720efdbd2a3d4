-- The numbers of the ledger: those of rows and of sets, and their sums by losses and by cells.
use Prim.Native.Nat.{ℕ, ◌+◌}
use mathlib.Core.Path.{◌≡◌, refl, sym, ap, ap₂, ◌∙◌}
use mathlib.Core.Bool.{Bool}
use mathlib.Core.List.{List, [], ◌∷◌, ◌++◌, map}
use native.Mathlib.Omega.{arith}
use lib.ListN.{length-append}
use Rattle.lta_spec.specs.Words.{joined}
use Rattle.lta_spec.specs.Page.{added, counts_sum}
use Rattle.lta_spec.specs.Tick.{Sample, valid_at, edge_lag, centre_lag}
use Rattle.lta_spec.specs.Row.{row_counts}
use Rattle.lta_spec.specs.Machine.{Ticks}
use Rattle.lta_spec.specs.Numbers.{up_to, count_over, valid_count, set_counts}
use Rattle.lta_spec.specs.MachineRun as R
use Rattle.lta_spec.specs.declared.Counts.{Counts}
use Rattle.lta_spec.proofs.RowLaws.{numbers, numbers-size}
use Rattle.lta_spec.proofs.SetLaws.{stored-edge, stored-centre}

-- numbers that are equal, one by one
pub counts-path : {a b c d e f : ℕ} → a ≡ b → c ≡ d → e ≡ f
    → ◌≡◌ {A = Counts} (record { ticks = a; edge = c; centre = e }) (record { ticks = b; edge = d; centre = f })
counts-path p q r = cc

-- sums of numbers: of none, of one more, of two lists
pub no-counts : record { ticks = 0; edge = 0; centre = 0 } ≡ counts_sum []
unfolding counts_sum
no-counts = refl

pub counts-first : (k : Counts) (ks : List Counts) → added k (counts_sum ks) ≡ counts_sum (k ∷ ks)
unfolding counts_sum
counts-first k ks = refl

pub counts-append : (a b : List Counts) → counts_sum (a ++ b) ≡ added (counts_sum a) (counts_sum b)
unfolding counts_sum
counts-append [] b = counts-path (omega arith) (omega arith) (omega arith)
counts-append (k ∷ a) b =
    ap (added k) (counts-append a b) ∙ counts-path (omega arith) (omega arith) (omega arith)

module _ (n : ℕ) (xs ys : List Sample) where
  -- the numbers of the rows of sets
  pub counts-carry : (ls : List Ticks) → map row_counts (map (numbers n xs ys) ls) ≡ map (set_counts n xs ys) ls
  unfolding set_counts
  counts-carry [] = refl
  counts-carry (s ∷ ls) =
      ap₂ ◌∷◌ (counts-path (numbers-size n xs ys s) (stored-edge n xs ys s) (stored-centre n xs ys s)) (counts-carry ls)

  count-append : (f : ℕ → Bool) (a b : Ticks) → count_over f (a ++ b) ≡ count_over f a + count_over f b
  count-append f [] b = omega arith
  count-append f (i ∷ a) b = omega (arith, count-append f a b)

  valid-append : (k : ℕ) (a b : Ticks)
      → valid_count n xs ys (a ++ b) k ≡ valid_count n xs ys a k + valid_count n xs ys b k
  unfolding valid_count
  valid-append k a b = count-append (λ i. valid_at n (up_to xs i) (up_to ys i) k) a b

  -- of sets behind each other
  sets-total : (ls : List Ticks) → counts_sum (map (set_counts n xs ys) ls) ≡ set_counts n xs ys (joined ls)
  unfolding counts_sum set_counts valid_count
  sets-total [] = refl
  sets-total (s ∷ ls) =
      let rest = sets-total ls in
      ap (added (set_counts n xs ys s)) rest
      ∙ counts-path (sym (length-append s (joined ls))) (sym (valid-append edge_lag s (joined ls)))
      (sym (valid-append (centre_lag n) s (joined ls)))

-- "The totals equal the sums of the lines and also the sums over the ledger of the run."
pub ledger-total : (n : ℕ) (ms : List R.Unit)
    → counts_sum (joined (map (R.loss_counts n) ms)) ≡ counts_sum (map (R.lost_counts n) ms)
ledger-total n [] = refl
ledger-total n (m ∷ ms) =
    counts-append (R.loss_counts n m) (joined (map (R.loss_counts n) ms))
    ∙ ap₂ added (sets-total n m.xs m.ys m.cell.losses) (ledger-total n ms)
    ∙ counts-first (R.lost_counts n m) (map (R.lost_counts n) ms)
