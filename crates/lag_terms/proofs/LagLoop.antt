-- The lag loop at every lag: the terms of a lag are the contribution of the entries of its delays, and those of an
-- invalid entry are the bias alone.
use mathlib.Core.Path.{◌≡◌, ◌∙◌}
use mathlib.Core.Logic.{⊎_elim}
use mathlib.Core.List.{List, [], ◌∷◌, ◌++◌}
use Prim.Native.Nat.{ℕ, zero, suc, ◌+◌, ◌*◌, ◌/◌, ◌<◌, ◌≤◌}
use native.Mathlib.Nat.{eq-or-lt_of_le}
use native.Mathlib.Omega.{arith}
use lib.ListN.{length, length-append, get_or-append}
use lib.Seq.{get_or-append-add}
use Rattle.lta_spec.specs.Shape.{peak}
use Rattle.signal.specs.Signal.{turn_i, turn_q}
use Rattle.signal.specs.Decoded.{flag_in, ZeroWhereInvalid, x_place, y_place}
use Rattle.signal.proofs.SignalLaws.{zero-x, zero-y}
use Rattle.lag_terms.specs.Terms.{lag_term, lag_pair, lag_terms, Adds, LagLoop}
use Rattle.lag_terms.proofs.TermLaws.{length-lag_terms}

-- a lag whose terms stand in the list before, and one whose terms were written last
adds-before : (l : List ℕ) (a b k i q : ℕ) → 2 * k + 1 < length l → Adds l k i q → Adds (l ++ a ∷ b ∷ []) k i q
adds-before l a b k i q h r =
    record {
      in-phase = get_or-append l (a ∷ b ∷ []) 0 (2 * k) (omega arith) ∙ r.in-phase;
      quadrature = get_or-append l (a ∷ b ∷ []) 0 (2 * k + 1) h ∙ r.quadrature;
    }

adds-last : (l : List ℕ) (a b k : ℕ) → length l ≡ 2 * k → Adds (l ++ a ∷ b ∷ []) k a b
adds-last l a b k e =
    let first : 2 * k ≡ length l + 0 = omega arith in
    let second : 2 * k + 1 ≡ length l + 1 = omega arith in
    record {
      in-phase = rw first (get_or-append-add l (a ∷ b ∷ []) 0 0);
      quadrature = rw second (get_or-append-add l (a ∷ b ∷ []) 1 0);
    }

module _ (xs ys : List ℕ) (m : ℕ) where
  abbrev Term : (h k i j : ℕ) → Type 0
  Term h k i j = Adds (lag_terms xs ys m h) k (lag_term xs ys m i j turn_i) (lag_term xs ys m i j turn_q)

  terms-at : (h k : ℕ) → k < 2 * h → (i j : ℕ) → i ≡ (k + 1) / 2 → j ≡ k / 2 → Term h k i j
  terms-at zero k h i j ei ej = absurd (omega arith)
  terms-at (suc g) k h i j ei ej =
      let l : List ℕ = lag_terms xs ys m g in
      let low : List ℕ = l ++ lag_pair xs ys m g g in
      let ll : length l ≡ 4 * g = length-lag_terms xs ys m g in
      let lo : length low ≡ 4 * g + 2 = simp length-append (omega arith) in
      let last = lag_term xs ys m (suc g) g in
      ⊎_elim
      (λ e.
      let ii : i ≡ suc g = omega arith in
      let jj : j ≡ g = omega arith in
      rw (ii, jj) (adds-last low (last turn_i) (last turn_q) k (omega arith)))
      (λ less.
      adds-before low (last turn_i) (last turn_q) k (lag_term xs ys m i j turn_i) (lag_term xs ys m i j turn_q)
      (omega arith)
      (⊎_elim
      (λ e.
      let ii : i ≡ g = omega arith in
      let jj : j ≡ g = omega arith in
      rw (ii, jj) (adds-last l (lag_term xs ys m g g turn_i) (lag_term xs ys m g g turn_q) k (omega arith)))
      (λ old.
      adds-before l (lag_term xs ys m g g turn_i) (lag_term xs ys m g g turn_q) k (lag_term xs ys m i j turn_i)
      (lag_term xs ys m i j turn_q) (omega arith) (terms-at g k old i j ei ej))
      (eq-or-lt_of_le (let q : k ≤ 2 * g = omega arith in q))))
      (eq-or-lt_of_le (let q : k ≤ 2 * g + 1 = omega arith in q))

-- the terms of a lag one of whose samples is 0
module _ (xs ys : List ℕ) (h k : ℕ) (less : k < 2 * h) where
  abbrev m : ℕ
  m = h + 1

  abbrev i : ℕ
  i = x_place k

  abbrev j : ℕ
  j = y_place (2 * h) k

  at-lag : Adds (lag_terms xs ys m h) k (lag_term xs ys m i j turn_i) (lag_term xs ys m i j turn_q)
  at-lag = terms-at xs ys m h k less i j (omega arith) (omega arith)

  adds-bias : ((turn : ℕ) → lag_term xs ys m i j turn ≡ peak) → Adds (lag_terms xs ys m h) k peak peak
  adds-bias e = record { in-phase = at-lag.in-phase ∙ e turn_i; quadrature = at-lag.quadrature ∙ e turn_q }

  without-x : ZeroWhereInvalid m xs → flag_in m xs i ≡ 0 → Adds (lag_terms xs ys m h) k peak peak
  without-x z v = adds-bias (λ turn. rw (z.zero i (omega arith) v) (zero-x _ _ _ turn))

  without-y : ZeroWhereInvalid m ys → flag_in m ys j ≡ 0 → Adds (lag_terms xs ys m h) k peak peak
  without-y z v = adds-bias (λ turn. rw (z.zero j (omega arith) v) (zero-y _ _ _ turn))

pub lag-loop : LagLoop
lag-loop = record { adds = at-lag; invalid-x = without-x; invalid-y = without-y }
