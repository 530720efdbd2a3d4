-- The terms of the lag loop: how many, and one lag more.
use mathlib.Core.Path.{◌≡◌, refl}
use mathlib.Core.List.{List, [], ◌∷◌, ◌++◌, append_assoc}
use Prim.Native.Nat.{ℕ, zero, suc, ◌+◌, ◌*◌}
use native.Mathlib.Nat.{zero-add}
use native.Mathlib.Omega.{arith}
use lib.ListN.{length, set, length-append}
use Rattle.lta_spec.specs.Words.{splice}
use Rattle.lta_spec.proofs.WordLaws.{set-splice-next}
use Rattle.lag_terms.specs.Terms.{lag_terms}

pub length-lag_terms : (xs ys : List ℕ) (m h : ℕ) → length (lag_terms xs ys m h) ≡ 4 * h
length-lag_terms xs ys m zero = refl
length-lag_terms xs ys m (suc h) = simp length-append (omega (arith, length-lag_terms xs ys m h))

-- I and Q of one lag more
pub pair-next : (l vs : List ℕ) (k a b : ℕ) → length vs ≡ k
    → set (set (splice l 0 vs) k a) (k + 1) b ≡ splice l 0 (vs ++ a ∷ b ∷ [])
pair-next l vs k a b e =
    let f : length (vs ++ a ∷ []) ≡ k + 1 = simp length-append (omega arith) in
    let first : set (splice l 0 vs) k a ≡ splice l 0 (vs ++ a ∷ []) = rw (zero-add, e) at (set-splice-next l 0 vs a) in
    let second : set (splice l 0 (vs ++ a ∷ [])) (k + 1) b ≡ splice l 0 ((vs ++ a ∷ []) ++ b ∷ []) =
    rw (zero-add, f) at (set-splice-next l 0 (vs ++ a ∷ []) b) in
    rw (first, second, append_assoc)
