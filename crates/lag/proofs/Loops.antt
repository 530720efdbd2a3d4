-- Laws of words that are added to a row, and of what stands behind them.
use Rattle.std.proofs.Common.{◌≡◌, ℕ, suc, ◌+◌, ◌<◌, ◌≤◌, List, [], ◌∷◌, ◌++◌, length, get_or, refl, ap, ap₂, ◌∙◌, inr, zero-add, arith}
use Rattle.lta_spec.specs.Words.{part, splice, sums}
use Rattle.lta_spec.proofs.WordLaws.{
  get_or-splice-after,
  get_or-splice-in,
  splice-append,
  length-sums,
  length_part,
  part-add,
  part-splice-apart,
}

-- what was spliced in at the front
pub get_d_front : (l vs : List ℕ) (i : ℕ) → i < length vs → length vs ≤ length l
    → get_or (splice l 0 vs) i 0 ≡ get_or vs i 0
get_d_front l vs i h k = rw zero-add at (get_or-splice-in l 0 vs i h (omega arith))

-- sums of two runs, one behind the other
sums-append : (xs ys us vs : List ℕ) → length xs ≡ length ys
    → sums (xs ++ us) (ys ++ vs) ≡ sums xs ys ++ sums us vs
sums-append [] [] us vs e = refl
sums-append [] (y ∷ ys) us vs e = absurd (omega arith)
sums-append (x ∷ xs) [] us vs e = absurd (omega arith)
sums-append (x ∷ xs) (y ∷ ys) us vs e = ap (λ (r : List ℕ). (x + y) ∷ r) (sums-append xs ys us vs (omega arith))

-- words added to a row, and then to what stands behind it
pub added-append : (l : List ℕ) (at : ℕ) (us vs : List ℕ) (m n : ℕ) → length us ≡ m → length vs ≡ n
    → at + (m + n) ≤ length l
    → let k = splice l at (sums (part at m l) us) in
    splice k (at + m) (sums (part (at + m) n k) vs) ≡ splice l at (sums (part at (m + n) l) (us ++ vs))
added-append l at us vs m n eu ev h =
    let ws : List ℕ = sums (part at m l) us in
    let lp : length (part at m l) ≡ m = length_part l at m (omega arith) in
    let lw : length ws ≡ m = length-sums (part at m l) us (omega arith) ∙ lp in
    let same : part (at + m) n (splice l at ws) ≡ part (at + m) n l =
    part-splice-apart l at ws (at + m) n (inr (omega arith)) (omega arith) in
    let eq : length (part at m l) ≡ length us = omega arith in
    rw (same, part-add l at m n, sums-append (part at m l) us (part (at + m) n l) vs)
    (rw lw at (splice-append l at ws (sums (part (at + m) n l) vs)))

-- a word behind those that were added to
pub get_or-behind : (l : List ℕ) (at : ℕ) (us : List ℕ) (m i : ℕ) → length us ≡ m → at + m ≤ length l
    → get_or (splice l at (sums (part at m l) us)) (at + m + i) 0 ≡ get_or l (at + m + i) 0
get_or-behind l at us m i e h =
    let ws : List ℕ = sums (part at m l) us in
    let lp : length (part at m l) ≡ m = length_part l at m h in
    let lw : length ws ≡ m = length-sums (part at m l) us (omega arith) ∙ lp in
    get_or-splice-after l at ws (at + m + i) (omega arith)

-- each word of a part with a term added to it
sums-are : (xs ys zs : List ℕ) → length ys ≡ length xs → length zs ≡ length xs
    → ((i : ℕ) → i < length xs → get_or zs i 0 ≡ get_or xs i 0 + get_or ys i 0) → zs ≡ sums xs ys
sums-are [] ys [] e f h = refl
sums-are [] ys (z ∷ zs) e f h = absurd (omega (arith, f))
sums-are (x ∷ xs) [] zs e f h = absurd (omega (arith, e))
sums-are (x ∷ xs) (y ∷ ys) [] e f h = absurd (omega (arith, f))
sums-are (x ∷ xs) (y ∷ ys) (z ∷ zs) e f h =
    ap₂ (λ (w : ℕ) (r : List ℕ). w ∷ r) (h 0 (omega arith))
    (sums-are xs ys zs (omega (arith, e)) (omega (arith, f)) (λ i k. h (suc i) (omega arith)))

pub terms-added : (l : List ℕ) (at n : ℕ) (ts ws zs : List ℕ) {xs : List ℕ} → at + n ≤ length l → length ts ≡ n
    → xs ≡ part at n l → length zs ≡ length xs → ((i : ℕ) → i < n → get_or ws i 0 ≡ get_or ts i 0)
    → ((i : ℕ) → i < length xs → get_or zs i 0 ≡ get_or xs i 0 + get_or ws i 0) → zs ≡ sums (part at n l) ts
terms-added l at n ts ws zs {xs} inside many ex ez same each =
    let e : length xs ≡ n = ap length ex ∙ length_part l at n inside in
    sums-are xs ts zs (omega arith) ez
    (λ i h. each i h ∙ ap (λ (w : ℕ). get_or xs i 0 + w) (same i (omega (arith, e))))
    ∙ ap (λ (r : List ℕ). sums r ts) ex
