-- Laws of clearing and of `folded`: what a turn of the loop adds, and the parts after a move, for the callers.
use Rattle.std.proofs.Common.{◌≡◌, ℕ, zero, suc, ◌+◌, ◌<◌, ◌≤◌, ◌⊎◌, List, [], ◌∷◌, ◌++◌, length, get_or, set, sym, refl, ap, ◌∙◌, ⊎_elim, arith}
use Rattle.lta_spec.specs.Words.{part, splice, sums, zeros}
use Rattle.lta_spec.proofs.WordLaws.{
  splice-nil,
  length-splice,
  get_or-splice-before,
  get_or-splice-after,
  set-splice-next,
  set-splice-before,
  set-splice-after,
  length-sums,
  sums_next,
  length-zeros,
  length_part,
  part-next,
  part-zero,
}
use Rattle.words.specs.Moves.{folded}

zeros-next : (n : ℕ) → zeros n ++ 0 ∷ [] ≡ zeros (suc n)
zeros-next zero = refl
zeros-next (suc n) = ap (λ (r : List ℕ). 0 ∷ r) (zeros-next n)

-- one more word cleared
pub cleared-next : (l : List ℕ) (at n : ℕ)
    → set (splice l at (zeros n)) (at + n) 0 ≡ splice l at (zeros (suc n))
cleared-next l at n =
    let e : length (zeros n) ≡ n = length-zeros n in
    rw e at (set-splice-next l at (zeros n) 0) ∙ ap (λ (r : List ℕ). splice l at r) (zeros-next n)

pub length-folded : (l : List ℕ) (from to n : ℕ) → length (folded l from to n) ≡ length l
unfolding folded
length-folded l from to n = simp length-splice

pub folded-zero : (l : List ℕ) (from to : ℕ) → folded l from to 0 ≡ l
unfolding folded
folded-zero l from to = simp (part-zero, splice-nil)

module _ (l : List ℕ) (from to n : ℕ) (from_in : from + n ≤ length l) (to_in : to + n ≤ length l) where
  length_more : length (sums (part to n l) (part from n l)) ≡ n
  length_more =
      let e : length (part to n l) ≡ n = length_part l to n to_in in
      length-sums (part to n l) (part from n l) (e ∙ sym (length_part l from n from_in)) ∙ e

  -- outside the two ranges a word is as it was
  pub get_or-folded-out : (k : ℕ) → (k < from) ⊎ (from + n ≤ k) → (k < to) ⊎ (to + n ≤ k)
      → get_or (folded l from to n) k 0 ≡ get_or l k 0
  unfolding folded
  get_or-folded-out k a b =
      let e : length (zeros n) ≡ n = length-zeros n in
      let s : List ℕ = sums (part to n l) (part from n l) in
      let f : length s ≡ n = length_more in
      let m : List ℕ = splice l to s in
      ⊎_elim (λ w. get_or-splice-before m from (zeros n) k w)
      (λ w. get_or-splice-after m from (zeros n) k (omega arith)) a
      ∙ ⊎_elim (λ w. get_or-splice-before l to s k w) (λ w. get_or-splice-after l to s k (omega arith)) b

-- a turn of the loop: one more sum, and one more word cleared
pub folded-next : (l : List ℕ) (from to n : ℕ) → from + n < length l → to + n < length l
    → (from + n < to) ⊎ (to + n < from)
    → set (set (folded l from to n) (to + n) (get_or l (to + n) 0 + get_or l (from + n) 0)) (from + n) 0
    ≡ folded l from to (suc n)
unfolding folded
folded-next l from to n from_in to_in apart =
    let x : ℕ = get_or l (to + n) 0 in
    let y : ℕ = get_or l (from + n) 0 in
    let xs : List ℕ = part to n l in
    let ys : List ℕ = part from n l in
    let s : List ℕ = sums xs ys in
    let t : List ℕ = sums (part to (suc n) l) (part from (suc n) l) in
    let z : List ℕ = zeros n in
    let m : List ℕ = splice l to s in
    let ls : length s ≡ n = length_more l from to n (omega arith) (omega arith) in
    let lz : length z ≡ n = length-zeros n in
    let commute : set (splice m from z) (to + n) (x + y) ≡ splice (set m (to + n) (x + y)) from z =
    ⊎_elim (λ w. set-splice-after m from z (to + n) (x + y) (omega arith))
    (λ w. set-splice-before m from z (to + n) (x + y) (omega arith)) apart in
    let same : length xs ≡ length ys =
    length_part l to n (omega arith) ∙ sym (length_part l from n (omega arith)) in
    let grow : set m (to + n) (x + y) ≡ splice l to t =
    rw ls at (set-splice-next l to s (x + y))
    ∙ ap (λ (r : List ℕ). splice l to r)
    (rw (part-next l to n, part-next l from n) (sym (sums_next xs ys x y same))) in
    ap (λ (r : List ℕ). set r (from + n) 0) (commute ∙ ap (λ (r : List ℕ). splice r from z) grow)
    ∙ cleared-next (splice l to t) from n
