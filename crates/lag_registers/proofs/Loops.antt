-- A register that moves from its end.
use Rattle.std.proofs.Common.{◌≡◌, ℕ, suc, ◌-◌, ◌<◌, ◌≤◌, List, [], zero, ◌∷◌, length, set, get_or, take, refl, sym}
use Rattle.std.proofs.Common.{ap, ◌∙◌, arith, length-take-le}
use lib.Seq.{drop-cons}
use Rattle.lta_spec.specs.Words.{part, splice}
use Rattle.lta_spec.proofs.WordLaws.{get_or-splice-before, splice-whole}

-- a word before those that were spliced in
set_front : (l : List ℕ) (at : ℕ) (vs : List ℕ) (v : ℕ) → set (splice l (suc at) vs) at v ≡ splice l at (v ∷ vs)
set_front [] at vs v = refl
set_front (x ∷ l) zero vs v = refl
set_front (x ∷ l) (suc at) vs v = ap (λ (r : List ℕ). x ∷ r) (set_front l at vs v)

-- one entry more: register r, of which those of p from place j on have moved
pub moved-next : (p r : List ℕ) (j n : ℕ) → length p ≡ n → 1 < j → j ≤ n → r ≡ splice p j (part (j - 1) (n - j) p)
    → set r (j - 1) (get_or r (j - 1 - 1) 0) ≡ splice p (j - 1) (part (j - 1 - 1) (n - (j - 1)) p)
unfolding part
moved-next p r zero n e a b is = absurd (omega arith)
moved-next p r (suc zero) n e a b is = absurd (omega arith)
moved-next p r (suc (suc k)) n e a b is =
    let m : ℕ = n - suc (suc k) in
    let before : suc (suc k) - 1 - 1 ≡ k = omega arith in
    let more : n - (suc (suc k) - 1) ≡ suc m = omega arith in
    let here : suc (suc k) - 1 ≡ suc k = omega arith in
    let v : get_or (splice p (suc (suc k)) (part (suc k) m p)) k 0 ≡ get_or p k 0 =
    get_or-splice-before p (suc (suc k)) (part (suc k) m p) k (omega arith) in
    rw (is, before, more, here, v)
    (set_front p (suc k) (part (suc k) m p) (get_or p k 0)
    ∙ ap (λ (r : List ℕ). splice p (suc k) (take (suc m) r)) (sym (drop-cons p k 0 (omega (arith, e)))))

-- and then the new one in front
pub moved-whole : (p : List ℕ) (n w : ℕ) → length p ≡ n → 1 ≤ n
    → set (splice p 1 (part 0 (n - 1) p)) 0 w ≡ take n (w ∷ p)
unfolding part
moved-whole p zero w e h = absurd (omega arith)
moved-whole p (suc n) w e h =
    let last : suc n - 1 ≡ n = omega arith in
    rw last
    (set_front p 0 (take n p) w
    ∙ splice-whole p (w ∷ take n p) (rw (length-take-le n p (omega (arith, e))) (sym e)))
