-- How take and drop see a splice.
use mathlib.Core.Path.{◌≡◌, refl, sym, ap, ◌∙◌}
use mathlib.Core.List.{List, [], ◌∷◌, ◌++◌}
use Prim.Native.Nat.{ℕ, zero, suc, ◌+◌, ◌≤◌}
use native.Mathlib.Nat.{zero-add, suc-add}
use native.Mathlib.Omega.{arith}
use lib.ListN.{length, set, take, drop, take-append-drop}
use lib.Seq.{length-take-le}
use Rattle.lta_spec.specs.Words.{splice}
use Rattle.lta_spec.proofs.WordLaws.{splice-nil, length-splice, splice-eq}

pub drop-splice-past : (l : List ℕ) (at : ℕ) (vs : List ℕ) (n : ℕ) → at + length vs ≤ n
    → drop n (splice l at vs) ≡ drop n l
drop-splice-past [] at vs n h = refl
drop-splice-past (x ∷ l) zero [] n h = refl
drop-splice-past (x ∷ l) zero (v ∷ vs) zero h = absurd (omega arith)
drop-splice-past (x ∷ l) zero (v ∷ vs) (suc n) h = drop-splice-past l zero vs n (omega arith)
drop-splice-past (x ∷ l) (suc at) vs zero h = absurd (omega arith)
drop-splice-past (x ∷ l) (suc at) vs (suc n) h = drop-splice-past l at vs n (omega arith)

pub drop-splice-in : (l : List ℕ) (n at : ℕ) (vs : List ℕ)
    → drop n (splice l (n + at) vs) ≡ splice (drop n l) at vs
drop-splice-in l zero at vs = rw zero-add
drop-splice-in [] (suc n) at vs = refl
drop-splice-in (x ∷ l) (suc n) at vs = rw suc-add (drop-splice-in l n at vs)

pub take-splice-before : (l : List ℕ) (at : ℕ) (vs : List ℕ) (n : ℕ) → n ≤ at
    → take n (splice l at vs) ≡ take n l
take-splice-before l at vs zero h = refl
take-splice-before [] at vs (suc n) h = refl
take-splice-before (x ∷ l) zero vs (suc n) h = absurd (omega arith)
take-splice-before (x ∷ l) (suc at) vs (suc n) h = ap (λ r. x ∷ r) (take-splice-before l at vs n (omega arith))

pub splice_front : (l vs : List ℕ) → length vs ≤ length l → splice l 0 vs ≡ vs ++ drop (length vs) l
splice_front l vs h = splice-eq l 0 vs (omega arith) ∙ ap (λ k. vs ++ drop k l) (zero-add (length vs))

-- a splice inside a part, put back
pub splice-splice : (l : List ℕ) (p q w : ℕ) (vs : List ℕ) → q + length vs ≤ w → p + w ≤ length l
    → splice l p (take w (splice (drop p l) q vs)) ≡ splice l (p + q) vs
splice-splice l zero q w vs h k =
    let m : List ℕ = splice l q vs in
    let lm : length m ≡ length l = length-splice l q vs in
    let lt : length (take w m) ≡ w = length-take-le w m (omega arith) in
    rw (zero-add q)
    (splice_front l (take w m) (omega arith)
    ∙ ap (λ j. take w m ++ drop j l) lt
    ∙ ap (λ r. take w m ++ r) (sym (drop-splice-past l q vs w h))
    ∙ take-append-drop w m)
splice-splice [] (suc p) q w vs h k = refl
splice-splice (x ∷ l) (suc p) q w vs h k =
    rw suc-add (ap (λ r. x ∷ r) (splice-splice l p q w vs h (omega arith)))

pub set-splice : (l : List ℕ) (at v : ℕ) → set l at v ≡ splice l at (v ∷ [])
set-splice [] at v = refl
set-splice (x ∷ l) zero v = ap (λ r. v ∷ r) (sym (splice-nil l 0))
set-splice (x ∷ l) (suc at) v = ap (λ r. x ∷ r) (set-splice l at v)
