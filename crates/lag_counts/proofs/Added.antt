-- Laws of words that are added to a row: one more, and three counts.
use mathlib.Core.Path.{◌≡◌, sym, ap, ◌∙◌}
use mathlib.Core.List.{List, [], ◌∷◌}
use Prim.Native.Nat.{ℕ, suc, ◌+◌, ◌<◌, ◌≤◌}
use native.Mathlib.Nat.{add-zero}
use native.Mathlib.Omega.{arith}
use lib.ListN.{length, get_or, set, take}
use lib.Seq.{take-suc, length-take-le}
use Rattle.lta_spec.specs.Words.{part, splice, sums}
use Rattle.lta_spec.proofs.WordLaws.{set-splice-next, length-sums, sums_next, length_part, part-next}
use Rattle.lta_spec.proofs.WordLaws.{part-zero, splice-nil}

pub length-added : (l t : List ℕ) (at i : ℕ) → at + i ≤ length l → i ≤ length t
    → length (sums (part at i l) (take i t)) ≡ i
length-added l t at i h k =
    let e : length (part at i l) ≡ i = length_part l at i h in
    length-sums (part at i l) (take i t) (e ∙ sym (length-take-le i t k)) ∙ e

-- one sum more
pub added_next : (l t : List ℕ) (at i : ℕ) → at + i < length l → i < length t
    → set (splice l at (sums (part at i l) (take i t))) (at + i) (get_or l (at + i) 0 + get_or t i 0)
    ≡ splice l at (sums (part at (suc i) l) (take (suc i) t))
added_next l t at i h k =
    let x : ℕ = get_or l (at + i) 0 in
    let xs : List ℕ = part at i l in
    let ys : List ℕ = take i t in
    let e : length (sums xs ys) ≡ i = length-added l t at i (omega arith) (omega arith) in
    let same : length xs ≡ length ys =
    length_part l at i (omega arith) ∙ sym (length-take-le i t (omega arith)) in
    rw e at (set-splice-next l at (sums xs ys) (x + get_or t i 0))
    ∙ ap (λ (r : List ℕ). splice l at r)
    (rw (part-next l at i, take-suc t i 0) (sym (sums_next xs ys x (get_or t i 0) same)))

-- three counts
pub counts-added : (l : List ℕ) (to a b c : ℕ) → to + 3 ≤ length l
    → set (set (set l to (get_or l to 0 + a)) (to + 1) (get_or l (to + 1) 0 + b)) (to + 2) (get_or l (to + 2) 0 + c)
    ≡ splice l to (sums (part to 3 l) (a ∷ b ∷ c ∷ []))
counts-added l to a b c h =
    let t : List ℕ = a ∷ b ∷ c ∷ [] in
    let first : set l to (get_or l to 0 + a) ≡ splice l to (sums (part to 1 l) (take 1 t)) =
    rw (part-zero, splice-nil l to, add-zero) at (added_next l t to 0 (omega arith) (omega arith)) in
    rw (first, added_next l t to 1 (omega arith) (omega arith)) (added_next l t to 2 (omega arith) (omega arith))
