-- The arithmetic on words of 16 bits is that of document 01 at what registers give, and an invalid entry adds nothing
-- whatever it meets. Each fact over a range is one computed test.
use Rattle.std.proofs.Common.{◌≡◌, ℕ, suc, ◌+◌, ◌-◌, ◌*◌, ◌/◌, ◌%◌, ◌<◌, ◌≤◌, Bool, true, false, cond, not, ◌&&◌, eqb, ℤ, pos, ◌+ℤ◌, ◌*ℤ◌, nat_abs, refl, ap, ◌∙◌, mul-zero, zero-mul, arith}
use lib.IntN.{sub_ℕ}
use Rattle.lta_spec.specs.Shape.{peak}
use Rattle.lta_spec.specs.Tick.{nibble, both_valid, product, weight, turn, in_phase, quadrature}
use Rattle.lta_spec.specs.Row.{biased, from_word}
use Rattle.signal.specs.Signal.{
  sample_of,
  phase_of,
  valid_of,
  both_flag,
  times16,
  turned,
  turn_i,
  turn_q,
  weight_word,
  contribution,
}
use Rattle.signal.proofs.Below.{le_below, eq_z-below}

-- a sample of 0 adds nothing but the bias, whatever it meets
pub zero-x : (p b q t : ℕ) → contribution 0 p b q t ≡ peak
unfolding contribution
zero-x p b q t = rw (zero-mul b, zero-mul (weight_word (turned p q t)))

pub zero-y : (a p q t : ℕ) → contribution a p 0 q t ≡ peak
unfolding contribution
zero-y a p q t = rw (mul-zero a, zero-mul (weight_word (turned p q t)))

-- the validity of two stored entries
pub flags-are : (x y : ℕ) → both_flag (valid_of x) (valid_of y) ≡ cond (both_valid (from_word x) (from_word y)) 1 0
unfolding from_word
flags-are x y = refl

-- the largest product
abbrev half : ℕ
half = peak / 2

-- a product as a word, by its distance from the least one
abbrev word : (u : ℕ) → ℕ
word u = (u + 65536 - half) % 65536

-- what it adds at the weight of d
abbrev term : (u d : ℕ) → ℕ
term u d = (times16 (word u) (weight_word (d * 4096)) + peak) % 65536

abbrev from_least : (a b : ℕ) → ℕ
from_least a b = (times16 a b + half) % 65536

-- the words of two valid samples
abbrev valid_product : (m n : ℕ) → ℕ
valid_product m n = from_least ((m + 65528) % 65536) ((n + 65528) % 65536)

-- the product of two stored entries, and what it adds at a weight
module _ (x y : ℕ) where
  u : ℕ
  u = from_least (sample_of x) (sample_of y)

  u-small : u ≤ peak
  unfolding u
  u-small = by_tests (eqb (valid_of x) 0) (eqb (valid_of y) 0)
    where
      by_tests : (p q : Bool)
          → from_least (cond p 0 ((x % 16 + 65528) % 65536)) (cond q 0 ((y % 16 + 65528) % 65536)) ≤ peak
      by_tests true q = rw (zero-mul (cond q 0 ((y % 16 + 65528) % 65536))) (omega arith)
      by_tests false true = rw (mul-zero ((x % 16 + 65528) % 65536)) (omega arith)
      by_tests false false =
          le_below 16 16 valid_product (λ a b. peak) tt (x % 16) (y % 16) (omega arith) (omega arith)

  word-is : times16 (sample_of x) (sample_of y) ≡ word u
  unfolding u
  word-is = omega arith

  product_is : sub_ℕ u half ≡ product (from_word x) (from_word y)
  unfolding u product from_word
  product_is = by_tests (eqb (valid_of x) 0) (eqb (valid_of y) 0)
    where
      by_tests : (p q : Bool)
          → sub_ℕ (from_least (cond p 0 ((x % 16 + 65528) % 65536)) (cond q 0 ((y % 16 + 65528) % 65536))) half
          ≡ cond (not p && not q) (nibble ((x % 16 + 8) % 16) *ℤ nibble ((y % 16 + 8) % 16)) (pos 0)
      by_tests true q = rw (zero-mul (cond q 0 ((y % 16 + 65528) % 65536)))
      by_tests false true = rw (mul-zero ((x % 16 + 65528) % 65536))
      by_tests false false =
          eq_z-below 16 16 (λ a b. sub_ℕ (valid_product a b) half)
          (λ a b. nibble ((a + 8) % 16) *ℤ nibble ((b + 8) % 16)) tt (x % 16) (y % 16) (omega arith) (omega arith)

  -- what two stored entries add, decoded
  abbrev pub adds : (t : ℕ) → ℕ
  adds t = contribution (sample_of x) (phase_of x) (sample_of y) (phase_of y) t

  module _ (t d : ℕ) (hd : d < 16) (e : turned (phase_of x) (phase_of y) t ≡ d * 4096) where
    adds-at : adds t ≡ term u d
    unfolding contribution
    adds-at = rw (e, word-is)

    adds-is : adds t ≡ biased (product (from_word x) (from_word y) *ℤ weight d)
    unfolding weight
    adds-is =
        adds-at
        ∙ ap nat_abs
        (eq_z-below (suc peak) 16 (λ u d. pos (term u d)) (λ u d. pos peak +ℤ (sub_ℕ u half *ℤ weight d)) tt u d
        (omega (arith, u-small)) hd
        ∙ ap (λ (p : ℤ). pos peak +ℤ (p *ℤ weight d)) product_is)

    adds-small : adds t ≤ 2 * peak
    adds-small =
        rw adds-at (le_below (suc peak) 16 term (λ u d. 2 * peak) tt u d (omega (arith, u-small)) hd)

  -- The tie: what they add to the I and Q sums is document 01's contribution with its bias, and a row has room for it.
  unturned : turned (phase_of x) (phase_of y) turn_i ≡ turn (from_word x) (from_word y) * 4096
  unfolding from_word
  unturned = omega arith

  turned-back : turned (phase_of x) (phase_of y) turn_q ≡ (turn (from_word x) (from_word y) + 12) % 16 * 4096
  unfolding from_word
  turned-back = omega arith

  pub in-phase-is : adds turn_i ≡ biased (in_phase (from_word x) (from_word y))
  unfolding in_phase
  in-phase-is = adds-is turn_i (turn (from_word x) (from_word y)) (omega arith) unturned

  pub in-phase-small : adds turn_i ≤ 2 * peak
  in-phase-small = adds-small turn_i (turn (from_word x) (from_word y)) (omega arith) unturned

  pub quadrature-is : adds turn_q ≡ biased (quadrature (from_word x) (from_word y))
  unfolding quadrature
  quadrature-is = adds-is turn_q ((turn (from_word x) (from_word y) + 12) % 16) (omega arith) turned-back

  pub quadrature-small : adds turn_q ≤ 2 * peak
  quadrature-small = adds-small turn_q ((turn (from_word x) (from_word y) + 12) % 16) (omega arith) turned-back
