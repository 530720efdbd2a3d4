-- One tick: the bounds of what it adds, and that the stored registers give what the samples give.
use Prim.Native.Nat.{ℕ, zero, suc, ◌+◌, ◌*◌, ◌-◌, ◌/◌, ◌%◌, ◌≤◌, ◌<◌}
use mathlib.Core.Path.{◌≡◌, refl, ap, ◌∙◌}
use mathlib.Core.Bool.{Bool, true, false, cond, not, ◌&&◌}
use mathlib.Core.List.{List, [], ◌∷◌}
use native.Mathlib.Nat.{mul-le-mul}
use native.Mathlib.Omega.{arith}
use lib.Dec.{T, leb, ltb, eqb, leb→le}
use lib.IntN.{ℤ, pos, negsuc, neg_ℤ, nat_abs, ◌+ℤ◌, ◌*ℤ◌, pos-*ℤ-pos, pos-*ℤ-negsuc, negsuc-*ℤ-pos, negsuc-*ℤ-negsuc}
use lib.ListN.{get_or}
use borrow.Author.Tests.{ltb-true, ltb-false, eqb-true, eqb-false, lt-ltb, le-ltb}
use Rattle.lta_spec.specs.Shape.{peak}
use Rattle.lta_spec.specs.Tick.{x_delay, y_delay, both_valid}
use Rattle.lta_spec.specs.Tick.{Sample, Entry, nibble, from_sample, product, weights, weight, in_phase, quadrature}
use Rattle.lta_spec.specs.Row.{biased, entry_word, from_word, entry_ok}
use Rattle.lta_spec.proofs.TestLaws.{bit-small, and_left, and_right}

-- the size of a product of whole numbers is the product of their sizes
size-neg : (n : ℕ) → nat_abs (neg_ℤ (pos n)) ≡ n
size-neg zero = refl
size-neg (suc n) = refl

pub size-mul : (a b : ℤ) → nat_abs (a *ℤ b) ≡ nat_abs a * nat_abs b
size-mul (pos m) (pos n) = ap nat_abs (pos-*ℤ-pos m n)
size-mul (pos m) (negsuc n) = ap nat_abs (pos-*ℤ-negsuc m n) ∙ size-neg (m * suc n)
size-mul (negsuc m) (pos n) = ap nat_abs (negsuc-*ℤ-pos m n) ∙ size-neg (suc m * n)
size-mul (negsuc m) (negsuc n) = ap nat_abs (negsuc-*ℤ-negsuc m n)

-- a test that holds of every entry of a list of whole numbers
abbrev all_within : ℕ → List ℤ → Bool
all_within b [] = true
all_within b (z ∷ zs) = leb (nat_abs z) b && all_within b zs

within-at : (b : ℕ) (zs : List ℤ) → T (all_within b zs) → (k : ℕ) → nat_abs (get_or zs k (pos 0)) ≤ b
within-at b [] t k = omega arith
within-at b (z ∷ zs) t zero = leb→le (nat_abs z) b (and_left (leb (nat_abs z) b) (all_within b zs) t)
within-at b (z ∷ zs) t (suc k) = within-at b zs (and_right (leb (nat_abs z) b) (all_within b zs) t) k

pub weight-bound : (d : ℕ) → nat_abs (weight d) ≤ 2
unfolding weight
weight-bound d = within-at 2 weights tt d

-- a sample is -8 to 7, a phase 0 to 15
pub record Sampled (e : Entry) : Type 0 where
  pub small : nat_abs e.sample ≤ 8
  pub phase : e.phase < 16

nibble-small : (n : ℕ) → n < 16 → nat_abs (nibble n) ≤ 8
nibble-small n h = by-test (ltb n 8) refl
  where
    by-test : (q : Bool) → ltb n 8 ≡ q → nat_abs (cond q (pos n) (negsuc (15 - n))) ≤ 8
    by-test true e = omega (arith, ltb-true n 8 e)
    by-test false e = omega (arith, ltb-false n 8 e)

pub sample-small : (s : Sample) → Sampled (from_sample s)
unfolding from_sample
sample-small s = record { small = nibble-small (s.byte % 16) (omega arith); phase = omega arith }

product-bound : (x y : Entry) → Sampled x → Sampled y → nat_abs (product x y) ≤ peak / 2
unfolding product
product-bound x y p q = by-test (both_valid x y)
  where
    by-test : (valid : Bool) → nat_abs (cond valid (x.sample *ℤ y.sample) (pos 0)) ≤ peak / 2
    by-test true = rw (size-mul x.sample y.sample) (mul-le-mul p.small q.small)
    by-test false = omega arith

-- what one tick adds to a sum is at most the peak in size
weighted-bound : (x y : Entry) → Sampled x → Sampled y → (d : ℕ) → nat_abs (product x y *ℤ weight d) ≤ peak
weighted-bound x y p q d =
    rw (size-mul (product x y) (weight d)) (mul-le-mul (product-bound x y p q) (weight-bound d))

pub in_phase-bound : (x y : Entry) → Sampled x → Sampled y → nat_abs (in_phase x y) ≤ peak
unfolding in_phase
in_phase-bound x y p q = weighted-bound x y p q _

pub quadrature-bound : (x y : Entry) → Sampled x → Sampled y → nat_abs (quadrature x y) ≤ peak
unfolding quadrature
quadrature-bound x y p q = weighted-bound x y p q _

-- the biased number of a small one, and its ceiling
pub biased-is : (z : ℤ) → nat_abs z ≤ peak → pos (biased z) ≡ pos peak +ℤ z
biased-is (pos n) h = refl
biased-is (negsuc n) h =
    rw (le-ltb peak (suc n) h)

-- the parts of a stored entry: sample + 8, phase, validity
pub low_digit : (c h v : ℕ) → c < 16 → (c + 16 * h + 256 * v) % 16 ≡ c
low_digit c h v l = omega arith

pub high_digit : (c h v : ℕ) → c < 16 → h < 16 → (c + 16 * h + 256 * v) / 16 % 16 ≡ h
high_digit c h v l k = omega arith

bit-digit : (c h v : ℕ) → c < 16 → h < 16 → v < 2 → (c + 16 * h + 256 * v) / 256 % 2 ≡ v
bit-digit c h v l k m = omega arith

pub twice-eight : (a : ℕ) → a < 16 → ((a + 8) % 16 + 8) % 16 ≡ a
twice-eight a l = omega arith

-- a sample as it is stored
abbrev pub stored_entry : Sample → ℕ
stored_entry s = entry_word s.byte (cond s.valid 1 0)

pub bit_is : (v : ℕ) → v % 2 ≡ cond (eqb (v % 2) 1) 1 0
bit_is v = by-test (eqb (v % 2) 1) refl
  where
    by-test : (q : Bool) → eqb (v % 2) 1 ≡ q → v % 2 ≡ cond q 1 0
    by-test true e = eqb-true (v % 2) 1 e
    by-test false e = let n : (v % 2 ≡ 1) → ⊥ = eqb-false (v % 2) 1 e in omega arith

bit-back : (valid : Bool) → not (eqb (cond valid 1 0) 0) ≡ valid
bit-back true = refl
bit-back false = refl

-- a stored entry is one that a register may have, and gives what its sample gives
pub entry-ok : (byte bit : ℕ) → bit < 2 → entry_ok (entry_word byte bit) ≡ true
entry-ok byte bit h = lt-ltb (entry_word byte bit) 512 (omega arith)

pub entry-is : (s : Sample) → from_word (stored_entry s) ≡ from_sample s
unfolding from_word from_sample
entry-is s =
    let c : ℕ = (s.byte % 16 + 8) % 16 in
    let h : ℕ = s.byte / 16 % 16 in
    let v : ℕ = cond s.valid 1 0 in
    rw (
      low_digit c h v (omega arith),
      high_digit c h v (omega arith) (omega arith),
      bit-digit c h v (omega arith) (omega arith) (bit-small s.valid),
      twice-eight (s.byte % 16) (omega arith),
      bit-back s.valid,
    )

-- "so the relative delay is k - N/2 and lag N/2 is the centre": X at lag k is k - N/2 ticks older than Y
pub relative-delay : (total first k : ℕ) → first + k ≤ total
    → x_delay first k + total / 2 ≡ y_delay total first k + (first + k)
relative-delay total first k h = omega arith

pub centre-delay : (n : ℕ) → x_delay 0 (n / 2) ≡ y_delay n 0 (n / 2)
centre-delay n = omega arith
