-- The bytes of a tick with X and Y exchanged: they are refused by the same number, and bring X what Y had, and Y what X
-- had.
use Prim.Native.Nat.{ℕ, zero, suc, ◌+◌, ◌*◌, ◌/◌, ◌%◌, ◌≤◌, ◌<◌}
use mathlib.Core.Path.{◌≡◌, refl, ap, ap₂}
use mathlib.Core.Bool.{Bool, true, false, ◌&&◌}
use mathlib.Core.List.{List, [], ◌∷◌}
use native.Mathlib.Omega.{arith}
use lib.Dec.{leb, eqb}
use lib.ListN.{length, get_or, drop}
use borrow.Author.Tests.{leb-true, leb-false, le-leb, lt-leb}
use Rattle.lta_spec.specs.Call.{samples_ok, validity_ok}
use Rattle.lta_spec.specs.Call.Call.{tick}
use Rattle.lta_spec.specs.Row.{entry_word, x_entry, y_entry}
use Rattle.lta_spec.specs.MachineRun.{x_sample, y_sample}
use Rattle.lta_spec.specs.Step as S
use Rattle.lta_spec.specs.Exchange.{bits_exchanged, exchanged, ByteExchange}
use Rattle.lta_spec.specs.declared.Shape.{Shape}

-- the bits of a validity byte: bit 0 is b, bit 1 is a, and the others are q
low_bit : (q a b : ℕ) → a < 2 → b < 2 → (4 * q + 2 * a + b) % 2 ≡ b
low_bit q a b h k = omega arith

next_bit : (q a b : ℕ) → a < 2 → b < 2 → (4 * q + 2 * a + b) / 2 % 2 ≡ a
next_bit q a b h k = omega arith

high_bits : (q a b : ℕ) → a < 2 → b < 2 → (4 * q + 2 * a + b) / 4 ≡ q
high_bits q a b h k = omega arith

module _ (v : ℕ) where
  first_bit : bits_exchanged v % 2 ≡ v / 2 % 2
  unfolding bits_exchanged
  first_bit = low_bit (v / 4) (v % 2) (v / 2 % 2) (omega arith) (omega arith)

  second-bit : bits_exchanged v / 2 % 2 ≡ v % 2
  unfolding bits_exchanged
  second-bit = next_bit (v / 4) (v % 2) (v / 2 % 2) (omega arith) (omega arith)

  other-bits : bits_exchanged v / 4 ≡ v / 4
  unfolding bits_exchanged
  other-bits = high_bits (v / 4) (v % 2) (v / 2 % 2) (omega arith) (omega arith)

-- a byte whose bits are those of v exchanged, exchanged again
bits_back : (v w : ℕ) → w / 4 ≡ v / 4 → w % 2 ≡ v / 2 % 2 → w / 2 % 2 ≡ v % 2 → bits_exchanged w ≡ v
unfolding bits_exchanged
bits_back v w q b a = rw (q, b, a) (omega arith)

bits-twice : (v : ℕ) → bits_exchanged (bits_exchanged v) ≡ v
bits-twice v = bits_back v (bits_exchanged v) (other-bits v) (first_bit v) (second-bit v)

bits-byte : (v : ℕ) → v < 256 → bits_exchanged v < 256
unfolding bits_exchanged
bits-byte v h = omega arith

-- 19: another bit is set in both or in neither
bits_small : (v : ℕ) → leb (bits_exchanged v) 3 ≡ leb v 3
bits_small v = by-test (bits_exchanged v) (other-bits v) (leb v 3) refl
  where
    by-test : (w : ℕ) → w / 4 ≡ v / 4 → (q : Bool) → leb v 3 ≡ q → leb w 3 ≡ q
    by-test w same true e = le-leb w 3 (omega (arith, leb-true v 3 e))
    by-test w same false e = lt-leb w 3 (omega (arith, leb-false v 3 e))

-- a cell's three bytes, in the plain machine and in a shift register
module _ (x y v : ℕ) (samples : List ℕ) where
  pub x-sample : x_sample (exchanged (x ∷ y ∷ v ∷ samples)) ≡ y_sample (x ∷ y ∷ v ∷ samples)
  unfolding exchanged
  x-sample = ap (λ b. record { byte = y; valid = eqb b 1 }) (first_bit v)

  pub y-sample : y_sample (exchanged (x ∷ y ∷ v ∷ samples)) ≡ x_sample (x ∷ y ∷ v ∷ samples)
  unfolding exchanged
  y-sample = ap (λ b. record { byte = x; valid = eqb b 1 }) (second-bit v)

entries : (c : ℕ) (samples : List ℕ) → 3 * suc c ≤ length samples
    → (x_entry (drop (3 * c) (exchanged samples)) ≡ y_entry (drop (3 * c) samples))
    × (y_entry (drop (3 * c) (exchanged samples)) ≡ x_entry (drop (3 * c) samples))
unfolding exchanged
entries c [] h = absurd (omega arith)
entries c (x ∷ []) h = absurd (omega arith)
entries c (x ∷ y ∷ []) h = absurd (omega arith)
entries zero (x ∷ y ∷ v ∷ samples) h = (ap (entry_word y) (first_bit v), ap (entry_word x) (second-bit v))
entries (suc c) (x ∷ y ∷ v ∷ samples) h =
    let next : 3 * suc c ≡ suc (suc (suc (3 * c))) = omega arith in rw next (entries c samples (omega arith))

-- the bytes of a tick
twice : (samples : List ℕ) → exchanged (exchanged samples) ≡ samples
unfolding exchanged
twice [] = refl
twice (x ∷ []) = refl
twice (x ∷ y ∷ []) = refl
twice (x ∷ y ∷ v ∷ samples) = ap₂ (λ b r. x ∷ y ∷ b ∷ r) (bits-twice v) (twice samples)

bytes : (samples : List ℕ) → ((i : ℕ) → get_or samples i 0 < 256) → (i : ℕ) → get_or (exchanged samples) i 0 < 256
unfolding exchanged
bytes [] h i = h i
bytes (x ∷ []) h i = h i
bytes (x ∷ y ∷ []) h zero = h 1
bytes (x ∷ y ∷ []) h (suc zero) = h 0
bytes (x ∷ y ∷ []) h (suc (suc i)) = h (suc (suc i))
bytes (x ∷ y ∷ v ∷ samples) h zero = h 1
bytes (x ∷ y ∷ v ∷ samples) h (suc zero) = h 0
bytes (x ∷ y ∷ v ∷ samples) h (suc (suc zero)) = bits-byte v (h 2)
bytes (x ∷ y ∷ v ∷ samples) h (suc (suc (suc i))) = bytes samples (λ j. h (suc (suc (suc j)))) i

length_exchanged : (samples : List ℕ) → length (exchanged samples) ≡ length samples
unfolding exchanged
length_exchanged [] = refl
length_exchanged (x ∷ []) = refl
length_exchanged (x ∷ y ∷ []) = refl
length_exchanged (x ∷ y ∷ v ∷ samples) = ap (λ k. suc (suc (suc k))) (length_exchanged samples)

-- 3 and 19 test them alike
pub samples-alike : (cells : ℕ) (samples : List ℕ) → samples_ok cells (exchanged samples) ≡ samples_ok cells samples
samples-alike cells samples = ap (λ k. eqb k (3 * cells)) (length_exchanged samples)

pub validity-alike : (cells : ℕ) (samples : List ℕ) → validity_ok cells (exchanged samples) ≡ validity_ok cells samples
unfolding validity_ok exchanged
validity-alike zero samples = refl
validity-alike (suc c) [] = refl
validity-alike (suc c) (x ∷ []) = refl
validity-alike (suc c) (x ∷ y ∷ []) = refl
validity-alike (suc c) (x ∷ y ∷ v ∷ samples) = ap₂ ◌&&◌ (bits_small v) (validity-alike c samples)

refusals : (sh : Shape) (mem samples : List ℕ)
    → S.verdict sh mem (tick (exchanged samples)) ≡ S.verdict sh mem (tick samples)
unfolding S.verdict
refusals sh mem samples = rw (samples-alike sh.cells samples, validity-alike sh.cells samples)

pub byte-exchange : ByteExchange
byte-exchange = record { twice = twice; bytes = bytes; refusals = refusals; entries = entries }
