-- Registers of n lags that are gathered and decoded.
use Rattle.std.proofs.Common.{◌≡◌, ℕ, ◌+◌, ◌-◌, ◌/◌, ◌%◌, ◌<◌, ◌≤◌, List, length, sym, ap, ap₂, ◌∙◌, arith}
use borrow.Author.Tests.{eq-eqb}
use Rattle.lta_spec.specs.Size.{depth}
use Rattle.lta_spec.specs.Words.{part}
use Rattle.lta_spec.proofs.WordLaws.{length_part}
use Rattle.signal.specs.Signal.{valid_sample, sample_of, phase_of, valid_of}
use Rattle.lag_registers.specs.Registers.{low_word, word, Decodes, entry_at, entry_back}
use Rattle.lag_registers.specs.Registers.{DecodedZero, Registers}

-- an entry lies in the low bits of its word
valid-low : (w : ℕ) → valid_of (w % 65536) ≡ valid_of w
valid-low w = omega arith

sample-low : (w : ℕ) → sample_of (w % 65536) ≡ sample_of w
sample-low w =
    let e : w % 65536 % 16 ≡ w % 16 = omega arith in
    ap₂ valid_sample (valid-low w) e

phase-low : (w : ℕ) → phase_of (w % 65536) ≡ phase_of w
phase-low w = omega arith

-- decoded from words of which only the low bits were kept
decodes-low : (v w : ℕ → ℕ) (m k : ℕ) (ws : List ℕ) → ((i : ℕ) → i < k → v i ≡ w i % 65536) → Decodes v m k ws
    → Decodes w m k ws
decodes-low v w m k ws same d =
    record {
      sample = λ i h. d.sample i h ∙ rw (same i h) (sample-low (w i));
      phase = λ i h. d.phase i h ∙ rw (same i h) (phase-low (w i));
      valid = λ i h. d.valid i h ∙ rw (same i h) (valid-low (w i));
    }

-- an entry that is decoded as invalid has a sample of 0
invalid-zero : (w : ℕ) → valid_of w ≡ 0 → sample_of w ≡ 0
invalid-zero w e = rw (eq-eqb (valid_of w) 0 e)

pub decoded-zero : DecodedZero
decoded-zero =
    record {
      zero = λ w m ws d.
          record {
            zero = λ i h e. d.sample i h ∙ invalid-zero (w i) (sym (d.valid i h) ∙ e);
          };
    }

-- gathered in us and vs from what was lent, and decoded there
module _ (l : List ℕ) (x y n : ℕ) where
  abbrev entries : (at : ℕ) → List ℕ
  entries at = part at (depth n) l

  pub registers-are : (us vs : List ℕ) {xs ys px py : List ℕ} → x + depth n ≤ length l → px ≡ entries x → py ≡ entries y
      → ((j : ℕ) → j < length px → word us j ≡ low_word px j)
      → ((j : ℕ) → j < length px → word vs j ≡ low_word py (length px - 1 - j))
      → Decodes (word us) (depth n) (depth n) xs → Decodes (word vs) (depth n) (depth n) ys → Registers l x y n xs ys
  registers-are us vs {xs} {ys} {px} x_in ex ey u-is v-is dx dy =
      let e : length px ≡ depth n = ap length ex ∙ length_part l x (depth n) x_in in
      record {
        x-is =
            decodes-low (word us) (entry_at l x n) (depth n) (depth n) xs
            (λ j h. u-is j (omega (arith, e)) ∙ ap (λ (ws : List ℕ). low_word ws j) ex)
            dx;
        y-is =
            decodes-low (word vs) (entry_back l y n) (depth n) (depth n) ys
            (λ j h.
            let q : length px - 1 - j ≡ n / 2 - j = omega (arith, e) in
            v-is j (omega (arith, e)) ∙ ap₂ low_word ey q)
            dy;
      }
