-- The encoded clauses of 11 are document 01's: stored sums and their size, register entries and sampler bytes.
use Prim.Native.Nat.{ℕ, zero, suc, ◌+◌, ◌*◌, ◌-◌, ◌/◌, ◌%◌, ◌≤◌, ◌<◌}
use mathlib.Core.Path.{◌≡◌, refl, sym}
use mathlib.Core.Bool.{Bool, true, false, cond}
use mathlib.Core.List.{List, [], ◌∷◌}
use native.Mathlib.Omega.{arith}
use lib.Dec.{leb, ltb}
use lib.IntN.{pos, negsuc, nat_abs, ◌-ℤ◌}
use borrow.Author.Tests.{leb-true, leb-false, ltb-true, ltb-false, le-leb, lt-leb}
use Rattle.lta_spec.specs.Words.{every}
use Rattle.lta_spec.specs.Shape.{peak}
use Rattle.lta_spec.specs.Frame.{within}
use Rattle.lta_spec.specs.Row.{unbiased, row_lags, sum_ok}
use Rattle.lta_spec.specs.Encoding.{Gives, Encoding}
use Rattle.lta_spec.proofs.TickLaws.{low_digit, high_digit, twice-eight, entry-ok}

-- tests that pass together and fail together
same_test : (a b c d : ℕ) → (a ≤ b → c ≤ d) → (b < a → d < c) → leb a b ≡ leb c d
same_test a b c d f g = by-test (leb a b) refl
  where
    by-test : (t : Bool) → leb a b ≡ t → t ≡ leb c d
    by-test true e = sym (le-leb c d (f (leb-true a b e)))
    by-test false e = sym (lt-leb c d (g (leb-false a b e)))

-- a stored number is as far from its bias as the number without its bias is from 0
size-sub : (stored bias : ℕ) → leb stored (2 * bias) ≡ leb (nat_abs (pos stored -ℤ pos bias)) bias
size-sub stored zero = same_test stored (2 * 0) (stored + 0) 0 (λ h. omega arith) (λ h. omega arith)
size-sub stored (suc b) = by-test (ltb stored (suc b)) refl
  where
    by-test : (t : Bool) → ltb stored (suc b) ≡ t
        → leb stored (2 * suc b) ≡ leb (nat_abs (cond t (negsuc (suc b - suc stored)) (pos (stored - suc b)))) (suc b)
    by-test true e =
        let l = ltb-true stored (suc b) e in
        same_test stored (2 * suc b) (suc (suc b - suc stored)) (suc b) (λ h. omega arith) (λ h. omega arith)
    by-test false e =
        let l = ltb-false stored (suc b) e in
        same_test stored (2 * suc b) (stored - suc b) (suc b) (λ h. omega arith) (λ h. omega arith)

pub sum-within : (ticks stored : ℕ) → sum_ok ticks stored ≡ within (peak * ticks) (unbiased ticks stored)
sum-within ticks stored =
    let e : 2 * peak * ticks ≡ 2 * (peak * ticks) = omega arith in
    rw e (size-sub stored (peak * ticks))

-- of all sums of a row
pub sums-within : (ticks : ℕ) (ws : List ℕ)
    → every (sum_ok ticks) ws ≡ every (within (peak * ticks)) (row_lags ticks ws)
sums-within ticks [] = refl
sums-within ticks (w ∷ ws) = rw (sum-within ticks w, sums-within ticks ws)

-- the byte and the validity bit that a word was stored from
from-word : (w : ℕ) → w < 512 → Gives w
from-word w h =
    let c : ℕ = (w % 16 + 8) % 16 in
    let low : c < 16 = omega arith in
    record {
      byte = c + 16 * (w / 16 % 16) + 256 * 0;
      bit = w / 256;
      small = omega arith;
      either = omega arith;
      stored =
          rw (
            low_digit c (w / 16 % 16) 0 low,
            high_digit c (w / 16 % 16) 0 low (omega arith),
            twice-eight (w % 16) (omega arith),
          )
          (omega arith);
    }

pub encoding : Encoding
encoding =
    record {
      sums = sum-within;
      frame-sums = omega arith;
      loss-sums = omega arith;
      entries = λ w e. from-word w (ltb-true w 512 e);
      bytes = λ w g. rw (← g.stored) (entry-ok g.byte g.bit g.either);
    }
