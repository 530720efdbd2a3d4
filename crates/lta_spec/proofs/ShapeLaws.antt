-- What a shape within its limits has.
use mathlib.Core.Path.{◌≡◌, refl}
use mathlib.Core.Bool.{Bool, true, false, ◌&&◌}
use mathlib.Core.List.{List, [], ◌∷◌}
use Prim.Native.Nat.{ℕ, zero, suc, ◌+◌, ◌*◌, ◌/◌, ◌%◌, ◌≤◌, ◌<◌}
use native.Mathlib.Nat.{mul-le-mul, mul-le-mul_right}
use native.Mathlib.Omega.{arith}
use lib.Dec.{leb, eqb}
use lib.ListN.{get_or}
use borrow.Author.Tests.{leb-true, eqb-true}
use Rattle.lta_spec.specs.Words.{all}
use Rattle.lta_spec.specs.Shape.{lag_count_ok, shape_tests, shape_ok}
use Rattle.lta_spec.specs.Size.{bin_words, cell_words}
use Rattle.lta_spec.specs.Call.{bin_index}
use Rattle.lta_spec.specs.declared.Shape.{Shape}
use Rattle.lta_spec.proofs.TestLaws.{and_both}

-- a list of tests and one of them
pub all-at : (bs : List Bool) → all bs ≡ true → (i : ℕ) → get_or bs i true ≡ true
all-at [] e i = refl
all-at (b ∷ bs) e zero = (and_both b (all bs) e).0
all-at (b ∷ bs) e (suc i) = all-at bs (and_both b (all bs) e).1 i

pub all-fails : (bs : List Bool) (i : ℕ) → get_or bs i true ≡ false → all bs ≡ false
all-fails [] i e = e
all-fails (b ∷ bs) zero e = rw e
all-fails (b ∷ bs) (suc i) e = rw (all-fails bs i e) (by-test b)
  where
    by-test : (b : Bool) → b && false ≡ false
    by-test true = refl
    by-test false = refl

pub record Shaped (sh : Shape) : Type 0 where
  pub some-cells : 1 ≤ sh.cells
  pub cells : sh.cells ≤ 16
  pub some-lags : 2 ≤ sh.lags
  pub lags : sh.lags ≤ 128
  pub even : sh.lags ≡ 2 * (sh.lags / 2)
  pub some-bins : 1 ≤ sh.bins
  pub bins : sh.bins ≤ 1000
  pub some-blocks : 1 ≤ sh.blocks
  pub blocks : sh.start + sh.blocks ≤ 256
  pub some-rate : 1 ≤ sh.rate
  pub rate : sh.rate ≤ 256000000
  pub second : sh.second ≤ 2147483647

pub shaped : (sh : Shape) → shape_ok sh ≡ true → Shaped sh
unfolding shape_ok lag_count_ok
shaped sh ok =
    let n = sh.lags in
    let at = all-at (shape_tests sh) ok in
    let lag = all-at (leb 2 n ∷ leb n 128 ∷ eqb (n % 2) 0 ∷ []) (at 2) in
    record {
      some-cells = leb-true _ _ (at 0);
      cells = leb-true _ _ (at 1);
      some-lags = leb-true _ _ (lag 0);
      lags = leb-true _ _ (lag 1);
      even = omega (arith, eqb-true (n % 2) 0 (lag 2));
      some-bins = leb-true _ _ (at 3);
      bins = leb-true _ _ (at 4);
      some-blocks = leb-true _ _ (at 5);
      blocks = leb-true _ _ (at 7);
      some-rate = leb-true _ _ (at 8);
      rate = leb-true _ _ (at 9);
      second = leb-true _ _ (at 10);
    }

-- how many words there are at most
pub cell-small : (n bins : ℕ) → n ≤ 128 → bins ≤ 1000 → cell_words n bins ≤ 600000
cell-small n bins h k =
    let m : 2 * bins * bin_words n ≤ 2000 * 261 = mul-le-mul {n₂ = 2000} {m₂ = 261} (omega arith) (omega arith) in
    omega arith

pub all_small : (sh : Shape) → Shaped sh → sh.cells * cell_words sh.lags sh.bins ≤ 16 * 600000
all_small sh s =
    mul-le-mul {n₂ = 16} {m₂ = 600000} s.cells (cell-small sh.lags sh.bins s.lags s.bins)

-- a bin that is named stands among the bins of both banks
pub index_below : (B bank bin : ℕ) → bank < 2 → bin < B → bin_index B bank bin < 2 * B
index_below B bank bin p q =
    let m : bank * B ≤ 1 * B = mul-le-mul_right B (omega arith) in omega arith
