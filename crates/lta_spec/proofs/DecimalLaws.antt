-- Decimal numbers: one digit after the other, how many there are, and the number that is read back.
use Prim.Native.Nat.{ℕ, zero, suc, ◌+◌, ◌*◌, ◌-◌, ◌/◌, ◌%◌, ◌^◌, ◌≤◌, ◌<◌}
use mathlib.Core.Path.{◌≡◌, refl, ap, ◌∙◌}
use mathlib.Core.Bool.{Bool, true, false, cond}
use mathlib.Core.List.{List, [], ◌∷◌, ◌++◌}
use native.Mathlib.Nat.{not-suc-le-zero, pow-suc}
use native.Mathlib.Omega.{arith}
use lib.Dec.{ltb, eqb}
use lib.ListN.{length, replicate, length-append, length-replicate}
use borrow.Author.Tests.{ltb-true, ltb-false, lt-ltb, le-ltb, ne_eqb}
use Rattle.lta_spec.specs.Decimal.{space, digit, decimal_within, decimal, right_aligned, read_behind, read_number}

-- more digits than are needed make no difference
enough : (m k n : ℕ) → n < m → n < k → decimal_within m n ≡ decimal_within k n
unfolding decimal_within
enough zero k n h j = absurd (not-suc-le-zero h)
enough (suc m) zero n h j = absurd (not-suc-le-zero j)
enough (suc m) (suc k) n h j = by-test (ltb n 10) refl (enough m k (n / 10))
  where
    by-test : (b : Bool) → ltb n 10 ≡ b
        → (n / 10 < m → n / 10 < k → decimal_within m (n / 10) ≡ decimal_within k (n / 10))
        → cond b (digit n ∷ []) (decimal_within m (n / 10) ++ digit (n % 10) ∷ [])
        ≡ cond b (digit n ∷ []) (decimal_within k (n / 10) ++ digit (n % 10) ∷ [])
    by-test true e ih = refl
    by-test false e ih =
        let many : 10 ≤ n = ltb-false n 10 e in
        ap (λ l. l ++ digit (n % 10) ∷ []) (ih (omega arith) (omega arith))

-- one digit
one-within : (m n : ℕ) → n < 10 → decimal_within (suc m) n ≡ digit n ∷ []
unfolding decimal_within
one-within m n h = rw (lt-ltb n 10 h)

pub decimal-one : (n : ℕ) → n < 10 → decimal n ≡ digit n ∷ []
unfolding decimal
decimal-one n h = one-within n n h

-- a digit behind those of the tenth part
next-within : (m n : ℕ) → 10 ≤ n → decimal_within (suc m) n ≡ decimal_within m (n / 10) ++ digit (n % 10) ∷ []
unfolding decimal_within
next-within m n h = rw (le-ltb n 10 h)

pub decimal-next : (n : ℕ) → 10 ≤ n → decimal n ≡ decimal (n / 10) ++ digit (n % 10) ∷ []
unfolding decimal
decimal-next n h =
    next-within n n h
    ∙ ap (λ l. l ++ digit (n % 10) ∷ []) (enough n (suc (n / 10)) (n / 10) (omega arith) (omega arith))

-- some digit, and no more than w where the number is below 10^w
pub some-digit : (n : ℕ) → 1 ≤ length (decimal n)
some-digit n = by-test (ltb n 10) refl
  where
    by-test : (b : Bool) → ltb n 10 ≡ b → 1 ≤ length (decimal n)
    by-test true e = rw (decimal-one n (ltb-true n 10 e)) (omega arith)
    by-test false e =
        rw (decimal-next n (ltb-false n 10 e)) (omega (arith, length-append (decimal (n / 10)) (digit (n % 10) ∷ [])))

pub few-digits : (w n : ℕ) → n < 10 ^ suc w → length (decimal n) ≤ suc w
few-digits zero n h = rw (decimal-one n h) (omega arith)
few-digits (suc w) n h = by-test (ltb n 10) refl (few-digits w (n / 10))
  where
    by-test : (b : Bool) → ltb n 10 ≡ b → (n / 10 < 10 ^ suc w → length (decimal (n / 10)) ≤ suc w)
        → length (decimal n) ≤ suc (suc w)
    by-test true e ih = rw (decimal-one n (ltb-true n 10 e)) (omega arith)
    by-test false e ih =
        rw (decimal-next n (ltb-false n 10 e))
        (omega (
          arith,
          length-append (decimal (n / 10)) (digit (n % 10) ∷ []),
          ih (omega (arith, pow-suc 10 (suc w))),
        ))

-- columns that are wide enough
pub length-right : (w n : ℕ) → length (decimal n) ≤ w → length (right_aligned w n) ≡ w
unfolding right_aligned
length-right w n h =
    length-append (replicate (w - length (decimal n)) space) (decimal n)
    ∙ omega (arith, length-replicate (w - length (decimal n)) space)

-- what is read of bytes behind others
read-append : (v : ℕ) (a b : List ℕ) → read_behind v (a ++ b) ≡ read_behind (read_behind v a) b
unfolding read_behind
read-append v [] b = refl
read-append v (x ∷ a) b = read-append (cond (eqb x space) v (10 * v + (x - digit 0))) a b

read-digit : (v d : ℕ) → read_behind v (digit d ∷ []) ≡ 10 * v + d
unfolding read_behind
read-digit v d = rw (ne_eqb (digit d) space (omega arith)) (omega arith)

read-within : (m n : ℕ) → n < m → read_number (decimal_within m n) ≡ n
read-within zero n h = absurd (not-suc-le-zero h)
read-within (suc m) n h = by-test (ltb n 10) refl (read-within m (n / 10))
  where
    by-test : (b : Bool) → ltb n 10 ≡ b → (n / 10 < m → read_number (decimal_within m (n / 10)) ≡ n / 10)
        → read_number (decimal_within (suc m) n) ≡ n
    by-test true e ih = rw (one-within m n (ltb-true n 10 e)) (read-digit 0 n ∙ omega arith)
    by-test false e ih =
        let many : 10 ≤ n = ltb-false n 10 e in
        rw (next-within m n many)
        (read-append 0 (decimal_within m (n / 10)) (digit (n % 10) ∷ [])
        ∙ read-digit _ (n % 10)
        ∙ omega (arith, ih (omega arith)))

read-spaces : (k v : ℕ) → read_behind v (replicate k space) ≡ v
unfolding read_behind
read-spaces zero v = refl
read-spaces (suc k) v = read-spaces k v

-- the digits are read back as the number, in columns too
pub read-decimal : (n : ℕ) → read_number (decimal n) ≡ n
unfolding decimal
read-decimal n = read-within (suc n) n (omega arith)

pub read_right : (w n : ℕ) → read_number (right_aligned w n) ≡ n
unfolding right_aligned
read_right w n =
    let k = w - length (decimal n) in
    read-append 0 (replicate k space) (decimal n)
    ∙ ap (λ v. read_behind v (decimal n)) (read-spaces k 0)
    ∙ read-decimal n
