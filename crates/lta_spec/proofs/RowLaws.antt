-- The row of a set of ticks: of none, of a join, of one tick; its columns and its limits; and the shift registers.
use Prim.Native.Nat.{ℕ, zero, suc, ◌+◌, ◌*◌, ◌-◌, ◌/◌, ◌≤◌, ◌<◌}
use mathlib.Core.Path.{◌≡◌, refl, sym, ap, ap₂, ◌∙◌}
use mathlib.Core.Bool.{true, false}
use mathlib.Core.List.{List, [], ◌∷◌, ◌++◌, map}
use native.Mathlib.Nat.{add_assoc}
use native.Mathlib.Omega.{arith}
use lib.IntN.{ℤ, pos, negsuc, nat_abs}
use lib.ListN.{length, get_or, take, drop, length-append, length-replicate, get_or-map}
use lib.Seq.{take-take, drop-append_seam, get_or-take, length-take-le}
use borrow.Author.Tests.{le-leb, leb-true, le-ltb}
use Rattle.lta_spec.specs.Shape.{peak}
use Rattle.lta_spec.specs.Size.{row_words, depth}
use Rattle.lta_spec.specs.Words.{sums, zeros, every}
use Rattle.lta_spec.specs.Tick.{Sample, Entry, from_sample, ago, x_delay, y_delay, lag_x, lag_y, in_phase, quadrature}
use Rattle.lta_spec.specs.Tick.{valid_at, in_phase_at, quadrature_at, centre_lag}
use Rattle.lta_spec.specs.Row.{ticks_of, edge_of, centre_of, empty_row, biased, lag_row, tick_row, sum_ok, row_ok}
use Rattle.lta_spec.specs.Row.{from_word, entry_ok}
use Rattle.lta_spec.specs.Machine.{Ticks}
use Rattle.lta_spec.specs.Numbers.{up_to}
use Rattle.lta_spec.proofs.TestLaws.{bit-small, both, and_both, and-le, every_take}
use Rattle.lta_spec.proofs.TickLaws.{Sampled, sample-small, in_phase-bound, quadrature-bound}
use Rattle.lta_spec.proofs.TickLaws.{stored_entry, entry-ok, entry-is}

-- sums of rows
pub sums-assoc : (a b c : List ℕ) → sums (sums a b) c ≡ sums a (sums b c)
sums-assoc [] b c = refl
sums-assoc (x ∷ a) [] c = refl
sums-assoc (x ∷ a) (y ∷ b) [] = refl
sums-assoc (x ∷ a) (y ∷ b) (z ∷ c) = ap₂ (λ n r. n ∷ r) (add_assoc x y z) (sums-assoc a b c)

pub zeros-sums : (n : ℕ) (b : List ℕ) → length b ≡ n → sums (zeros n) b ≡ b
zeros-sums zero [] e = refl
zeros-sums zero (y ∷ b) e = absurd (omega arith)
zeros-sums (suc n) [] e = absurd (omega arith)
zeros-sums (suc n) (y ∷ b) e = ap₂ (λ m r. m ∷ r) (omega arith) (zeros-sums n b (omega arith))

pub sums-zeros : (n : ℕ) (b : List ℕ) → length b ≡ n → sums b (zeros n) ≡ b
sums-zeros zero [] e = refl
sums-zeros zero (y ∷ b) e = absurd (omega arith)
sums-zeros (suc n) [] e = refl
sums-zeros (suc n) (y ∷ b) e = ap₂ (λ m r. m ∷ r) (omega arith) (sums-zeros n b (omega arith))

length-sums : (a b : List ℕ) (n : ℕ) → length a ≡ n → length b ≡ n → length (sums a b) ≡ n
length-sums [] b n e f = e
length-sums (x ∷ a) [] n e f = absurd (omega arith)
length-sums (x ∷ a) (y ∷ b) zero e f = absurd (omega arith)
length-sums (x ∷ a) (y ∷ b) (suc n) e f = ap suc (length-sums a b n (omega arith) (omega arith))

pub get_or-sums : (a b : List ℕ) (j : ℕ) → length a ≡ length b → get_or (sums a b) j 0 ≡ get_or a j 0 + get_or b j 0
get_or-sums [] [] j e = refl
get_or-sums [] (y ∷ b) j e = absurd (omega arith)
get_or-sums (x ∷ a) [] j e = absurd (omega arith)
get_or-sums (x ∷ a) (y ∷ b) zero e = refl
get_or-sums (x ∷ a) (y ∷ b) (suc j) e = get_or-sums a b j (omega arith)

drop-sums : (k : ℕ) (a b : List ℕ) → drop k (sums a b) ≡ sums (drop k a) (drop k b)
drop-sums zero a b = refl
drop-sums (suc k) [] b = refl
drop-sums (suc k) (x ∷ a) [] = by-list (drop k a)
  where
    by-list : (l : List ℕ) → [] ≡ sums l []
    by-list [] = refl
    by-list (x ∷ l) = refl
drop-sums (suc k) (x ∷ a) (y ∷ b) = drop-sums k a b

pub zero-at : (m d : ℕ) → get_or (zeros m) d 0 ≡ 0
zero-at zero d = refl
zero-at (suc m) zero = refl
zero-at (suc m) (suc d) = zero-at m d

-- a tick's row
length-lags : (n : ℕ) (xs ys : List Entry) (m k : ℕ) → length (lag_row n xs ys m k) ≡ 2 * m
length-lags n xs ys zero k = refl
length-lags n xs ys (suc m) k = omega (arith, length-lags n xs ys m (suc k))

pub length-tick : (n : ℕ) (xs ys : List Entry) → length (tick_row n xs ys) ≡ row_words n
unfolding tick_row
length-tick n xs ys = omega (arith, length-lags n xs ys n 0)

pub length-empty : (n : ℕ) → length (empty_row n) ≡ row_words n
length-empty n = length-replicate (row_words n) 0

-- the row of a set of ticks, under the samples of the accepted ticks
abbrev pub numbers : (n : ℕ) (xs ys : List Sample) → Ticks → List ℕ
numbers n xs ys [] = empty_row n
numbers n xs ys (i ∷ s) = sums (tick_row n (up_to xs i) (up_to ys i)) (numbers n xs ys s)

module _ (n : ℕ) (xs ys : List Sample) where
  pub length-numbers : (s : Ticks) → length (numbers n xs ys s) ≡ row_words n
  length-numbers [] = length-empty n
  length-numbers (i ∷ s) =
      length-sums (tick_row n (up_to xs i) (up_to ys i)) (numbers n xs ys s) (row_words n)
      (length-tick n (up_to xs i) (up_to ys i)) (length-numbers s)

  pub numbers-join : (a b : Ticks) → numbers n xs ys (a ++ b) ≡ sums (numbers n xs ys a) (numbers n xs ys b)
  numbers-join [] b = sym (zeros-sums (row_words n) (numbers n xs ys b) (length-numbers b))
  numbers-join (i ∷ a) b =
      ap (sums (tick_row n (up_to xs i) (up_to ys i))) (numbers-join a b)
      ∙ sym (sums-assoc (tick_row n (up_to xs i) (up_to ys i)) (numbers n xs ys a) (numbers n xs ys b))

  pub tick-apart : (i : ℕ) (s : Ticks) → length (tick_row n (up_to xs i) (up_to ys i)) ≡ length (numbers n xs ys s)
  tick-apart i s = length-tick n (up_to xs i) (up_to ys i) ∙ sym (length-numbers s)

  -- the ticks word of a set's row is its size
  pub numbers-size : (s : Ticks) → ticks_of (numbers n xs ys s) ≡ length s
  unfolding tick_row
  numbers-size [] = zero-at (row_words n) 0
  numbers-size (i ∷ s) =
      get_or-sums (tick_row n (up_to xs i) (up_to ys i)) (numbers n xs ys s) 0 (tick-apart i s)
      ∙ omega (arith, numbers-size s)

-- before tick 0 an invalid sample, whose entry is a cleared word
abbrev unsampled : Sample
unsampled = record { byte = 8; valid = false }

-- what stood d ticks ago, in samples and in a register
ago-sample : (l : List Sample) (d : ℕ) → ago (map from_sample l) d ≡ from_sample (get_or l d unsampled)
unfolding from_sample
ago-sample l d = get_or-map from_sample l d unsampled

-- a register after the samples: the newest entries, then cleared words
abbrev pub window : (n : ℕ) (taken : List Sample) → List ℕ
window n taken = take (depth n) (map stored_entry taken ++ zeros (depth n))

entry-ago : (l : List Sample) (m d : ℕ) → get_or (map stored_entry l ++ zeros m) d 0 ≡ stored_entry (get_or l d unsampled)
entry-ago [] m d = zero-at m d
entry-ago (x ∷ l) m zero = refl
entry-ago (x ∷ l) m (suc d) = entry-ago l m d

pub ago-window : (n : ℕ) (l : List Sample) (d : ℕ) → d < depth n
    → ago (map from_word (window n l)) d ≡ ago (map from_sample l) d
unfolding from_word
ago-window n l d h =
    get_or-map from_word (window n l) d 0
    ∙ ap from_word (get_or-take (depth n) (map stored_entry l ++ zeros (depth n)) d 0 h ∙ entry-ago l (depth n) d)
    ∙ entry-is (get_or l d unsampled)
    ∙ sym (ago-sample l d)

pub window-shift : (n : ℕ) (s : Sample) (l : List Sample)
    → take (depth n) (stored_entry s ∷ window n l) ≡ window n (s ∷ l)
window-shift n s l = by-depth (n / 2)
  where
    by-depth : (m : ℕ) → take (m + 1) (stored_entry s ∷ take (m + 1) (map stored_entry l ++ zeros (m + 1)))
        ≡ take (m + 1) (stored_entry s ∷ (map stored_entry l ++ zeros (m + 1)))
    by-depth m =
        let e : m + 1 ≡ suc m = omega arith in
        rw e (ap (λ r. stored_entry s ∷ r) (take-take m (suc m) (map stored_entry l ++ zeros (suc m)) (omega arith)))

-- two pasts that agree as far as the registers reach give one row
module _ (n : ℕ) (xs ys xs' ys' : List Entry)
    (p : (d : ℕ) → d < depth n → ago xs d ≡ ago xs' d) (q : (d : ℕ) → d < depth n → ago ys d ≡ ago ys' d) where
  x-same : (k : ℕ) → k < n → lag_x xs k ≡ lag_x xs' k
  x-same k h = p (x_delay 0 k) (omega arith)

  y-same : (k : ℕ) → lag_y n ys k ≡ lag_y n ys' k
  y-same k = q (y_delay n 0 k) (omega arith)

  in_phase-same : (k : ℕ) → k < n → in_phase_at n xs ys k ≡ in_phase_at n xs' ys' k
  unfolding in_phase_at
  in_phase-same k h = ap₂ in_phase (x-same k h) (y-same k)

  quadrature-same : (k : ℕ) → k < n → quadrature_at n xs ys k ≡ quadrature_at n xs' ys' k
  unfolding quadrature_at
  quadrature-same k h = ap₂ quadrature (x-same k h) (y-same k)

  lags-same : (m k : ℕ) → k + m ≤ n → lag_row n xs ys m k ≡ lag_row n xs' ys' m k
  lags-same zero k h = refl
  lags-same (suc m) k h =
      rw (in_phase-same k (omega arith), quadrature-same k (omega arith), lags-same m (suc k) (omega arith))

  pub row_same : 2 ≤ n → tick_row n xs ys ≡ tick_row n xs' ys'
  unfolding tick_row valid_at
  row_same h =
      rw (x-same 0 (omega arith), y-same 0, x-same (n / 2) (omega arith), y-same (n / 2), lags-same n 0 (omega arith))

-- one tick: the row of the newest, whatever comes later
up-to : (g h : List Sample) (s : Sample) → up_to (g ++ s ∷ h) (length h) ≡ map from_sample (s ∷ h)
unfolding up_to
up-to g h s =
    let e : length (g ++ s ∷ h) - suc (length h) ≡ length g = omega (arith, length-append g (s ∷ h)) in
    rw (e, drop-append_seam g (s ∷ h))

pub numbers-one : (n : ℕ) (gx hx gy hy : List Sample) (x y : Sample) (t : ℕ) → length hx ≡ t → length hy ≡ t
    → numbers n (gx ++ x ∷ hx) (gy ++ y ∷ hy) (t ∷ []) ≡ tick_row n (map from_sample (x ∷ hx)) (map from_sample (y ∷ hy))
numbers-one n gx hx gy hy x y t p q =
    let ex : up_to (gx ++ x ∷ hx) t ≡ map from_sample (x ∷ hx) = ap (up_to (gx ++ x ∷ hx)) (sym p) ∙ up-to gx hx x in
    let ey : up_to (gy ++ y ∷ hy) t ≡ map from_sample (y ∷ hy) = ap (up_to (gy ++ y ∷ hy)) (sym q) ∙ up-to gy hy y in
    rw (ex, ey) (sums-zeros (row_words n) _ (length-tick n (map from_sample (x ∷ hx)) (map from_sample (y ∷ hy))))

-- limits: what so many ticks can add up to
pub record Limited (t : ℕ) (row : List ℕ) : Type 0 where
  pub edge : edge_of row ≤ t
  pub centre : centre_of row ≤ t
  pub lags : every (sum_ok t) (drop 3 row) ≡ true

every-sums : (s t w : ℕ) → s + t ≡ w → (a b : List ℕ) → every (sum_ok s) a ≡ true → every (sum_ok t) b ≡ true
    → every (sum_ok w) (sums a b) ≡ true
every-sums s t w e [] b p q = refl
every-sums s t w e (x ∷ a) [] p q = refl
every-sums s t w e (x ∷ a) (y ∷ b) p q =
    let u = and_both (sum_ok s x) (every (sum_ok s) a) p in
    let v = and_both (sum_ok t y) (every (sum_ok t) b) q in
    both
    (le-leb (x + y) (2 * peak * w)
    (omega (arith, leb-true x (2 * peak * s) u.0, leb-true y (2 * peak * t) v.0)))
    (every-sums s t w e a b u.1 v.1)

biased-limit : (z : ℤ) → nat_abs z ≤ peak → sum_ok 1 (biased z) ≡ true
biased-limit z h = le-leb (biased z) (2 * peak * 1) (omega (arith, by_sign z h))
  where
    by_sign : (z : ℤ) → nat_abs z ≤ peak → biased z ≤ 2 * peak
    by_sign (pos n) h = omega arith
    by_sign (negsuc n) h = rw (le-ltb peak (suc n) h) (omega arith)

pub sampled : (l : List Sample) (d : ℕ) → Sampled (ago (map from_sample l) d)
sampled l d = rw (ago-sample l d) (sample-small (get_or l d unsampled))

module _ (n : ℕ) (xs ys : List Sample) where
  lags-limited : (m k : ℕ) → every (sum_ok 1) (lag_row n (map from_sample xs) (map from_sample ys) m k) ≡ true
  unfolding in_phase_at quadrature_at
  lags-limited zero k = refl
  lags-limited (suc m) k =
      let x = lag_x (map from_sample xs) k in
      let y = lag_y n (map from_sample ys) k in
      let p = sampled xs (x_delay 0 k) in
      let q = sampled ys (y_delay n 0 k) in
      both (biased-limit (in_phase x y) (in_phase-bound x y p q))
      (both (biased-limit (quadrature x y) (quadrature-bound x y p q)) (lags-limited m (suc k)))

  tick-limited : Limited 1 (tick_row n (map from_sample xs) (map from_sample ys))
  unfolding tick_row
  tick-limited =
      record {
        edge = omega (arith, bit-small (valid_at n (map from_sample xs) (map from_sample ys) 0));
        centre = omega (arith, bit-small (valid_at n (map from_sample xs) (map from_sample ys) (centre_lag n)));
        lags = lags-limited n 0;
      }

numbers-limited : (n : ℕ) (xs ys : List Sample) (s : Ticks) → Limited (length s) (numbers n xs ys s)
unfolding up_to
numbers-limited n xs ys [] =
    record {
      edge = omega (arith, zero-at (row_words n) 1);
      centre = omega (arith, zero-at (row_words n) 2);
      lags = cleared (row_words n) 3;
    }
  where
    cleared : (m k : ℕ) → every (sum_ok 0) (drop k (zeros m)) ≡ true
    cleared zero zero = refl
    cleared zero (suc k) = refl
    cleared (suc m) zero = cleared m zero
    cleared (suc m) (suc k) = cleared m k
numbers-limited n xs ys (i ∷ s) =
    let r = tick_row n (up_to xs i) (up_to ys i) in
    let t = tick-limited n (drop (length xs - suc i) xs) (drop (length ys - suc i) ys) in
    let u = numbers-limited n xs ys s in
    record {
      edge = omega (arith, get_or-sums r (numbers n xs ys s) 1 (tick-apart n xs ys i s), t.edge, u.edge);
      centre = omega (arith, get_or-sums r (numbers n xs ys s) 2 (tick-apart n xs ys i s), t.centre, u.centre);
      lags =
          ap (every (sum_ok (suc (length s)))) (drop-sums 3 r (numbers n xs ys s))
          ∙ every-sums 1 (length s) (suc (length s)) (omega arith) (drop 3 r) (drop 3 (numbers n xs ys s)) t.lags
          u.lags;
    }

pub row-ok : (n : ℕ) (xs ys : List Sample) (s : Ticks) (limit : ℕ) → length s ≤ limit
    → row_ok limit (numbers n xs ys s) ≡ true
unfolding row_ok
row-ok n xs ys s limit h =
    let l = numbers-limited n xs ys s in
    rw (
      numbers-size n xs ys s,
      le-leb (length s) limit h,
      le-leb (edge_of (numbers n xs ys s)) (length s) l.edge,
      le-leb (centre_of (numbers n xs ys s)) (length s) l.centre,
      l.lags,
    )

-- a row that passes its test
pub ticks-within : (limit : ℕ) (row : List ℕ) → row_ok limit row ≡ true → ticks_of row ≤ limit
unfolding row_ok
ticks-within limit row ok = (and-le (ticks_of row) limit _ ok).0

-- every entry of a register is one that a sample gives
pub window-ok : (n : ℕ) (l : List Sample) → every entry_ok (window n l) ≡ true
window-ok n l = every_take entry_ok (map stored_entry l ++ zeros (depth n)) (depth n) (whole l (depth n))
  where
    whole : (l : List Sample) (m : ℕ) → every entry_ok (map stored_entry l ++ zeros m) ≡ true
    whole [] zero = refl
    whole [] (suc m) = whole [] m
    whole (s ∷ l) m = both (entry-ok s.byte _ (bit-small s.valid)) (whole l m)

pub window-length : (n : ℕ) (l : List Sample) → length (window n l) ≡ depth n
window-length n l =
    length-take-le (depth n) (map stored_entry l ++ zeros (depth n))
    (omega (arith, length-append (map stored_entry l) (zeros (depth n)), length-replicate {A = ℕ} (depth n) 0))
