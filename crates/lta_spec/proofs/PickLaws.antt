-- Searches that go round: where one ends, and that the engine's ends where the machine's does.
use Prim.Native.Nat.{ℕ, zero, suc, ◌+◌, ◌*◌, ◌-◌, ◌/◌, ◌%◌, ◌≤◌, ◌<◌}
use mathlib.Core.Path.{◌≡◌, refl, sym, ap, ◌∙◌, subst}
use mathlib.Core.Bool.{Bool, true, false, cond}
use mathlib.Core.List.{List, [], ◌++◌, append-nil}
use native.Mathlib.Nat.{mod_self, mod-eq_of_lt, mod-eq-sub-mod, mod-lt, div-eq_of_lt, div-eq-sub-div, div-add-mod'}
use native.Mathlib.Omega.{arith}
use lib.Dec.{leb, ltb}
use borrow.Author.Tests.{leb-true, leb-false, ltb-true, ltb-false, le-leb, lt-leb, lt-ltb, le-ltb}
use Rattle.lta_spec.specs.Words.{numbers_from}
use Rattle.lta_spec.specs.Call.{bin_index}
use Rattle.lta_spec.specs.Machine as M
use Rattle.lta_spec.specs.Machine.{Latest}
use Rattle.lta_spec.specs.Machine.Latest.{none, was}
use Rattle.lta_spec.specs.Engine as E
use Rattle.lta_spec.specs.Demand.{place_after}
use Rattle.lta_spec.specs.Fairness.{places_ahead}

-- there are so many places, and the latest is one of them
abbrev pub Among : (size : ℕ) → Latest → Type 0
Among size none = 0 < size
Among size (was k) = k < size

-- the place that the engine stores for it
abbrev pub next_of : (size : ℕ) → Latest → ℕ
next_of size none = 0
next_of size (was k) = E.after size k

pub after-below : (n k : ℕ) → k < n → E.after n k < n
after-below n k h = by-test (ltb (suc k) n) refl
  where
    by-test : (b : Bool) → ltb (suc k) n ≡ b → cond b (suc k) 0 < n
    by-test true e = ltb-true (suc k) n e
    by-test false e = omega arith

pub next-below : (n : ℕ) (l : Latest) → Among n l → next_of n l < n
next-below n none a = a
next-below n (was k) a = after-below n k a

-- as demand 3 says it
pub place_after_lem : (n : ℕ) (l : Latest) → Among n l → next_of n l ≡ place_after n l
place_after_lem n none a = refl
place_after_lem n (was k) a = by-test (ltb (suc k) n) refl
  where
    by-test : (b : Bool) → ltb (suc k) n ≡ b → cond b (suc k) 0 ≡ suc k % n
    by-test true e = sym (mod-eq_of_lt (ltb-true (suc k) n e))
    by-test false e =
        let last : n ≡ suc k = omega (arith, ltb-false (suc k) n e) in
        subst (λ m. 0 ≡ suc k % m) (sym last) (sym (mod_self (suc k)))

-- the places from p on that a search comes to before k
abbrev ahead : (n p k : ℕ) → ℕ
ahead n p k = cond (leb p k) (k - p) (n - p + k)

module _ (n p k : ℕ) where
  ahead-up : p ≤ k → ahead n p k ≡ k - p
  ahead-up h = rw (le-leb p k h)

  ahead-round : k < p → ahead n p k ≡ n - p + k
  ahead-round h = rw (lt-leb p k h)

-- one place less from the next place on
ahead-next : (n p k : ℕ) → p < n → k < n → (p ≡ k → ⊥) → ahead n p k ≡ suc (ahead n (E.after n p) k)
ahead-next n p k hp hk ne = by-test (ltb (suc p) n) (leb p k) refl refl
  where
    by-test : (a b : Bool) → ltb (suc p) n ≡ a → leb p k ≡ b
        → cond b (k - p) (n - p + k) ≡ suc (ahead n (cond a (suc p) 0) k)
    by-test true true a b =
        let le = leb-true p k b in
        let up = ahead-up n (suc p) k (omega arith) in
        omega arith
    by-test true false a b =
        let lt = leb-false p k b in
        let in-n = ltb-true (suc p) n a in
        let round = ahead-round n (suc p) k (omega arith) in
        omega arith
    by-test false true a b =
        let le = leb-true p k b in
        let end = ltb-false (suc p) n a in
        absurd (omega arith)
    by-test false false a b =
        let end = ltb-false (suc p) n a in
        let up = ahead-up n 0 k (omega arith) in
        omega arith

-- from the place behind the latest
ahead-is : (n : ℕ) (l : Latest) (k : ℕ) → Among n l → k < n → places_ahead n l k ≡ ahead n (next_of n l) k
ahead-is n none k a h = let up = ahead-up n 0 k (omega arith) in omega arith
ahead-is n (was j) k a h = by-test (ltb (suc j) n) (ltb j k) refl refl
  where
    by-test : (x y : Bool) → ltb (suc j) n ≡ x → ltb j k ≡ y
        → cond y (k - suc j) (n - suc j + k) ≡ ahead n (cond x (suc j) 0) k
    by-test true true x y = sym (ahead-up n (suc j) k (ltb-true j k y))
    by-test true false x y =
        let le = ltb-false j k y in sym (ahead-round n (suc j) k (omega arith))
    by-test false true x y =
        let lt = ltb-true j k y in
        let end = ltb-false (suc j) n x in
        absurd (omega arith)
    by-test false false x y =
        let end = ltb-false (suc j) n x in
        let up = ahead-up n 0 k (omega arith) in
        omega arith

pub ahead-below : (n : ℕ) (l : Latest) (k : ℕ) → Among n l → k < n → places_ahead n l k < n
ahead-below n none k a h = h
ahead-below n (was j) k a h = by-test (ltb j k) refl
  where
    by-test : (b : Bool) → ltb j k ≡ b → cond b (k - suc j) (n - suc j + k) < n
    by-test true e = omega (arith, ltb-true j k e)
    by-test false e = omega (arith, ltb-false j k e)

-- where a search from place p ends that comes to place k, for which f holds: at k, or nearer to k from there on
record Ends (f : ℕ → Bool) (n p k s : ℕ) : Type 0 where
  inside : s < n
  holds : f s ≡ true
  nearer : (s ≡ k → ⊥) → suc (ahead n (E.after n s) k) ≤ ahead n p k

-- f holds for k and not for p
apart : (f : ℕ → Bool) (p k : ℕ) → f k ≡ true → f p ≡ false → p ≡ k → ⊥
apart f p k holds fails same =
    let z : ◌≡◌ {A = Bool} true false = sym holds ∙ ap f (sym same) ∙ fails in
    let y : ◌≡◌ {A = ℕ} 0 1 = cc in
    omega arith

ends : (f : ℕ → Bool) (n more p k : ℕ) → p < n → k < n → f k ≡ true → ahead n p k < more
    → Ends f n p k (E.seek f n more p)
unfolding E.seek
ends f n zero p k hp hk holds far = absurd (omega arith)
ends f n (suc more) p k hp hk holds far =
    by-test (f p) refl (ends f n more (E.after n p) k (after-below n p hp) hk holds)
  where
    by-test : (b : Bool) → f p ≡ b
        → (ahead n (E.after n p) k < more → Ends f n (E.after n p) k (E.seek f n more (E.after n p)))
        → Ends f n p k (cond b p (E.seek f n more (E.after n p)))
    by-test true e later =
        record { inside = hp; holds = e; nearer = λ ne. omega (arith, ahead-next n p k hp hk ne) }
    by-test false e later =
        let step = ahead-next n p k hp hk (apart f p k holds e) in
        let x = later (omega arith) in
        record { inside = x.inside; holds = x.holds; nearer = λ ne. omega (arith, x.nearer ne) }

-- so a search over all places ends at one for which f holds
pub seek-holds : (f : ℕ → Bool) (n p k : ℕ) → p < n → k < n → f k ≡ true
    → (E.seek f n n p < n) × (f (E.seek f n n p) ≡ true)
seek-holds f n p k hp hk holds =
    let x = ends f n n p k hp hk holds (by-test (leb p k) refl) in (x.inside, x.holds)
  where
    by-test : (b : Bool) → leb p k ≡ b → cond b (k - p) (n - p + k) < n
    by-test true e = omega arith
    by-test false e = omega (arith, leb-false p k e)

-- a search never leaves the places, and asks f for them alone
pub seek-below : (f : ℕ → Bool) (n more p : ℕ) → p < n → E.seek f n more p < n
unfolding E.seek
seek-below f n zero p h = h
seek-below f n (suc more) p h = by-test (f p) (seek-below f n more (E.after n p) (after-below n p h))
  where
    by-test : (b : Bool) → E.seek f n more (E.after n p) < n → cond b p (E.seek f n more (E.after n p)) < n
    by-test true later = h
    by-test false later = later

pub seek-as : (f g : ℕ → Bool) (n more p : ℕ) → p < n → ((k : ℕ) → k < n → f k ≡ g k)
    → E.seek f n more p ≡ E.seek g n more p
unfolding E.seek
seek-as f g n zero p h same = refl
seek-as f g n (suc more) p h same =
    rw (same p h) (ap (cond (g p) p) (seek-as f g n more (E.after n p) (after-below n p h) same))

-- one step of a search, as a loop makes it
module _ (f : ℕ → Bool) (n : ℕ) where
  -- f holds here
  pub seek-here : (more k : ℕ) → 0 < more → f k ≡ true → E.seek f n more k ≡ k
  unfolding E.seek
  seek-here zero k h e = absurd (omega arith)
  seek-here (suc more) k h e = rw e

  -- it does not, and the search goes on
  pub seek-on : (more k : ℕ) → 0 < more → f k ≡ false → E.seek f n more k ≡ E.seek f n (more - 1) (E.after n k)
  unfolding E.seek
  seek-on zero k h e = absurd (omega arith)
  seek-on (suc more) k h e =
      let less : more ≡ suc more - 1 = omega arith in rw e (ap (λ m. E.seek f n m (E.after n k)) less)

  -- no place is left
  pub seek-end : (more k : ℕ) → more ≤ 0 → E.seek f n more k ≡ k
  unfolding E.seek
  seek-end zero k h = refl
  seek-end (suc more) k h = absurd (omega arith)

-- the machine's list of places, and the engine's steps: places that rise from p on to one for which f holds
rising : (f : ℕ → Bool) (n many p k more : ℕ) (rest : List ℕ) → p + many ≤ n → p ≤ k → k < p + many → f k ≡ true
    → many ≤ more
    → E.seek f n more p ≡ M.first_with f (numbers_from p many ++ rest)
unfolding E.seek M.first_with
rising f n zero p k more rest h low high holds room = absurd (omega arith)
rising f n (suc many) p k zero rest h low high holds room = absurd (omega arith)
rising f n (suc many) p k (suc more) rest h low high holds room =
    by-test (f p) refl (λ l m. rising f n many (suc p) k more rest (omega arith) l m holds (omega arith))
  where
    by-test : (b : Bool) → f p ≡ b
        → (suc p ≤ k → k < suc p + many
        → E.seek f n more (suc p) ≡ M.first_with f (numbers_from (suc p) many ++ rest))
        → cond b p (E.seek f n more (E.after n p)) ≡ cond b p (M.first_with f (numbers_from (suc p) many ++ rest))
    by-test true e later = refl
    by-test false e later =
        let other = apart f p k holds e in
        rw (lt-ltb (suc p) n (omega arith)) (later (omega arith) (omega arith))

-- places from p on to the last, and then those from 0 on, where f holds for one of the latter
around : (f : ℕ → Bool) (n many p k j more : ℕ) → p + many ≡ n → k < j → j ≤ n → f k ≡ true → many + j ≤ more
    → E.seek f n more (cond (ltb p n) p 0) ≡ M.first_with f (numbers_from p many ++ numbers_from 0 j)
unfolding E.seek M.first_with
around f n zero p k j more whole low few holds room =
    rw (le-ltb p n (omega arith))
    (rising f n j 0 k more [] (omega arith) (omega arith) (omega arith) holds (omega arith)
    ∙ ap (M.first_with f) (append-nil (numbers_from 0 j)))
around f n (suc many) p k j zero whole low few holds room = absurd (omega arith)
around f n (suc many) p k j (suc more) whole low few holds room =
    rw (lt-ltb p n (omega arith))
    (ap (cond (f p) p) (around f n many (suc p) k j more (omega arith) low few holds (omega arith)))

pub search-same : (f : ℕ → Bool) (n : ℕ) (l : Latest) → Among n l → (k : ℕ) → k < n → f k ≡ true
    → E.seek f n n (next_of n l) ≡ M.first_with f (M.round_from n l)
unfolding M.round_from
search-same f n none a k h holds =
    rising f n n 0 k n [] (omega arith) (omega arith) (omega arith) holds (omega arith)
    ∙ ap (M.first_with f) (append-nil (numbers_from 0 n))
search-same f n (was q) a k h holds = by-test (ltb q k) refl
  where
    by-test : (b : Bool) → ltb q k ≡ b
        → E.seek f n n (E.after n q) ≡ M.first_with f (numbers_from (suc q) (n - suc q) ++ numbers_from 0 (suc q))
    by-test true e =
        let lt = ltb-true q k e in
        rw (lt-ltb (suc q) n (omega arith))
        (rising f n (n - suc q) (suc q) k n (numbers_from 0 (suc q)) (omega arith) lt (omega arith) holds (omega arith))
    by-test false e =
        let le = ltb-false q k e in
        around f n (n - suc q) (suc q) k (suc q) n (omega arith) (omega arith) a holds (omega arith)

-- where the machine's search ends
pub record Found (f : ℕ → Bool) (n : ℕ) (l : Latest) (k s : ℕ) : Type 0 where
  pub inside : s < n
  pub holds : f s ≡ true
  pub nearer : (s ≡ k → ⊥) → suc (places_ahead n (was s) k) ≤ places_ahead n l k

pub found : (f : ℕ → Bool) (n : ℕ) (l : Latest) → Among n l → (k : ℕ) → k < n → f k ≡ true
    → Found f n l k (M.first_with f (M.round_from n l))
found f n l a k h holds =
    let is = ahead-is n l k a h in
    let below = ahead-below n l k a h in
    let x = ends f n n (next_of n l) k (next-below n l a) h holds (omega arith) in
    subst (Found f n l k) (search-same f n l a k h holds)
    (record {
      inside = x.inside;
      holds = x.holds;
      nearer = λ ne. omega (arith, x.nearer ne, ahead-is n (was (E.seek f n n (next_of n l))) k x.inside h);
    })

-- a bin's bank and data bin by its place: as the engine tells them apart, and as the machine divides
module _ (B k : ℕ) (some : 0 < B) (h : k < 2 * B) where
  pub bank-is : E.bank_of B k ≡ k / B
  bank-is = by-test (ltb k B) refl
    where
      by-test : (b : Bool) → ltb k B ≡ b → cond b 0 1 ≡ k / B
      by-test true e = sym (div-eq_of_lt (ltb-true k B e))
      by-test false e =
          let le = ltb-false k B e in
          let none : (k - B) / B ≡ 0 = div-eq_of_lt (omega arith) in
          omega (arith, div-eq-sub-div some le)

  pub bin-is : E.data_bin_of B k ≡ k % B
  bin-is = by-test (ltb k B) refl
    where
      by-test : (b : Bool) → ltb k B ≡ b → cond b k (k - B) ≡ k % B
      by-test true e = sym (mod-eq_of_lt (ltb-true k B e))
      by-test false e =
          let le = ltb-false k B e in sym (mod-eq-sub-mod le ∙ mod-eq_of_lt (omega arith))

  pub bank-below : k / B < 2
  bank-below = rw (← bank-is) (by-test (ltb k B))
    where
      by-test : (b : Bool) → cond b 0 1 < 2
      by-test true = omega arith
      by-test false = omega arith

  -- and they name it
  pub index_is : bin_index B (k / B) (k % B) ≡ k
  index_is = div-add-mod' k B

  -- the same of the engine's
  pub engine-bank : E.bank_of B k < 2
  engine-bank = rw bank-is bank-below

  pub engine-bin : E.data_bin_of B k < B
  engine-bin = rw bin-is (mod-lt k some)

  pub engine-index : bin_index B (E.bank_of B k) (E.data_bin_of B k) ≡ k
  engine-index = rw (bank-is, bin-is) index_is
