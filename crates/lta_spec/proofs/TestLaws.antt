-- Laws of tests: conjunctions, and the first refusal of a list.
use Rattle.std.specs.Prelude.{Ok, Err}
use mathlib.Core.Path.{◌≡◌, refl, sym, ap, ◌∙◌}
use mathlib.Core.Bool.{Bool, true, false, cond, ◌&&◌, ◌||◌, and_assoc, and-true}
use mathlib.Core.List.{List, [], ◌∷◌, ◌++◌}
use Prim.Native.Nat.{ℕ, zero, suc, ◌<◌, ◌≤◌}
use native.Mathlib.Nat.{not-suc-le-zero, le_of_suc-le-suc}
use native.Mathlib.Omega.{arith}
use lib.Dec.{T, leb, ltb}
use lib.ListN.{length, get_or, take}
use lib.Seq.{take-suc}
use borrow.Author.Tests.{leb-true, ltb-false, le-leb}
use Rattle.lta_spec.specs.Words.{every, some}
use Rattle.lta_spec.specs.Refusals.{Test, first_of, decided, Verdict}
use Rattle.lta_spec.specs.declared.Refusal.{Refusal}

pub and_both : (a b : Bool) → a && b ≡ true → (a ≡ true) × (b ≡ true)
and_both true b e = (refl, e)
and_both false true e = (e, refl)
and_both false false e = (e, e)

pub both : {a b : Bool} → a ≡ true → b ≡ true → a && b ≡ true
both p q = rw (p, q)

-- a test as a number
pub bit-small : (t : Bool) → cond t 1 0 < 2
bit-small true = omega arith
bit-small false = omega arith

-- of a test that antt computes
pub and_left : (a b : Bool) → T (a && b) → T a
and_left true b t = tt
and_left false b t = t

pub and_right : (a b : Bool) → T (a && b) → T b
and_right true b t = t
and_right false b t = absurd t

pub or-both : (a b : Bool) → a || b ≡ false → (a ≡ false) × (b ≡ false)
or-both true b e = (e, by-test b e)
  where
    by-test : (b : Bool) → true ≡ false → b ≡ false
    by-test true e = e
    by-test false e = refl
or-both false b e = (refl, e)

pub and-le : (a b : ℕ) (t : Bool) → leb a b && t ≡ true → (a ≤ b) × (t ≡ true)
and-le a b t e = let q = and_both (leb a b) t e in (leb-true a b q.0, q.1)

-- a number that is not from a to b - 1
pub not-between : (a b j : ℕ) → leb a j && ltb j b ≡ false → a ≤ j → b ≤ j
not-between a b j e h = ltb-false j b (rw (le-leb a j h) at e)

-- one element more, as a loop going up tests it
pub every-next : {A : Type 0} (f : A → Bool) (xs : List A) (i : ℕ) (d : A) → i < length xs
    → every f (take (suc i) xs) ≡ every f (take i xs) && f (get_or xs i d)
every-next {A} f xs i d h = ap (every f) (take-suc xs i d h) ∙ last (take i xs) (get_or xs i d)
  where
    last : (xs : List A) (x : A) → every f (xs ++ x ∷ []) ≡ every f xs && f x
    last [] x = and-true (f x)
    last (y ∷ xs) x = ap (λ (r : Bool). f y && r) (last xs x) ∙ sym (and_assoc (f y) (every f xs) (f x))

-- of those that all pass a test: each, and the first ones
pub every-at : {A : Type 0} (f : A → Bool) (xs : List A) → every f xs ≡ true → (i : ℕ) (d : A) → i < length xs
    → f (get_or xs i d) ≡ true
every-at f [] e i d h = absurd (not-suc-le-zero h)
every-at f (x ∷ xs) e zero d h = (and_both (f x) (every f xs) e).0
every-at f (x ∷ xs) e (suc i) d h = every-at f xs (and_both (f x) (every f xs) e).1 i d (le_of_suc-le-suc h)

pub every_take : {A : Type 0} (f : A → Bool) (xs : List A) (i : ℕ) → every f xs ≡ true → every f (take i xs) ≡ true
every_take f xs zero e = refl
every_take f [] (suc i) e = refl
every_take f (x ∷ xs) (suc i) e =
    let a = and_both (f x) (every f xs) e in rw a.0 (every_take f xs i a.1)

-- of those of which some pass a test: one; where none does, each fails
pub record Index {A : Type 0} (f : A → Bool) (xs : List A) (d : A) : Type 0 where
  pub at : ℕ
  pub inside : at < length xs
  pub holds : f (get_or xs at d) ≡ true

pub some_at : {A : Type 0} (f : A → Bool) (xs : List A) (d : A) → some f xs ≡ true → Index f xs d
some_at f [] d e = let z : ◌≡◌ {A = ℕ} 0 1 = cc in absurd (omega arith)
some_at f (x ∷ xs) d e = by-test (f x) refl e (some_at f xs d)
  where
    by-test : (b : Bool) → f x ≡ b → b || some f xs ≡ true → (some f xs ≡ true → Index f xs d) → Index f (x ∷ xs) d
    by-test true h e later = record { at = 0; inside = omega arith; holds = h }
    by-test false h e later =
        let i = later e in record { at = suc i.at; inside = omega (arith, i.inside); holds = i.holds }

pub none-at : {A : Type 0} (f : A → Bool) (xs : List A) → some f xs ≡ false → (i : ℕ) (d : A) → i < length xs
    → f (get_or xs i d) ≡ false
none-at f [] e i d h = absurd (not-suc-le-zero h)
none-at f (x ∷ xs) e zero d h = (or-both (f x) (some f xs) e).0
none-at f (x ∷ xs) e (suc i) d h = none-at f xs (or-both (f x) (some f xs) e).1 i d (le_of_suc-le-suc h)

-- a call that is accepted has passed its first test, and the others
pub pass : (b : Bool) (v : Verdict) (r : Refusal) → cond b v (Err r) ≡ Ok tt → (b ≡ true) × (v ≡ Ok tt)
pass true v r e = (refl, e)
pass false v r e = let z : ◌≡◌ {A = ℕ} 0 1 = cc in absurd (omega arith)

-- more tests behind those of a list are tried where those pass
pub first-append : (xs ys : List Test) → first_of (xs ++ ys) ≡ decided (first_of xs) Err (first_of ys)
first-append [] ys = refl
first-append (x ∷ xs) ys =
    ap (λ (v : Verdict). cond x.passes v (Err x.otherwise)) (first-append xs ys)
    ∙ one x.passes (first_of xs) (first_of ys) x.otherwise
  where
    one : (b : Bool) (v w : Verdict) (r : Refusal)
        → cond b (decided v Err w) (Err r) ≡ decided (cond b v (Err r)) Err w
    one true v w r = refl
    one false v w r = refl

pub pass-both : (v w : Verdict) → decided v Err w ≡ Ok tt → (v ≡ Ok tt) × (w ≡ Ok tt)
pass-both (Ok _) w e = (refl, e)
pass-both (Err r) w e = let z : ◌≡◌ {A = ℕ} 0 1 = cc in absurd (omega arith)
