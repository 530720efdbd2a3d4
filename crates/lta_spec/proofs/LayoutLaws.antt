-- The laws of layouts, and what each way of putting layouts together keeps of them.
use Prim.Native.Nat.{ℕ, zero, suc, ◌+◌, ◌*◌, ◌≤◌, ◌<◌}
use mathlib.Core.Path.{◌≡◌, refl, sym, ap, ap₂, ◌∙◌, subst}
use mathlib.Core.List.{List, [], ◌∷◌, ◌++◌, append_assoc}
use native.Mathlib.Nat.{suc-mul, zero-mul, not-suc-le-zero, le_of_suc-le-suc}
use native.Mathlib.Omega.{arith}
use lib.ListN.{length, get_or, set, take, drop, length-append, length-drop}
use lib.Seq.{take-append-add, take_at, drop_at, length-take-le, take-add, drop-drop}
use Rattle.lta_spec.specs.Layout.{Layout, word, block, pair, put_all, get_all, many, fields}

-- Of a value that is Ok: its words are as many as the layout says, and give the value back. Of words enough: the
-- value is Ok, and put back it is those words.
pub record Law {A : Type 0} (a : Layout A) (Ok : A → Type 0) : Type 0 where
  pub size : (x : A) → Ok x → length (a.put x) ≡ a.width
  pub back : (x : A) → Ok x → (r : List ℕ) → a.get (a.put x ++ r) ≡ x
  pub fits : (l : List ℕ) → a.width ≤ length l → Ok (a.get l)
  pub kept : (l : List ℕ) → a.width ≤ length l → a.put (a.get l) ≡ take a.width l

-- what a layout asks of a value: nothing of a word, of a list its length
abbrev pub Any : ℕ → Type 0
Any x = Prim.Unit {0}

abbrev pub Long : ℕ → List ℕ → Type 0
Long n r = length r ≡ n

pub word-law : Law word Any
unfolding word
word-law = record { size = λ x o. refl; back = λ x o r. refl; fits = λ l h. tt; kept = kept }
  where
    kept : (l : List ℕ) → 1 ≤ length l → (get_or l 0 0 ∷ []) ≡ take 1 l
    kept [] h = absurd (omega arith)
    kept (x ∷ l) h = refl

pub block-law : (n : ℕ) → Law (block n) (Long n)
unfolding block
block-law n =
    record {
      size = λ x o. o;
      back = λ x o r. take_at x r n o;
      fits = λ l h. length-take-le n l h;
      kept = λ l h. refl;
    }

pub pair-law : {A B : Type 0} {a : Layout A} {b : Layout B} {P : A → Type 0} {Q : B → Type 0} → Law a P → Law b Q
    → Law (pair a b) (λ x. P x.0 × Q x.1)
unfolding pair
pair-law {A} {B} {a} {b} {P} {Q} p q =
    record {
      size =
          λ x o. length-append (a.put x.0) (b.put x.1)
          ∙ ap₂ (λ m n. m + n) (p.size x.0 o.0) (q.size x.1 o.1);
      back = λ x o r. rw (append_assoc (a.put x.0) (b.put x.1) r) (both x o r);
      fits = λ l h. (p.fits l (omega arith), q.fits (drop a.width l) (rest l h));
      kept =
          λ l h. ap₂ (λ m n. m ++ n) (p.kept l (omega arith)) (q.kept (drop a.width l) (rest l h))
          ∙ sym (take-add a.width b.width l);
    }
  where
    rest : (l : List ℕ) → a.width + b.width ≤ length l → b.width ≤ length (drop a.width l)
    rest l h = omega (arith, length-drop a.width l)

    both : (x : A × B) (o : P x.0 × Q x.1) (r : List ℕ)
        → ◌≡◌ {A = A × B} (
          a.get (a.put x.0 ++ (b.put x.1 ++ r)),
          b.get (drop a.width (a.put x.0 ++ (b.put x.1 ++ r))),
        ) x
    both x o r =
        rw (
          drop_at (a.put x.0) (b.put x.1 ++ r) a.width (p.size x.0 o.0),
          p.back x.0 o.0 (b.put x.1 ++ r),
          q.back x.1 o.1 r,
        )

-- a fact of each element of a list
abbrev pub All : {A : Type 0} → (A → Type 0) → List A → Type 0
All P [] = Prim.Unit {0}
All P (x ∷ xs) = P x × All P xs

pub all-get : {A : Type 0} (P : A → Type 0) (xs : List A) (d : A) → All P xs → (i : ℕ) → i < length xs → P (get_or xs i d)
all-get P [] d a i h = absurd (not-suc-le-zero h)
all-get P (x ∷ xs) d a zero h = a.0
all-get P (x ∷ xs) d a (suc i) h = all-get P xs d a.1 i (le_of_suc-le-suc h)

pub all_take : {A : Type 0} (P : A → Type 0) (xs : List A) (i : ℕ) → All P xs → All P (take i xs)
all_take P xs zero a = tt
all_take P [] (suc i) a = tt
all_take P (x ∷ xs) (suc i) a = (a.0, all_take P xs i a.1)

pub all_append : {A : Type 0} (P : A → Type 0) (a b : List A) → All P a → All P b → All P (a ++ b)
all_append P [] b p q = q
all_append P (x ∷ a) b p q = (p.0, all_append P a b p.1 q)

-- a list of n values, each Ok
abbrev pub Each : {A : Type 0} → ℕ → (A → Type 0) → List A → Type 0
Each n P xs = (length xs ≡ n) × All P xs

module _ {A : Type 0} {a : Layout A} {P : A → Type 0} (p : Law a P) where
  size-all : (n : ℕ) (xs : List A) → length xs ≡ n → All P xs → length (put_all a xs) ≡ n * a.width
  size-all zero [] e o = omega arith
  size-all zero (x ∷ xs) e o = absurd (omega arith)
  size-all (suc n) [] e o = absurd (omega arith)
  size-all (suc n) (x ∷ xs) e o =
      rw suc-mul
      (omega
      (arith, length-append (a.put x) (put_all a xs), p.size x o.0, size-all n xs (omega arith) o.1))

  back-all : (n : ℕ) (xs : List A) → length xs ≡ n → All P xs → (r : List ℕ) → get_all a n (put_all a xs ++ r) ≡ xs
  back-all zero [] e o r = refl
  back-all zero (x ∷ xs) e o r = absurd (omega arith)
  back-all (suc n) [] e o r = absurd (omega arith)
  back-all (suc n) (x ∷ xs) e o r =
      rw (
        append_assoc (a.put x) (put_all a xs) r,
        drop_at (a.put x) (put_all a xs ++ r) a.width (p.size x o.0),
        p.back x o.0 (put_all a xs ++ r),
      )
      (ap (λ y. x ∷ y) (back-all n xs (omega arith) o.1 r))

  -- the words of one value and of n more
  first_of : (n : ℕ) (l : List ℕ) → suc n * a.width ≤ length l → a.width + n * a.width ≤ length l
  first_of n l h = omega (arith, suc-mul n a.width)

  pub fits_all : (n : ℕ) (l : List ℕ) → n * a.width ≤ length l → Each n P (get_all a n l)
  fits_all zero l h = (refl, tt)
  fits_all (suc n) l h =
      let h' = first_of n l h in
      let r = fits_all n (drop a.width l) (omega (arith, length-drop a.width l)) in
      (ap suc r.0, (p.fits l (omega arith), r.1))

  pub kept-all : (n : ℕ) (l : List ℕ) → n * a.width ≤ length l → put_all a (get_all a n l) ≡ take (n * a.width) l
  kept-all zero l h = rw zero-mul
  kept-all (suc n) l h =
      let h' = first_of n l h in
      let e : suc n * a.width ≡ a.width + n * a.width = omega (arith, suc-mul n a.width) in
      rw (e, take-add a.width (n * a.width) l)
      (ap₂ (λ x y. x ++ y) (p.kept l (omega arith))
      (kept-all n (drop a.width l) (omega (arith, length-drop a.width l))))

  pub many-law : (n : ℕ) → Law (many n a) (Each n P)
  unfolding many
  many-law n =
      record {
        size = λ xs o. size-all n xs o.0 o.1;
        back = λ xs o r. back-all n xs o.0 o.1 r;
        fits = fits_all n;
        kept = kept-all n;
      }

pub fields-law : {A B : Type 0} (f : B → A) (g : A → B) → ((x : B) → g (f x) ≡ x) → ((y : A) → f (g y) ≡ y)
    → {a : Layout A} {P : A → Type 0} → Law a P → Law (fields f g a) (λ x. P (f x))
unfolding fields
fields-law f g gf fg {a} {P} p =
    record {
      size = λ x o. p.size (f x) o;
      back = λ x o r. ap g (p.back (f x) o r) ∙ gf x;
      fits = λ l h. subst P (sym (fg (a.get l))) (p.fits l h);
      kept = λ l h. ap a.put (fg (a.get l)) ∙ p.kept l h;
    }

-- the same law, where what it asks of a value is said in another way
pub law-as : {A : Type 0} {a : Layout A} {P Q : A → Type 0} → ((x : A) → P x → Q x) → ((x : A) → Q x → P x)
    → Law a P → Law a Q
law-as {a = a} to from p =
    record {
      size = λ x o. p.size x (from x o);
      back = λ x o r. p.back x (from x o) r;
      fits = λ l h. to (a.get l) (p.fits l h);
      kept = p.kept;
    }

-- one element of a list laid out: where it is read, and what a change of it changes
module _ {A : Type 0} (a : Layout A) where
  pub get_at : (n : ℕ) (l : List ℕ) (i : ℕ) (d : A) → i < n
      → get_or (get_all a n l) i d ≡ a.get (drop (i * a.width) l)
  get_at zero l i d h = absurd (omega arith)
  get_at (suc n) l zero d h = rw zero-mul
  get_at (suc n) l (suc i) d h =
      let e : suc i * a.width ≡ a.width + i * a.width = omega (arith, suc-mul i a.width) in
      get_at n (drop a.width l) i d (omega arith)
      ∙ ap a.get (drop-drop (i * a.width) a.width l ∙ ap (λ k. drop k l) (sym e))

  module _ {P : A → Type 0} (p : Law a P) where
    pub put-set : (xs : List A) (i : ℕ) (x : A) → All P xs → i < length xs
        → put_all a (set xs i x)
        ≡ take (i * a.width) (put_all a xs) ++ (a.put x ++ drop (suc i * a.width) (put_all a xs))
    put-set [] i x o h = absurd (omega arith)
    put-set (y ∷ xs) zero x o h =
        let e : 1 * a.width ≡ a.width = omega arith in
        rw (e, zero-mul a.width, drop_at (a.put y) (put_all a xs) a.width (p.size y o.0))
    put-set (y ∷ xs) (suc i) x o h =
        let w : ℕ = a.width in
        let s : length (a.put y) ≡ w = p.size y o.0 in
        let e : suc i * w ≡ w + i * w = omega (arith, suc-mul i w) in
        let e' : suc (suc i) * w ≡ w + suc i * w = omega (arith, suc-mul (suc i) w) in
        let q : take (suc i * w) (a.put y ++ put_all a xs) ≡ a.put y ++ take (i * w) (put_all a xs) =
        ap (λ k. take k (a.put y ++ put_all a xs)) (e ∙ ap (λ z. z + i * w) (sym s))
        ∙ take-append-add (a.put y) (put_all a xs) (i * w) in
        rw
        (e', ← (drop-drop (suc i * w) w (a.put y ++ put_all a xs)), drop_at (a.put y) (put_all a xs) w s)
        (rw (put-set xs i x o.1 (omega arith), q)
        (sym (append_assoc (a.put y) (take (i * a.width) (put_all a xs)) _)))
