-- A field of a laid out value: where its words are, and that reading and writing those words reads and changes that
-- field. Said once for each way of putting layouts together; a field of a field is a field.
use mathlib.Core.Path.{◌≡◌, refl, sym, ap, ap₂, ◌∙◌}
use mathlib.Core.List.{List, [], ◌∷◌, ◌++◌}
use Prim.Native.Nat.{ℕ, zero, suc, ◌+◌, ◌*◌, ◌<◌, ◌≤◌}
use native.Mathlib.Nat.{suc-mul, mul-le-mul_right}
use native.Mathlib.Omega.{arith}
use lib.ListN.{length, get_or, set, take, drop, length-drop}
use lib.Seq.{drop-drop}
use Rattle.lta_spec.specs.Words.{splice}
use Rattle.lta_spec.specs.Layout.{Layout, pair, get_all, many, fields}
use Rattle.lta_spec.proofs.WordLaws.{length-splice}
use Rattle.lta_spec.proofs.LayoutLaws.{Law, get_at}
use Rattle.cell_layout.proofs.Splice.{
  drop-splice-past,
  drop-splice-in,
  take-splice-before,
  splice_front,
  splice-splice,
}

-- Of a value laid out by a: the words of b at `at` are the part that `view` gives, and with other words there the
-- value is what `over` makes of it. P is what b asks of a value.
pub record Field {A B : Type 0} (a : Layout A) (b : Layout B) (P : B → Type 0) (at : ℕ) (view : A → B)
    (over : A → B → A) : Type 0 where
  pub inside : at + b.width ≤ a.width
  pub reads : (l : List ℕ) → a.width ≤ length l → view (a.get l) ≡ b.get (drop at l)
  pub writes : (l : List ℕ) (y : B) → P y → a.width ≤ length l
      → a.get (splice l at (b.put y)) ≡ over (a.get l) y

-- a layout looks at its own words alone
module _ {A : Type 0} {a : Layout A} {P : A → Type 0} (p : Law a P) where
  pub own : (l r : List ℕ) → a.width ≤ length l → a.get (take a.width l ++ r) ≡ a.get l
  own l r h = ap (λ k. a.get (k ++ r)) (sym (p.kept l h)) ∙ p.back (a.get l) (p.fits l h) r

  pub get_take : (l m : List ℕ) → a.width ≤ length l → a.width ≤ length m
      → take a.width l ≡ take a.width m → a.get l ≡ a.get m
  get_take l m h k e = sym (own l [] h) ∙ ap (λ r. a.get (r ++ [])) e ∙ own m [] k

  -- words written behind them change nothing
  pub get-before : (l : List ℕ) (at : ℕ) (vs : List ℕ) → a.width ≤ at → a.width ≤ length l
      → a.get (splice l at vs) ≡ a.get l
  get-before l at vs h k =
      get_take (splice l at vs) l (omega (arith, length-splice l at vs)) k
      (take-splice-before l at vs a.width h)

  -- a value written over the first words
  pub get-front : (l : List ℕ) (y : A) → P y → a.width ≤ length l → a.get (splice l 0 (a.put y)) ≡ y
  get-front l y o h =
      ap a.get (splice_front l (a.put y) (omega (arith, p.size y o)))
      ∙ p.back y o (drop (length (a.put y)) l)

  -- a value is a field of itself
  pub whole : Field a a P 0 (λ x. x) (λ x y. y)
  whole = record { inside = omega arith; reads = λ l h. refl; writes = λ l y o h. get-front l y o h }

-- the first of a pair, and a field of the second
module _ {A B : Type 0} {a : Layout A} {P : A → Type 0} (p : Law a P) where
  pub here : (b : Layout B) → Field (pair a b) a P 0 (λ x. x.0) (λ x y. (y, x.1))
  unfolding pair
  here b =
      record {
        inside = omega arith;
        reads = λ l h. refl;
        writes =
            λ l y o h. ap₂ (λ (u : A) (v : B). (u, v)) (get-front p l y o (omega arith))
            (ap b.get (drop-splice-past l 0 (a.put y) a.width (omega (arith, p.size y o))));
      }

  pub past : {C : Type 0} {b : Layout B} {c : Layout C} {R : C → Type 0} {at : ℕ} {view : B → C} {over : B → C → B}
      → Field b c R at view over
      → Field (pair a b) c R (a.width + at) (λ x. view x.1) (λ x y. (x.0, over x.1 y))
  unfolding pair
  past {b = b} {c = c} {at = at} k =
      record {
        inside = omega (arith, k.inside);
        reads =
            λ l h. k.reads (drop a.width l) (omega (arith, length-drop a.width l))
            ∙ ap c.get (drop-drop at a.width l);
        writes =
            λ l y o h. ap₂ (λ (u : A) (v : B). (u, v))
            (get-before p l (a.width + at) (c.put y) (omega arith) (omega arith))
            (ap b.get (drop-splice-in l a.width at (c.put y))
            ∙ k.writes (drop a.width l) y o (omega (arith, length-drop a.width l)));
      }

-- a field of a record is one of the pairs that lay it out
pub via : {A B C : Type 0} (f : B → A) (g : A → B) → ((y : A) → f (g y) ≡ y) → {a : Layout A} {c : Layout C}
    {P : C → Type 0} {at : ℕ} {view : A → C} {over : A → C → A} → Field a c P at view over
    → Field (fields f g a) c P at (λ x. view (f x)) (λ x y. g (over (f x) y))
unfolding fields
via f g fg {a} {view = view} {over = over} k =
    record {
      inside = k.inside;
      reads = λ l h. ap view (fg (a.get l)) ∙ k.reads l h;
      writes = λ l y o h. ap g (k.writes l y o h ∙ ap (λ z. over z y) (sym (fg (a.get l))));
    }

-- a field of a field
pub within : {A B C : Type 0} {a : Layout A} {b : Layout B} {c : Layout C} {P : B → Type 0} {Q : C → Type 0}
    {m n : ℕ} {v : A → B} {w : B → C} {f : A → B → A} {g : B → C → B} → Law b P → Law c Q → Field a b P m v f
    → Field b c Q n w g → Field a c Q (m + n) (λ x. w (v x)) (λ x y. f x (g (v x) y))
within {a = a} {b = b} {c = c} {m = m} {n = n} {w = w} {f = f} {g = g} p q k j =
    record {
      inside = omega (arith, k.inside, j.inside);
      reads = λ l h. ap w (k.reads l h) ∙ j.reads (drop m l) (room l h) ∙ ap c.get (drop-drop n m l);
      writes =
          λ l y o h. let d : List ℕ = drop m l in
          let r : List ℕ = splice d n (c.put y) in
          let lr : b.width ≤ length r = omega (arith, room l h, length-splice d n (c.put y)) in
          ap a.get
          (sym
          (splice-splice l m n b.width (c.put y) (omega (arith, j.inside, q.size y o))
          (omega (arith, k.inside)))
          ∙ ap (splice l m) (sym (p.kept r lr)))
          ∙ k.writes l (b.get r) (p.fits r lr) h
          ∙ ap (f (a.get l)) (j.writes d y o (room l h) ∙ ap (λ z. g z y) (sym (k.reads l h)));
    }
  where
    room : (l : List ℕ) → a.width ≤ length l → b.width ≤ length (drop m l)
    room l h = omega (arith, k.inside, length-drop m l)

-- an element of a list
module _ {A : Type 0} {a : Layout A} {P : A → Type 0} (p : Law a P) where
  pub writes-all : (n : ℕ) (l : List ℕ) (i : ℕ) (y : A) → P y → i < n → n * a.width ≤ length l
      → get_all a n (splice l (i * a.width) (a.put y)) ≡ set (get_all a n l) i y
  writes-all zero l i y o h k = absurd (omega arith)
  writes-all (suc n) l zero y o h k =
      let k' : a.width + n * a.width ≤ length l = omega (arith, suc-mul n a.width) in
      let z : zero * a.width ≡ 0 = omega arith in
      rw z
      (ap₂ (λ (u : A) (v : List A). u ∷ v) (get-front p l y o (omega arith))
      (ap (get_all a n) (drop-splice-past l 0 (a.put y) a.width (omega (arith, p.size y o)))))
  writes-all (suc n) l (suc i) y o h k =
      let w : ℕ = a.width in
      let k' : w + n * w ≤ length l = omega (arith, suc-mul n w) in
      let e : suc i * w ≡ w + i * w = omega (arith, suc-mul i w) in
      rw e
      (ap₂ (λ (u : A) (v : List A). u ∷ v)
      (get-before p l (w + i * w) (a.put y) (omega arith) (omega arith))
      (ap (get_all a n) (drop-splice-in l w (i * w) (a.put y))
      ∙ writes-all n (drop w l) i y o (omega arith) (omega (arith, length-drop w l))))

  pub item : (n i : ℕ) → (d : A) → i < n
      → Field (many n a) a P (i * a.width) (λ xs. get_or xs i d) (λ xs y. set xs i y)
  unfolding many
  item n i d h =
      record {
        inside = omega (arith, mul-le-mul_right a.width h, suc-mul i a.width);
        reads = λ l k. get_at a n l i d h;
        writes = λ l y o k. writes-all n l i y o h k;
      }

-- a field at the name of its offset
pub named : {A B : Type 0} {a : Layout A} {b : Layout B} {P : B → Type 0} {at name : ℕ} {view : A → B}
    {over : A → B → A} → Field a b P at view over → at ≡ name → Field a b P name view over
named k e = rw e at k
