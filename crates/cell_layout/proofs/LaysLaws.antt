-- What a store, a move or a loan of words does to the value that they lay out. A chain of stores in code is a chain of
-- these laws in the same order.
use mathlib.Core.Path.{◌≡◌, refl, sym, ap, ◌∙◌}
use mathlib.Core.List.{List, [], append-nil}
use Prim.Native.Nat.{ℕ, ◌+◌, ◌<◌, ◌≤◌}
use native.Mathlib.Nat.{add-zero}
use native.Mathlib.Omega.{arith}
use lib.ListN.{length, get_or, set, take, drop, length-set, length-drop}
use lib.Seq.{take_all, get_or-drop}
use Rattle.lta_spec.specs.Words.{part, splice, sums, zeros}
use Rattle.lta_spec.specs.Layout.{Layout, word, block}
use Rattle.lta_spec.proofs.WordLaws.{length_part, get_d_part, length-splice, length-sums, length-zeros}
use Rattle.lta_spec.proofs.LayoutLaws.{Law, Any, Long}
use Rattle.words.specs.Moves.{folded}
use Rattle.cell_layout.specs.Lays.{Lays}
use Rattle.cell_layout.proofs.Splice.{set-splice}
use Rattle.cell_layout.proofs.Field.{Field, own}

pub lays : {A : Type 0} (a : Layout A) (l : List ℕ) → length l ≡ a.width → Lays a l (a.get l)
lays a l h = record { size = h; is = refl }

pub lays-to : {A : Type 0} {a : Layout A} {l : List ℕ} {x y : A} → Lays a l x → x ≡ y → Lays a l y
lays-to s e = record { size = s.size; is = s.is ∙ e }

-- the words of a value are the value put
pub lays-put : {A : Type 0} {a : Layout A} {P : A → Type 0} → Law a P → {l : List ℕ} {x : A} → Lays a l x
    → l ≡ a.put x
lays-put {a = a} p {l} s =
    sym
    (ap a.put (sym s.is) ∙ p.kept l (omega (arith, s.size)) ∙ take_all a.width l (omega (arith, s.size)))

-- a word
module _ {A : Type 0} {a : Layout A} {l : List ℕ} {x : A} (s : Lays a l x) {at : ℕ} {view : A → ℕ} {over : A → ℕ → A}
    (k : Field a word Any at view over) where
  pub word_of : get_or l at 0 ≡ view x
  unfolding word
  word_of =
      sym
      (ap view (sym s.is) ∙ k.reads l (omega (arith, s.size)) ∙ get_or-drop at l 0 0
      ∙ ap (λ i. get_or l i 0) (add-zero at))

  pub lays-set : (v : ℕ) → Lays a (set l at v) (over x v)
  unfolding word
  lays-set v =
      record {
        size = length-set l at v ∙ s.size;
        is =
            ap a.get (set-splice l at v) ∙ k.writes l v tt (omega (arith, s.size)) ∙ ap (λ z. over z v) s.is;
      }

-- a row of n words
module _ {A : Type 0} {a : Layout A} {l : List ℕ} {x : A} (s : Lays a l x) {n at : ℕ} {view : A → List ℕ}
    {over : A → List ℕ → A} (k : Field a (block n) (Long n) at view over) where
  pub row_of : part at n l ≡ view x
  unfolding block part
  row_of = sym (ap view (sym s.is) ∙ k.reads l (omega (arith, s.size)))

  pub row_in : at + n ≤ length l
  unfolding block
  row_in = omega (arith, s.size, k.inside)

  pub row-length : length (view x) ≡ n
  row-length = ap length (sym row_of) ∙ length_part l at n row_in

  -- its words, by their place in the row
  pub row_word : (i : ℕ) → i < n → get_or l (at + i) 0 ≡ get_or (view x) i 0
  row_word i h = sym (get_d_part l at n i h) ∙ ap (λ r. get_or r i 0) row_of

  pub row_first : 0 < n → get_or l at 0 ≡ get_or (view x) 0 0
  row_first h = ap (λ i. get_or l i 0) (sym (add-zero at)) ∙ row_word 0 h

  pub lays-row : (vs : List ℕ) → length vs ≡ n → Lays a (splice l at vs) (over x vs)
  unfolding block
  lays-row vs e =
      record {
        size = length-splice l at vs ∙ s.size;
        is = k.writes l vs e (omega (arith, s.size)) ∙ ap (λ z. over z vs) s.is;
      }

-- a move: one row added to another, and cleared
pub lays-move : {A : Type 0} {a : Layout A} {l : List ℕ} {x : A} → Lays a l x → {n from to : ℕ} {v w : A → List ℕ}
    {f g : A → List ℕ → A} → Field a (block n) (Long n) from v f → Field a (block n) (Long n) to w g
    → Lays a (folded l from to n) (f (g x (sums (w x) (v x))) (zeros n))
unfolding folded
lays-move {x = x} s {n} {v = v} {w = w} k j =
    let lj = row-length s j in
    let r : List ℕ = sums (w x) (v x) in
    let e : length r ≡ n = length-sums (w x) (v x) (lj ∙ sym (row-length s k)) ∙ lj in
    rw (row_of s j, row_of s k) (lays-row (lays-row s j r e) k (zeros n) (length-zeros n))

-- the words of a field, lent and given back: what they are as a value, and what the whole is afterwards
module _ {A B : Type 0} {a : Layout A} {b : Layout B} {P : B → Type 0} (p : Law b P) {at : ℕ} {view : A → B}
    {over : A → B → A} (k : Field a b P at view over) {l : List ℕ} {x : A} (s : Lays a l x) where
  pub lays-part : Lays b (part at b.width l) (view x)
  unfolding part
  lays-part =
      let d : List ℕ = drop at l in
      let h : b.width ≤ length d = omega (arith, s.size, k.inside, length-drop at l) in
      record {
        size = length_part l at b.width (omega (arith, s.size, k.inside));
        is =
            ap b.get (sym (append-nil (take b.width d))) ∙ own p d [] h
            ∙ sym (k.reads l (omega (arith, s.size))) ∙ ap view s.is;
      }

  pub lays_back : (vs : List ℕ) (y : B) → Lays b vs y → Lays a (splice l at vs) (over x y)
  lays_back vs y t =
      let e : b.put (b.get vs) ≡ vs =
      p.kept vs (omega (arith, t.size)) ∙ take_all b.width vs (omega (arith, t.size)) in
      let o : P (b.get vs) = p.fits vs (omega (arith, t.size)) in
      record {
        size = length-splice l at vs ∙ s.size;
        is =
            ap (λ r. a.get (splice l at r)) (sym e) ∙ k.writes l (b.get vs) o (omega (arith, s.size))
            ∙ ap (λ z. over z (b.get vs)) s.is ∙ ap (over x) t.is;
      }
