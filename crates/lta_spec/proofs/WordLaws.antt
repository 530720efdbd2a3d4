-- Laws of parts, splices and sums of lists of words. Those of a splice have no side condition where none is needed.
use mathlib.Core.Path.{◌≡◌, refl, sym, ap, ◌∙◌}
use mathlib.Core.Logic.{◌⊎◌, ⊎_elim}
use mathlib.Core.List.{List, [], ◌∷◌, ◌++◌, map, append_assoc}
use Prim.Native.Nat.{ℕ, zero, suc, ◌+◌, ◌-◌, ◌<◌, ◌≤◌}
use native.Mathlib.Nat.{zero-add, suc-add, not-suc-le-zero, le_of_suc-le-suc}
use native.Mathlib.Omega.{arith}
use lib.ListN.{length, get_or, set, take, drop, length-take, length-drop, length-replicate}
use lib.Seq.{drop-drop, get_or-take, get_or-drop, take-suc, ext_get_or, take-add, take_at, take-append-le, drop-append-le}
use lib.Seq.{drop-append-add}
use borrow.Rule.Slice.PartMut.{put_mid}
use Rattle.lta_spec.specs.Words.{part, splice, sums, zeros, joined, over_all}

-- a splice, by its words
pub splice-nil : (l : List ℕ) (at : ℕ) → splice l at [] ≡ l
splice-nil [] at = refl
splice-nil (x ∷ l) zero = refl
splice-nil (x ∷ l) (suc at) = ap (λ (r : List ℕ). x ∷ r) (splice-nil l at)

pub length-splice : (l : List ℕ) (at : ℕ) (vs : List ℕ) → length (splice l at vs) ≡ length l
length-splice [] at vs = refl
length-splice (x ∷ l) zero [] = refl
length-splice (x ∷ l) zero (v ∷ vs) = ap suc (length-splice l zero vs)
length-splice (x ∷ l) (suc at) vs = ap suc (length-splice l at vs)

pub get_or-splice-before : (l : List ℕ) (at : ℕ) (vs : List ℕ) (k : ℕ) → k < at
    → get_or (splice l at vs) k 0 ≡ get_or l k 0
get_or-splice-before [] at vs k h = refl
get_or-splice-before (x ∷ l) zero vs k h = absurd (not-suc-le-zero h)
get_or-splice-before (x ∷ l) (suc at) vs zero h = refl
get_or-splice-before (x ∷ l) (suc at) vs (suc k) h = get_or-splice-before l at vs k (le_of_suc-le-suc h)

pub get_or-splice-after : (l : List ℕ) (at : ℕ) (vs : List ℕ) (k : ℕ) → at + length vs ≤ k
    → get_or (splice l at vs) k 0 ≡ get_or l k 0
get_or-splice-after [] at vs k h = refl
get_or-splice-after (x ∷ l) zero [] k h = refl
get_or-splice-after (x ∷ l) zero (v ∷ vs) zero h = absurd (omega arith)
get_or-splice-after (x ∷ l) zero (v ∷ vs) (suc k) h = get_or-splice-after l zero vs k (omega arith)
get_or-splice-after (x ∷ l) (suc at) vs zero h = absurd (omega arith)
get_or-splice-after (x ∷ l) (suc at) vs (suc k) h = get_or-splice-after l at vs k (omega arith)

pub get_or-splice-in : (l : List ℕ) (at : ℕ) (vs : List ℕ) (i : ℕ) → i < length vs → at + i < length l
    → get_or (splice l at vs) (at + i) 0 ≡ get_or vs i 0
get_or-splice-in [] at vs i h k = absurd (omega arith)
get_or-splice-in (x ∷ l) zero [] i h k = absurd (omega arith)
get_or-splice-in (x ∷ l) zero (v ∷ vs) zero h k = refl
get_or-splice-in (x ∷ l) zero (v ∷ vs) (suc i) h k =
    rw zero-add (rw zero-add at (get_or-splice-in l zero vs i (omega arith) (omega arith)))
get_or-splice-in (x ∷ l) (suc at) vs i h k = rw suc-add (get_or-splice-in l at vs i h (omega arith))

-- words put in front of a list: a word of it is equal where theirs is
pub splice-alike : (out vs ws : List ℕ) → length vs ≡ length ws → (j : ℕ)
    → (j < length vs → get_or vs j 0 ≡ get_or ws j 0) → get_or (splice out 0 vs) j 0 ≡ get_or (splice out 0 ws) j 0
splice-alike [] vs ws e j h = refl
splice-alike (x ∷ out) [] [] e j h = refl
splice-alike (x ∷ out) [] (w ∷ ws) e j h = absurd (omega arith)
splice-alike (x ∷ out) (v ∷ vs) [] e j h = absurd (omega arith)
splice-alike (x ∷ out) (v ∷ vs) (w ∷ ws) e zero h = h (omega arith)
splice-alike (x ∷ out) (v ∷ vs) (w ∷ ws) e (suc j) h =
    splice-alike out vs ws (omega arith) j (λ l. h (omega arith))

-- a store at the end of what is spliced in, as a loop going up makes it
pub set-splice-next : (l : List ℕ) (at : ℕ) (vs : List ℕ) (v : ℕ)
    → set (splice l at vs) (at + length vs) v ≡ splice l at (vs ++ v ∷ [])
set-splice-next [] at vs v = refl
set-splice-next (x ∷ []) zero [] v = refl
set-splice-next (x ∷ y ∷ l) zero [] v = refl
set-splice-next (x ∷ l) zero (w ∷ vs) v =
    rw zero-add (ap (λ (r : List ℕ). w ∷ r) (rw (← zero-add (length vs)) (set-splice-next l zero vs v)))
set-splice-next (x ∷ l) (suc at) vs v = rw suc-add (ap (λ (r : List ℕ). x ∷ r) (set-splice-next l at vs v))

-- a store in front of what is spliced in, as a loop going down makes it
pub set-splice-front : (l : List ℕ) (at : ℕ) (vs : List ℕ) (v : ℕ)
    → set (splice l (suc at) vs) at v ≡ splice l at (v ∷ vs)
set-splice-front [] at vs v = refl
set-splice-front (x ∷ l) zero vs v = refl
set-splice-front (x ∷ l) (suc at) vs v = ap (λ (r : List ℕ). x ∷ r) (set-splice-front l at vs v)

pub set-splice-before : (l : List ℕ) (at : ℕ) (vs : List ℕ) (k v : ℕ) → k < at
    → set (splice l at vs) k v ≡ splice (set l k v) at vs
set-splice-before [] at vs k v h = refl
set-splice-before (x ∷ l) zero vs k v h = absurd (not-suc-le-zero h)
set-splice-before (x ∷ l) (suc at) vs zero v h = refl
set-splice-before (x ∷ l) (suc at) vs (suc k) v h =
    ap (λ (r : List ℕ). x ∷ r) (set-splice-before l at vs k v (le_of_suc-le-suc h))

pub set-splice-after : (l : List ℕ) (at : ℕ) (vs : List ℕ) (k v : ℕ) → at + length vs ≤ k
    → set (splice l at vs) k v ≡ splice (set l k v) at vs
set-splice-after [] at vs k v h = refl
set-splice-after (x ∷ l) zero [] k v h = rw splice-nil
set-splice-after (x ∷ l) zero (w ∷ vs) zero v h = absurd (omega arith)
set-splice-after (x ∷ l) zero (w ∷ vs) (suc k) v h =
    ap (λ (r : List ℕ). w ∷ r) (set-splice-after l zero vs k v (omega arith))
set-splice-after (x ∷ l) (suc at) vs zero v h = absurd (omega arith)
set-splice-after (x ∷ l) (suc at) vs (suc k) v h =
    ap (λ (r : List ℕ). x ∷ r) (set-splice-after l at vs k v (omega arith))

-- in range a splice is what it looks like, which is also what the loan of a part leaves
pub splice-eq : (l : List ℕ) (at : ℕ) (vs : List ℕ) → at + length vs ≤ length l
    → splice l at vs ≡ take at l ++ (vs ++ drop (at + length vs) l)
splice-eq [] zero [] h = refl
splice-eq [] zero (v ∷ vs) h = absurd (omega arith)
splice-eq [] (suc at) vs h = absurd (omega arith)
splice-eq (x ∷ l) zero [] h = refl
splice-eq (x ∷ l) zero (v ∷ vs) h =
    rw zero-add (ap (λ (r : List ℕ). v ∷ r) (splice-eq l zero vs (omega arith) ∙ rw zero-add))
splice-eq (x ∷ l) (suc at) vs h = rw suc-add (ap (λ (r : List ℕ). x ∷ r) (splice-eq l at vs (omega arith)))

-- all words replaced
pub splice-whole : (l vs : List ℕ) → length vs ≡ length l → splice l 0 vs ≡ vs
splice-whole [] [] e = refl
splice-whole [] (v ∷ vs) e = absurd (omega (arith, e))
splice-whole (x ∷ l) [] e = absurd (omega (arith, e))
splice-whole (x ∷ l) (v ∷ vs) e = ap (λ (r : List ℕ). v ∷ r) (splice-whole l vs (omega (arith, e)))

-- two splices, one behind the other and one in front of the other
pub splice-append : (l : List ℕ) (at : ℕ) (vs ws : List ℕ)
    → splice (splice l at vs) (at + length vs) ws ≡ splice l at (vs ++ ws)
splice-append [] at vs ws = refl
splice-append (x ∷ l) zero [] ws = refl
splice-append (x ∷ l) zero (v ∷ vs) ws =
    rw zero-add (ap (λ (r : List ℕ). v ∷ r) (rw zero-add at (splice-append l zero vs ws)))
splice-append (x ∷ l) (suc at) vs ws = rw suc-add (ap (λ (r : List ℕ). x ∷ r) (splice-append l at vs ws))

-- words put behind those that were put before
pub splice-behind : (before : List ℕ) {out after : List ℕ} (at : ℕ) {next : ℕ} (v w : List ℕ)
    → out ≡ splice before at v → next ≡ at + length v → after ≡ splice out next w → after ≡ splice before at (v ++ w)
splice-behind before at v w e n f = f ∙ rw (e, n) (splice-append before at v w)

pub splice_front : (l : List ℕ) (at : ℕ) (vs ws : List ℕ)
    → splice (splice l (at + length vs) ws) at vs ≡ splice l at (vs ++ ws)
splice_front [] at vs ws = refl
splice_front (x ∷ l) zero [] ws = splice-nil (splice (x ∷ l) zero ws) zero
splice_front (x ∷ l) zero (v ∷ vs) ws =
    rw zero-add (ap (λ (r : List ℕ). v ∷ r) (rw zero-add at (splice_front l zero vs ws)))
splice_front (x ∷ l) (suc at) vs ws = rw suc-add (ap (λ (r : List ℕ). x ∷ r) (splice_front l at vs ws))

-- sums word by word, and zeros
pub length-sums : (xs ys : List ℕ) → length xs ≡ length ys → length (sums xs ys) ≡ length xs
length-sums [] ys e = refl
length-sums (x ∷ xs) [] e = absurd (omega arith)
length-sums (x ∷ xs) (y ∷ ys) e = ap suc (length-sums xs ys (omega arith))

pub sums_next : (xs ys : List ℕ) (x y : ℕ) → length xs ≡ length ys
    → sums (xs ++ x ∷ []) (ys ++ y ∷ []) ≡ sums xs ys ++ (x + y) ∷ []
sums_next [] [] x y e = refl
sums_next [] (b ∷ ys) x y e = absurd (omega arith)
sums_next (a ∷ xs) [] x y e = absurd (omega arith)
sums_next (a ∷ xs) (b ∷ ys) x y e = ap (λ (r : List ℕ). (a + b) ∷ r) (sums_next xs ys x y (omega arith))

pub length-zeros : (n : ℕ) → length (zeros n) ≡ n
length-zeros n = length-replicate n 0

pub zeros-add : (m n : ℕ) → zeros m ++ zeros n ≡ zeros (m + n)
zeros-add zero n = rw zero-add
zeros-add (suc m) n = rw suc-add (ap (λ (r : List ℕ). 0 ∷ r) (zeros-add m n))

-- lists one behind the other
pub joined-append : {A : Type 0} (a b : List (List A)) → joined (a ++ b) ≡ joined a ++ joined b
joined-append [] b = refl
joined-append (l ∷ a) b = ap (λ r. l ++ r) (joined-append a b) ∙ sym (append_assoc l (joined a) (joined b))

-- sums over a list: of two lists, through a map, one element, one element changed
pub over-append : {A : Type 0} (f : A → ℕ) (a b : List A) → over_all f (a ++ b) ≡ over_all f a + over_all f b
over-append f [] b = omega arith
over-append f (x ∷ a) b = omega (arith, over-append f a b)

pub over-map : {A B : Type 0} (f : B → ℕ) (g : A → B) (l : List A) → over_all f (map g l) ≡ over_all (λ a. f (g a)) l
over-map f g [] = refl
over-map f g (x ∷ l) = ap (λ r. f (g x) + r) (over-map f g l)

pub over-at : {A : Type 0} (f : A → ℕ) (d : A) → f d ≡ 0 → (l : List A) (i : ℕ) → f (get_or l i d) ≤ over_all f l
over-at f d e [] i = omega arith
over-at f d e (x ∷ xs) zero = omega arith
over-at f d e (x ∷ xs) (suc i) = omega (arith, over-at f d e xs i)

pub over-set : {A : Type 0} (f : A → ℕ) (d : A) (l : List A) (i : ℕ) (a : A) → i < length l
    → over_all f (set l i a) + f (get_or l i d) ≡ over_all f l + f a
over-set f d [] i a h = absurd (not-suc-le-zero h)
over-set f d (x ∷ xs) zero a h = omega arith
over-set f d (x ∷ xs) (suc i) a h = omega (arith, over-set f d xs i a (le_of_suc-le-suc h))

-- the first i elements, as a loop going up adds them
pub over-next : {A : Type 0} (f : A → ℕ) (l : List A) (i : ℕ) (d : A) → i < length l
    → over_all f (take (suc i) l) ≡ over_all f (take i l) + f (get_or l i d)
over-next f l i d h =
    ap (over_all f) (take-suc l i d h) ∙ over-append f (take i l) (get_or l i d ∷ []) ∙ omega arith

pub over-take : {A : Type 0} (f : A → ℕ) (l : List A) (i : ℕ) → over_all f (take i l) ≤ over_all f l
over-take f l zero = omega arith
over-take f [] (suc i) = omega arith
over-take f (x ∷ l) (suc i) = omega (arith, over-take f l i)

-- a part, by its words
module _ (l : List ℕ) (at n : ℕ) where
  pub length_part : at + n ≤ length l → length (part at n l) ≡ n
  unfolding part
  length_part h = simp (length-take, length-drop) (omega arith)

  pub get_d_part : (i : ℕ) → i < n → get_or (part at n l) i 0 ≡ get_or l (at + i) 0
  unfolding part
  get_d_part i h = rw (get_or-take, get_or-drop)

  pub part-next : at + n < length l → part at (suc n) l ≡ part at n l ++ get_or l (at + n) 0 ∷ []
  unfolding part
  part-next h =
      let k : n < length (drop at l) = simp length-drop (omega arith) in
      rw (take-suc (drop at l) n 0, get_or-drop)

pub part-zero : (l : List ℕ) (at : ℕ) → part at 0 l ≡ []
unfolding part
part-zero l at = refl

-- a part in two, and a part of two lists: of the second, the first, and within the first
pub part-add : (l : List ℕ) (at m n : ℕ) → part at (m + n) l ≡ part at m l ++ part (at + m) n l
unfolding part
part-add l at m n = rw (take-add m n (drop at l), drop-drop m at l)

pub part-behind : (x y : List ℕ) (a b n : ℕ) → length x ≡ a → part (a + b) n (x ++ y) ≡ part b n y
unfolding part
part-behind x y a b n e = rw (← e) (ap (take n) (drop-append-add x y b))

pub part-front : (x y : List ℕ) (n : ℕ) → length x ≡ n → part 0 n (x ++ y) ≡ x
unfolding part
part-front x y n e = take_at x y n e

pub part-inside : (x y : List ℕ) (a n : ℕ) → a + n ≤ length x → part a n (x ++ y) ≡ part a n x
unfolding part
part-inside x y a n h =
    ap (take n) (drop-append-le a x y (omega arith)) ∙ take-append-le n (drop a x) y (omega (arith, length-drop a x))

-- a part of a splice: the words spliced in, or words that it left alone
pub part-splice-same : (l : List ℕ) (at : ℕ) (vs : List ℕ) → at + length vs ≤ length l
    → part at (length vs) (splice l at vs) ≡ vs
unfolding part
part-splice-same [] zero [] h = refl
part-splice-same [] zero (v ∷ vs) h = absurd (omega arith)
part-splice-same [] (suc at) vs h = absurd (omega arith)
part-splice-same (x ∷ l) zero [] h = refl
part-splice-same (x ∷ l) zero (v ∷ vs) h =
    ap (λ (r : List ℕ). v ∷ r) (part-splice-same l zero vs (omega arith))
part-splice-same (x ∷ l) (suc at) vs h = part-splice-same l at vs (omega arith)

pub part-splice-apart : (l : List ℕ) (at : ℕ) (vs : List ℕ) (b n : ℕ) → (b + n ≤ at) ⊎ (at + length vs ≤ b)
    → b + n ≤ length l → part b n (splice l at vs) ≡ part b n l
part-splice-apart l at vs b n apart h =
    let m = splice l at vs in
    let e : length (part b n m) ≡ n = length_part m b n (simp length-splice h) in
    ext_get_or 0 (part b n m) (part b n l) (e ∙ sym (length_part l b n h))
    (λ i k. let k' : i < n = omega arith in
    get_d_part m b n i k'
    ∙ ⊎_elim (λ w. get_or-splice-before l at vs (b + i) (omega arith))
    (λ w. get_or-splice-after l at vs (b + i) (omega arith)) apart
    ∙ sym (get_d_part l b n i k'))

-- the words put at the front
pub take-splice : (l vs : List ℕ) (n : ℕ) → length vs ≡ n → n ≤ length l → take n (splice l 0 vs) ≡ vs
unfolding part
take-splice l vs n e h = rw (← e) (part-splice-same l 0 vs (omega arith))

-- what the loan of a part, `&mut s[at..at + n]`, gives the callee, and what it leaves of the slice
pub lent : (l : List ℕ) (at n : ℕ) → take (at + n - at) (drop at l) ≡ part at n l
unfolding part
lent l at n = let e : at + n - at ≡ n = omega arith in rw e

pub returned : (l : List ℕ) (at n : ℕ) (vs : List ℕ) → at + n ≤ length l → length vs ≡ n
    → put_mid at (at + n - at) l vs ≡ splice l at vs
returned l at n vs h e =
    let k : at + n - at ≡ n = omega arith in
    rw k (rw (drop-drop n at l) (rw (← e) (sym (splice-eq l at vs (omega arith)))))
