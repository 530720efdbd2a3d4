-- Words put one after the other; words named by their numbers.
use Rattle.std.proofs.Common.{◌≡◌, ℕ, suc, Bool, ◌&&◌, ◌+◌, ◌*◌, ◌<◌, ◌≤◌, List, [], ◌∷◌, ◌++◌, ◌%◌, map, length, get_or, take, ext_get_or, sym, refl, ◌∙◌, arith, length-take-le, take-suc}
use native.Mathlib.Nat.{mod-add-mod}
use Rattle.std.specs.List.{range_with_len}
use Rattle.std.proofs.lemmas.List.{map-append}
use Rattle.std.proofs.lemmas.List.FromFn.{get_or-map-range_with_len, length-map-range_with_len}
use Rattle.std.proofs.lemmas.List.Recursion.{and_push}
use Rattle.lta_spec.specs.Words.{part, splice, every}
use Rattle.lta_spec.specs.Bytes.{word_range, bytes_of, total}
use Rattle.lta_spec.specs.Frame.{checksum}
use Rattle.lta_spec.proofs.WordLaws.{splice-append, length_part, get_d_part}
use Rattle.lta_spec.proofs.ByteLaws.{length-bytes, bytes-append, total-next}

-- a loop that puts words one after the other
pub put_next : (l : List ℕ) (k : ℕ) (ws : List ℕ) (i d : ℕ) → i < length ws
    → splice (splice l (4 * k) (bytes_of (take i ws))) (4 * (k + i)) (bytes_of (get_or ws i d ∷ []))
    ≡ splice l (4 * k) (bytes_of (take (suc i) ws))
put_next l k ws i d h =
    let n : 4 * (k + i) ≡ 4 * k + length (bytes_of (take i ws)) =
    omega (arith, length-bytes (take i ws), length-take-le i ws (omega arith)) in
    rw (
      n,
      splice-append l (4 * k) (bytes_of (take i ws)) (bytes_of (get_or ws i d ∷ [])),
      ← bytes-append (take i ws) (get_or ws i d ∷ []),
      ← take-suc ws i d h,
    )

-- the words of these numbers
abbrev pub words_at : List ℕ → List ℕ → List ℕ
words_at ws is = map (λ i. get_or ws i 0) is

-- the n words from k
pub words_at-range : (ws : List ℕ) (k n : ℕ) → k + n ≤ length ws → words_at ws (range_with_len k n) ≡ part k n ws
words_at-range ws k n h =
    let long = length-map-range_with_len (λ i. get_or ws i 0) k n in
    ext_get_or 0 (words_at ws (range_with_len k n)) (part k n ws) (long ∙ sym (length_part ws k n h))
    (λ i w. let inside : i < n = omega (arith, w, long) in
    get_or-map-range_with_len (λ i. get_or ws i 0) k n i (k + i) 0 inside refl ∙ sym (get_d_part ws k n i inside))

-- a fold that sums them
pub sum_next : (ws is : List ℕ) (i : ℕ) {sum next : ℕ} → sum ≡ checksum (words_at ws is)
    → next ≡ (sum + get_or ws i 0) % word_range → next ≡ checksum (words_at ws (is ++ i ∷ []))
sum_next ws is i e f =
    let w = get_or ws i 0 in
    f
    ∙ rw (
      e,
      mod-add-mod (total (words_at ws is)) word_range w,
      ← total-next (words_at ws is) w,
      ← map-append (λ j. get_or ws j 0) is (i ∷ []),
    )

-- a fold that tests each of a list
pub every_next : {A : Type 0} (f : A → Bool) (xs : List A) (x : A) {ok next : Bool} → ok ≡ every f xs
    → next ≡ ok && f x → next ≡ every f (xs ++ x ∷ [])
every_next f xs x e h = h ∙ rw e (sym (and_push (every f) f refl (λ y ys. refl) xs x))
