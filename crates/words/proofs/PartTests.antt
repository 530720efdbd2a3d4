-- Laws of tests over the words of a part.
use Rattle.std.proofs.Common.{◌≡◌, ℕ, ◌+◌, ◌-◌, ◌*◌, ◌%◌, ◌^◌, ◌<◌, ◌≤◌, Bool, true, false, ◌&&◌, ltb, leb, ◌⊎◌, List, [], ◌∷◌, length, get_or, drop, sym, refl, ap, ◌∙◌, inl, inr, ⊎_elim, add-zero, arith, length-drop, length-take-le, drop-drop, take-add, drop_at, ltb-false, ltb-true, le-ltb, lt-ltb, le-leb, leb-true, suc, get_or-drop}
use mathlib.Core.Bool.{and_assoc}
use lib.Bits.{bit_or, or_add_and, and_le_r, or_lt, or_comm}
use borrow.Author.Tests.{lt-leb}
use Rattle.lta_spec.specs.Words.{part, every}
use Rattle.lta_spec.specs.Size.{row_words}
use Rattle.lta_spec.specs.Row.{row_ok, sum_ok}
use Rattle.lta_spec.proofs.WordLaws.{get_d_part}
use Rattle.lta_spec.proofs.TestLaws.{and_both, every-next}
use Rattle.words.specs.Moves.{at_most}

-- one word more, as a loop going up tests it
pub every-part-next : (f : ℕ → Bool) (l : List ℕ) (at i : ℕ) → at + i < length l
    → every f (part at (suc i) l) ≡ every f (part at i l) && f (get_or l (at + i) 0)
unfolding part
every-part-next f l at i h =
    let k : i < length (drop at l) = simp length-drop (omega arith) in
    every-next f (drop at l) i 0 k ∙ ap (λ (x : ℕ). every f (part at i l) && f x) (get_or-drop at l i 0)

-- two tests that agree on every word
pub every-same : (f g : ℕ → Bool) → ((x : ℕ) → f x ≡ g x) → (l : List ℕ) → every f l ≡ every g l
every-same f g e [] = refl
every-same f g e (x ∷ l) = rw (e x, every-same f g e l)

-- what is left of a part without its first words
pub drop-part : (l : List ℕ) (at a n : ℕ) → at + (a + n) ≤ length l
    → drop a (part at (a + n) l) ≡ part (at + a) n l
unfolding part
drop-part l at a n h =
    let m : List ℕ = drop at l in
    let e = length-take-le a m (simp length-drop (omega arith)) in
    rw (take-add a n m, drop_at _ _ a e, drop-drop a at l)

-- the test of a row that lies in a list, by the list's words
abbrev pub row_tests : (l : List ℕ) (at n limit : ℕ) → Bool
row_tests l at n limit =
    let ticks = get_or l at 0 in
    leb ticks limit
    && ((leb (get_or l (at + 1) 0) ticks && leb (get_or l (at + 2) 0) ticks)
    && every (sum_ok ticks) (part (at + 3) (2 * n) l))

pub row_ok-at : (l : List ℕ) (at n limit : ℕ) → at + row_words n ≤ length l
    → row_ok limit (part at (row_words n) l) ≡ row_tests l at n limit
unfolding row_ok
row_ok-at l at n limit h =
    let word = get_d_part l at (row_words n) in
    simp (
      word 0 (omega arith),
      word 1 (omega arith),
      word 2 (omega arith),
      drop-part l at 3 (2 * n) h,
      add-zero,
      and_assoc,
    )

-- 2 ^ 63: a word below it has no top bit
abbrev pub top : ℕ
top = 9223372036854775808

lt-or-ge : (a b : ℕ) → (a < b) ⊎ (b ≤ a)
lt-or-ge a b = by-test (ltb a b) refl
  where
    by-test : (t : Bool) → ltb a b ≡ t → (a < b) ⊎ (b ≤ a)
    by-test true e = inl (ltb-true a b e)
    by-test false e = inr (ltb-false a b e)

-- the top bit of an or is that of either
or_above : (a b : ℕ) → a ≤ bit_or a b
or_above a b = omega (arith, or_add_and a b, and_le_r a b)

or-below : (a b : ℕ) → ltb (bit_or a b) top ≡ ltb a top && ltb b top
or-below a b =
    ⊎_elim
    (λ h. ⊎_elim
    (λ k. rw (lt-ltb a top h, lt-ltb b top k) (lt-ltb (bit_or a b) top (or_lt 63 a b h k)))
    (λ k. rw (lt-ltb a top h, le-ltb b top k) (le-ltb (bit_or a b) top (omega (arith, rw or_comm at (or_above b a)))))
    (lt-or-ge b top))
    (λ h. rw (le-ltb a top h) (le-ltb (bit_or a b) top (omega (arith, or_above a b))))
    (lt-or-ge a top)

-- b less x, wrapping
abbrev pub less : (b x : ℕ) → ℕ
less b x = (b + (2 ^ 64 - x)) % 2 ^ 64

-- neither x nor b less x has its top bit exactly where x is at most b
top-bits : (x b : ℕ) → x < 2 ^ 64 → b < top → ltb x top && ltb (less b x) top ≡ leb x b
top-bits x b hx hb =
    ⊎_elim
    (λ h. rw (lt-leb x b h)
    (⊎_elim (λ k. rw (lt-ltb x top k, le-ltb (less b x) top (omega arith))) (λ k. rw (le-ltb x top k))
    (lt-or-ge x top)))
    (λ h. rw (lt-ltb x top (omega arith), lt-ltb (less b x) top (omega arith)) (sym (le-leb x b h)))
    (lt-or-ge b x)

-- a turn of the loop that gathers the top bits
pub wide-next : (bits x b : ℕ) → x < 2 ^ 64 → b < top
    → ltb (bit_or bits (bit_or x (less b x))) top ≡ ltb bits top && leb x b
wide-next bits x b hx hb =
    or-below bits (bit_or x (less b x))
    ∙ ap (λ (r : Bool). ltb bits top && r) (or-below x (less b x) ∙ top-bits x b hx hb)

-- words at most a are at most a number that is not below it
pub every-wider : (a b : ℕ) → a ≤ b → (l : List ℕ) → every (at_most a) l ≡ true → every (at_most b) l ≡ true
every-wider a b h [] e = refl
every-wider a b h (x ∷ l) e =
    let q = and_both (at_most a x) (every (at_most a) l) e in
    rw (le-leb x b (omega (arith, leb-true x a q.0))) (every-wider a b h l q.1)

-- a turn of the loop that gathers bits
pub bits-next : (bits x : ℕ) (l : List ℕ) → every (at_most bits) l ≡ true
    → every (at_most (bit_or bits x)) l && at_most (bit_or bits x) x ≡ true
bits-next bits x l e =
    rw (
      every-wider bits (bit_or bits x) (or_above bits x) l e,
      le-leb x (bit_or bits x) (rw or_comm at (or_above x bits)),
    )
