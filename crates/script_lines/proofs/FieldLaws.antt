-- Fields one behind the other: one field, a list of them in two parts, the words of a frame.
use Prim.Native.Nat.{ℕ, suc, ◌+◌, ◌-◌, ◌<◌, ◌≤◌}
use Prim.Native.Char.{code}
use mathlib.Core.Path.{◌≡◌, refl, sym, ap, ◌∙◌}
use mathlib.Core.Bool.{true}
use mathlib.Core.List.{List, [], ◌∷◌, ◌++◌, map, append_assoc, append-nil, map-append}
use native.Mathlib.Omega.{arith}
use native.Mathlib.Numerals.{add-one}
use lib.IntN.{ℤ, pos, negsuc}
use lib.Signed.{lt_z}
use borrow.Author.Tests.{ltb-true}
use Rattle.std.specs.Prelude.{unsigned_abs}
use lib.ListN.{length, get_or, drop}
use Rattle.lta_spec.specs.Words.{part}
use Rattle.lta_spec.specs.Bytes.{words_of, signed}
use Rattle.lta_spec.specs.Decimal.{space, line_feed, decimal}
use Rattle.lta_spec.specs.Frame.{head_words}
use Rattle.lta_spec.proofs.WordLaws.{part-next, part-zero, part-add, splice-nil}
use Rattle.script_lines.specs.declared.Printed.{Printed}
use Rattle.script_lines.specs.declared.Printed.TheVariants.{Plain, Signed}
use Rattle.script_lines.specs.Lines.{field, spaced, line, word_field, frame_fields}
use Rattle.script_lines.proofs.PutLaws.{
  Room,
  Put,
  Rooms,
  same-room,
  same-put,
  first-room,
  second-room,
  both,
  all-3,
}

-- one field: a number of 0 or more, and one below
pub one_field : (n : ℕ) → (space ∷ []) ++ decimal n ≡ spaced (pos n ∷ [])
unfolding spaced field
one_field n = ap (λ l. space ∷ l) (sym (append-nil (decimal n)))

pub below : (z : ℤ) → lt_z z (pos 0) ≡ true → (space ∷ code "-" ∷ []) ++ decimal (unsigned_abs z) ≡ spaced (z ∷ [])
unfolding spaced field
below (pos n) e = absurd (omega (arith, ltb-true n 0 e))
below (negsuc n) e = ap (λ l. space ∷ code "-" ∷ l) (sym (append-nil (decimal (suc n))))

-- fields in two parts
pub spaced-append : (ys zs : List ℤ) → spaced ys ++ spaced zs ≡ spaced (ys ++ zs)
unfolding spaced
spaced-append [] zs = refl
spaced-append (y ∷ ys) zs =
    append_assoc (space ∷ field y) (spaced ys) (spaced zs)
    ∙ ap (λ l. (space ∷ field y) ++ l) (spaced-append ys zs)

-- the words from k on: one more, and the first i of n
module _ (printed : Printed) (ws : List ℕ) (k : ℕ) where
  abbrev pub words : (n : ℕ) → List ℕ
  words n = spaced (map (word_field printed) (part k n ws))

  one_more : (i : ℕ) → k + i < length ws
      → words i ++ spaced (word_field printed (get_or ws (k + i) 0) ∷ []) ≡ words (suc i)
  one_more i h =
      spaced-append (map (word_field printed) (part k i ws)) (word_field printed (get_or ws (k + i) 0) ∷ [])
      ∙ ap spaced
      (sym (map-append (word_field printed) (part k i ws) (get_or ws (k + i) 0 ∷ []))
      ∙ ap (map (word_field printed)) (sym (part-next ws k i h)))

  first-words : (i n : ℕ) → i ≤ n → words i ++ spaced (map (word_field printed) (part (k + i) (n - i) ws)) ≡ words n
  first-words i n h =
      let e : i + (n - i) ≡ n = omega arith in
      spaced-append (map (word_field printed) (part k i ws)) (map (word_field printed) (part (k + i) (n - i) ws))
      ∙ ap spaced
      (sym (map-append (word_field printed) (part k i ws) (part (k + i) (n - i) ws))
      ∙ ap (map (word_field printed)) (sym (part-add ws k i (n - i)) ∙ ap (λ n. part k n ws) e))

  -- a loop that puts them one after the other
  pub no_words : (l : List ℕ) (at : ℕ) → Put l at (words 0) at l
  unfolding spaced
  no_words l at =
      same-put l at (ap (λ ws. spaced (map (word_field printed) ws)) (sym (part-zero ws k)))
      (record { behind = omega arith; leaves = sym (splice-nil l at) })

  module _ (l : List ℕ) (at : ℕ) {p : ℕ} {m : List ℕ} (i : ℕ) (put : Put l at (words i) p m) where
    pub next-room : (n : ℕ) → i < n → k + n ≤ length ws → Room l at (words n)
        → Room m p (spaced (word_field printed (get_or ws (k + i) 0) ∷ []))
    next-room n h inside room =
        let more = spaced (map (word_field printed) (part (k + suc i) (n - suc i) ws)) in
        let here = same-room l at (sym (first-words (suc i) n (omega arith))) room in
        second-room l at (words i) (spaced (word_field printed (get_or ws (k + i) 0) ∷ [])) put
        (same-room l at (sym (one_more i (omega arith))) (first-room l at (words (suc i)) more here))

    pub next-put : {q : ℕ} {n : List ℕ} → k + i < length ws
        → Put m p (spaced (word_field printed (get_or ws (k + i) 0) ∷ [])) q n → Put l at (words (i + 1)) q n
    next-put inside further =
        same-put l at (one_more i inside ∙ ap words (sym (add-one i)))
        (both l at (words i) (spaced (word_field printed (get_or ws (k + i) 0) ∷ [])) put further)

-- the three parts of a line: letters, fields, line feed
abbrev pub LineRooms : (l : List ℕ) (at : ℕ) (letters : List ℕ) (zs : List ℤ) → Type 0
LineRooms l at letters zs = Rooms l at letters (spaced zs) (line_feed ∷ [])

module _ (l : List ℕ) (at : ℕ) (letters : List ℕ) (zs : List ℤ) where
  pub line-rooms : Room l at (line letters zs) → LineRooms l at letters zs
  unfolding line
  line-rooms h = record { room = h }

  pub line-put : {p q e : ℕ} {m n k : List ℕ} → LineRooms l at letters zs → Put l at letters p m
      → Put m p (spaced zs) q n → Put n q (line_feed ∷ []) e k → Put l at (line letters zs) e k
  unfolding line
  line-put rooms first second third = all-3 rooms first second third

-- the three parts of a frame's words: header words, lags, sum
pub frame-parts : (kind : ℕ) (out : List ℕ)
    → let ws = words_of (drop 2 out) in
    let h = head_words kind in
    words Plain ws 0 h ++ words Signed ws h 4 ++ words Plain ws (h + 4) 1 ≡ spaced (frame_fields kind out)
unfolding frame_fields
frame-parts kind out =
    let ws = words_of (drop 2 out) in
    let h = head_words kind in
    let head = map pos (part 0 h ws) in
    let lags = map signed (part h 4 ws) in
    let last = map pos (part (h + 4) 1 ws) in
    ap (λ l. l ++ spaced last) (spaced-append head lags) ∙ spaced-append (head ++ lags) last
