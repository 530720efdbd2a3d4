-- How long lines are: a number of 64 bits has at most 20 digits, a word 10, and a lag has a sign with them. The line
-- of a record has at most 24 bytes for each byte of the record.
use Prim.Native.Nat.{ℕ, zero, suc, ◌+◌, ◌*◌, ◌-◌, ◌≤◌, ◌<◌}
use mathlib.Core.Path.{◌≡◌, refl, sym, ap, ◌∙◌}
use mathlib.Core.Bool.{Bool, true, false, cond, false≢true}
use mathlib.Core.List.{List, [], ◌∷◌, ◌++◌, map}
use native.Mathlib.Nat.{mul-suc}
use native.Mathlib.Omega.{arith}
use lib.Dec.{eqb, ltb}
use lib.IntN.{ℤ, pos, negsuc}
use lib.ListN.{length, take, drop, length-append}
use borrow.Author.Tests.{ltb-false}
use Rattle.lta_spec.specs.Words.{part}
use Rattle.lta_spec.specs.Bytes.{word_range, words_of, signed}
use Rattle.lta_spec.specs.Decimal.{space, line_feed}
use Rattle.lta_spec.specs.Frame.{accumulated, speed_frame, head_words}
use Rattle.lta_spec.specs.Call.{speed}
use Rattle.lta_spec.proofs.DecimalLaws.{few-digits}
use Rattle.lta_spec.proofs.ByteLaws.{Below, below-drop, below-part, words-below}
use Rattle.std.specs.Prelude.{Some, None, Result, Ok, Err}
use Rattle.frame_header.specs.declared.kind.FrameKind.TheVariants.{Speed}
use Rattle.script_records.specs.Records.{kind_of, size_of_kind, size_by, record_size, two_at, record_in, next_by, marked_in}
use Rattle.script_records.specs.declared.Kind.{Kind}
use Rattle.script_records.specs.declared.Kind.TheVariants.{Tick, Dump, Integrate, Emit}
use Rattle.script_records.specs.declared.UnknownMark.{UnknownMark}
use Rattle.script_records.specs.declared.Record.{Record}
use Rattle.script_records.specs.declared.Record.TheVariants as kind
use Rattle.script_records.specs.declared.Next.TheVariants as next
use Rattle.script_bytes.specs.Bytes.{size_in, next_in, is_record}
use Rattle.script_bytes.proofs.HeadLaws.{by-letters, uncut, lettered, whole}
use Rattle.script_lines.specs.declared.Printed.TheVariants.{Plain, Signed}
use Rattle.script_lines.specs.Lines.{
  field,
  spaced,
  line,
  letters_of,
  frame_fields,
  fields_by,
  value_fields,
  end_line,
  most_bytes,
}
use Rattle.script_lines.proofs.FieldLaws.{words, frame-parts}

-- 2^64
abbrev pub long_range : ℕ
long_range = 18446744073709551616

-- a field and its space
module _ (z : ℤ) (zs : List ℤ) where
  length-spaced : length (spaced (z ∷ zs)) ≡ suc (length (field z)) + length (spaced zs)
  unfolding spaced
  length-spaced = length-append (space ∷ field z) (spaced zs)

length_none : length (spaced []) ≡ 0
unfolding spaced
length_none = refl

module _ (n : ℕ) where
  long-field : n < long_range → length (field (pos n)) ≤ 20
  unfolding field
  long-field h = few-digits 19 n (omega arith)

  word-field : n < word_range → length (field (pos n)) ≤ 10
  unfolding field
  word-field h = few-digits 9 n (omega arith)

  short-field : n < 100 → length (field (pos n)) ≤ 2
  unfolding field
  short-field h = few-digits 1 n (omega arith)

  zero_field : n < 10 → length (field (pos n)) ≤ 1
  unfolding field
  zero_field h = few-digits 0 n (omega arith)

lag-by : (w : ℕ) (small : Bool) → ltb w 2147483648 ≡ small → w < word_range
    → length (field (cond small (pos w) (negsuc (word_range - suc w)))) ≤ 11
unfolding field
lag-by w true e h = omega (arith, few-digits 9 w (omega arith))
lag-by w false e h =
    let k = suc (word_range - suc w) in
    let big : 2147483648 ≤ w = ltb-false w 2147483648 e in
    omega (arith, few-digits 9 k (omega arith))

lag-field : (w : ℕ) → w < word_range → length (field (signed w)) ≤ 11
lag-field w h = lag-by w (ltb w 2147483648) refl h

-- fields of words
fields-most : (f : ℕ → ℤ) (most : ℕ) → ((w : ℕ) → w < word_range → length (field (f w)) ≤ most) → (ws : List ℕ)
    → Below word_range ws → length (spaced (map f ws)) ≤ suc most * length ws
fields-most f most h [] b = rw length_none (omega arith)
fields-most f most h (w ∷ ws) b =
    rw (mul-suc (suc most) (length ws))
    (omega (arith, length-spaced (f w) (map f ws), h w b.0, fields-most f most h ws b.1))

length-take-most : (n : ℕ) (l : List ℕ) → length (take n l) ≤ n
length-take-most zero l = omega arith
length-take-most (suc n) [] = omega arith
length-take-most (suc n) (x ∷ l) = omega (arith, length-take-most n l)

length-part-most : (k n : ℕ) (l : List ℕ) → length (part k n l) ≤ n
unfolding part
length-part-most k n l = length-take-most n (drop k l)

frame-most : (kind : ℕ) (out : List ℕ) → Below 256 out
    → length (spaced (frame_fields kind out)) ≤ 11 * head_words kind + 59
frame-most kind out b =
    let ws = words_of (drop 2 out) in
    let below = words-below (drop 2 out) (below-drop 256 2 out b) in
    let h = head_words kind in
    let head = words Plain ws 0 h in
    let lags = words Signed ws h 4 in
    let last = words Plain ws (h + 4) 1 in
    rw (← frame-parts kind out)
    (omega (
      arith,
      length-append (head ++ lags) last,
      length-append head lags,
      fields-most pos 10 word-field (part 0 h ws) (below-part word_range 0 h ws below),
      fields-most signed 11 lag-field (part h 4 ws) (below-part word_range h 4 ws below),
      fields-most pos 10 word-field (part (h + 4) 1 ws) (below-part word_range (h + 4) 1 ws below),
      length-part-most 0 h ws,
      length-part-most h 4 ws,
      length-part-most (h + 4) 1 ws,
    ))

length-line : (letters : List ℕ) (zs : List ℤ) → length (line letters zs) ≡ length letters + length (spaced zs) + 1
unfolding line
length-line letters zs =
    omega (arith, length-append (letters ++ spaced zs) (line_feed ∷ []), length-append letters (spaced zs))

two-letters : (r : Record) → length (letters_of r) ≡ 2
two-letters (kind.Tick t) = refl
two-letters (kind.Dump d) = refl
two-letters (kind.Integrate cell) = refl
two-letters (kind.Emit e) = refl

-- no line has fewer than 26 bytes of room
room-least : (r : Record) → 26 ≤ most_bytes r
room-least (kind.Tick t) = omega arith
room-least (kind.Dump d) = omega arith
room-least (kind.Integrate cell) = omega arith
room-least (kind.Emit e) = omega arith

-- a refusal
pub refusal-fits : (r : Record) (k : ℕ) → k < long_range → length (line (letters_of r) (pos k ∷ [])) ≤ most_bytes r
refusal-fits r k h =
    omega (
      arith,
      length-line (letters_of r) (pos k ∷ []),
      two-letters r,
      length-spaced (pos k) [],
      length_none,
      long-field k h,
      room-least r,
    )

-- 0 and an answer
value-fits : (r : Record) (k : ℕ) (out : List ℕ) → k < long_range → Below 256 out
    → length (spaced (value_fields r k out)) + 5 ≤ most_bytes r
value-fits (kind.Tick t) k out h b = omega (arith, length-spaced (pos k) [], length_none, long-field k h)
value-fits (kind.Dump d) k out h b = by-test (eqb d.command speed)
  where
    by-test : (s : Bool)
        → length (spaced (fields_by (cond s (Some Speed) None) k out)) + 5 ≤ 152
    by-test true = omega (arith, frame-most speed_frame out b)
    by-test false = omega (arith, length-spaced (pos k) [], length_none, long-field k h)
value-fits (kind.Integrate cell) k out h b = omega (arith, length-spaced (pos k) [], length_none, long-field k h)
value-fits (kind.Emit e) k out h b = omega (arith, frame-most accumulated out b)

pub accepted-fits : (r : Record) (k : ℕ) (out : List ℕ) → k < long_range → Below 256 out
    → length (line (letters_of r) (pos 0 ∷ value_fields r k out)) ≤ most_bytes r
accepted-fits r k out h b =
    omega (
      arith,
      length-line (letters_of r) (pos 0 ∷ value_fields r k out),
      two-letters r,
      length-spaced (pos 0) (value_fields r k out),
      zero_field 0 (omega arith),
      value-fits r k out h b,
    )

-- the END line
pub end-most : (n : ℕ) → n < 100 → length (end_line n) ≤ 7
end-most n h =
    let letters : List ℕ = 69 ∷ 78 ∷ 68 ∷ [] in
    omega (arith, length-line letters (pos n ∷ []), length-spaced (pos n) [], length_none, short-field n h)

-- the bytes of a record with its letters, and the room for its line
kind-room : (k : Kind) (b : List ℕ) → most_bytes (record_in k b) ≤ 24 * size_of_kind k
kind-room Tick b = omega arith
kind-room Dump b = omega arith
kind-room Integrate b = omega arith
kind-room Emit b = omega arith

room_by : (k : Result Kind UnknownMark) (b : List ℕ) (r : Record) → next_by k b ≡ next.Record r
    → most_bytes r ≤ 24 * size_by k
room_by (Ok k) b r e = let same : record_in k b ≡ r = cc in rw (← same) (kind-room k b)
room_by (Err u) b r e = absurd (false≢true (ap is_record e))

marked-room : (letters : ℕ) (b : List ℕ) (r : Record) → marked_in letters b ≡ next.Record r
    → most_bytes r ≤ 24 * record_size letters
unfolding marked_in record_size
marked-room l b r e = room_by (kind_of l) b r e

pub line-room : (b : List ℕ) (r : Record) → next_in b ≡ next.Record r → most_bytes r ≤ 24 * size_in b
line-room b r e =
    let here = whole b (ap is_record e) in
    rw (by-letters b (lettered b here)) (marked-room (two_at b 0) b r (sym (uncut b here) ∙ e))
