-- The calls on frames, of both kinds: reader, lag part, writer, normalised lag. Refusals "1 for N, then 13 .., 14 ..,
-- 15 .., 16 .. Normalising: 12 last. Writing fields: 1, 16, 10." By request 2026-04, 18 "tested after 16".
use Rattle.std.specs.Prelude.{ℕ, ◌+◌, ◌*◌, Bool, cond, ◌&&◌, List, [], ◌∷◌, ◌++◌, leb, ltb, eqb, ℤ, pos, Float, length, get_or, take}
use Rattle.std.specs.Float.{binary64}
use Rattle.std.specs.Float.Ieee.{div, of_int}
use Rattle.lta_spec.specs.Words.{part, splice}
use Rattle.lta_spec.specs.Refusals.{Test, test, first_of, decided, Verdict}
use Rattle.lta_spec.specs.Answer.{Answer, refusal}
use Rattle.lta_spec.specs.Answer.Answer.{number, fields, normal, no_data}
use Rattle.lta_spec.specs.Shape.{lag_count_ok}
use Rattle.lta_spec.specs.Bytes.{signed}
use Rattle.lta_spec.specs.Frame.{
  mark,
  head_words,
  frame_length,
  lags_at,
  length_kind,
  checksum,
  frame_of,
  body_of,
  lag_words,
  lag_numbers,
  header,
  fields_of,
  fixed_ok,
  fields_ok,
  bias_ok,
  lags_ok,
}
use Rattle.lta_spec.specs.declared.Fields.{Fields}
use Rattle.lta_spec.specs.declared.Span.{Span}
use Rattle.lta_spec.specs.declared.Refusal.TheVariants.{BadShape, ShortBuffer, NoLag}
use Rattle.lta_spec.specs.declared.Refusal.TheVariants.{WrongLength, WrongMark, WrongSum, BadField, WrongBias}

-- 14: the bytes start with the mark
unfoldable pub marked : (s : List ℕ) → Bool
marked s = eqb (get_or s 0 0) (get_or mark 0 0) && eqb (get_or s 1 0) (get_or mark 1 0)

-- 15: the word behind the first k is their sum
unfoldable pub summed : (k : ℕ) (body : List ℕ) → Bool
summed k ws = eqb (get_or ws k 0) (checksum (take k ws))

-- 16: the rules on the words behind the mark, and "when W0 names the kind of the other length"
unfoldable pub ruled : (kind n : ℕ) (body : List ℕ) → Bool
ruled kind n ws =
    fixed_ok ws
    && (eqb (fields_of ws).kind kind
    && (fields_ok (fields_of ws) && lags_ok (fields_of ws) (lag_numbers kind n ws)))

-- the kind by the bytes' length
abbrev pub kind_by : (n : ℕ) (s : List ℕ) → ℕ
kind_by n s = length_kind n (length s)

-- 15, 16 and 18, of the words behind the mark
abbrev pub body_tests : (kind n : ℕ) (body : List ℕ) → List Test
body_tests kind n ws =
    test (summed (head_words kind + 2 * n) ws) WrongSum
    ∷ test (ruled kind n ws) BadField
    ∷ test (bias_ok kind ws) WrongBias
    ∷ []

-- what the frame sender may be told, in order; "13 when the length is neither kind's"
abbrev pub read_tests : (n : ℕ) (s : List ℕ) → List Test
read_tests n s =
    test (lag_count_ok n) BadShape
    ∷ test (eqb (length s) (frame_length (kind_by n s) n)) WrongLength
    ∷ test (marked s) WrongMark
    ∷ body_tests (kind_by n s) n (body_of s)

unfoldable pub read_verdict : (n : ℕ) (s : List ℕ) → Verdict
read_verdict n s = first_of (read_tests n s)

-- the reader returns the fields
abbrev pub read_answer : (n : ℕ) (s : List ℕ) → Answer
read_answer n s = decided (read_verdict n s) refusal (fields (fields_of (body_of s)))

-- "the part of the caller's bytes that holds the lag pairs", "the empty part where the reader refuses": where it is,
-- and its bytes
abbrev pub lag_span : (n : ℕ) (s : List ℕ) → Span
lag_span n s =
    decided (read_verdict n s) (λ r. record { at = 0; length = 0 })
    (record { at = lags_at (kind_by n s); length = 8 * n })

abbrev pub lag_part : (n : ℕ) (s : List ℕ) → List ℕ
lag_part n s = part (lag_span n s).at (lag_span n s).length s

-- what the writer of fields and lag numbers may be told, in order; room is the length of the buffer
unfoldable pub write_verdict : (n : ℕ) → Fields → List ℤ → (room : ℕ) → Verdict
write_verdict n f zs room =
    first_of
    (test (lag_count_ok n) BadShape
    ∷ test (fields_ok f && (eqb (length zs) (2 * n) && lags_ok f zs)) BadField
    ∷ test (leb (frame_length f.kind n) room) ShortBuffer
    ∷ [])

-- the writer "answers the frame's length"
abbrev pub write_answer : (n : ℕ) → Fields → List ℤ → (room : ℕ) → Answer
write_answer n f zs room =
    decided (write_verdict n f zs room) refusal (number (frame_length f.kind n))

-- what it leaves in the buffer: "bytes of any lent buffer past what a call writes keep their contents"
abbrev pub write_leaves : (n : ℕ) → Fields → List ℤ → (out : List ℕ) → List ℕ
write_leaves n f zs out =
    decided (write_verdict n f zs (length out)) (λ r. out) (splice out 0 (frame_of (header f) (lag_words zs)))

-- "one division each on exactly converted numbers", in f64
abbrev pub quotient : ℤ → ℕ → Float
quotient z count = div binary64 (of_int binary64 z) (of_int binary64 (pos count))

-- lag k of the words behind the mark, "I and Q each divided by the centre count"; "if that count is 0", no data
abbrev pub normal_of : (kind : ℕ) (body : List ℕ) (k : ℕ) → Answer
normal_of kind ws k =
    cond (eqb (get_or ws 3 0) 0)
    no_data
    (normal
    (record {
      re = quotient (signed (get_or ws (head_words kind + 2 * k) 0)) (get_or ws 3 0);
      im = quotient (signed (get_or ws (head_words kind + 2 * k + 1) 0)) (get_or ws 3 0);
    }))

unfoldable pub normal_verdict : (n : ℕ) (s : List ℕ) (k : ℕ) → Verdict
normal_verdict n s k = first_of (read_tests n s ++ test (ltb k n) NoLag ∷ [])

abbrev pub normal_answer : (n : ℕ) (s : List ℕ) (k : ℕ) → Answer
normal_answer n s k = decided (normal_verdict n s k) refusal (normal_of (kind_by n s) (body_of s) k)
