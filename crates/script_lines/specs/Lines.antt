-- Document 01, "The script program": "Each prints one line, fields one space apart: its two letters and a refusal
-- number, or 0 and its answer; EM prints the frame's words, lags signed. Last line: END and 0 or 17". Request 2026-04,
-- of a 011: "In the script DP then prints the frame's words."
use Rattle.std.specs.Prelude.{ℕ, suc, ◌+◌, ◌*◌, cond, List, [], ◌∷◌, ◌++◌, map, eqb, ℤ, pos, negsuc}
use Rattle.std.specs.Prelude.{Option, Some, None}
use Prim.Native.Char.{code}
use Rattle.lta_spec.specs.Words.{part}
use Rattle.lta_spec.specs.Bytes.{words_of, signed}
use Rattle.lta_spec.specs.Decimal.{ascii, space, line_feed, decimal}
use Rattle.lta_spec.specs.Frame.{head_words, body_of, lag_numbers}
use Rattle.lta_spec.specs.Call.{speed}
use Rattle.lta_spec.specs.Answer.{Answer}
use Rattle.lta_spec.specs.Answer.Answer.{refused, number, entry, fields, normal, no_data}
use Rattle.lta_spec.specs.Edges.{script_shape}
use Rattle.frame_header.specs.Kind.{kind_number}
use Rattle.frame_header.specs.declared.kind.FrameKind.{FrameKind}
use Rattle.frame_header.specs.declared.kind.FrameKind.TheVariants.{Accumulated, Speed}
use Rattle.script_records.specs.Records.{letters_of_kind, record_kind}
use Rattle.script_records.specs.declared.Record.{Record}
use Rattle.script_records.specs.declared.Record.TheVariants as kind
use Rattle.script_lines.specs.declared.Printed.{Printed}
use Rattle.script_lines.specs.declared.Printed.TheVariants.{Plain, Signed}

-- a field: a whole number in decimal, with a minus sign in front where it is below 0
unfoldable pub field : ℤ → List ℕ
field (pos n) = decimal n
field (negsuc n) = code "-" ∷ decimal (suc n)

-- fields, each with the space in front of it
unfoldable pub spaced : List ℤ → List ℕ
spaced [] = []
spaced (z ∷ zs) = (space ∷ field z) ++ spaced zs

-- a line: letters, fields, line feed
unfoldable pub line : (letters : List ℕ) → List ℤ → List ℕ
line letters zs = letters ++ spaced zs ++ line_feed ∷ []

-- "its two letters"
abbrev pub letters_of : Record → List ℕ
letters_of r = letters_of_kind (record_kind r)

-- a word of a frame as a field, "lags signed"; and the n words from word k of some bytes on
abbrev pub word_field : Printed → (w : ℕ) → ℤ
word_field Plain w = pos w
word_field Signed w = signed w

abbrev pub word_fields : Printed → (k n : ℕ) → (body : List ℕ) → List ℤ
word_fields printed k n body = map (word_field printed) (part k n (words_of body))

-- "the frame's words, lags signed": header words, the lags of the script's run, and the sum behind them
unfoldable pub frame_fields : (kind : ℕ) (out : List ℕ) → List ℤ
frame_fields kind out =
    let ws = body_of out in
    map pos (part 0 (head_words kind) ws)
    ++ lag_numbers kind script_shape.lags ws
    ++ map pos (part (head_words kind + 2 * script_shape.lags) 1 ws)

-- the kind of the frame that a record's call leaves in the buffer where it is accepted
abbrev pub sent_kind : Record → Option FrameKind
sent_kind (kind.Tick t) = None
sent_kind (kind.Dump d) = cond (eqb d.command speed) (Some Speed) None
sent_kind (kind.Integrate cell) = None
sent_kind (kind.Emit e) = Some Accumulated

-- what a record that is accepted prints behind 0: its answer, or the words of the frame in the buffer
abbrev pub fields_by : (sent : Option FrameKind) (k : ℕ) (out : List ℕ) → List ℤ
fields_by None k out = pos k ∷ []
fields_by (Some kind) k out = frame_fields (kind_number kind) out

abbrev pub value_fields : Record → (k : ℕ) (out : List ℕ) → List ℤ
value_fields r k out = fields_by (sent_kind r) k out

-- "a refusal number, or 0 and its answer"; a script has no call that answers anything else
abbrev pub answer_fields : Record → Answer → (out : List ℕ) → List ℤ
answer_fields r (refused k) out = pos k ∷ []
answer_fields r (number k) out = pos 0 ∷ value_fields r k out
answer_fields r (entry e) out = []
answer_fields r (fields f) out = []
answer_fields r (normal z) out = []
answer_fields r no_data out = []

-- the line of a record, by its answer and the frame buffer as its call left it
abbrev pub answer_line : Record → Answer → (out : List ℕ) → List ℕ
answer_line r a out = line (letters_of r) (answer_fields r a out)

-- "Last line: END and 0 or 17"
abbrev pub end_line : (number : ℕ) → List ℕ
end_line n = line (ascii "END") (pos n ∷ [])

-- the most bytes that the line of a record has: letters and line feed, and fields of at most 20 digits, of which 0 has
-- one; in a frame 8 words of at most 10 digits, 9 in a speed frame, and 4 lags with a sign
abbrev pub most_bytes : Record → ℕ
most_bytes (kind.Tick t) = 26
most_bytes (kind.Dump d) = 152
most_bytes (kind.Integrate cell) = 26
most_bytes (kind.Emit e) = 141
