-- Document 01, "The script program": "A record is its two letters and then its bytes."
use Rattle.std.specs.Prelude.{ℕ, ◌+◌, ◌*◌, cond, List, [], ◌∷◌, eqb, get_or, Result, Ok, Err}
use Prim.Native.Char.{Char, code}
use Rattle.script_records.specs.declared.Kind.{Kind}
use Rattle.script_records.specs.declared.Kind.TheVariants.{Tick, Dump, Integrate, Emit}
use Rattle.script_records.specs.declared.UnknownMark.{UnknownMark}
use Rattle.script_records.specs.declared.Record.{Record}
use Rattle.script_records.specs.declared.Record.TheVariants as kind
use Rattle.script_records.specs.declared.Next.{Next}
use Rattle.script_records.specs.declared.Next.TheVariants as next

-- two letters, as the two bytes that they are
abbrev pub mark : (first second : Char) → ℕ
mark first second = code first + 256 * code second

abbrev pub tick_mark : ℕ
tick_mark = mark "T" "K"

abbrev pub dump_mark : ℕ
dump_mark = mark "D" "P"

abbrev pub integrate_mark : ℕ
integrate_mark = mark "I" "N"

abbrev pub emit_mark : ℕ
emit_mark = mark "E" "M"

-- the kind of record with these letters, where they are a record's
abbrev pub kind_of : (letters : ℕ) → Result Kind UnknownMark
kind_of letters =
    cond (eqb letters tick_mark) (Ok Tick)
    (cond (eqb letters dump_mark) (Ok Dump)
    (cond (eqb letters integrate_mark) (Ok Integrate) (cond (eqb letters emit_mark) (Ok Emit) (Err (record {})))))

-- the letters of a kind, and the bytes of its records, the letters with them
abbrev pub letters_of_kind : Kind → List ℕ
letters_of_kind Tick = code "T" ∷ code "K" ∷ []
letters_of_kind Dump = code "D" ∷ code "P" ∷ []
letters_of_kind Integrate = code "I" ∷ code "N" ∷ []
letters_of_kind Emit = code "E" ∷ code "M" ∷ []

abbrev pub size_of_kind : Kind → ℕ
size_of_kind Tick = 5
size_of_kind Dump = 7
size_of_kind Integrate = 3
size_of_kind Emit = 6

-- the bytes of a record with these letters; 2 where the letters are unknown
abbrev pub size_by : Result Kind UnknownMark → ℕ
size_by (Ok k) = size_of_kind k
size_by (Err unknown) = 2

unfoldable pub record_size : (letters : ℕ) → ℕ
record_size letters = size_by (kind_of letters)

-- two bytes from byte i, "low first"
abbrev pub two_at : List ℕ → (i : ℕ) → ℕ
two_at b i = get_or b i 0 + 256 * get_or b (i + 1) 0

-- "TK and 2 bytes", and by request 2026-06 "TK records carry three"
abbrev pub tick_in : List ℕ → Record
tick_in b = kind.Tick (record { x = get_or b 2 0; y = get_or b 3 0; valid = get_or b 4 0 })

-- "DP, cell, command, bank, phase (two bytes, low first), block", and by request 2026-01 "The DP record loses its last
-- byte."
abbrev pub dump_in : List ℕ → Record
dump_in b =
    kind.Dump (record { cell = get_or b 2 0; command = get_or b 3 0; bank = get_or b 4 0; phase = two_at b 5 })

-- "IN, cell"
abbrev pub integrate_in : List ℕ → Record
integrate_in b = kind.Integrate (get_or b 2 0)

-- "EM, cell, bank, data bin (two bytes, low first)"
abbrev pub emit_in : List ℕ → Record
emit_in b = kind.Emit (record { cell = get_or b 2 0; bank = get_or b 3 0; bin = two_at b 4 })

abbrev pub record_in : Kind → List ℕ → Record
record_in Tick b = tick_in b
record_in Dump b = dump_in b
record_in Integrate b = integrate_in b
record_in Emit b = emit_in b

abbrev pub record_kind : Record → Kind
record_kind (kind.Tick t) = Tick
record_kind (kind.Dump d) = Dump
record_kind (kind.Integrate cell) = Integrate
record_kind (kind.Emit e) = Emit

-- the record with these letters, or an unknown mark
abbrev pub next_by : Result Kind UnknownMark → List ℕ → Next
next_by (Ok k) b = next.Record (record_in k b)
next_by (Err unknown) b = next.Cut

unfoldable pub marked_in : (letters : ℕ) → List ℕ → Next
marked_in letters b = next_by (kind_of letters) b
