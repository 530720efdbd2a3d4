-- The bytes of document 01's example are the calls of edge P1, and print document 01's lines; with a 011 in place of
-- the 010 they are the calls of request 2026-04's row.
use Prim.Native.Nat.{ℕ}
use Prim.Native.Char.{code}
use mathlib.Core.Path.{◌≡◌, refl, ap, ◌∙◌}
use mathlib.Core.List.{List, [], ◌∷◌, ◌++◌}
use Rattle.lta_spec.specs.Words.{part}
use Rattle.lta_spec.specs.Decimal.{ascii, decimal_within, decimal}
use Rattle.lta_spec.specs.Demand.{fresh_mem}
use Rattle.lta_spec.specs.Edges.{script_shape, script, script_returned}
use Rattle.lta_spec.specs.WorkedRun.{calls_of, returned_by}
use Rattle.lta_spec.specs.SpeedRows.{speed_script}
use Rattle.lta_spec.proofs.Edges.{edges}
use Rattle.lta_spec.proofs.SpeedRows.{speed-rows}
use Rattle.script_records.specs.Records.{record_size, marked_in}
use Rattle.script_bytes.specs.Bytes.{size_in, next_in, records_within, records_in}
use Rattle.script_lines.specs.Lines.{field, spaced, line, frame_fields}
use Rattle.script.specs.Run.{listed}
use Rattle.script.specs.Text.{lines_of, script_lines, script_text}

-- "TK 02 03, TK 01 0F, TK 08 02 (hexadecimal), DP 0 2 0 0 0, IN 0, EM 0 0 0, IN 0", the DP without its last byte and
-- with this command, "with validity bytes 03, 03 and 02"
abbrev pub example_by : (command : ℕ) → List ℕ
example_by command =
    (code "T" ∷ code "K" ∷ 2 ∷ 3 ∷ 3 ∷ [])
    ++ (code "T" ∷ code "K" ∷ 1 ∷ 15 ∷ 3 ∷ [])
    ++ (code "T" ∷ code "K" ∷ 8 ∷ 2 ∷ 2 ∷ [])
    ++ (code "D" ∷ code "P" ∷ 0 ∷ command ∷ 0 ∷ 0 ∷ 0 ∷ [])
    ++ (code "I" ∷ code "N" ∷ 0 ∷ [])
    ++ (code "E" ∷ code "M" ∷ 0 ∷ 0 ∷ 0 ∷ 0 ∷ [])
    ++ (code "I" ∷ code "N" ∷ 0 ∷ [])

abbrev pub example : List ℕ
example = example_by 2

abbrev pub speed_example : List ℕ
speed_example = example_by 3

pub example-calls : listed (records_in example).list ≡ script
unfolding records_in records_within next_in size_in marked_in record_size
example-calls = refl

pub speed-calls : listed (records_in speed_example).list ≡ calls_of speed_script
unfolding records_in records_within next_in size_in marked_in record_size
speed-calls = refl

pub example-ends : (records_in example).left ≡ []
unfolding records_in records_within next_in size_in marked_in record_size
example-ends = refl

-- what document 01 shows for it
abbrev pub example_text : List ℕ
example_text =
    ascii "TK 0 0\n"
    ++ ascii "TK 0 0\n"
    ++ ascii "TK 0 0\n"
    ++ ascii "DP 0 0\n"
    ++ ascii "IN 0 0\n"
    ++ ascii "EM 0 2 0 3 2 1 0 0 6 0 10 0 24\n"
    ++ ascii "IN 8\n"
    ++ ascii "END 0\n"

-- P1 says what the calls tell
told : script_lines example (fresh_mem script_shape) ≡ lines_of (records_in example).list script_returned
unfolding script_lines records_in records_within next_in size_in marked_in record_size
told = ap (lines_of (records_in example).list) edges.p1-engine

pub example-text : script_text example (fresh_mem script_shape) ≡ example_text
unfolding script_text records_in records_within next_in size_in marked_in record_size line spaced field frame_fields part
    decimal_within decimal
example-text = ap (λ l. l ++ ascii "END 0\n") told ∙ refl

-- "In the script DP then prints the frame's words": nothing is held behind it, and no bin is Ready
abbrev pub speed_text : List ℕ
speed_text =
    ascii "TK 0 0\n"
    ++ ascii "TK 0 0\n"
    ++ ascii "TK 0 0\n"
    ++ ascii "DP 0 3 0 3 2 1 0 0 384 6 0 10 0 409\n"
    ++ ascii "IN 8\n"
    ++ ascii "EM 9\n"
    ++ ascii "IN 8\n"
    ++ ascii "END 0\n"

speed-told : script_lines speed_example (fresh_mem script_shape)
    ≡ lines_of (records_in speed_example).list (returned_by speed_script)
unfolding script_lines records_in records_within next_in size_in marked_in record_size
speed-told = ap (lines_of (records_in speed_example).list) speed-rows.script.engine

pub speed-text : script_text speed_example (fresh_mem script_shape) ≡ speed_text
unfolding script_text records_in records_within next_in size_in marked_in record_size line spaced field frame_fields part
    decimal_within decimal
speed-text = ap (λ l. l ++ ascii "END 0\n") speed-told ∙ refl
