-- What a script prints: "Each prints one line", and behind them the END line.
use Rattle.std.specs.Prelude.{ℕ, ◌+◌, ◌*◌, ◌≤◌, ◌≡◌, cond, List, [], ◌∷◌, ◌++◌, leb, length}
use Rattle.lta_spec.specs.Words.{splice}
use Rattle.lta_spec.specs.Answer.{Answer, refusal}
use Rattle.lta_spec.specs.Answer.Answer.{number}
use Rattle.lta_spec.specs.Step.{Step}
use Rattle.lta_spec.specs.Demand.{Returned, engine_returns}
use Rattle.lta_spec.specs.Edges.{script_shape}
use Rattle.lta_spec.specs.declared.Refusal.TheVariants.{ShortBuffer}
use Rattle.script_records.specs.declared.Record.{Record}
use Rattle.script_bytes.specs.Bytes.{records_in}
use Rattle.script_block.specs.Block.{end_number}
use Rattle.script_calls.specs.Calls.{step_of}
use Rattle.script_lines.specs.Lines.{answer_line, end_line}
use Rattle.script.specs.Run.{blank, listed, script_leaves}

-- the line of one record, by what its call leaves
abbrev pub record_line : Record → (mem : List ℕ) → List ℕ
record_line r mem = let s = step_of r blank mem in answer_line r s.answer s.out

-- the lines of records, by what their calls tell
abbrev pub lines_of : List Record → List Returned → List ℕ
lines_of [] ts = []
lines_of (r ∷ rs) [] = []
lines_of (r ∷ rs) (t ∷ ts) = answer_line r t.answer t.out ++ lines_of rs ts

-- the lines of all records of some bytes; what their calls tell is what demand 3 speaks of
unfoldable pub script_lines : (bytes mem : List ℕ) → List ℕ
script_lines bytes mem =
    let rs = (records_in bytes).list in lines_of rs (engine_returns script_shape (listed rs) mem)

-- all that a script prints: "Last line: END and 0 or 17; 17 stops it."
unfoldable pub script_text : (bytes mem : List ℕ) → List ℕ
script_text bytes mem = script_lines bytes mem ++ end_line (end_number (records_in bytes).left)

-- room that is enough for the text of so many bytes: a record has a line of at most 24 bytes for each of its own, and
-- END 17 with its line feed has 7
abbrev pub text_room : (n : ℕ) → ℕ
text_room n = 24 * n + 7

-- a script in memory whose text goes into a lent buffer: refused by 10, with nothing changed, where that has less room
unfoldable pub script_step : (bytes out mem : List ℕ) → Step
script_step bytes out mem =
    let text = script_text bytes mem in
    cond (leb (text_room (length bytes)) (length out))
    (record { answer = number (length text); out = splice out 0 text; mem = script_leaves bytes mem })
    (record { answer = refusal ShortBuffer; out = out; mem = mem })

-- a length that is answered is no more than the buffer's, so that the whole text stands there
abbrev pub Inside : Answer → (out : List ℕ) → Type 0
Inside a out = (k : ℕ) → a ≡ number k → k ≤ length out
