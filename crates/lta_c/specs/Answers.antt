-- What the calls for hosts answer: the answers of document 01, where they want room in a slice that was lent.
use Rattle.std.specs.Prelude.{ℕ, ◌+◌, ◌*◌, ◌&&◌, List, leb, ℤ, Float, length}
use Rattle.lta_spec.specs.Answer.{Answer}
use Rattle.lta_spec.specs.Call.Call.{reading}
use Rattle.lta_spec.specs.Step.{step}
use Rattle.lta_spec.specs.FrameCalls.{read_answer, lag_span, normal_answer}
use Rattle.host_pack.specs.Boundary.{shape_of, roomed}

-- a reading into room for two sums and three counts
abbrev pub reading_told : (shape mem : List ℕ) (cell lag loss : ℕ) (sums : List ℤ) (counts : List ℕ) → Answer
reading_told shape mem cell lag loss sums counts =
    roomed (leb 2 (length sums) && leb 3 (length counts)) (step (shape_of shape) (reading cell lag loss) mem).answer

-- where the lag part of a frame is, as one number; 0, the empty part, where the reader refuses
abbrev pub part_told : (lags : ℕ) (bytes : List ℕ) → ℕ
part_told lags bytes = 65536 * (lag_span lags bytes).at + (lag_span lags bytes).length

-- a frame read into room for ten fields, and a lag normalised into room for two parts
abbrev pub read_told : (lags : ℕ) (bytes head : List ℕ) → Answer
read_told lags bytes head = roomed (leb 10 (length head)) (read_answer lags bytes)

abbrev pub normal_told : (lags : ℕ) (bytes : List ℕ) (lag : ℕ) (pair : List Float) → Answer
normal_told lags bytes lag pair = roomed (leb 2 (length pair)) (normal_answer lags bytes lag)
