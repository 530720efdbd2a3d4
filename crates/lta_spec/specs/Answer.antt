-- Answers by document 01's numbers and values. A call answers a value, or the refusal that applies; here are the number
-- and the values that document 01 gives for each, and the promises of the calls go through these definitions.
use Rattle.std.specs.Prelude.{ℕ, List, [], ◌∷◌, Option, Some, None, Result, Ok, Err}
use Rattle.lta_spec.specs.Refusals.{Verdict, refusal_number, loss_number}
use Rattle.lta_spec.specs.declared.Complex.{Complex}
use Rattle.lta_spec.specs.declared.Fields.{Fields}
use Rattle.lta_spec.specs.declared.Refusal.{Refusal}
use Rattle.lta_spec.specs.declared.Sums.{Sums}
use Rattle.lta_spec.specs.declared.Moved.{Moved}
use Rattle.lta_spec.specs.declared.Moved.TheVariants as moved

pub data Answer : Type 0 where
  -- "A refusal returns its number alone"
  refused : (number : ℕ) → Answer
  number : ℕ → Answer
  -- the numbers of a loss, the fields of a frame, a normalised lag
  entry : Sums → Answer
  fields : Fields → Answer
  normal : Complex → Answer
  no_data : Answer

abbrev pub refusal : Refusal → Answer
refusal r = refused (refusal_number r)

-- the number that an accepted call answers
abbrev pub number_in : Answer → List ℕ
number_in (number k) = k ∷ []
number_in (refused k) = []
number_in (entry e) = []
number_in (fields f) = []
number_in (normal z) = []
number_in no_data = []

-- a value as `told` tells it, or the refusal
abbrev pub answer_as : {A : Type 0} → (told : A → Answer) → Result A Refusal → Answer
answer_as told (Ok x) = told x
answer_as told (Err r) = refusal r

-- a number: the words that a shape needs; "a tick, the number of cells held off"; "an emission, the frame's length"; the
-- writer too "answers the frame's length"; of a page "its length is the answer"; "the ticks a cell may still take before
-- holdoff"
abbrev pub numbered_as : Result ℕ Refusal → Answer
numbered_as = answer_as number

-- setup
abbrev pub started_as : Verdict → Answer
started_as = answer_as (λ _. number 0)

-- "a dump or integration, the loss number (4 if an old bin was replaced) .., 0 if kept, 7 for 111"; of 011, by request
-- 2026-04, the length of its frame
abbrev pub moved_number : Moved → ℕ
moved_number moved.Kept = 0
moved_number (moved.Lost l) = loss_number l
moved_number moved.Idle = 7
moved_number (moved.Sent n) = n

abbrev pub moved_as : Result Moved Refusal → Answer
moved_as = answer_as (λ m. number (moved_number m))

-- "A reading gives, for one cell, lag and loss number, the I and Q sums, ticks, and both counts."
abbrev pub ledger_as : Result Sums Refusal → Answer
ledger_as = answer_as entry

-- "The reader .. returns the fields"
abbrev pub parsed_as : Result Fields Refusal → Answer
parsed_as = answer_as fields

-- "I and Q each divided by the centre count in f64"; "if that count is 0", no data
abbrev pub lag_as : Option Complex → Answer
lag_as (Some z) = normal z
lag_as None = no_data

abbrev pub normalised_as : Result (Option Complex) Refusal → Answer
normalised_as = answer_as lag_as
