-- Document 01, "Who may be told no": the numbers, and the first refusal that applies.
use Rattle.std.specs.Prelude.{ℕ, Bool, cond, List, [], ◌∷◌, Result, Ok, Err}
use Rattle.lta_spec.specs.declared.Refusal.{Refusal}
use Rattle.lta_spec.specs.declared.Refusal.TheVariants as no
use Rattle.lta_spec.specs.declared.Loss.{Loss}
use Rattle.lta_spec.specs.declared.Loss.TheVariants as loss

-- the number of a refusal
abbrev pub refusal_number : Refusal → ℕ
refusal_number no.BadShape = 1
refusal_number no.WrongMemory = 2
refusal_number no.WrongSamples = 3
refusal_number no.RunFull = 4
refusal_number no.NoCell = 5
refusal_number no.BadCommand = 6
refusal_number no.NoBin = 7
refusal_number no.NothingHeld = 8
refusal_number no.NotReady = 9
refusal_number no.ShortBuffer = 10
refusal_number no.Damaged = 11
refusal_number no.NoLag = 12
refusal_number no.WrongLength = 13
refusal_number no.WrongMark = 14
refusal_number no.WrongSum = 15
refusal_number no.BadField = 16
refusal_number no.BadRecord = 17
refusal_number no.WrongBias = 18
refusal_number no.BadValidity = 19
refusal_number no.NothingReady = 20

-- the number of a loss
abbrev pub loss_number : Loss → ℕ
loss_number loss.Ordered = 1
loss_number loss.Overrun = 2
loss_number loss.Full = 3
loss_number loss.Replaced = 4
loss_number loss.Wide = 5
loss_number loss.Holdoff = 6

-- one test of a call, and the refusal where it fails
pub record Test : Type 0 where
  pub passes : Bool
  pub otherwise : Refusal

abbrev pub test : Bool → Refusal → Test
test b r = record { passes = b; otherwise = r }

-- what the ordered tests of a call say: nothing, or a refusal
abbrev pub Verdict : Type 0
Verdict = Result (Unit {0}) Refusal

-- the first refusal that applies: "Where several apply, the order stands after each group."
abbrev pub first_of : List Test → Verdict
first_of [] = Ok tt
first_of (x ∷ xs) = cond x.passes (first_of xs) (Err x.otherwise)

-- what follows from a verdict: `refused r` where r applies, `done` where no refusal does
abbrev pub decided : {A : Type 0} → Verdict → (refused : Refusal → A) → (done : A) → A
decided (Ok _) refused done = done
decided (Err r) refused done = refused r
