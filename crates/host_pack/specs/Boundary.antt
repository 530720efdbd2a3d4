-- What crosses the boundary to C: a shape and the fields of a frame come as numbers in a slice; an answer leaves as
-- one number, or as that and numbers in a slice that was lent.
use Rattle.std.specs.Prelude.{ℕ, suc, ◌*◌, Bool, cond, List, [], ◌∷◌, eqb, ℤ, Float, length, get_or, set}
use Rattle.lta_spec.specs.Answer.{Answer, refusal}
use Rattle.lta_spec.specs.Answer.Answer.{refused, number, entry, fields, normal, no_data}
use Rattle.lta_spec.specs.declared.Shape.{Shape}
use Rattle.lta_spec.specs.declared.Fields.{Fields}
use Rattle.lta_spec.specs.declared.Sums.{Sums}
use Rattle.lta_spec.specs.declared.Complex.{Complex}
use Rattle.lta_spec.specs.declared.Refusal.TheVariants.{ShortBuffer}

-- C, N, B, M, S, R and Z; where there are not seven numbers, a shape that 1 refuses
abbrev pub shape_of : List ℕ → Shape
shape_of l =
    let n : ℕ → ℕ = λ i. cond (eqb (length l) 7) (get_or l i 0) 0 in
    record { cells = n 0; lags = n 1; bins = n 2; blocks = n 3; start = n 4; rate = n 5; second = n 6 }

-- the ten fields in their order; where there are not ten numbers, fields that 16 refuses
abbrev pub fields_in : List ℕ → Fields
fields_in l =
    let n : ℕ → ℕ = λ i. cond (eqb (length l) 10) (get_or l i 0) 0 in
    record {
      kind = n 0;
      cell = n 1;
      block = n 2;
      bin = n 3;
      bank = n 4;
      ticks = n 5;
      centre = n 6;
      edge = n 7;
      second = n 8;
      offset = n 9;
    }

-- an answer as one number: the refusal number in the high half, a number in the low half; a normalised lag is 1
abbrev pub packed : Answer → ℕ
packed (refused r) = 4294967296 * r
packed (number n) = n
packed (entry s) = 0
packed (fields f) = 0
packed (normal z) = 1
packed no_data = 0

-- an answer that wants room in a slice that was lent: 10 behind every other refusal
abbrev pub roomed : (room : Bool) → Answer → Answer
roomed room (refused r) = refused r
roomed room (number n) = cond room (number n) (refusal ShortBuffer)
roomed room (entry s) = cond room (entry s) (refusal ShortBuffer)
roomed room (fields f) = cond room (fields f) (refusal ShortBuffer)
roomed room (normal z) = cond room (normal z) (refusal ShortBuffer)
roomed room no_data = cond room no_data (refusal ShortBuffer)

-- l with the values vs in the place of its values from k on
abbrev pub stored : {A : Type 0} → List A → (k : ℕ) → (vs : List A) → List A
stored l k [] = l
stored l k (v ∷ vs) = stored (set l k v) (suc k) vs

-- the values that an answer stores: those of a loss, of a header, of a normalised lag, or none
abbrev pub values : {A : Type 0} → (Sums → List A) → (Fields → List A) → (Complex → List A) → Answer → List A
values of_loss of_head of_lag (refused r) = []
values of_loss of_head of_lag (number n) = []
values of_loss of_head of_lag (entry s) = of_loss s
values of_loss of_head of_lag (fields f) = of_head f
values of_loss of_head of_lag (normal z) = of_lag z
values of_loss of_head of_lag no_data = []

abbrev pub sums_in : Answer → List ℤ
sums_in = values (λ s. s.i ∷ s.q ∷ []) (λ f. []) (λ z. [])

abbrev pub counts_in : Answer → List ℕ
counts_in = values (λ s. s.ticks ∷ s.edge ∷ s.centre ∷ []) (λ f. []) (λ z. [])

abbrev pub head_in : Answer → List ℕ
head_in =
    values (λ s. [])
    (λ f.
    f.kind ∷ f.cell ∷ f.block ∷ f.bin ∷ f.bank ∷ f.ticks ∷ f.centre ∷ f.edge ∷ f.second ∷ f.offset ∷ [])
    (λ z. [])

abbrev pub pair_in : Answer → List Float
pair_in = values (λ s. []) (λ f. []) (λ z. z.re ∷ z.im ∷ [])
