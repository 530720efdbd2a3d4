-- Two runs side by side, for the requests that compare runs: related lists, element by element, what related calls
-- tell, and calls that differ in the bytes of ticks. proofs/TwoRuns.antt has the lemma: a relation that related calls
-- keep is kept by lists of them.
use Rattle.std.specs.Prelude.{ℕ, ◌≡◌, true, List, [], ◌∷◌}
use Rattle.lta_spec.specs.Call.{samples_ok, validity_ok}
use Rattle.lta_spec.specs.Call.Call.{tick}
use Rattle.lta_spec.specs.Demand.{Listed, Returned, Stands}
use Rattle.lta_spec.specs.Demand.Listed.{on_run}
use Rattle.lta_spec.specs.Forecasts.{of_tick}
use Rattle.lta_spec.specs.declared.Shape.{Shape}

-- two lists whose elements are related, one by one
abbrev pub Pairs : {A B : Type 0} → (A → B → Type 0) → List A → List B → Type 0
Pairs R [] [] = Prim.Unit {0}
Pairs R [] (y ∷ ys) = ⊥
Pairs R (x ∷ xs) [] = ⊥
Pairs R (x ∷ xs) (y ∷ ys) = R x y × Pairs R xs ys

-- what the calls of a list tell in the one run and in the other, call by call
abbrev pub AllTold : (Listed → Returned → Returned → Type 0) → List Listed → List Returned → List Returned → Type 0
AllTold T [] [] [] = Prim.Unit {0}
AllTold T [] [] (t' ∷ ts') = ⊥
AllTold T [] (t ∷ ts) ts' = ⊥
AllTold T (c ∷ cs) [] ts' = ⊥
AllTold T (c ∷ cs) (t ∷ ts) [] = ⊥
AllTold T (c ∷ cs) (t ∷ ts) (t' ∷ ts') = T c t t' × AllTold T cs ts ts'

-- a call that may stand in a list, and the same call but for the bytes of a tick on the run, which 3 and 19 test alike
abbrev pub with_bytes : (bytes : List ℕ) → Listed → Listed
with_bytes bytes l = of_tick l (λ samples. on_run (tick bytes)) l

pub record ButBytes (sh : Shape) (l l' : Listed) : Type 0 where
  pub stands : Stands l
  pub bytes : List ℕ
  pub is : l' ≡ with_bytes bytes l
  pub samples : of_tick true (samples_ok sh.cells) l ≡ of_tick true (samples_ok sh.cells) l'
  pub validity : of_tick true (validity_ok sh.cells) l ≡ of_tick true (validity_ok sh.cells) l'
