-- What a function that is passed makes of values.
use Rattle.std.specs.Prelude.{◌≡◌, ℕ, List}
use Rattle.std.specs.List.{All}

-- a call at one of the values may return nothing but what f makes of it
abbrev pub Makes : {T : Type 0} → (post : T → ℕ → Type 0) → (f : T → ℕ) → List T → Type 0
Makes post f xs = All (λ x. (w : ℕ) → post x w → w ≡ f x) xs
