-- Words that are a value laid out.
use Rattle.std.specs.Prelude.{◌≡◌, List, ℕ, length}
use Rattle.lta_spec.specs.Layout.{Layout}

-- The words l are the value x laid out. What code does to the words, it does to the value.
pub record Lays {A : Type 0} (a : Layout A) (l : List ℕ) (x : A) : Type 0 where
  pub size : length l ≡ a.width
  pub is : a.get l ≡ x
