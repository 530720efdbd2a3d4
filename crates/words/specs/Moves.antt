-- A move of one place to another: its row is added to the other's, and cleared. And the test of one word.
use Rattle.std.specs.Prelude.{ℕ, ◌+◌, ◌^◌, ◌<◌, ◌≤◌, Bool, ◌⊎◌, List, length, nat_le, slice_index}
use Rattle.lta_spec.specs.Words.{part, splice, sums, zeros}

-- both ranges are in the list and apart, and the sums fit a word
pub record Folds (l : List ℕ) (from to n : ℕ) : Type 0 where
  pub from_in : from + n ≤ length l
  pub to_in : to + n ≤ length l
  pub apart : (from + n ≤ to) ⊎ (to + n ≤ from)
  pub fit : (i : ℕ) → i < n → slice_index l (to + i) + slice_index l (from + i) < 2 ^ 64

-- the n words at `from` added to those at `to`, and cleared
unfoldable pub folded : (l : List ℕ) (from to n : ℕ) → List ℕ
folded l from to n = splice (splice l to (sums (part to n l) (part from n l))) from (zeros n)

-- a word is at most b
abbrev pub at_most : (b x : ℕ) → Bool
at_most b x = nat_le x b
