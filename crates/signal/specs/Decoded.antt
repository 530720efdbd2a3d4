-- A shift register, decoded: a list of words in which its m samples stand, then its m phases, and then their validity,
-- 1 or 0. Entries of X stand newest first, those of Y oldest first.
use Rattle.std.specs.Prelude.{◌≡◌, ℕ, ◌+◌, ◌-◌, ◌*◌, ◌/◌, ◌<◌, List, slice_index}
use Rattle.lta_spec.specs.Tick.{x_delay, y_delay}

abbrev pub sample_in : (ws : List ℕ) (i : ℕ) → ℕ
sample_in ws i = slice_index ws i

abbrev pub phase_in : (m : ℕ) (ws : List ℕ) (i : ℕ) → ℕ
phase_in m ws i = slice_index ws (m + i)

abbrev pub flag_in : (m : ℕ) (ws : List ℕ) (i : ℕ) → ℕ
flag_in m ws i = slice_index ws (2 * m + i)

-- an invalid entry has a sample of 0, so that the lag loop need not look at validity
pub record ZeroWhereInvalid (m : ℕ) (ws : List ℕ) : Type 0 where
  pub zero : (i : ℕ) → i < m → flag_in m ws i ≡ 0 → sample_in ws i ≡ 0

-- where the entries that meet at lag k of n stand
abbrev pub x_place : (k : ℕ) → ℕ
x_place k = x_delay 0 k

abbrev pub y_place : (n k : ℕ) → ℕ
y_place n k = n / 2 - y_delay n 0 k
