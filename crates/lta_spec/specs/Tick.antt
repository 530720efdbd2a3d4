-- Document 01, "One tick": samples, phases, delays, products and weights.
use Rattle.std.specs.Prelude.{ℕ, ◌+◌, ◌-◌, ◌/◌, ◌%◌, Bool, false, cond, ◌&&◌, List, [], ◌∷◌, ltb, ℤ, pos, negsuc, ◌*ℤ◌, get_or}

-- what a tick brings of one aerial: its byte, and its bit of the validity byte
pub record Sample : Type 0 where
  pub byte : ℕ
  pub valid : Bool

-- a shift register entry: a sample, whether it is valid, and the phase that travels with it
pub record Entry : Type 0 where
  pub valid : Bool
  pub sample : ℤ
  pub phase : ℕ

-- four bits in two's complement; `negsuc n` is -(n + 1)
abbrev pub nibble : ℕ → ℤ
nibble n = cond (ltb n 8) (pos n) (negsuc (15 - n))

-- "Low four bits: sample, two's complement"; request 2026-06: "Samples run from -8 to 7", and validity has a bit of its
-- own. "High four bits: phase, 0 to 15, always present."
unfoldable pub from_sample : Sample → Entry
from_sample s = record { valid = s.valid; sample = nibble (s.byte % 16); phase = s.byte / 16 % 16 }

-- "Before tick 0 everything is invalid"
abbrev pub no_sample : Entry
no_sample = record { valid = false; sample = negsuc 7; phase = 0 }

-- the entry of d ticks ago; entries stand newest first
abbrev pub ago : List Entry → (d : ℕ) → Entry
ago es d = get_or es d no_sample

-- "Lag k multiplies X from (k+1) div 2 ticks ago by Y from N/2 - (k div 2) ticks ago": the memo's X and Y shift
-- registers, both shifted (4.2). `total` is the lags of the whole correlator, N here; lags are counted from `first`, 0
-- here. `relative-delay` in proofs/TickLaws.antt: "so the relative delay is k - N/2"
abbrev pub x_delay : (first k : ℕ) → ℕ
x_delay first k = (first + k + 1) / 2

abbrev pub y_delay : (total first k : ℕ) → ℕ
y_delay total first k = total / 2 - (first + k) / 2

-- "The product is valid when both samples are; otherwise it adds 0."
abbrev pub both_valid : (x y : Entry) → Bool
both_valid x y = x.valid && y.valid

unfoldable pub product : (x y : Entry) → ℤ
product x y = cond (both_valid x y) (x.sample *ℤ y.sample) (pos 0)

-- "d = (X phase - Y phase) mod 16"
abbrev pub turn : (x y : Entry) → ℕ
turn x y = (x.phase + 16 - y.phase) % 16

-- "Five-level table w for d = 0 to 15", the memo's five-level fringe stopping:
-- 2, 2, 1, 1, 0, -1, -1, -2, -2, -2, -1, -1, 0, 1, 1, 2
abbrev pub weights : List ℤ
weights =
    pos 2 ∷ pos 2 ∷ pos 1 ∷ pos 1 ∷ pos 0 ∷ negsuc 0 ∷ negsuc 0 ∷ negsuc 1
    ∷ negsuc 1 ∷ negsuc 1 ∷ negsuc 0 ∷ negsuc 0 ∷ pos 0 ∷ pos 1 ∷ pos 1 ∷ pos 2
    ∷ []

unfoldable pub weight : ℕ → ℤ
weight d = get_or weights d (pos 0)

-- "I adds product × w(d) and Q adds product × w((d+12) mod 16)"
unfoldable pub in_phase : (x y : Entry) → ℤ
in_phase x y = product x y *ℤ weight (turn x y)

unfoldable pub quadrature : (x y : Entry) → ℤ
quadrature x y = product x y *ℤ weight ((turn x y + 12) % 16)

-- what meets at lag k of n in one tick: xs and ys are the entries of that tick and those before it
abbrev pub lag_x : (xs : List Entry) (k : ℕ) → Entry
lag_x xs k = ago xs (x_delay 0 k)

abbrev pub lag_y : (n : ℕ) (ys : List Entry) (k : ℕ) → Entry
lag_y n ys k = ago ys (y_delay n 0 k)

unfoldable pub valid_at : (n : ℕ) (xs ys : List Entry) (k : ℕ) → Bool
valid_at n xs ys k = both_valid (lag_x xs k) (lag_y n ys k)

unfoldable pub in_phase_at : (n : ℕ) (xs ys : List Entry) (k : ℕ) → ℤ
in_phase_at n xs ys k = in_phase (lag_x xs k) (lag_y n ys k)

unfoldable pub quadrature_at : (n : ℕ) (xs ys : List Entry) (k : ℕ) → ℤ
quadrature_at n xs ys k = quadrature (lag_x xs k) (lag_y n ys k)

-- "Valid counts are kept at lag 0 (edge) and lag N/2 (centre) only": the memo's DVCCOUNT-Edge and -Center
abbrev pub edge_lag : ℕ
edge_lag = 0

abbrev pub centre_lag : (n : ℕ) → ℕ
centre_lag n = n / 2
