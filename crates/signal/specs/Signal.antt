-- A decoded entry, and what one lag adds, in words of 16 bits: numbers modulo 65,536, those below 0 in two's
-- complement. proofs/SignalLaws.antt ties them to document 01's integers.
use Rattle.std.specs.Prelude.{ℕ, ◌+◌, ◌-◌, ◌*◌, ◌/◌, ◌%◌, cond, not, ◌&&◌, ◌==◌, nat_lt}
use Rattle.lta_spec.specs.Shape.{peak}

-- The decoded entry of a stored one: its sample, 0 where it is invalid; its phase, in the top four bits, so that the
-- difference of two wraps at 16; and its validity. n is the low four bits of a stored entry, sample + 8, and v its
-- validity bit.
abbrev pub valid_sample : (v n : ℕ) → ℕ
valid_sample v n = cond (v == 0) 0 ((n + 65528) % 65536)

abbrev pub valid_of : (word : ℕ) → ℕ
valid_of w = w / 256 % 2

abbrev pub sample_of : (word : ℕ) → ℕ
sample_of w = valid_sample (valid_of w) (w % 16)

abbrev pub phase_of : (word : ℕ) → ℕ
phase_of w = w / 16 % 16 * 4096

-- 1 where two decoded entries are valid
abbrev pub both_flag : (u v : ℕ) → ℕ
both_flag u v = cond (not (u == 0) && not (v == 0)) 1 0

-- the product of two words
abbrev pub times16 : (a b : ℕ) → ℕ
times16 a b = a * b % 65536

-- X phase - Y phase, turned by 0 for I and by 12, in the top four bits, for Q
abbrev pub turned : (p q turn : ℕ) → ℕ
turned p q turn = (p + 65536 - q + turn) % 65536

abbrev pub turn_i : ℕ
turn_i = 0

abbrev pub turn_q : ℕ
turn_q = 12 * 4096

-- how far a difference is from 0, either way round
abbrev pub distance : (d : ℕ) → ℕ
distance d = cond (nat_lt d 32768) d (65536 - d)

-- the weight, 2 less what it has fallen by at that distance: 0, 0, 1, 1, 2, 3, 3, 4, 4 at 0 to 8 times 4096
abbrev pub weight_word : (d : ℕ) → ℕ
weight_word d = (65538 - (distance d + 1820) * 9 / 65536) % 65536

-- what two decoded entries add to a stored sum: the bias and product × weight
unfoldable pub contribution : (a p b q turn : ℕ) → ℕ
contribution a p b q turn = (times16 (times16 a b) (weight_word (turned p q turn)) + peak) % 65536
