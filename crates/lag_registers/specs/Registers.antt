-- Shift registers as they are read: gathered in small words, and decoded.
use Rattle.std.specs.Prelude.{◌≡◌, List, ℕ, ◌-◌, ◌/◌, ◌%◌, ◌<◌, get_or}
use Rattle.lta_spec.specs.Words.{part}
use Rattle.lta_spec.specs.Size.{depth}
use Rattle.signal.specs.Signal.{sample_of, phase_of, valid_of}
use Rattle.signal.specs.Decoded.{sample_in, phase_in, flag_in, ZeroWhereInvalid}

-- word j of a register, as a small word
abbrev pub low_word : (ws : List ℕ) (j : ℕ) → ℕ
low_word ws j = get_or ws j 0 % 65536

-- word j of a list
abbrev pub word : (ws : List ℕ) (j : ℕ) → ℕ
word ws j = get_or ws j 0

-- the first k of m stored entries w 0, w 1, .. are decoded in ws
pub record Decodes (w : ℕ → ℕ) (m k : ℕ) (ws : List ℕ) : Type 0 where
  pub sample : (i : ℕ) → i < k → sample_in ws i ≡ sample_of (w i)
  pub phase : (i : ℕ) → i < k → phase_in m ws i ≡ phase_of (w i)
  pub valid : (i : ℕ) → i < k → flag_in m ws i ≡ valid_of (w i)

-- What decoding leaves of an invalid entry, whatever was stored. proofs/Decoding.antt proves it.
pub record DecodedZero : Type 0 where
  pub zero : (w : ℕ → ℕ) (m : ℕ) (ws : List ℕ) → Decodes w m m ws → ZeroWhereInvalid m ws

-- the stored entry of i ticks ago of a register of n lags, and entry j of it, oldest first
abbrev pub entry_at : (l : List ℕ) (at n i : ℕ) → ℕ
entry_at l at n i = get_or (part at (depth n) l) i 0

abbrev pub entry_back : (l : List ℕ) (at n j : ℕ) → ℕ
entry_back l at n j = entry_at l at n (n / 2 - j)

-- the registers of n lags at x and y, decoded: X newest first, Y oldest first
pub record Registers (l : List ℕ) (x y n : ℕ) (xs ys : List ℕ) : Type 0 where
  pub x-is : Decodes (entry_at l x n) (depth n) (depth n) xs
  pub y-is : Decodes (entry_back l y n) (depth n) (depth n) ys
