-- Text as bytes, in ASCII: characters, decimal numbers, right-aligned columns, and the number that columns show. The
-- loss page and the lines of the script are made of these.
use Rattle.std.specs.Prelude.{ℕ, zero, suc, ◌+◌, ◌*◌, ◌-◌, ◌/◌, ◌%◌, cond, List, [], ◌∷◌, ◌++◌, ltb, eqb, length, replicate}
use Prim.Native.Char.{code}
use Prim.Native.String.{String, len, char_at}

-- n characters of a text from character i on, and all of them
abbrev pub ascii_from : (n i : ℕ) → String → List ℕ
ascii_from zero i s = []
ascii_from (suc n) i s = code (char_at s i) ∷ ascii_from n (suc i) s

abbrev pub ascii : String → List ℕ
ascii s = ascii_from (len s) 0 s

-- a space, and a line feed
abbrev pub space : ℕ
space = code " "

abbrev pub line_feed : ℕ
line_feed = 10

-- the digit of a number below 10
abbrev pub digit : ℕ → ℕ
digit d = code "0" + d

-- a number of at most so many digits: those of its tenth part, and behind them its last
unfoldable pub decimal_within : (most n : ℕ) → List ℕ
decimal_within zero n = []
decimal_within (suc most) n = cond (ltb n 10) (digit n ∷ []) (decimal_within most (n / 10) ++ digit (n % 10) ∷ [])

-- a number in decimal, without zeros in front; n + 1 digits are enough for n
unfoldable pub decimal : ℕ → List ℕ
decimal n = decimal_within (suc n) n

-- "right-aligned and filled with spaces" in w columns
unfoldable pub right_aligned : (w n : ℕ) → List ℕ
right_aligned w n = replicate (w - length (decimal n)) space ++ decimal n

-- the number that columns show, read from the left behind what was read so far; a space is passed over
unfoldable pub read_behind : (sofar : ℕ) → List ℕ → ℕ
read_behind v [] = v
read_behind v (b ∷ bs) = read_behind (cond (eqb b space) v (10 * v + (b - digit 0))) bs

abbrev pub read_number : List ℕ → ℕ
read_number bs = read_behind 0 bs
