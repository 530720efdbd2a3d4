-- "32-bit words, low byte first"; and signed numbers as words in two's complement.
use Rattle.std.specs.Prelude.{ℕ, suc, ◌+◌, ◌*◌, ◌-◌, ◌/◌, ◌%◌, cond, List, [], ◌∷◌, ltb, ℤ, pos, negsuc}

-- 2^32
abbrev pub word_range : ℕ
word_range = 4294967296

abbrev pub word : (a b c d : ℕ) → ℕ
word a b c d = a + 256 * b + 65536 * c + 16777216 * d

-- words as bytes
abbrev pub bytes_of : List ℕ → List ℕ
bytes_of [] = []
bytes_of (w ∷ ws) = (w % 256) ∷ (w / 256 % 256) ∷ (w / 65536 % 256) ∷ (w / 16777216 % 256) ∷ bytes_of ws

-- the words of the whole groups of four bytes
abbrev pub words_of : List ℕ → List ℕ
words_of [] = []
words_of (a ∷ []) = []
words_of (a ∷ b ∷ []) = []
words_of (a ∷ b ∷ c ∷ []) = []
words_of (a ∷ b ∷ c ∷ d ∷ l) = word a b c d ∷ words_of l

-- the sum of a list of words
abbrev pub total : List ℕ → ℕ
total [] = 0
total (w ∷ ws) = w + total ws

-- the word that a number is in two's complement
abbrev pub number_word : ℤ → ℕ
number_word (pos n) = n % word_range
number_word (negsuc n) = word_range - 1 - n % word_range

-- the number that a word is; `negsuc n` is -(n + 1)
abbrev pub signed : ℕ → ℤ
signed w = cond (ltb w 2147483648) (pos w) (negsuc (word_range - suc w))
