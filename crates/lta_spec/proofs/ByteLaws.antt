-- Laws of words in bytes, and of numbers in two's complement.
use mathlib.Core.Path.{◌≡◌, refl, sym, ap, ◌∙◌}
use mathlib.Core.List.{List, [], ◌∷◌, ◌++◌, map, append-nil}
use Prim.Native.Nat.{ℕ, zero, suc, ◌+◌, ◌*◌, ◌/◌, ◌%◌, ◌<◌, ◌≤◌}
use native.Mathlib.Nat.{suc-add, div-div-eq-div-mul, div-add-mod}
use native.Mathlib.Omega.{arith}
use lib.IntN.{ℤ, pos, negsuc}
use lib.ListN.{length, get_or, take, drop, length-drop}
use lib.Seq.{take-nil, drop-nil}
use mir.Syntax.{w32}
use mir.Val.{of_z, SFits, Fits}
use mir.ValLaws.{to_z-of_z, of_z-to_z, to_z-Fits}
use Rattle.lta_spec.specs.Words.{part}
use Rattle.lta_spec.specs.Bytes.{word_range, word, bytes_of, words_of, total, number_word, signed}
use Rattle.lta_spec.specs.Frame.{lag_words}

-- each number of the list is below a bound
abbrev pub Below : ℕ → List ℕ → Type 0
Below k [] = Unit {0}
Below k (x ∷ l) = (x < k) × Below k l

pub below_all : (k : ℕ) (l : List ℕ) → ((i : ℕ) → get_or l i 0 < k) → Below k l
below_all k [] h = tt
below_all k (x ∷ l) h = (h 0, below_all k l (λ i. h (suc i)))

pub below-append : (k : ℕ) (l m : List ℕ) → Below k l → Below k m → Below k (l ++ m)
below-append k [] m h g = g
below-append k (x ∷ l) m h g = (h.0, below-append k l m h.1 g)

pub below-drop : (k i : ℕ) (l : List ℕ) → Below k l → Below k (drop i l)
below-drop k i [] h = rw drop-nil tt
below-drop k zero (x ∷ l) h = h
below-drop k (suc i) (x ∷ l) h = below-drop k i l h.1

pub below-part : (k at n : ℕ) (l : List ℕ) → Below k l → Below k (part at n l)
unfolding part
below-part k at n l h = below-take n (drop at l) (below-drop k at l h)
  where
    below-take : (i : ℕ) (l : List ℕ) → Below k l → Below k (take i l)
    below-take i [] h = rw take-nil tt
    below-take zero (x ∷ l) h = tt
    below-take (suc i) (x ∷ l) h = (h.0, below-take i l h.1)

-- words as bytes
pub length-bytes : (ws : List ℕ) → length (bytes_of ws) ≡ 4 * length ws
length-bytes [] = refl
length-bytes (w ∷ ws) = omega (arith, length-bytes ws)

pub bytes-append : (ws vs : List ℕ) → bytes_of (ws ++ vs) ≡ bytes_of ws ++ bytes_of vs
bytes-append [] vs = refl
bytes-append (w ∷ ws) vs =
    ap (λ (r : List ℕ). (w % 256) ∷ (w / 256 % 256) ∷ (w / 65536 % 256) ∷ (w / 16777216 % 256) ∷ r)
    (bytes-append ws vs)

pub one_word : (w : ℕ) → w < word_range → word (w % 256) (w / 256 % 256) (w / 65536 % 256) (w / 16777216 % 256) ≡ w
one_word w h =
    joined w (w / 256) (w / 65536) (w / 16777216) (w % 256) (w / 256 % 256) (w / 65536 % 256) (w / 16777216 % 256)
    (div-add-mod w 256) (rest 256 (w / 65536) (div-div-eq-div-mul w 256 256))
    (rest 65536 (w / 16777216) (div-div-eq-div-mul w 65536 256)) (omega arith)
  where
    rest : (a q : ℕ) → w / a / 256 ≡ q → 256 * q + w / a % 256 ≡ w / a
    rest a q e = rw (← e) (div-add-mod (w / a) 256)

    joined : (w q1 q2 q3 r0 r1 r2 r3 : ℕ) → 256 * q1 + r0 ≡ w → 256 * q2 + r1 ≡ q1 → 256 * q3 + r2 ≡ q2 → q3 ≡ r3
        → word r0 r1 r2 r3 ≡ w
    joined w q1 q2 q3 r0 r1 r2 r3 e0 e1 e2 e3 = omega arith

pub words-bytes-append : (ws r : List ℕ) → Below word_range ws → words_of (bytes_of ws ++ r) ≡ ws ++ words_of r
words-bytes-append [] r h = refl
words-bytes-append (w ∷ ws) r h =
    rw (one_word w h.0) (ap (λ (l : List ℕ). w ∷ l) (words-bytes-append ws r h.1))

pub words-bytes : (ws : List ℕ) → Below word_range ws → words_of (bytes_of ws) ≡ ws
words-bytes ws h =
    ap words_of (sym (append-nil (bytes_of ws))) ∙ words-bytes-append ws [] h ∙ append-nil ws

four : (a b c d : ℕ) → a < 256 → b < 256 → c < 256 → d < 256
    → (word a b c d % 256 ≡ a) × (word a b c d / 256 % 256 ≡ b) × (word a b c d / 65536 % 256 ≡ c)
    × (word a b c d / 16777216 % 256 ≡ d)
four a b c d ha hb hc hd = (omega arith, omega arith, omega arith, omega arith)

pub bytes-words : (s : List ℕ) (n : ℕ) → Below 256 s → length s ≡ 4 * n → bytes_of (words_of s) ≡ s
bytes-words [] n h e = refl
bytes-words (a ∷ []) n h e = absurd (omega arith)
bytes-words (a ∷ b ∷ []) n h e = absurd (omega arith)
bytes-words (a ∷ b ∷ c ∷ []) n h e = absurd (omega arith)
bytes-words (a ∷ b ∷ c ∷ d ∷ l) zero h e = absurd (omega arith)
bytes-words (a ∷ b ∷ c ∷ d ∷ l) (suc n) h e =
    let f = four a b c d h.0 h.1.0 h.1.1.0 h.1.1.1.0 in
    rw (f.0, f.1, f.2, f.3)
    (ap (λ (r : List ℕ). a ∷ b ∷ c ∷ d ∷ r) (bytes-words l n h.1.1.1.1 (omega arith)))

pub length-words : (s : List ℕ) → 4 * length (words_of s) + length s % 4 ≡ length s
length-words [] = refl
length-words (a ∷ []) = refl
length-words (a ∷ b ∷ []) = refl
length-words (a ∷ b ∷ c ∷ []) = refl
length-words (a ∷ b ∷ c ∷ d ∷ l) = omega (arith, length-words l)

-- the words of a part of the bytes
words-drop : (k : ℕ) (s : List ℕ) → 4 * k ≤ length s → words_of (drop (4 * k) s) ≡ drop k (words_of s)
words-drop zero s h = refl
words-drop (suc k) [] h = absurd (omega arith)
words-drop (suc k) (a ∷ []) h = absurd (omega arith)
words-drop (suc k) (a ∷ b ∷ []) h = absurd (omega arith)
words-drop (suc k) (a ∷ b ∷ c ∷ []) h = absurd (omega arith)
words-drop (suc k) (a ∷ b ∷ c ∷ d ∷ l) h =
    let e : 4 * suc k ≡ suc (suc (suc (suc (4 * k)))) = omega arith in rw e (words-drop k l (omega arith))

words_take : (k : ℕ) (s : List ℕ) → 4 * k ≤ length s → words_of (take (4 * k) s) ≡ take k (words_of s)
words_take zero s h = refl
words_take (suc k) [] h = absurd (omega arith)
words_take (suc k) (a ∷ []) h = absurd (omega arith)
words_take (suc k) (a ∷ b ∷ []) h = absurd (omega arith)
words_take (suc k) (a ∷ b ∷ c ∷ []) h = absurd (omega arith)
words_take (suc k) (a ∷ b ∷ c ∷ d ∷ l) h =
    let e : 4 * suc k ≡ suc (suc (suc (suc (4 * k)))) = omega arith in
    rw e (ap (λ (r : List ℕ). word a b c d ∷ r) (words_take k l (omega arith)))

pub words-part : (k n : ℕ) (s : List ℕ) → 4 * (k + n) ≤ length s
    → words_of (part (4 * k) (4 * n) s) ≡ part k n (words_of s)
unfolding part
words-part k n s h =
    words_take n (drop (4 * k) s) (simp length-drop (omega arith))
    ∙ ap (λ (r : List ℕ). take n r) (words-drop k s (omega arith))

-- a byte of words hangs on its word
pub bytes-alike : (vs ws : List ℕ) → length vs ≡ length ws → (b : ℕ) → get_or vs (b / 4) 0 ≡ get_or ws (b / 4) 0
    → get_or (bytes_of vs) b 0 ≡ get_or (bytes_of ws) b 0
bytes-alike [] [] e b h = refl
bytes-alike [] (w ∷ ws) e b h = absurd (omega arith)
bytes-alike (v ∷ vs) [] e b h = absurd (omega arith)
bytes-alike (v ∷ vs) (w ∷ ws) e zero h = ap (λ k. k % 256) h
bytes-alike (v ∷ vs) (w ∷ ws) e (suc zero) h = ap (λ k. k / 256 % 256) h
bytes-alike (v ∷ vs) (w ∷ ws) e (suc (suc zero)) h = ap (λ k. k / 65536 % 256) h
bytes-alike (v ∷ vs) (w ∷ ws) e (suc (suc (suc zero))) h = ap (λ k. k / 16777216 % 256) h
bytes-alike (v ∷ vs) (w ∷ ws) e (suc (suc (suc (suc b)))) h =
    let next : suc (suc (suc (suc b))) / 4 ≡ suc (b / 4) = omega arith in
    bytes-alike vs ws (omega arith) b (rw next at h)

-- the word whose first byte is at
abbrev pub word_at : List ℕ → ℕ → ℕ
word_at s at = word (get_or s at 0) (get_or s (at + 1) 0) (get_or s (at + 2) 0) (get_or s (at + 3) 0)

pub get_d_words : (s : List ℕ) (k : ℕ) → 4 * k + 4 ≤ length s → get_or (words_of s) k 0 ≡ word_at s (4 * k)
get_d_words [] k h = absurd (omega arith)
get_d_words (a ∷ []) k h = absurd (omega arith)
get_d_words (a ∷ b ∷ []) k h = absurd (omega arith)
get_d_words (a ∷ b ∷ c ∷ []) k h = absurd (omega arith)
get_d_words (a ∷ b ∷ c ∷ d ∷ l) zero h = refl
get_d_words (a ∷ b ∷ c ∷ d ∷ l) (suc k) h =
    let e0 : 4 * suc k ≡ suc (suc (suc (suc (4 * k)))) = omega arith in
    rw e0 (simp suc-add (get_d_words l k (omega arith)))

pub words-below : (s : List ℕ) → Below 256 s → Below word_range (words_of s)
words-below [] h = tt
words-below (a ∷ []) h = tt
words-below (a ∷ b ∷ []) h = tt
words-below (a ∷ b ∷ c ∷ []) h = tt
words-below (a ∷ b ∷ c ∷ d ∷ l) h = (omega arith, words-below l h.1.1.1.1)

pub total-next : (ws : List ℕ) (w : ℕ) → total (ws ++ w ∷ []) ≡ total ws + w
total-next [] w = omega arith
total-next (v ∷ ws) w = omega (arith, total-next ws w)

-- on the numbers of an i32 the words are those of the machine
word-is : (z : ℤ) → SFits w32 z → number_word z ≡ of_z w32 z
word-is (pos n) h = omega (arith, h.sfits)
word-is (negsuc n) h = omega (arith, h.sfits)

pub word_below : (z : ℤ) → number_word z < word_range
word_below (pos n) = omega arith
word_below (negsuc n) = omega arith

pub word-signed : (w : ℕ) → w < word_range → number_word (signed w) ≡ w
word-signed w h =
    let f : Fits w32 w = record { fits = h } in
    word-is (signed w) (to_z-Fits w32 w f) ∙ of_z-to_z w32 w f

pub signed_word : (z : ℤ) → SFits w32 z → signed (number_word z) ≡ z
signed_word z h = rw (word-is z h) (to_z-of_z w32 z h)

-- the words of lag numbers
abbrev pub AllFit : List ℤ → Type 0
AllFit [] = Unit {0}
AllFit (z ∷ zs) = SFits w32 z × AllFit zs

pub lags-below : (zs : List ℤ) → Below word_range (lag_words zs)
lags-below [] = tt
lags-below (z ∷ zs) = (word_below z, lags-below zs)

pub signed-lags : (zs : List ℤ) → AllFit zs → map signed (lag_words zs) ≡ zs
signed-lags [] f = refl
signed-lags (z ∷ zs) f = rw (signed_word z f.0, signed-lags zs f.1)

pub lags-signed : (ws : List ℕ) → Below word_range ws → lag_words (map signed ws) ≡ ws
lags-signed [] h = refl
lags-signed (w ∷ ws) h = rw (word-signed w h.0, lags-signed ws h.1)
