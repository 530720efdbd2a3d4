-- What the stores of a frame's words leave: the words put one run behind the other, their sum behind them, and the
-- bytes behind the mark.
use Rattle.std.proofs.Common.{◌≡◌, ℕ, ◌+◌, ◌*◌, ◌/◌, ◌%◌, ◌≤◌, List, [], ◌∷◌, ◌++◌, length, take, drop, sym, refl, ◌∙◌, arith, length-append}
use native.Mathlib.Nat.{div-div-eq-div-mul, div-add-mod}
use Rattle.lta_spec.specs.Words.{splice}
use Rattle.lta_spec.specs.Bytes.{word_range, word, bytes_of, words_of}
use Rattle.lta_spec.specs.Frame.{mark, head_words, checksum, sealed, header}
use Rattle.lta_spec.specs.declared.Fields.{Fields}
use Rattle.lta_spec.proofs.WordLaws.{splice-eq, splice-append}
use Rattle.lta_spec.proofs.ByteLaws.{length-bytes, bytes-append}
use Rattle.lta_spec.proofs.RoundTrips.{length-header}

-- the four bytes put for a number are those of its low 32 bits
low_word : (w : ℕ) → word (w % 256) (w / 256 % 256) (w / 65536 % 256) (w / 16777216 % 256) ≡ w % word_range
low_word w =
    joined w (w / 256) (w / 65536) (w / 16777216) (w / 16777216 / 256) (w % 256) (w / 256 % 256) (w / 65536 % 256)
    (w / 16777216 % 256) (div-add-mod w 256) (rest 256 (w / 65536) (div-div-eq-div-mul w 256 256))
    (rest 65536 (w / 16777216) (div-div-eq-div-mul w 65536 256)) (div-add-mod (w / 16777216) 256) (omega arith)
    (omega arith) (omega arith) (omega arith)
  where
    rest : (a q : ℕ) → w / a / 256 ≡ q → 256 * q + w / a % 256 ≡ w / a
    rest a q e = rw (← e) (div-add-mod (w / a) 256)

    joined : (w q1 q2 q3 q4 r0 r1 r2 r3 : ℕ) → 256 * q1 + r0 ≡ w → 256 * q2 + r1 ≡ q1 → 256 * q3 + r2 ≡ q2
        → 256 * q4 + r3 ≡ q3 → r0 ≤ 255 → r1 ≤ 255 → r2 ≤ 255 → r3 ≤ 255 → word r0 r1 r2 r3 ≡ w % word_range
    joined w q1 q2 q3 q4 r0 r1 r2 r3 e0 e1 e2 e3 h0 h1 h2 h3 = omega arith

-- words put at the start have the sum of the numbers that they were put for
put-sum : (ws r : List ℕ) → checksum (take (length ws) (words_of (bytes_of ws ++ r))) ≡ checksum ws
put-sum [] r = refl
put-sum (w ∷ ws) r = omega (arith, low_word w, put-sum ws r)

first-sum : (l ws : List ℕ) (k : ℕ) → length ws ≡ k → 4 * k ≤ length l
    → checksum (take k (words_of (splice l 0 (bytes_of ws)))) ≡ checksum ws
first-sum l ws k e h =
    rw (splice-eq l 0 (bytes_of ws) (omega (arith, length-bytes ws)), ← e) (put-sum ws _)

pub two_runs : (l head lags : List ℕ) (h : ℕ) → length head ≡ h
    → splice (splice l 0 (bytes_of head)) (4 * h) (bytes_of lags) ≡ splice l 0 (bytes_of (head ++ lags))
two_runs l head lags h e =
    let n : 4 * h ≡ 0 + length (bytes_of head) = omega (arith, length-bytes head) in
    rw (n, splice-append l 0 (bytes_of head) (bytes_of lags), ← bytes-append head lags)

-- header words and lag words are put one behind the other, then the sum of what stands there
pub body-put : (l : List ℕ) (f : Fields) (lags : List ℕ) (h m : ℕ) {put : List ℕ} {sum : ℕ} → h ≡ head_words f.kind
    → length lags ≡ m → 4 * (h + m) ≤ length l
    → put ≡ splice (splice l 0 (bytes_of (header f))) (4 * h) (bytes_of lags)
    → sum ≡ checksum (take (h + m) (words_of put))
    → splice put (4 * (h + m)) (bytes_of (sum ∷ [])) ≡ splice l 0 (bytes_of (sealed (header f) lags))
unfolding sealed
body-put l f lags h m is e room p q =
    let ws = header f ++ lags in
    let k : length ws ≡ h + m = simp length-append (omega (arith, length-header f, is)) in
    rw (q, p, two_runs l (header f) lags h (length-header f ∙ sym is), first-sum l ws (h + m) k room)
    (two_runs l ws (checksum ws ∷ []) (h + m) k)

-- the mark, and the words put behind it
pub frame-left : (out bytes : List ℕ) → 2 ≤ length out
    → mark ++ splice (drop 2 out) 0 bytes ≡ splice out 0 (mark ++ bytes)
frame-left [] bytes h = absurd (omega arith)
frame-left (x ∷ []) bytes h = absurd (omega arith)
frame-left (x ∷ y ∷ o) bytes h = refl
