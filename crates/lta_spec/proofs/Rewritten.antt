-- The second round trip, for both kinds and every N: an accepted frame rewritten from what was read gives its bytes.
use Rattle.std.specs.Prelude.{Ok}
use mathlib.Core.Path.{◌≡◌, refl, sym, ap, ◌∙◌}
use mathlib.Core.Bool.{Bool, true, false, cond}
use mathlib.Core.List.{List, [], ◌∷◌}
use Prim.Native.Nat.{ℕ, ◌+◌, ◌*◌, ◌%◌, ◌≤◌}
use native.Mathlib.Omega.{arith}
use lib.Dec.{eqb}
use lib.ListN.{length, get_or, take, drop, length-drop, length-map}
use borrow.Author.Tests.{eqb-true}
use Rattle.lta_spec.specs.Words.{part, splice}
use Rattle.lta_spec.specs.Shape.{peak}
use Rattle.lta_spec.specs.Bytes.{word_range, signed}
use Rattle.lta_spec.specs.Frame.{speed_frame, head_words, frame_length, frame_of, body_of, lag_words, lag_numbers}
use Rattle.lta_spec.specs.Frame.{w0, w1, header, fields_of, fixed_ok, bias_ok}
use Rattle.lta_spec.specs.FrameCalls.{summed, read_verdict, write_verdict, write_leaves}
use Rattle.lta_spec.proofs.WordLaws.{length_part}
use Rattle.lta_spec.proofs.TestLaws.{and_both}
use Rattle.lta_spec.proofs.ByteLaws.{Below, below-drop, below-part, words-below, length-words, lags-signed}
use Rattle.lta_spec.proofs.FrameLaws.{frame-again}
use Rattle.lta_spec.proofs.RoundTrips.{head-least, accepted, written}

-- the header words of fields are the words that they were read from
header-fields : (ws : List ℕ) → let k = (fields_of ws).kind in
    7 ≤ length ws → head_words k ≤ length ws → fixed_ok ws ≡ true → bias_ok k ws ≡ true
    → header (fields_of ws) ≡ take (head_words k) ws
unfolding header fixed_ok fields_of bias_ok
header-fields [] h m e z = absurd (omega arith)
header-fields (a ∷ []) h m e z = absurd (omega arith)
header-fields (a ∷ b ∷ []) h m e z = absurd (omega arith)
header-fields (a ∷ b ∷ t ∷ []) h m e z = absurd (omega arith)
header-fields (a ∷ b ∷ t ∷ c ∷ []) h m e z = absurd (omega arith)
header-fields (a ∷ b ∷ t ∷ c ∷ d ∷ []) h m e z = absurd (omega arith)
header-fields (a ∷ b ∷ t ∷ c ∷ d ∷ s ∷ []) h m e z = absurd (omega arith)
header-fields (a ∷ b ∷ t ∷ c ∷ d ∷ s ∷ o ∷ l) h m e z =
    let f = fields_of (a ∷ b ∷ t ∷ c ∷ d ∷ s ∷ o ∷ l) in
    let q = and_both (eqb a (w0 f)) (eqb b (w1 f)) e in
    let first : a ≡ w0 f = eqb-true a (w0 f) q.0 in
    let next : b ≡ w1 f = eqb-true b (w1 f) q.1 in
    rw (← first, ← next) (by-test (eqb (a % 8) speed_frame) l (omega (arith, m)) z)
  where
    by-test : (x : Bool) (l : List ℕ) → cond x 8 7 ≤ 7 + length l → cond x (eqb (get_or l 0 0) (peak * t)) true ≡ true
        → a ∷ b ∷ t ∷ c ∷ d ∷ s ∷ o ∷ cond x (peak * t ∷ []) []
        ≡ take (cond x 8 7) (a ∷ b ∷ t ∷ c ∷ d ∷ s ∷ o ∷ l)
    by-test false l m z = refl
    by-test true [] m z = absurd (omega arith)
    by-test true (w ∷ l) m z =
        ap (λ v. a ∷ b ∷ t ∷ c ∷ d ∷ s ∷ o ∷ v ∷ []) (sym (eqb-true w (peak * t) z))

-- what is read is written as the bytes that were read
module _ (n : ℕ) (s : List ℕ) (bytes : Below 256 s) (ok : read_verdict n s ≡ Ok tt) where
  -- its kind and header words
  abbrev kind : ℕ
  kind = (fields_of (body_of s)).kind

  abbrev h : ℕ
  h = head_words kind

  size : length s ≡ frame_length kind n
  size = let a = accepted n s ok in rw a.kind a.size

  body-length : length (body_of s) ≡ h + 2 * n + 1
  body-length =
      let d : length (drop 2 s) ≡ 4 * (h + 2 * n + 1) = simp length-drop (omega (arith, size)) in
      omega (arith, length-words (drop 2 s))

  words-again : lag_words (lag_numbers kind n (body_of s)) ≡ part h (2 * n) (body_of s)
  words-again =
      lags-signed _
      (below-part word_range h (2 * n) (body_of s) (words-below (drop 2 s) (below-drop 256 2 s bytes)))

  pub frame-read : frame_of (header (fields_of (body_of s))) (lag_words (lag_numbers kind n (body_of s))) ≡ s
  frame-read =
      let a = accepted n s ok in
      let sum : summed (h + 2 * n) (body_of s) ≡ true = rw a.kind a.sum in
      rw (
        words-again,
        header-fields (body_of s) (omega (arith, body-length, head-least kind)) (omega (arith, body-length)) a.fixed
            (rw a.kind a.bias),
      )
      (frame-again s h (2 * n) bytes (omega (arith, size)) a.mark sum)

  pub accepts-read : (room : ℕ) → length s ≤ room
      → write_verdict n (fields_of (body_of s)) (lag_numbers kind n (body_of s)) room ≡ Ok tt
  accepts-read room least =
      let a = accepted n s ok in
      written n _ _ room
      (record {
        count = a.count;
        fields = a.fields;
        length =
            length-map (part h (2 * n) (body_of s)) signed
            ∙ length_part (body_of s) h (2 * n) (omega (arith, body-length));
        lags = rw a.kind a.lags;
        fits = omega (arith, size);
      })

  pub leaves-again : (out : List ℕ) → length s ≤ length out
      → write_leaves n (fields_of (body_of s)) (lag_numbers kind n (body_of s)) out ≡ splice out 0 s
  leaves-again out least = rw (accepts-read (length out) least, frame-read)
