-- A frame of any kind: header words and lag words behind the mark, and their sum. Refusals 13, 14 and 15 are about
-- this alone.
use mathlib.Core.Path.{◌≡◌, refl, sym, ap, ◌∙◌}
use mathlib.Core.Bool.{true}
use mathlib.Core.List.{List, [], ◌∷◌, ◌++◌, append_assoc}
use Prim.Native.Nat.{ℕ, suc, ◌+◌, ◌*◌}
use native.Mathlib.Omega.{arith}
use lib.Dec.{eqb}
use lib.ListN.{length, get_or, take, drop, length-append}
use lib.Seq.{take-suc, take_all, take_at, drop_at, take-add, get_or_at}
use borrow.Author.Tests.{eqb-true, eq-eqb}
use Rattle.lta_spec.specs.Words.{part}
use Rattle.lta_spec.specs.Bytes.{word_range, words_of}
use Rattle.lta_spec.specs.Frame.{checksum, sealed, frame_of, body_of}
use Rattle.lta_spec.specs.FrameCalls.{marked, summed}
use Rattle.lta_spec.proofs.TestLaws.{and_both}
use Rattle.lta_spec.proofs.ByteLaws.{Below, below-append, length-bytes, words-bytes, bytes-words, length-words}

pub length-sealed : (head lags : List ℕ) → length (sealed head lags) ≡ length head + length lags + 1
unfolding sealed
length-sealed head lags = simp length-append

pub sealed-is : (head lags : List ℕ) → sealed head lags ≡ head ++ (lags ++ checksum (head ++ lags) ∷ [])
unfolding sealed
sealed-is head lags = append_assoc head lags _

pub length-frame : (head lags : List ℕ) → length (frame_of head lags) ≡ 2 + 4 * length head + 4 * length lags + 4
unfolding frame_of
length-frame head lags = omega (arith, length-bytes (sealed head lags), length-sealed head lags)

pub marked-frame : (head lags : List ℕ) → marked (frame_of head lags) ≡ true
unfolding marked frame_of
marked-frame head lags = refl

-- what a frame is read back as
module _ (head lags : List ℕ) (hw : Below word_range head) (lw : Below word_range lags) where
  pub body-frame : body_of (frame_of head lags) ≡ sealed head lags
  unfolding frame_of sealed
  body-frame =
      words-bytes (sealed head lags)
      (below-append word_range (head ++ lags) _ (below-append word_range head lags hw lw) (omega arith, tt))

  pub lags-frame : (h m : ℕ) → length head ≡ h → length lags ≡ m → part h m (body_of (frame_of head lags)) ≡ lags
  unfolding part
  lags-frame h m eh em =
      ap (λ (l : List ℕ). take m (drop h l)) (body-frame ∙ sealed-is head lags)
      ∙ ap (λ (l : List ℕ). take m l) (drop_at head _ h eh) ∙ take_at lags _ m em

  pub summed-frame : (k : ℕ) → length head + length lags ≡ k → summed k (body_of (frame_of head lags)) ≡ true
  unfolding summed sealed
  summed-frame k e =
      let l : length (head ++ lags) ≡ k = simp length-append e in
      rw body-frame
      (eq-eqb _ _ (get_or_at (head ++ lags) _ [] 0 k l ∙ ap checksum (sym (take_at (head ++ lags) _ k l))))

-- bytes that pass the tests are the frame of what is read from them
sealed-again : (ws : List ℕ) (h m : ℕ) → length ws ≡ h + m + 1 → summed (h + m) ws ≡ true
    → sealed (take h ws) (part h m ws) ≡ ws
unfolding summed sealed part
sealed-again ws h m e t =
    let w : get_or ws (h + m) 0 ≡ checksum (take (h + m) ws) = eqb-true _ _ t in
    rw (← take-add h m ws, ← w, ← take-suc ws (h + m) 0 (omega arith)) (take_all (suc (h + m)) ws (omega arith))

pub frame-again : (s : List ℕ) (h m : ℕ) → Below 256 s → length s ≡ 2 + 4 * h + 4 * m + 4 → marked s ≡ true
    → summed (h + m) (body_of s) ≡ true → frame_of (take h (body_of s)) (part h m (body_of s)) ≡ s
unfolding marked frame_of
frame-again [] h m b l k t = absurd (omega arith)
frame-again (x ∷ []) h m b l k t = absurd (omega arith)
frame-again (x ∷ y ∷ s) h m b l k t =
    let q = and_both (eqb x 76) (eqb y 84) k in
    rw (
      sealed-again (words_of s) h m (omega (arith, length-words s)) t,
      bytes-words s (h + m + 1) b.1.1 (omega arith),
      eqb-true x 76 q.0,
      eqb-true y 84 q.1,
    )
