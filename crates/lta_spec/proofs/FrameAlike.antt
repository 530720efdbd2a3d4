-- Two frames that differ in their edge counts and lag pairs alone: every other byte but those of the last word is
-- equal.
use Prim.Native.Nat.{ℕ, zero, suc, ◌+◌, ◌*◌, ◌/◌, ◌<◌}
use mathlib.Core.Path.{◌≡◌, refl, sym, ap, ◌∙◌}
use mathlib.Core.Bool.{Bool, true, false, ◌&&◌, ◌||◌}
use mathlib.Core.List.{List}
use native.Mathlib.Omega.{arith}
use lib.Dec.{leb, ltb}
use lib.ListN.{length, get_or, get_or-append}
use borrow.Author.Tests.{ltb-true, ltb-false}
use Rattle.lta_spec.specs.Bytes.{bytes_of}
use Rattle.lta_spec.specs.Frame.{sealed, frame_of}
use Rattle.lta_spec.proofs.TestLaws.{or-both, not-between}
use Rattle.lta_spec.proofs.ByteLaws.{bytes-alike}
use Rattle.lta_spec.proofs.FrameLaws.{length-sealed, sealed-is}

-- frames of equal lengths whose header words are equal but W4
module _ (head head' lags lags' : List ℕ) (heads : length head ≡ length head') (pairs : length lags ≡ length lags')
    (words : (i : ℕ) → (i ≡ 4 → ⊥) → get_or head i 0 ≡ get_or head' i 0) where
  abbrev frame : List ℕ
  frame = frame_of head lags

  abbrev frame' : List ℕ
  frame' = frame_of head' lags'

  word-alike : (i : ℕ) → i < length head → (i ≡ 4 → ⊥)
      → get_or (sealed head lags) i 0 ≡ get_or (sealed head' lags') i 0
  word-alike i h other =
      ap (λ l. get_or l i 0) (sealed-is head lags)
      ∙ get_or-append head _ 0 i h
      ∙ words i other
      ∙ sym (get_or-append head' _ 0 i (omega arith))
      ∙ ap (λ l. get_or l i 0) (sym (sealed-is head' lags'))

  -- a byte outside W4 and in front of the lag pairs is one of an equal word
  pub byte-alike : (j : ℕ) → (leb 18 j && ltb j 22) || (leb (2 + 4 * length head) j && ltb j (length frame)) ≡ false
      → j < length frame → get_or frame j 0 ≡ get_or frame' j 0
  unfolding frame_of
  byte-alike zero out h = refl
  byte-alike (suc zero) out h = refl
  byte-alike (suc (suc b)) out h = by-test (ltb (b / 4) (length head)) refl
    where
      past : (leb 18 (suc (suc b)) && ltb (suc (suc b)) 22 ≡ false)
          × (leb (2 + 4 * length head) (suc (suc b)) && ltb (suc (suc b)) (length frame) ≡ false)
      past = or-both _ _ out

      by-test : (q : Bool) → ltb (b / 4) (length head) ≡ q
          → get_or (bytes_of (sealed head lags)) b 0 ≡ get_or (bytes_of (sealed head' lags')) b 0
      by-test true q =
          bytes-alike (sealed head lags) (sealed head' lags')
          (omega (arith, length-sealed head lags, length-sealed head' lags')) b
          (word-alike (b / 4) (ltb-true (b / 4) (length head) q)
          (λ e. omega (arith, not-between 18 22 (suc (suc b)) past.0 (omega arith))))
      by-test false q =
          let behind = ltb-false (b / 4) (length head) q in
          absurd (omega (arith, not-between (2 + 4 * length head) _ (suc (suc b)) past.1 (omega arith)))
