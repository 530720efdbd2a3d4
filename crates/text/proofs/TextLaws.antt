-- Text that is put into a buffer: digits from the right, how many a number has, and spaces.
use Prim.Native.Nat.{ℕ, suc, ◌+◌, ◌-◌, ◌/◌, ◌%◌, ◌≤◌, ◌<◌}
use mathlib.Core.Path.{◌≡◌, sym, ap, ◌∙◌}
use mathlib.Core.List.{List, [], ◌∷◌, ◌++◌, append-nil}
use native.Mathlib.Omega.{arith}
use lib.ListN.{length, set, replicate, take, drop, length-append, length-replicate, length-take, length-drop}
use lib.Seq.{append_snoc}
use borrow.Rule.Slice.PartMut.{put_mid}
use Rattle.lta_spec.specs.Words.{splice}
use Rattle.lta_spec.specs.Decimal.{space, digit, decimal, right_aligned}
use Rattle.lta_spec.proofs.WordLaws.{splice-nil, splice_front, set-splice-front, returned}
use Rattle.lta_spec.proofs.DecimalLaws.{decimal-one, decimal-next, some-digit}

-- the last digits of n stand in front of `end` from `at` on; those of rest are still to be put
pub record Put (before : List ℕ) (end n at rest : ℕ) (out : List ℕ) : Type 0 where
  pub behind : List ℕ
  pub digits : decimal n ≡ decimal rest ++ behind
  pub ends : at + length behind ≡ end
  pub is : out ≡ splice before at behind

pub none-put : (before : List ℕ) (end n : ℕ) → Put before end n end n before
none-put before end n =
    record {
      behind = [];
      digits = sym (append-nil (decimal n));
      ends = omega arith;
      is = sym (splice-nil before end);
    }

module _ (before : List ℕ) (end n at rest : ℕ) (out : List ℕ) (p : Put before end n at rest out)
    (room : length (decimal n) ≤ end) where
  -- there is room for those
  pub some-room : length (decimal rest) ≤ at
  some-room =
      omega (arith, room, p.ends, ap length p.digits, length-append (decimal rest) p.behind)

  pub one-room : 1 ≤ at
  one-room = omega (arith, some-room, some-digit rest)

  store : (v : ℕ) → set out (at - 1) v ≡ splice before (at - 1) (v ∷ p.behind)
  store v =
      let e : at ≡ suc (at - 1) = omega (arith, one-room) in
      ap (λ l. set l (at - 1) v) (p.is ∙ ap (λ k. splice before k p.behind) e)
      ∙ set-splice-front before (at - 1) p.behind v

  pub digit-put : 10 ≤ rest → Put before end n (at - 1) (rest / 10) (set out (at - 1) (digit (rest % 10)))
  digit-put many =
      record {
        behind = digit (rest % 10) ∷ p.behind;
        digits =
            p.digits
            ∙ ap (λ l. l ++ p.behind) (decimal-next rest many)
            ∙ append_snoc (decimal (rest / 10)) (digit (rest % 10)) p.behind;
        ends = omega (arith, p.ends, one-room);
        is = store (digit (rest % 10));
      }

  -- the first digit
  pub last-put : rest < 10 → (at - 1 + length (decimal n) ≡ end)
      × (set out (at - 1) (digit rest) ≡ splice before (at - 1) (decimal n))
  last-put few =
      let all : decimal n ≡ digit rest ∷ p.behind = p.digits ∙ ap (λ l. l ++ p.behind) (decimal-one rest few) in (
        omega (arith, p.ends, one-room, ap length all),
        store (digit rest) ∙ ap (splice before (at - 1)) (sym all),
      )

-- how many digits
pub digits-one : (n : ℕ) → n < 10 → length (decimal n) ≡ 1
digits-one n h = ap length (decimal-one n h)

pub digits-next : (n : ℕ) → 10 ≤ n → length (decimal n) ≡ length (decimal (n / 10)) + 1
digits-next n h =
    ap length (decimal-next n h) ∙ length-append (decimal (n / 10)) (digit (n % 10) ∷ [])

-- a part that was filled with spaces
pub part-filled : (l : List ℕ) (at end : ℕ) {vs : List ℕ} → at ≤ end → end ≤ length l
    → vs ≡ replicate (length (take (end - at) (drop at l))) space
    → put_mid at (end - at) l vs ≡ splice l at (replicate (end - at) space)
part-filled l at end h inside filled =
    let n = end - at in
    let part : length (take n (drop at l)) ≡ n = simp (length-take, length-drop) (omega arith) in
    let all : at + n - at ≡ n = omega arith in
    rw (filled, part)
    (rw all at (returned l at n (replicate n space) (omega arith) (length-replicate n space)))

-- a number behind spaces
pub right-put : (before : List ℕ) (at w n start : ℕ) → start + length (decimal n) ≡ at + w → length (decimal n) ≤ w
    → splice (splice before start (decimal n)) at (replicate (start - at) space)
    ≡ splice before at (right_aligned w n)
unfolding right_aligned
right-put before at w n start e h =
    let k = w - length (decimal n) in
    let spaces : start - at ≡ k = omega (arith, e) in
    let here : start ≡ at + length (replicate k space) = omega (arith, e, length-replicate k space) in
    ap (λ j. splice (splice before j (decimal n)) at (replicate (start - at) space)) here
    ∙ ap (λ j. splice (splice before (at + length (replicate k space)) (decimal n)) at (replicate j space)) spaces
    ∙ splice_front before at (replicate k space) (decimal n)
