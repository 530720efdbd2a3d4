-- Bytes put one behind the other into a lent buffer: the room that each wants, and what stands there then.
use Prim.Native.Nat.{ℕ, ◌+◌, ◌≤◌}
use mathlib.Core.Path.{◌≡◌, ap, ◌∙◌}
use mathlib.Core.List.{List, ◌++◌}
use native.Mathlib.Omega.{arith}
use lib.ListN.{length, length-append}
use Rattle.lta_spec.specs.Words.{splice}
use Rattle.lta_spec.proofs.WordLaws.{length-splice, splice-behind}

-- there is room for some bytes
abbrev pub Room : (l : List ℕ) (at : ℕ) (bs : List ℕ) → Type 0
Room l at bs = at + length bs ≤ length l

-- bytes were put from `at` on: the place behind them, and the buffer
abbrev pub Put : (l : List ℕ) (at : ℕ) (bs : List ℕ) (end : ℕ) (after : List ℕ) → Type 0
Put l at bs end after = record { behind : end ≡ at + length bs; leaves : after ≡ splice l at bs }

-- the same bytes by another name
pub same-room : (l : List ℕ) (at : ℕ) {bs cs : List ℕ} → bs ≡ cs → Room l at bs → Room l at cs
same-room l at e h = rw (← e) h

pub same-put : (l : List ℕ) (at : ℕ) {bs cs : List ℕ} {end : ℕ} {after : List ℕ} → bs ≡ cs
    → Put l at bs end after → Put l at cs end after
same-put l at e h = rw (← e) h

-- a buffer keeps its length
pub put-length : (l : List ℕ) (at : ℕ) (bs : List ℕ) {end : ℕ} {after : List ℕ} → Put l at bs end after
    → length after ≡ length l
put-length l at bs h = ap length h.leaves ∙ length-splice l at bs

module _ (l : List ℕ) (at : ℕ) (xs ys : List ℕ) where
  pub first-room : Room l at (xs ++ ys) → Room l at xs
  first-room h = omega (arith, length-append xs ys)

  pub second-room : {end : ℕ} {after : List ℕ} → Put l at xs end after → Room l at (xs ++ ys) → Room after end ys
  second-room h room = omega (arith, length-append xs ys, put-length l at xs h, h.behind)

  pub both : {p q : ℕ} {m n : List ℕ} → Put l at xs p m → Put m p ys q n → Put l at (xs ++ ys) q n
  both h k =
      record {
        behind = omega (arith, h.behind, k.behind, length-append xs ys);
        leaves = splice-behind l at xs ys h.leaves h.behind k.leaves;
      }

-- room for three runs of bytes
pub record Rooms (l : List ℕ) (at : ℕ) (xs ys zs : List ℕ) : Type 0 where
  pub room : Room l at (xs ++ ys ++ zs)

module _ {l : List ℕ} {at : ℕ} {xs ys zs : List ℕ} (rooms : Rooms l at xs ys zs) where
  two-room : Room l at (xs ++ ys)
  two-room = first-room l at (xs ++ ys) zs rooms.room

  pub room-1 : Room l at xs
  room-1 = first-room l at xs ys two-room

  module _ {p : ℕ} {m : List ℕ} (first : Put l at xs p m) where
    pub room-2 : Room m p ys
    room-2 = second-room l at xs ys first two-room

    module _ {q : ℕ} {n : List ℕ} (second : Put m p ys q n) where
      pub room-3 : Room n q zs
      room-3 = second-room l at (xs ++ ys) zs (both l at xs ys first second) rooms.room

      pub all-3 : {e : ℕ} {k : List ℕ} → Put n q zs e k → Put l at (xs ++ ys ++ zs) e k
      all-3 third = both l at (xs ++ ys) zs (both l at xs ys first second) third
