-- What letters say, by the kind that they are of: sizes, and that no byte behind a record is read.
use Prim.Native.Nat.{ℕ, zero, suc, ◌+◌, ◌≤◌, ◌<◌}
use mathlib.Core.Path.{◌≡◌, refl, sym, ap, ◌∙◌}
use mathlib.Core.List.{List, [], ◌∷◌, ◌++◌}
use native.Mathlib.Omega.{arith}
use lib.ListN.{length, get_or, get_or-append}
use Rattle.std.specs.Prelude.{Result, Ok, Err}
use Rattle.script_records.specs.Records.{size_of_kind, size_by, record_in, next_by}
use Rattle.script_records.specs.declared.Kind.{Kind}
use Rattle.script_records.specs.declared.Kind.TheVariants.{Tick, Dump, Integrate, Emit}
use Rattle.script_records.specs.declared.UnknownMark.{UnknownMark}
use Rattle.script_records.specs.declared.Next.TheVariants as next

-- the n bytes from byte i on, one by one
abbrev bytes : (n i : ℕ) → List ℕ → List ℕ
bytes zero i l = []
bytes (suc n) i l = get_or l i 0 ∷ bytes n (suc i) l

-- bytes that are there stay as they are when more come
pub same_bytes : (a b : List ℕ) (n i : ℕ) → i + n ≤ length a → bytes n i (a ++ b) ≡ bytes n i a
same_bytes a b zero i h = refl
same_bytes a b (suc n) i h =
    let here : i < length a = omega arith in
    let further : suc i + n ≤ length a = omega arith in
    rw (get_or-append a b 0 i here, same_bytes a b n (suc i) further) refl

-- a record reads its own bytes alone
reads : (k : Kind) (l : List ℕ) → record_in k (bytes (size_of_kind k) 0 l) ≡ record_in k l
reads Tick l = refl
reads Dump l = refl
reads Integrate l = refl
reads Emit l = refl

record-stays : (k : Kind) (a b : List ℕ) → size_of_kind k ≤ length a → record_in k (a ++ b) ≡ record_in k a
record-stays k a b h =
    sym (reads k (a ++ b)) ∙ (ap (record_in k) (same_bytes a b (size_of_kind k) 0 (omega arith)) ∙ reads k a)

pub next-stays : (k : Result Kind UnknownMark) (a b : List ℕ) → size_by k ≤ length a
    → next_by k (a ++ b) ≡ next_by k a
next-stays (Ok k) a b h = ap next.Record (record-stays k a b h)
next-stays (Err e) a b h = refl

-- a record has more bytes than its letters
pub more-than-letters : (k : Kind) → 3 ≤ size_of_kind k
more-than-letters Tick = omega arith
more-than-letters Dump = omega arith
more-than-letters Integrate = omega arith
more-than-letters Emit = omega arith

seven-at-most : (k : Kind) → size_of_kind k ≤ 7
seven-at-most Tick = omega arith
seven-at-most Dump = omega arith
seven-at-most Integrate = omega arith
seven-at-most Emit = omega arith

pub record Sized (n : ℕ) : Type 0 where
  pub least : 2 ≤ n
  pub most : n ≤ 7

pub sized : (k : Result Kind UnknownMark) → Sized (size_by k)
sized (Ok k) = record { least = omega (arith, more-than-letters k); most = seven-at-most k }
sized (Err e) = record { least = omega arith; most = omega arith }
