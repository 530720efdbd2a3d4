-- A script may be read in blocks: `InBlocks` holds.
use Prim.Native.Nat.{ℕ, zero, suc, ◌≤◌, ◌<◌}
use mathlib.Core.Path.{◌≡◌, refl, sym, ap, ◌∙◌}
use mathlib.Core.Bool.{Bool, true, false, and-eq-true_iff, false≢true}
use mathlib.Core.List.{List, [], ◌∷◌, ◌++◌}
use native.Mathlib.Omega.{arith}
use lib.Dec.{eqb, leb, ltb}
use lib.ListN.{length, drop, length-append}
use lib.Seq.{drop-append-le}
use borrow.Author.Tests.{leb-true, eqb-true, ltb-true, ltb-false, le-leb, eq-eqb}
use Rattle.std.specs.Prelude.{Result, Ok, Err}
use Rattle.script_records.specs.Records.{kind_of, size_by, record_size, two_at, next_by, marked_in}
use Rattle.script_records.specs.declared.Kind.{Kind}
use Rattle.script_records.specs.declared.UnknownMark.{UnknownMark}
use Rattle.script_records.specs.declared.Next.{Next}
use Rattle.script_records.specs.declared.Next.TheVariants as next
use Rattle.script_records.proofs.KindLaws.{same_bytes, next-stays, more-than-letters}
use Rattle.script_bytes.specs.Bytes.{size_in, next_in, is_record, unknown_mark, none, behind, records_in}
use Rattle.script_bytes.specs.Blocks.{InBlocks}
use Rattle.script_bytes.proofs.HeadLaws.{wanted, by-letters, nothing, uncut, lettered, whole}
use Rattle.script_bytes.proofs.ListLaws.{shorter, first, no_more}

-- what letters say: no record where their size is 2, and nowhere else
no_record : (k : Result Kind UnknownMark) (b : List ℕ) → size_by k ≡ 2 → next_by k b ≡ next.Cut
no_record (Ok k) b h = absurd (omega (arith, more-than-letters k))
no_record (Err e) b h = refl

two_by : (k : Result Kind UnknownMark) (b : List ℕ) → is_record (next_by k b) ≡ false → size_by k ≡ 2
two_by (Ok k) b h = absurd (false≢true (sym h))
two_by (Err e) b h = refl

module _ (letters : ℕ) where
  -- the same when more bytes come
  same-marked : (a b : List ℕ) → record_size letters ≤ length a → marked_in letters (a ++ b) ≡ marked_in letters a
  unfolding record_size marked_in
  same-marked a b h = next-stays (kind_of letters) a b h

  marked-cut : (b : List ℕ) → record_size letters ≡ 2 → marked_in letters b ≡ next.Cut
  unfolding record_size marked_in
  marked-cut b h = no_record (kind_of letters) b h

  size-two : (b : List ℕ) → is_record (marked_in letters b) ≡ false → record_size letters ≡ 2
  unfolding record_size marked_in
  size-two b h = two_by (kind_of letters) b h

module _ (a b : List ℕ) where
  -- the letters stay when more bytes come
  same-letters : 2 ≤ length a → two_at (a ++ b) 0 ≡ two_at a 0
  same-letters h = ap (λ l. two_at l 0) (same_bytes a b 2 0 (omega arith))

  same_size : 2 ≤ length a → size_in (a ++ b) ≡ size_in a
  same_size h =
      let long : 2 ≤ length (a ++ b) = simp length-append (omega arith) in
      by-letters (a ++ b) long ∙ (ap record_size (same-letters h) ∙ sym (by-letters a h))

  -- what the letters say, where all of it is there
  same_next : size_in a ≤ length a → next_in (a ++ b) ≡ next_in a
  same_next h =
      let two = lettered a h in
      let l = two_at a 0 in
      let sized : record_size l ≤ length a = rw (← by-letters a two) h in
      let long : size_in (a ++ b) ≤ length (a ++ b) = rw (same_size two, length-append a b) (omega arith) in
      uncut (a ++ b) long
      ∙ (ap (λ l. marked_in l (a ++ b)) (same-letters two)
      ∙ (same-marked l a b sized ∙ sym (uncut a h)))

-- the records of a and then b, by what a leaves
abbrev Joins : (a b : List ℕ) → Type 0
Joins a b = records_in (a ++ b) ≡ behind (records_in a).list (records_in ((records_in a).left ++ b))

-- no record at the head: all of a is left; a record: by what is behind it
joined : (a b : List ℕ) (x : Next) → next_in a ≡ x → Joins (drop (size_in a) a) b → Joins a b
joined a b next.End e ih = rw (no_more a (ap is_record e)) refl
joined a b next.Cut e ih = rw (no_more a (ap is_record e)) refl
joined a b (next.Record r) e ih =
    let here = whole a (ap is_record e) in
    let moved : drop (size_in (a ++ b)) (a ++ b) ≡ drop (size_in a) a ++ b =
    rw (same_size a b (lettered a here)) (drop-append-le (size_in a) a b here) in
    rw (first a r e)
    (first (a ++ b) r (same_next a b here ∙ e)
    ∙ (ap (λ l. behind (r ∷ []) (records_in l)) moved ∙ ap (behind (r ∷ [])) ih))

joins-within : (n : ℕ) (a b : List ℕ) → length a ≤ n → Joins a b
joins-within zero a b h = rw (no_more a (ap is_record (nothing a (omega arith)))) refl
joins-within (suc n) a b h = joined a b (next_in a) refl (joins-within n (drop (size_in a) a) b (shorter n a h))

stopped : (a b : List ℕ) → unknown_mark a ≡ true → records_in (a ++ b) ≡ none (a ++ b)
stopped a b h =
    let tests = (and-eq-true_iff (leb 2 (length a)) (eqb (size_in a) 2)).0 h in
    let two = leb-true 2 (length a) tests.0 in
    let size : size_in a ≡ 2 = eqb-true (size_in a) 2 tests.1 in
    let here : size_in a ≤ length a = omega arith in
    let l = two_at a 0 in
    let cut = marked-cut l a (sym (by-letters a two) ∙ size) in
    no_more (a ++ b) (ap is_record (same_next a b here ∙ (uncut a here ∙ cut)))

-- bytes without a record at their head, and without an unknown mark: fewer than 7
short-by : (b : List ℕ) (cut : Bool) → ltb (length b) (size_in b) ≡ cut → is_record (next_in b) ≡ false
    → unknown_mark b ≡ false → length b < 7
short-by b true e h k = omega (arith, ltb-true (length b) (size_in b) e, (wanted b).most)
short-by b false e h k =
    let here = ltb-false (length b) (size_in b) e in
    let two = lettered b here in
    let l = two_at b 0 in
    let size = by-letters b two ∙ size-two l b (rw (uncut b here) at h) in
    let mark : unknown_mark b ≡ true = rw (le-leb 2 (length b) two, eq-eqb (size_in b) 2 size) refl in
    absurd (false≢true (sym k ∙ mark))

-- no record stands in what is left
abbrev Left : List ℕ → Type 0
Left a = is_record (next_in (records_in a).left) ≡ false

left_by : (a : List ℕ) (x : Next) → next_in a ≡ x → Left (drop (size_in a) a) → Left a
left_by a next.End e ih = rw (no_more a (ap is_record e)) (ap is_record e)
left_by a next.Cut e ih = rw (no_more a (ap is_record e)) (ap is_record e)
left_by a (next.Record r) e ih = rw (first a r e) ih

left-within : (n : ℕ) (a : List ℕ) → length a ≤ n → Left a
left-within zero a h =
    let e = ap is_record (nothing a (omega arith)) in
    rw (no_more a e) e
left-within (suc n) a h = left_by a (next_in a) refl (left-within n (drop (size_in a) a) (shorter n a h))

pub left_over : (a : List ℕ) → Left a
left_over a = left-within (length a) a (omega arith)

pub in_blocks : InBlocks
in_blocks =
    record {
      joins = λ a b. joins-within (length a) a b (omega arith);
      stops = stopped;
      short = λ a h. let l = (records_in a).left in short-by l (ltb (length l) (size_in l)) refl (left_over a) h;
    }
