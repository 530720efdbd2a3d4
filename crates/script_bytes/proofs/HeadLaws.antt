-- What stands at the head of some bytes, by the size that it wants: 2 to 7 bytes.
use Prim.Native.Nat.{ℕ, ◌≤◌, ◌<◌}
use mathlib.Core.Path.{◌≡◌, refl, sym, ap, ◌∙◌}
use mathlib.Core.Bool.{Bool, true, false, cond, not, not-not, false≢true}
use mathlib.Core.List.{List}
use native.Mathlib.Omega.{arith}
use lib.Dec.{eqb, ltb}
use lib.ListN.{length}
use borrow.Author.Tests.{lt-ltb, le-ltb, le-leb, ltb-true, ltb-false, eq-eqb, ne_eqb}
use Rattle.std.specs.Prelude.{Option, Some, None, Result, Ok, Err}
use Rattle.std.specs.Option.{is_some}
use Rattle.std.specs.Result.{result_ok}
use Rattle.script_records.specs.Records.{kind_of, size_of_kind, size_by, record_size, two_at, record_in, next_by, marked_in}
use Rattle.script_records.specs.declared.Kind.{Kind}
use Rattle.script_records.specs.declared.Kind.TheVariants.{Tick, Dump, Integrate, Emit}
use Rattle.script_records.specs.declared.UnknownMark.{UnknownMark}
use Rattle.script_records.specs.declared.Next.{Next}
use Rattle.script_records.specs.declared.Next.TheVariants as next
use Rattle.script_records.proofs.KindLaws.{Sized, sized}
use Rattle.script_bytes.specs.Bytes.{kind_in, size_in, next_in, is_record, unknown_mark}

pub record-sized : (letters : ℕ) → Sized (record_size letters)
unfolding record_size
record-sized l = sized (kind_of l)

wanted_by : (alone : Bool) (n : ℕ) → Sized n → Sized (cond alone 2 n)
wanted_by true n h = record { least = omega arith; most = omega arith }
wanted_by false n h = h

pub wanted : (b : List ℕ) → Sized (size_in b)
unfolding size_in
wanted b = wanted_by (ltb (length b) 2) (record_size (two_at b 0)) (record-sized (two_at b 0))

-- two letters say how many bytes are wanted
pub by-letters : (b : List ℕ) → 2 ≤ length b → size_in b ≡ record_size (two_at b 0)
unfolding size_in
by-letters b h = rw (le-ltb (length b) 2 h) refl

pub nothing : (b : List ℕ) → length b ≡ 0 → next_in b ≡ next.End
unfolding next_in
nothing b h = rw (eq-eqb (length b) 0 h) refl

pub cut : (b : List ℕ) → (length b ≡ 0 → ⊥) → length b < size_in b → next_in b ≡ next.Cut
unfolding next_in
cut b some h = rw (ne_eqb (length b) 0 some, lt-ltb (length b) (size_in b) h) refl

pub uncut : (b : List ℕ) → size_in b ≤ length b → next_in b ≡ marked_in (two_at b 0) b
unfolding next_in
uncut b h =
    let some : length b ≡ 0 → ⊥ = λ e. omega (arith, (wanted b).least) in
    rw (ne_eqb (length b) 0 some, le-ltb (length b) (size_in b) h) refl

-- bytes as many as are wanted have two letters at their head
pub lettered : (b : List ℕ) → size_in b ≤ length b → 2 ≤ length b
lettered b h = omega (arith, (wanted b).least)

-- a record is whole
whole_by : (empty short : Bool) (n : Next) → is_record (cond empty next.End (cond short next.Cut n)) ≡ true
    → short ≡ false
whole_by true short n h = absurd (false≢true h)
whole_by false true n h = absurd (false≢true h)
whole_by false false n h = refl

pub whole : (b : List ℕ) → is_record (next_in b) ≡ true → size_in b ≤ length b
unfolding next_in
whole b h =
    ltb-false (length b) (size_in b)
    (whole_by (eqb (length b) 0) (ltb (length b) (size_in b)) (marked_in (two_at b 0) b) h)

-- by the kind of the record whose letters stand there
pub kind-lettered : (b : List ℕ) → 2 ≤ length b → kind_in b ≡ result_ok (kind_of (two_at b 0))
unfolding kind_in
kind-lettered b h = rw (le-ltb (length b) 2 h) refl

pub kind-alone : (b : List ℕ) → length b < 2 → kind_in b ≡ None
unfolding kind_in
kind-alone b h = rw (lt-ltb (length b) 2 h) refl

abbrev pub size_where : Option Kind → ℕ
size_where None = 2
size_where (Some k) = size_of_kind k

size_by-kind : (alone : Bool) (k : Result Kind UnknownMark)
    → cond alone 2 (size_by k) ≡ size_where (cond alone None (result_ok k))
size_by-kind true k = refl
size_by-kind false (Ok k) = refl
size_by-kind false (Err e) = refl

pub size-where : (b : List ℕ) → size_in b ≡ size_where (kind_in b)
unfolding size_in kind_in record_size
size-where b = size_by-kind (ltb (length b) 2) (kind_of (two_at b 0))

letters-known : (k : Result Kind UnknownMark) (kind : Kind) → result_ok k ≡ Some kind → k ≡ Ok kind
letters-known (Ok j) kind e = let same : j ≡ kind = cc in ap Ok same
letters-known (Err u) kind e = absurd (false≢true (ap is_some e))

letters-unknown : (k : Result Kind UnknownMark) (b : List ℕ) → result_ok k ≡ None → next_by k b ≡ next.Cut
letters-unknown (Ok j) b e = absurd (false≢true (sym (ap is_some e)))
letters-unknown (Err u) b e = refl

-- what stands there: a whole record, a cut one, or an unknown mark or a part of one
module _ (b : List ℕ) (kind : Kind) (e : kind_in b ≡ Some kind) where
  size-known : size_in b ≡ size_of_kind kind
  size-known = size-where b ∙ ap size_where e

  pub next-whole : size_of_kind kind ≤ length b → next_in b ≡ next.Record (record_in kind b)
  unfolding marked_in
  next-whole h =
      let here : size_in b ≤ length b = omega (arith, size-known) in
      let letters = sym (kind-lettered b (lettered b here)) ∙ e in
      uncut b here ∙ ap (λ k. next_by k b) (letters-known (kind_of (two_at b 0)) kind letters)

  two-letters : (alone : Bool) → ltb (length b) 2 ≡ alone → 2 ≤ length b
  two-letters true h = absurd (false≢true (ap is_some (sym (kind-alone b (ltb-true (length b) 2 h)) ∙ e)))
  two-letters false h = ltb-false (length b) 2 h

  pub next-cut : length b < size_of_kind kind → next_in b ≡ next.Cut
  next-cut h =
      let some : length b ≡ 0 → ⊥ = λ none. omega (arith, two-letters (ltb (length b) 2) refl) in
      cut b some (omega (arith, size-known))

pub next-unknown : (b : List ℕ) → (length b ≡ 0 → ⊥) → kind_in b ≡ None → next_in b ≡ next.Cut
unfolding marked_in
next-unknown b some e = by-test (ltb (length b) 2) refl
  where
    size : size_in b ≡ 2
    size = size-where b ∙ ap size_where e

    by-test : (alone : Bool) → ltb (length b) 2 ≡ alone → next_in b ≡ next.Cut
    by-test true h = cut b some (omega (arith, size, ltb-true (length b) 2 h))
    by-test false h =
        let two = ltb-false (length b) 2 h in
        uncut b (omega (arith, size))
        ∙ letters-unknown (kind_of (two_at b 0)) b (sym (kind-lettered b two) ∙ e)

-- two letters that are no record's
unknown-is : (kind : Option Kind) → not (is_some kind) ≡ eqb (size_where kind) 2
unknown-is None = refl
unknown-is (Some Tick) = refl
unknown-is (Some Dump) = refl
unknown-is (Some Integrate) = refl
unknown-is (Some Emit) = refl

pub unknown-letters : (b : List ℕ) (r : Bool) → is_some (kind_in b) ≡ not r → 2 ≤ length b → r ≡ unknown_mark b
unknown-letters b r e h =
    rw (le-leb 2 (length b) h)
    (sym (not-not r) ∙ (ap not (sym e) ∙ (unknown-is (kind_in b) ∙ ap (λ n. eqb n 2) (sym (size-where b)))))
