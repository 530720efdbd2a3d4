-- The records of some bytes: the first, and behind it those of the bytes behind it.
use Prim.Native.Nat.{ℕ, zero, suc, ◌+◌, ◌-◌, ◌≤◌}
use mathlib.Core.Path.{◌≡◌, refl, sym, ap, ◌∙◌}
use mathlib.Core.Bool.{false, false≢true}
use mathlib.Core.List.{List, [], ◌∷◌}
use native.Mathlib.Omega.{arith}
use lib.ListN.{length, drop, length-drop}
use lib.Seq.{drop-drop}
use Rattle.script_records.specs.declared.Record.{Record}
use Rattle.script_records.specs.declared.Next.{Next}
use Rattle.script_records.specs.declared.Next.TheVariants as next
use Rattle.script_bytes.specs.Bytes.{size_in, next_in, is_record}
use Rattle.script_bytes.specs.Bytes.{Records, none, behind, goes_on, records_within, records_in}
use Rattle.script_bytes.proofs.HeadLaws.{wanted, nothing, whole}

-- what is behind the head is shorter
pub shorter : (n : ℕ) (b : List ℕ) → length b ≤ suc n → length (drop (size_in b) b) ≤ n
shorter n b h = simp length-drop (omega (arith, (wanted b).least))

-- no more records are found where more are allowed than there are bytes
enough : (n m : ℕ) (b : List ℕ) → length b ≤ n → length b ≤ m → records_within n b ≡ records_within m b
unfolding records_within
enough zero zero b hn hm = refl
enough zero (suc m) b hn hm = rw (nothing b (omega arith)) refl
enough (suc n) zero b hn hm = rw (nothing b (omega arith)) refl
enough (suc n) (suc m) b hn hm =
    ap (goes_on (next_in b) (none b)) (enough n m (drop (size_in b) b) (shorter n b hn) (shorter m b hm))

one_more : (b : List ℕ) → records_in b ≡ goes_on (next_in b) (none b) (records_in (drop (size_in b) b))
unfolding records_in records_within
one_more [] = rw (nothing [] refl) refl
one_more (x ∷ b) =
    let rest = drop (size_in (x ∷ b)) (x ∷ b) in
    let h : length (x ∷ b) ≤ suc (length b) = omega arith in
    ap (goes_on (next_in (x ∷ b)) (none (x ∷ b)))
    (enough (length b) (length rest) rest (shorter (length b) (x ∷ b) h) (omega arith))

-- a record stands at the head
pub first : (b : List ℕ) (r : Record) → next_in b ≡ next.Record r
    → records_in b ≡ behind (r ∷ []) (records_in (drop (size_in b) b))
first b r e = one_more b ∙ ap (λ n. goes_on n (none b) (records_in (drop (size_in b) b))) e

stays : (n : Next) (here further : Records) → is_record n ≡ false → goes_on n here further ≡ here
stays (next.Record r) here further h = absurd (false≢true (sym h))
stays next.End here further h = refl
stays next.Cut here further h = refl

-- no record stands at the head
pub no_more : (b : List ℕ) → is_record (next_in b) ≡ false → records_in b ≡ none b
no_more b h = one_more b ∙ stays (next_in b) (none b) (records_in (drop (size_in b) b)) h

-- what is left is the last of the bytes
pub record Rest (b left : List ℕ) : Type 0 where
  pub inside : length left ≤ length b
  pub is : left ≡ drop (length b - length left) b

rest_all : (b : List ℕ) → Rest b b
rest_all b =
    let none : length b - length b ≡ 0 = omega arith in
    record { inside = omega arith; is = rw none refl }

rest-by : (b : List ℕ) (n : Next) → next_in b ≡ n → Rest (drop (size_in b) b) (records_in (drop (size_in b) b)).left
    → Rest b (records_in b).left
rest-by b next.End e h = rw (no_more b (ap is_record e)) (rest_all b)
rest-by b next.Cut e h = rw (no_more b (ap is_record e)) (rest_all b)
rest-by b (next.Record r) e h =
    let size = size_in b in
    let further = drop size b in
    let left = (records_in further).left in
    let here = whole b (ap is_record e) in
    let long = length-drop size b in
    let at : size + (length further - length left) ≡ length b - length left = omega (arith, h.inside) in
    rw (first b r e)
    (record {
      inside = omega (arith, h.inside);
      is = h.is ∙ (drop-drop (length further - length left) size b ∙ ap (λ k. drop k b) at);
    })

rest-within : (n : ℕ) (b : List ℕ) → length b ≤ n → Rest b (records_in b).left
rest-within zero b h = rw (no_more b (ap is_record (nothing b (omega arith)))) (rest_all b)
rest-within (suc n) b h = rest-by b (next_in b) refl (rest-within n (drop (size_in b) b) (shorter n b h))

pub rest : (b : List ℕ) → Rest b (records_in b).left
rest b = rest-within (length b) b (omega arith)
