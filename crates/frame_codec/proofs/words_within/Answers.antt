-- The fold has tested the numbers of the words that it went over.
use Rattle.std.proofs.Common.{◌≡◌, ℕ, ◌+◌, Bool, ◌&&◌, true, List, map, get_or, refl, ap, ◌∙◌, arith, rules}
use borrow.Author.Tests.{tests}
use Rattle.std.specs.List.{range_with_len}
use Rattle.std.proofs.iter.Yields.{nat_range_steps}
use Rattle.std.proofs.lemmas.Iterator.{YieldsList-from_range}
use Rattle.std.proofs.lemmas.Fn.{fold_over}
use Rattle.std.proofs.lemmas.List.Recursion.{same_from_clauses}
use Rattle.lta_spec.specs.Words.{every}
use Rattle.lta_spec.specs.Bytes.{words_of, signed}
use Rattle.lta_spec.specs.Frame.{within}
use Rattle.lta_spec.proofs.ByteLaws.{length-words}
use Rattle.frame_codec.proofs.Laws.{words_at, words_at-range, every_next}
use Rattle.frame_codec.proofs.words_within.Goals as goal

pub returns : goal.returns
returns c =
    let a = c.args in
    let ws = words_of a.s.now in
    let near : ℕ → Bool = λ i. within a.b (signed (get_or ws i 0)) in
    let Tested : List ℕ → Bool → Type 0 = λ is ok. ok ≡ every near is in
    let tested : List ℕ → Bool = λ is. every (within a.b) (map signed (words_at ws is)) in
    fold_over nat_range_steps (λ i. i) _ Tested _
    (λ is ok i next f e k. (every_next near is i e (search (rules, tests)), search rules))
    (record { start = a.k; end = a.k + a.n }) (range_with_len a.k a.n) true c.fold.result
    (YieldsList-from_range a.k (a.k + a.n) a.n refl (omega arith)).runs refl c.fold.ensures.ran
    ∙ same_from_clauses (every near) tested (λ i b. near i && b) refl (λ i is. refl) (λ i is. refl)
    (range_with_len a.k a.n)
    ∙ ap (λ l. every (within a.b) (map signed l)) (words_at-range ws a.k a.n (omega (arith, length-words a.s.now)))
