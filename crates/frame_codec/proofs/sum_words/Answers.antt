-- The fold has summed the words that it went over.
use Rattle.std.proofs.Common.{◌≡◌, ℕ, List, rules, refl, ap, ◌∙◌, arith}
use Rattle.std.specs.List.{range_with_len}
use Rattle.std.proofs.lemmas.Iterator.{YieldsList-from_range}
use Rattle.std.proofs.lemmas.Fn.{fold_over}
use Rattle.std.proofs.iter.Yields.{nat_range_steps}
use Rattle.lta_spec.specs.Words.{part}
use Rattle.lta_spec.specs.Bytes.{words_of}
use Rattle.lta_spec.specs.Frame.{checksum}
use Rattle.lta_spec.proofs.ByteLaws.{length-words}
use Rattle.frame_codec.proofs.Laws.{words_at, words_at-range, sum_next}
use Rattle.frame_codec.proofs.sum_words.Goals as goal

pub returns : goal.returns
unfolding part
returns c =
    let n = c.args.n in
    let ws = words_of c.args.s.now in
    let Summed : List ℕ → ℕ → Type 0 = λ is sum. sum ≡ checksum (words_at ws is) in
    fold_over nat_range_steps (λ i. i) _ Summed _
    (λ is sum i next f e k. (sum_next ws is i e (search rules), search rules))
    (record { start = 0; end = n }) (range_with_len 0 n) 0 c.fold.result
    (YieldsList-from_range 0 n n refl (omega arith)).runs refl c.fold.ensures.ran
    ∙ ap checksum (words_at-range ws 0 n (omega (arith, length-words c.args.s.now)))
