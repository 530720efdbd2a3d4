-- The fields keep to their rules; each sum is put as the word of what it is without its bias.
use Rattle.std.proofs.Common.{refl, ◌∙◌, arith, length-drop, rules}
use Rattle.lta_spec.specs.Bytes.{number_word}
use Rattle.lta_spec.specs.Row.{unbiased}
use Rattle.lta_spec.specs.Call.{emitted_fields}
use Rattle.lta_spec.specs.Step.{row_frame}
use Rattle.lta_spec.proofs.RoundTrips.{valid}
use Rattle.std.proofs.lemmas.List.{take_rest}
use Rattle.frame_emission.proofs.Laws.{sums_mapped}
use Rattle.frame_emission.proofs.put_frame.Goals as goal

pub overflow_mul-bias : goal.overflow_mul-bias
overflow_mul-bias c = omega (arith, valid _ c.emitted_fields-f.ensures.1)

pub put_frame_of-requires-clause-room : goal.put_frame_of-requires-clause-room
unfolding emitted_fields
put_frame_of-requires-clause-room c =
    rw (take_rest c.args.row.now 3, c.emitted_fields-f.ensures.0) (simp length-drop (omega arith))

pub returns : goal.returns
unfolding row_frame emitted_fields
returns c =
    let ticks = c.emitted_fields-f.result.ticks in
    c.put_frame_of.ensures (λ w. number_word (unbiased ticks w)) (search rules)
    ∙ rw (take_rest c.args.row.now 3, sums_mapped ticks _, c.emitted_fields-f.ensures.0) refl
