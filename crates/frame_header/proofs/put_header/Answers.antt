-- W0 to W6 are put, and DATA_BIAS behind them where the kind has it.
use Rattle.std.proofs.Common.{refl, ◌∙◌, rules}
use mathlib.Core.List.{[], ◌∷◌}
use Prim.Native.Nat.{◌*◌}
use native.Mathlib.Omega.{arith}
use borrow.Author.Tests.{eq-eqb, ne_eqb}
use Rattle.lta_spec.specs.Shape.{peak}
use Rattle.lta_spec.specs.Frame.{speed_frame, first_words, header}
use Rattle.lta_spec.proofs.RoundTrips.{valid}
use Rattle.frame_header.proofs.FrameStores.{two_runs}
use Rattle.frame_header.proofs.put_header.Goals as goal

pub overflow_mul-f : goal.overflow_mul-f
overflow_mul-f c =
    omega (arith, valid c.args.f c.requires.0)

pub returns-then-f-eq-SPEED_FRAME : goal.returns-then-f-eq-SPEED_FRAME
unfolding header
returns-then-f-eq-SPEED_FRAME c =
    let a = c.args in
    c.put_word.ensures
    ∙ rw (
      c.put_words.ensures (λ w. w) (search rules),
      c.first_words-first.ensures,
      eq-eqb a.f.kind speed_frame c.if-f-eq-SPEED_FRAME.true,
    )
    (two_runs a.body.now (first_words a.f) (peak * a.f.ticks ∷ []) 7 refl)

pub returns-else-f-eq-SPEED_FRAME : goal.returns-else-f-eq-SPEED_FRAME
unfolding header
returns-else-f-eq-SPEED_FRAME c =
    let f = c.args.f in
    rw (
      c.put_words.ensures (λ w. w) (search rules),
      c.first_words-first.ensures,
      ne_eqb f.kind speed_frame c.if-f-eq-SPEED_FRAME.false,
    )
