-- Request 2026-06: the speed frames that were written before it are refused by 18.
use Rattle.std.specs.Prelude.{Ok}
use mathlib.Core.Path.{◌≡◌, refl}
use mathlib.Core.Bool.{true, false}
use mathlib.Core.List.{List, [], ◌∷◌}
use Prim.Native.Nat.{ℕ, ◌*◌, ◌<◌}
use native.Mathlib.Omega.{arith}
use lib.IntN.{ℤ, nat_abs}
use borrow.Author.Tests.{leb-true, eq-eqb, ne_eqb, le-leb}
use Rattle.lta_spec.specs.Words.{every}
use Rattle.lta_spec.specs.Shape.{peak}
use Rattle.lta_spec.specs.Answer.Answer.{refused}
use Rattle.lta_spec.specs.Frame.{speed_frame, frame_length, frame_of, lag_words, header_with, within}
use Rattle.lta_spec.specs.FrameCalls.{write_verdict, read_answer}
use Rattle.lta_spec.specs.RoundTrip.{WrittenBefore}
use Rattle.lta_spec.specs.declared.Fields.{Fields}
use Rattle.lta_spec.proofs.TestLaws.{and_both}
use Rattle.lta_spec.proofs.RoundTrips.{valid, written, bias_right, verdict-written}

-- what was within the limit then is within it now
lags-within : (t : ℕ) (zs : List ℤ) → every (within (98 * t)) zs ≡ true → every (within (peak * t)) zs ≡ true
lags-within t [] e = refl
lags-within t (z ∷ zs) e =
    let q = and_both (within (98 * t) z) (every (within (98 * t)) zs) e in
    rw (
      le-leb (nat_abs z) (peak * t) (omega (arith, leb-true (nat_abs z) (98 * t) q.0)),
      lags-within t zs q.1,
    )

module _ (n : ℕ) (f : Fields) (zs : List ℤ) (w : WrittenBefore n f zs) (some : 0 < f.ticks) where
  wrong : bias_right (98 * f.ticks) f ≡ false
  wrong =
      rw (eq-eqb f.kind speed_frame w.kind, ne_eqb (98 * f.ticks) (peak * f.ticks) (λ e. omega arith))

  writes-now : write_verdict n f zs (frame_length f.kind n) ≡ Ok tt
  writes-now =
      written n f zs (frame_length f.kind n)
      (record {
        count = w.count;
        fields = w.fields;
        length = w.length;
        lags = lags-within f.ticks zs w.lags;
        fits = omega arith;
      })

  pub refused-now : read_answer n (frame_of (header_with (98 * f.ticks) f) (lag_words zs)) ≡ refused 18
  refused-now =
      rw (
        verdict-written n f zs (frame_length f.kind n) writes-now (98 * f.ticks)
            (omega (arith, (valid f w.fields).ticks)),
        wrong,
      )
