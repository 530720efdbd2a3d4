-- Offset and length of the place that the call gives, each within its half.
use native.Mathlib.Omega.{arith}
use Rattle.lta_spec.proofs.RoundTrips.{Inside, lag-inside}
use Rattle.lta_c.proofs.frames.lta_lag_part.Goals as goal

pub overflow_add-result : goal.overflow_add-result
overflow_add-result c =
    let a = c.args in
    let p : Inside c.lag_span-part.result a.bytes.now =
    rw c.lag_span-part.ensures (lag-inside a.lags a.bytes.now) in
    omega (arith, p.early, p.short)
