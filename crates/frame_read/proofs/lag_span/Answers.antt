-- An accepted frame has at most 128 lags.
use Rattle.std.proofs.Common.{arith}
use Rattle.lta_spec.proofs.RoundTrips.{accepted, count_small}
use Rattle.frame_read.proofs.lag_span.Goals as goal

pub overflow_mul-result : goal.overflow_mul-result
overflow_mul-result c =
    let a = c.args in omega (arith, count_small a.n (accepted a.n a.bytes.now c.in-Ok.ensures.ok.0).count)
