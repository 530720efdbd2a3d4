-- A cell has at most 128 lags.
use Rattle.std.proofs.Common.{arith}
use Rattle.lta_spec.proofs.RoundTrips.{count_small}
use Rattle.frame_write.proofs.write_verdict.Goals as goal

pub overflow_mul-n : goal.overflow_mul-n
overflow_mul-n c = grind (arith, count_small)

pub length-requires : goal.length-requires
length-requires c = grind (arith, count_small)
