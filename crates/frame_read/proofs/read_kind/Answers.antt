-- A cell has at most 128 lags, and the bytes are as many as those of a frame of the kind.
use Rattle.std.proofs.Common.{arith, length-drop}
use Rattle.std.proofs.lemmas.List.{take_rest}
use Rattle.lta_spec.proofs.RoundTrips.{count_small}
use Rattle.frame_read.proofs.read_kind.Goals as goal

pub of_length-kind-requires : goal.of_length-kind-requires
of_length-kind-requires c = grind (arith, count_small)

pub length-requires : goal.length-requires
length-requires c = grind (arith, count_small)

pub body_verdict-requires : goal.body_verdict-requires
body_verdict-requires c = rw (take_rest c.args.bytes.now 2) (simp length-drop (grind arith))
