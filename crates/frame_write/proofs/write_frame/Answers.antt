-- What is accepted keeps to the rules of a frame, and fits the buffer.
use Rattle.std.proofs.Common.{length, sym, arith}
use Rattle.lta_spec.proofs.RoundTrips.{Writes, writes, count_small}
use Rattle.frame_write.proofs.write_frame.Goals as goal
use Rattle.frame_write.proofs.write_frame.Goals.{In_ok-write_verdict}

fine : (c : In_ok-write_verdict) → let a = c.args in Writes a.n a.f a.lags.now (length a.out.now)
fine c = let a = c.args in writes a.n a.f a.lags.now (length a.out.now) (sym c.in_ok-write_verdict.ensures)

pub put_frame_of-requires-clause-fields : goal.put_frame_of-requires-clause-fields
put_frame_of-requires-clause-fields c =
    (fine (goal.at.put_frame_of-requires-clause-fields c).In_ok-write_verdict).fields

pub put_frame_of-requires-clause-room : goal.put_frame_of-requires-clause-room
put_frame_of-requires-clause-room c =
    let w = fine (goal.at.put_frame_of-requires-clause-room c).In_ok-write_verdict in omega (arith, w.fits, w.length)

pub of-requires : goal.of-requires
of-requires c = (fine (goal.at.of-requires c).In_ok-write_verdict).fields

pub length-requires : goal.length-requires
length-requires c =
    count_small c.args.n (fine (goal.at.length-requires c).In_ok-write_verdict).count
