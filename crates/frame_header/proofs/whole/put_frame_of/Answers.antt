-- The mark stands in front of what the words left.
use Rattle.std.proofs.Common.{arith}
use Rattle.lta_spec.specs.Frame.{frame_of}
use Rattle.frame_header.proofs.FrameStores.{frame-left}
use Rattle.frame_header.proofs.whole.put_frame_of.Goals as goal

pub returns : goal.returns
unfolding frame_of
returns g c v m =
    let room = c.requires.room in
    rw (c.copy_from_slice.ensures.after, c.put_body.ensures v m, c.split_at_mut-mark.ensures.back)
    (frame-left c.args.out.now _ (omega arith))
