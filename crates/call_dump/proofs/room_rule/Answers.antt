-- The command is no 011, or there is room for the frame.
use Rattle.lta_spec.specs.Call.{dump_fits}
use Rattle.call_dump.proofs.room_rule.Goals as goal

pub returns : goal.returns
unfolding dump_fits
returns c = rw c.length.ensures
