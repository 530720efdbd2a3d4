-- The block counter and the parts, each by its own test.
use Rattle.lta_spec.specs.Damage.{dump_unit_sound}
use Rattle.call_dump.proofs.unit_sound.Goals as goal

pub returns : goal.returns
unfolding dump_unit_sound
returns c = rw (c.counter_ok-counter.ensures, c.dump_sound-parts.ensures)
