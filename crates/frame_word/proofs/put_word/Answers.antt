-- The four bytes that were lent come back as the bytes of the word.
use Rattle.std.proofs.Common.{◌*◌, refl}
use Rattle.lta_spec.proofs.WordLaws.{returned}
use Rattle.frame_word.proofs.put_word.Goals as goal

pub returns : goal.returns
returns c =
    rw (c.copy_from_slice.ensures.after, c.to_le_bytes.ensures)
    (returned c.args.s.now (4 * c.args.k) 4 _ c.requires refl)
