-- The part that is written is spliced in.
use mathlib.Core.Path.{refl}
use Rattle.lta_spec.proofs.WordLaws.{returned}
use Rattle.text.proofs.put_bytes.Goals as goal

pub returns-clause-leaves : goal.returns-clause-leaves
returns-clause-leaves c =
    let a = c.args in
    let written = c.copy_from_slice.ensures.after in
    rw written (returned a.out.now a.at _ a.bytes.now c.requires refl)
