-- The space, and the digits behind it.
use mathlib.Core.Path.{sym}
use mathlib.Core.List.{[], ◌∷◌, ◌++◌}
use native.Mathlib.Omega.{arith}
use Rattle.lta_spec.specs.Decimal.{space, decimal}
use Rattle.script_lines.proofs.PutLaws.{Room, same-room, same-put, first-room, second-room, both}
use Rattle.script_lines.proofs.FieldLaws.{one_field}
use Rattle.script_lines.proofs.put_field.Goals as goal
use Rattle.script_lines.proofs.put_field.Goals.{Start}

-- room for both
room : (s : Start) → Room s.args.lines.now s.args.at ((space ∷ []) ++ decimal s.args.n)
room s = same-room s.args.lines.now s.args.at (sym (one_field s.args.n)) s.requires

pub put_byte-i-requires : goal.put_byte-i-requires
put_byte-i-requires c =
    omega (
      arith,
      first-room c.args.lines.now c.args.at (space ∷ []) (decimal c.args.n)
          (room (goal.at.put_byte-i-requires c).Start),
    )

pub put_number-requires : goal.put_number-requires
put_number-requires c =
    let a = c.args in
    second-room a.lines.now a.at (space ∷ []) (decimal a.n)
    c.put_byte-i.ensures (room (goal.at.put_number-requires c).Start)

pub returns : goal.returns
returns c =
    let a = c.args in
    let l = a.lines.now in
    same-put l a.at (one_field a.n)
    (both l a.at (space ∷ []) (decimal a.n) c.put_byte-i.ensures c.put_number.ensures)
