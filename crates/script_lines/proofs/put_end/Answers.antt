-- Letters, field, line feed.
use mathlib.Core.List.{[], ◌∷◌}
use native.Mathlib.Omega.{arith}
use lib.IntN.{pos}
use Rattle.lta_spec.specs.Decimal.{ascii}
use Rattle.script_lines.proofs.PutLaws.{room-1, room-2, room-3}
use Rattle.script_lines.proofs.FieldLaws.{LineRooms, line-rooms, line-put}
use Rattle.script_lines.proofs.put_end.Goals as goal
use Rattle.script_lines.proofs.put_end.Goals.{Start}

-- room for the three parts
rooms : (s : Start) → LineRooms s.args.lines.now s.args.at (ascii "END") (pos s.args.number ∷ [])
rooms s = line-rooms s.args.lines.now s.args.at (ascii "END") (pos s.args.number ∷ []) s.requires

pub put_bytes-i-requires : goal.put_bytes-i-requires
put_bytes-i-requires c = room-1 (rooms (goal.at.put_bytes-i-requires c).Start)

pub put_field-j-requires : goal.put_field-j-requires
put_field-j-requires c =
    room-2 (rooms (goal.at.put_field-j-requires c).Start) c.put_bytes-i.ensures

pub put_byte-requires : goal.put_byte-requires
put_byte-requires c =
    omega (
      arith,
      room-3 (rooms (goal.at.put_byte-requires c).Start)
          c.put_bytes-i.ensures
          c.put_field-j.ensures,
    )

pub returns : goal.returns
returns c =
    line-put c.args.lines.now c.args.at (ascii "END") (pos c.args.number ∷ []) (rooms (goal.at.returns c).Start)
    c.put_bytes-i.ensures c.put_field-j.ensures c.put_byte.ensures
