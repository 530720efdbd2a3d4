-- Letters, 0, what is answered, line feed: they are no more than there is room for.
use Prim.Native.Nat.{◌≤◌}
use mathlib.Core.Path.{sym, ap, ◌∙◌}
use mathlib.Core.List.{[], ◌∷◌, ◌++◌}
use native.Mathlib.Omega.{arith}
use lib.IntN.{pos}
use lib.ListN.{length}
use Rattle.lta_spec.proofs.ByteLaws.{below_all}
use Rattle.script_records.specs.Records.{letters_of_kind}
use Rattle.script_lines.specs.Lines.{spaced, line, letters_of, value_fields, most_bytes}
use Rattle.script_lines.proofs.PutLaws.{Room, Put, same-room, same-put, first-room, second-room, both, room-2, room-3}
use Rattle.script_lines.proofs.FieldLaws.{spaced-append, LineRooms, line-rooms, line-put}
use Rattle.script_lines.proofs.LengthLaws.{accepted-fits}
use Rattle.script_lines.proofs.put_accepted.Goals as goal
use Rattle.script_lines.proofs.put_accepted.Goals.{After-put_bytes-i, After-put_value-e, Start}

-- how long the line is, and room for its three parts
fits : (s : Start)
    → let a = s.args in
    length (line (letters_of a.r) (pos 0 ∷ value_fields a.r a.k a.frame.now)) ≤ most_bytes a.r
fits s =
    let a = s.args in
    accepted-fits a.r a.k a.frame.now s.ranges.k.fits (below_all 256 a.frame.now s.fits-frame)

rooms : (s : Start)
    → let a = s.args in
    LineRooms a.lines.now a.at (letters_of a.r) (pos 0 ∷ value_fields a.r a.k a.frame.now)
rooms s =
    let a = s.args in
    line-rooms a.lines.now a.at (letters_of a.r) (pos 0 ∷ value_fields a.r a.k a.frame.now)
    (omega (arith, s.requires, fits s))

-- the letters were put, and there is room for 0 and for what is answered
letters-put : (c : After-put_bytes-i)
    → let a = c.args in
    Put a.lines.now a.at (letters_of a.r) c.put_bytes-i.result c.put_bytes-i.new.out
letters-put c = same-put _ _ (c.letters.ensures ∙ ap letters_of_kind c.kind.ensures) c.put_bytes-i.ensures

fields-room : (c : After-put_bytes-i)
    → let a = c.args in
    LineRooms a.lines.now a.at (letters_of a.r) (pos 0 ∷ value_fields a.r a.k a.frame.now)
    → Room c.put_bytes-i.new.out c.put_bytes-i.result
    (spaced (pos 0 ∷ []) ++ spaced (value_fields a.r a.k a.frame.now))
fields-room c all =
    let a = c.args in
    let v = value_fields a.r a.k a.frame.now in
    same-room c.put_bytes-i.new.out c.put_bytes-i.result (sym (spaced-append (pos 0 ∷ []) v))
    (room-2 all (letters-put c))

-- both fields were put
fields-put : (c : After-put_value-e)
    → let a = c.args in
    Put c.put_bytes-i.new.out c.put_bytes-i.result
    (spaced (pos 0 ∷ value_fields a.r a.k a.frame.now)) c.put_value-e.result c.put_value-e.new.lines
fields-put c =
    let a = c.args in
    let v = value_fields a.r a.k a.frame.now in
    let m = c.put_bytes-i.new.out in
    let p = c.put_bytes-i.result in
    same-put m p (spaced-append (pos 0 ∷ []) v)
    (both m p (spaced (pos 0 ∷ [])) (spaced v) c.put_field-j.ensures
    c.put_value-e.ensures)

pub put_field-j-requires : goal.put_field-j-requires
put_field-j-requires c =
    let a = c.args in
    let v = value_fields a.r a.k a.frame.now in
    first-room c.put_bytes-i.new.out c.put_bytes-i.result (spaced (pos 0 ∷ [])) (spaced v)
    (fields-room (goal.at.put_field-j-requires c).After-put_bytes-i (rooms (goal.at.put_field-j-requires c).Start))

pub put_value-e-requires : goal.put_value-e-requires
put_value-e-requires c =
    let v = value_fields c.args.r c.args.k c.args.frame.now in
    second-room c.put_bytes-i.new.out c.put_bytes-i.result (spaced (pos 0 ∷ [])) (spaced v) c.put_field-j.ensures
    (fields-room (goal.at.put_value-e-requires c).After-put_bytes-i (rooms (goal.at.put_value-e-requires c).Start))

pub put_byte-requires : goal.put_byte-requires
put_byte-requires c =
    let letters = letters-put (goal.at.put_byte-requires c).After-put_bytes-i in
    let fields = fields-put (goal.at.put_byte-requires c).After-put_value-e in
    omega (arith, room-3 (rooms (goal.at.put_byte-requires c).Start) letters fields)

pub returns : goal.returns
returns c =
    let a = c.args in
    let v = value_fields a.r a.k a.frame.now in
    let letters = letters-put (goal.at.returns c).After-put_bytes-i in
    let fields = fields-put (goal.at.returns c).After-put_value-e in
    let put =
    line-put a.lines.now a.at (letters_of a.r) (pos 0 ∷ v) (rooms (goal.at.returns c).Start) letters fields
    c.put_byte.ensures in
    record {
      behind = put.behind;
      leaves = put.leaves;
      few = omega (arith, put.behind, fits (goal.at.returns c).Start);
    }
