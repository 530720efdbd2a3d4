-- Letters, field, line feed: they are no more than there is room for.
use Prim.Native.Nat.{◌≤◌}
use mathlib.Core.Path.{ap, ◌∙◌}
use mathlib.Core.List.{[], ◌∷◌}
use native.Mathlib.Omega.{arith}
use lib.IntN.{pos}
use lib.ListN.{length}
use Rattle.script_records.specs.Records.{letters_of_kind}
use Rattle.script_lines.specs.Lines.{line, letters_of, most_bytes}
use Rattle.script_lines.proofs.PutLaws.{same-put, room-2, room-3}
use Rattle.script_lines.proofs.FieldLaws.{LineRooms, line-rooms, line-put}
use Rattle.script_lines.proofs.LengthLaws.{refusal-fits}
use Rattle.script_lines.proofs.put_refusal.Goals as goal
use Rattle.script_lines.proofs.put_refusal.Goals.{Start}

-- how long the line is, and room for its three parts
fits : (s : Start) → length (line (letters_of s.args.r) (pos s.args.k ∷ [])) ≤ most_bytes s.args.r
fits s = refusal-fits s.args.r s.args.k s.ranges.k.fits

rooms : (s : Start)
    → LineRooms s.args.lines.now s.args.at (letters_of s.args.r) (pos s.args.k ∷ [])
rooms s =
    line-rooms s.args.lines.now s.args.at (letters_of s.args.r) (pos s.args.k ∷ [])
    (omega (arith, s.requires, fits s))

pub put_field-j-requires : goal.put_field-j-requires
put_field-j-requires c =
    room-2 (rooms (goal.at.put_field-j-requires c).Start)
    (same-put _ _ (c.letters.ensures ∙ ap letters_of_kind c.kind.ensures) c.put_bytes-i.ensures)

pub put_byte-requires : goal.put_byte-requires
put_byte-requires c =
    let put = same-put _ _ (c.letters.ensures ∙ ap letters_of_kind c.kind.ensures) c.put_bytes-i.ensures in
    omega (
      arith,
      room-3 (rooms (goal.at.put_byte-requires c).Start) put
          c.put_field-j.ensures,
    )

pub returns : goal.returns
returns c =
    let put =
    line-put c.args.lines.now c.args.at (letters_of c.args.r) (pos c.args.k ∷ []) (rooms (goal.at.returns c).Start)
    (same-put _ _ (c.letters.ensures ∙ ap letters_of_kind c.kind.ensures) c.put_bytes-i.ensures)
    c.put_field-j.ensures
    c.put_byte.ensures in
    record {
      behind = put.behind;
      leaves = put.leaves;
      few = omega (arith, put.behind, fits (goal.at.returns c).Start);
    }
