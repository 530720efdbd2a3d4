-- A minus sign in front of the size of a number below 0.
use mathlib.Core.Path.{◌≡◌, sym, ap, ◌∙◌}
use mathlib.Core.List.{[], ◌∷◌, ◌++◌}
use Prim.Native.Char.{code}
use Rattle.lta_spec.specs.Decimal.{space, decimal}
use Rattle.std.proofs.Common.{w32}
use Rattle.std.proofs.lemmas.Int.{to_z-of_z}
use Rattle.script_lines.specs.Lines.{spaced}
use Rattle.script_lines.proofs.PutLaws.{Room, same-room, same-put, first-room, second-room, both}
use Rattle.script_lines.proofs.FieldLaws.{below}
use Rattle.script_lines.proofs.put_signed.Goals as goal
use Rattle.script_lines.proofs.put_signed.Goals.{Then-z-lt0}

-- the field of a number below 0
minus : (c : Then-z-lt0) → (space ∷ code "-" ∷ []) ++ decimal c.from-size.result ≡ spaced (c.args.z ∷ [])
minus c =
    let z = c.args.z in
    let same = to_z-of_z w32 z c.ranges.z in
    let size = rw same at (c.from-size.ensures ∙ c.unsigned_abs.ensures.value) in
    ap (λ n. (space ∷ code "-" ∷ []) ++ decimal n) size ∙ below z (rw same at c.if-z-lt0.true)

room : (c : Then-z-lt0) → Room c.args.lines.now c.args.at ((space ∷ code "-" ∷ []) ++ decimal c.from-size.result)
room c = same-room c.args.lines.now c.args.at (sym (minus c)) c.requires

pub put_bytes-i-requires : goal.put_bytes-i-requires
put_bytes-i-requires c =
    first-room c.args.lines.now c.args.at (space ∷ code "-" ∷ []) (decimal c.from-size.result)
    (room (goal.at.put_bytes-i-requires c).Then-z-lt0)

pub put_number-requires : goal.put_number-requires
put_number-requires c =
    second-room c.args.lines.now c.args.at (space ∷ code "-" ∷ []) (decimal c.from-size.result)
    c.put_bytes-i.ensures (room (goal.at.put_number-requires c).Then-z-lt0)

pub returns-then-z-lt0 : goal.returns-then-z-lt0
returns-then-z-lt0 c =
    let l = c.args.lines.now in
    same-put l c.args.at (minus (goal.at.returns-then-z-lt0 c).Then-z-lt0)
    (both l c.args.at (space ∷ code "-" ∷ []) (decimal c.from-size.result) c.put_bytes-i.ensures c.put_number.ensures)
