-- Header words, lags, sum: the three parts of a frame's words.
use mathlib.Core.Path.{◌≡◌, sym}
use mathlib.Core.List.{List}
use Prim.Native.Nat.{ℕ, ◌+◌}
use native.Mathlib.Omega.{arith}
use lib.ListN.{length, take, drop}
use Rattle.std.proofs.lemmas.Slice.{between_to_end}
use Rattle.lta_spec.specs.Bytes.{words_of}
use Rattle.lta_spec.specs.Frame.{head_words}
use Rattle.frame_header.specs.Kind.{kind_number}
use Rattle.script_lines.specs.declared.Printed.TheVariants.{Plain, Signed}
use Rattle.script_lines.proofs.PutLaws.{Rooms, same-room, same-put, room-1, room-2, room-3, all-3}
use Rattle.script_lines.proofs.FieldLaws.{words, frame-parts}
use Rattle.script_lines.proofs.put_frame.Goals as goal
use Rattle.script_lines.proofs.put_frame.Goals.{Start}

-- room for the three parts
rooms : (s : Start)
    → let ws = words_of (drop 2 s.args.frame.now) in
    let h = head_words (kind_number s.args.kind) in
    Rooms s.args.lines.now s.args.at (words Plain ws 0 h) (words Signed ws h 4) (words Plain ws (h + 4) 1)
rooms s =
    let l = s.args.lines.now in
    record { room = same-room l s.args.at (sym (frame-parts (kind_number s.args.kind) s.args.frame.now)) s.requires }

-- the bytes behind the mark
body : (l : List ℕ) → length l ≡ 54 → take 52 (drop 2 l) ≡ drop 2 l
body l h = between_to_end l 2 54 (omega arith)

pub put_words-i-requires-clause-room : goal.put_words-i-requires-clause-room
put_words-i-requires-clause-room c =
    rw (body c.args.frame.now c.told-frame, c.head_words-head.ensures.0)
    (room-1 (rooms (goal.at.put_words-i-requires-clause-room c).Start))

pub put_words-j-requires-clause-room : goal.put_words-j-requires-clause-room
put_words-j-requires-clause-room c =
    let h = c.head_words-head.ensures.0 in
    let put = rw (body c.args.frame.now c.told-frame, h) at c.put_words-i.ensures in
    rw (body c.args.frame.now c.told-frame, h) (room-2 (rooms (goal.at.put_words-j-requires-clause-room c).Start) put)

pub put_words-requires-clause-room : goal.put_words-requires-clause-room
put_words-requires-clause-room c =
    let h = c.head_words-head.ensures.0 in
    let put = rw (body c.args.frame.now c.told-frame, h) at c.put_words-i.ensures in
    let put2 = rw (body c.args.frame.now c.told-frame, h) at c.put_words-j.ensures in
    rw (body c.args.frame.now c.told-frame, h)
    (room-3 (rooms (goal.at.put_words-requires-clause-room c).Start) put put2)

pub returns : goal.returns
returns c =
    let h = c.head_words-head.ensures.0 in
    let put = rw (body c.args.frame.now c.told-frame, h) at c.put_words-i.ensures in
    let put2 = rw (body c.args.frame.now c.told-frame, h) at c.put_words-j.ensures in
    let put3 = rw (body c.args.frame.now c.told-frame, h) at c.put_words.ensures in
    same-put c.args.lines.now c.args.at (frame-parts (kind_number c.args.kind) c.args.frame.now)
    (all-3 (rooms (goal.at.returns c).Start) put put2 put3)
