-- One word more is put behind those before it.
use Prim.Native.Nat.{◌+◌, ◌<◌, ◌≤◌}
use mathlib.Core.Path.{ap}
use mathlib.Core.List.{[], ◌∷◌}
use native.Mathlib.Omega.{arith}
use lib.ListN.{length}
use Rattle.lta_spec.specs.Bytes.{words_of}
use Rattle.lta_spec.proofs.ByteLaws.{length-words}
use Rattle.script_lines.specs.Lines.{spaced, word_field}
use Rattle.script_lines.proofs.PutLaws.{same-put}
use Rattle.script_lines.proofs.FieldLaws.{no_words, next-room, next-put}
use Rattle.script_lines.proofs.put_words.Goals as goal
use Rattle.script_lines.proofs.put_words.Goals.{Start}

-- the words are there
enough : (s : Start) → s.args.k + s.args.n ≤ length (words_of s.args.body.now)
enough s = omega (arith, s.requires.inside, length-words s.args.body.now)

pub loop-i-init : goal.loop-i-init
loop-i-init c =
    let a = c.args in
    no_words a.printed (words_of a.body.now) a.k a.lines.now a.at

pub put_word-end-requires : goal.put_word-end-requires
put_word-end-requires c =
    let a = c.args in
    let inside = enough (goal.at.put_word-end-requires c).Start in
    rw c.word_at.ensures
    (next-room a.printed (words_of a.body.now) a.k a.lines.now a.at c.loop-i.i c.loop-i.invariant a.n
    c.loop-i-test.true inside c.requires.room)

pub loop-i-preserved : goal.loop-i-preserved
loop-i-preserved c =
    let a = c.args in
    let i = c.loop-i.i in
    let inside : a.k + i < length (words_of a.body.now) = omega
    (arith, c.loop-i-test.true, enough (goal.at.loop-i-preserved c).Start) in
    next-put a.printed (words_of a.body.now) a.k a.lines.now a.at i c.loop-i.invariant inside
    (same-put _ _ (ap (λ w. spaced (word_field a.printed w ∷ [])) c.word_at.ensures)
    c.put_word-end.ensures)
