-- Header words and lag words are put one behind the other, then the sum of what stands there.
use Rattle.std.proofs.Common.{map, length, ◌∙◌, ap, arith}
use lib.ListN.{length-map}
use Rattle.lta_spec.specs.Frame.{head_words}
use Rattle.frame_header.proofs.FrameStores.{body-put}
use Rattle.frame_header.proofs.whole.put_body.Goals as goal

pub returns : goal.returns
returns g c v m =
    let a = c.args in
    let ws = a.lags.now in
    let head = c.head_words-head.ensures.0 ∙ ap head_words c.of.ensures in
    c.put_word.ensures
    ∙ body-put a.body.now a.f (map v ws) c.head_words-head.result (length ws) head (length-map ws v)
    (omega (arith, head, c.requires.room))
    (rw c.put_header.ensures at (c.put_words.ensures v m)) c.sum_words-sum.ensures
