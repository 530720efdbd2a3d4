-- The four bytes are the word that stands there.
use Rattle.std.proofs.Common.{arith}
use Rattle.lta_spec.proofs.ByteLaws.{get_d_words}
use Rattle.frame_word.proofs.word_at.Goals as goal

pub returns : goal.returns
returns c = omega (arith, c.from_le_bytes.ensures, get_d_words c.args.s.now c.args.k c.requires)
