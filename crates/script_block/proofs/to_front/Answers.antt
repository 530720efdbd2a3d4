-- The bytes behind the place where the records stopped are those that are left.
use Rattle.script_block.proofs.BlockLaws.{left-moved}
use Rattle.script_block.proofs.to_front.Goals as goal

pub returns : goal.returns
returns c =
    left-moved c.args.block.now c.args.n c.requires.inside c.args.at c.requires.stopped c.copy_within.ensures.len
    c.copy_within.ensures.after
