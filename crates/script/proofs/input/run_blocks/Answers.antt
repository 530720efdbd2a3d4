-- The records of one block more.
use native.Mathlib.Omega.{arith}
use Rattle.script.specs.Input.{ReadOn}
use Rattle.script.proofs.InputLaws.{nothing_read, none_came, block_read}
use Rattle.script.proofs.input.run_blocks.Goals as goal
use Rattle.script.proofs.input.run_blocks.Goals.{After-run_block-kept}
use Rattle.script.proofs.input.run_blocks.Given.{Over}

one_more : (g : Over) (c : After-run_block-kept g)
    → ReadOn c.args.mem.now c.run_block-kept.new.mem c.run_block-kept.result c.run_block-kept.new.block
one_more g c =
    let e = c.run_block-kept.ensures in
    block_read _ _ _ _ _ _ c.loop.invariant c.fill-n.ensures _ _ _ e.leaves e.left

pub loop-init : goal.loop-init
loop-init g c = nothing_read _ _

pub fill-n-requires : goal.fill-n-requires
fill-n-requires g c = c.loop.invariant.left.inside

pub run_block-kept-requires : goal.run_block-kept-requires
run_block-kept-requires g c =
    let inside = c.fill-n.ensures.inside in
    record {
      inside = inside;
      room = omega (arith, inside, c.fill-n.auto.block, c.loop.auto.block, c.loop.auto.lines, c.requires);
    }

pub loop-preserved : goal.loop-preserved
loop-preserved g c = one_more g (goal.at.loop-preserved g c).After-run_block-kept

pub returns-then-n-kept : goal.returns-then-n-kept
returns-then-n-kept g c = none_came _ _ _ _ _ _ c.loop.invariant c.fill-n.ensures

pub returns-then-unknown_mark : goal.returns-then-unknown_mark
returns-then-unknown_mark g c = one_more g (goal.at.returns-then-unknown_mark g c).After-run_block-kept

pub returns-after-loop : goal.returns-after-loop
returns-after-loop g c = c.loop.invariant
