use mathlib.Core.Path.{ap, ◌∙◌}
use Prim.Native.Nat.{◌+◌}
use native.Mathlib.Omega.{arith}
use Rattle.cell_layout.proofs.ViewLaws.{fits_in}
use Rattle.cell_bins.proofs.BinTests.{bit}
use Rattle.cell_picks.proofs.PickCellLaws.{one_more, sound-next, count_next, sound-all}
use Rattle.cell_picks.proofs.pick_sound.Goals as goal

pub loop-k-preserved : goal.loop-k-preserved
loop-k-preserved c =
    let f = fits_in c.args.cell in
    let i = c.loop-k.invariant in
    let k = c.loop-k.k in
    let more = ap (λ x. c.loop-k.count + x) (c.from-count.ensures ∙ bit _) in (
      one_more c.loop-k.count k c.bin_state.result _ i.0 more,
      sound-next f k (omega arith) _ i.1 c.bin_ok-sound.ensures,
      count_next f k (omega arith) i.2 c.bin_state.ensures more,
    )

pub returns : goal.returns
returns c =
    rw c.all_bins-all.ensures
    (sound-all (fits_in c.args.cell) _ c.loop-k.k (omega arith) c.loop-k.invariant.1 c.loop-k.invariant.2)
