-- The END line has room.
use mathlib.Core.Path.{sym}
use Prim.Native.Nat.{◌≤◌}
use native.Mathlib.Omega.{arith}
use lib.ListN.{length}
use lib.Seq.{length-take-le}
use Rattle.script.proofs.TextLaws.{end_short}
use Rattle.script.proofs.input.run_ended.Goals as goal
use Rattle.script.proofs.input.run_ended.Goals.{After-put_end-len}
use Rattle.script.proofs.input.run_ended.Given.{Over}

inside : (g : Over) (c : After-put_end-len g) → c.put_end-len.result ≤ length c.put_end-len.new.lines
inside g c =
    omega (
      arith,
      end_short _ c.end_number-number.ensures,
      c.put_end-len.ensures.behind,
      c.put_end-len.auto.lines,
      c.run_blocks-kept.auto.lines,
      c.requires.1,
    )

pub put_end-len-requires : goal.put_end-len-requires
put_end-len-requires g c =
    omega (arith, end_short _ c.end_number-number.ensures, c.run_blocks-kept.auto.lines, c.requires.1)

pub slice_bounds-write_all-end : goal.slice_bounds-write_all-end
slice_bounds-write_all-end g c = inside g (goal.at.slice_bounds-write_all-end g c).After-put_end-len

pub slice_bounds-write_all-end-2 : goal.slice_bounds-write_all-end-2
slice_bounds-write_all-end-2 g c =
    sym (length-take-le _ _ (inside g (goal.at.slice_bounds-write_all-end-2 g c).After-put_end-len))
