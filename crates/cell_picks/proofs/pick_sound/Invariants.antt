-- The invariant: the bins before k passed their test, or not, and so many of them are Ready.
use mathlib.Core.Path.{◌≡◌}
use Prim.Native.Nat.{◌≤◌}
use lib.ListN.{take}
use Rattle.lta_spec.specs.Words.{every}
use Rattle.lta_spec.specs.Damage.{bin_ok, count_ready}
use Rattle.cell_layout.specs.Views.{places_in}
use Rattle.cell_picks.proofs.pick_sound.Given as goal

abbrev pub invariant-loop-k : goal.invariant-loop-k
invariant-loop-k l =
    let bs = (places_in l.cell).bins in
    (l.count ≤ l.k) × (l.ok ≡ every (bin_ok l.t) (take l.k bs)) × (l.count ≡ count_ready (take l.k bs))
