-- The invariant: the search from k over the places that are left ends where the whole search does.
use mathlib.Core.Path.{◌≡◌}
use Prim.Native.Nat.{◌-◌, ◌<◌}
use Rattle.lta_spec.specs.Engine.{seek, picked_bin}
use Rattle.cell_layout.specs.Views.{unit_in}
use Rattle.cell_picks.proofs.PickCellLaws.{ready_in}
use Rattle.cell_picks.proofs.picked_bin.Given as goal

abbrev pub invariant-loop : goal.invariant-loop
invariant-loop l =
    let s = l.cell.shape in
    (l.k < l.all)
    × (seek (ready_in l.cell) l.all (l.all - l.counter) l.k ≡ picked_bin s.lags s.bins (unit_in l.cell))
