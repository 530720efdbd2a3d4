-- The losses are printed and added up in turn.
use mathlib.Core.Path.{◌≡◌}
use mathlib.Core.List.{map}
use lib.ListN.{take}
use Rattle.lta_spec.specs.Words.{splice, joined}
use Rattle.lta_spec.specs.Page.{counts_sum, cell_lines}
use Rattle.lta_spec.specs.Row.{row_counts}
use Rattle.cell_layout.specs.Views.{places_in}
use Rattle.cell_page.proofs.put_cell_lines.Given as goal

abbrev pub invariant-loop-i : goal.invariant-loop-i
invariant-loop-i l =
    let ls = (places_in l.cell).losses in
    (l.sum ≡ counts_sum (map row_counts (take l.i ls)))
    × (l.out ≡ splice l.initial.out l.at (joined (cell_lines l.c 0 (map row_counts (take l.i ls)))))
