-- The word of a Ready number.
use mathlib.Core.Path.{ap, ◌∙◌}
use Rattle.cell_layout.proofs.CellLaws.{laid}
use Rattle.cell_layout.proofs.LaysLaws.{word_of}
use Rattle.cell_layout.proofs.Fields.{ready_bins}
use Rattle.cell_layout.proofs.ViewLaws.{fits_in}
use Rattle.call_pick_tests.proofs.ready_number.Goals as goal

pub returns : goal.returns
returns c =
    word_of (laid (fits_in c.cell_at.result)) (ready_bins _ _) ∙ ap (λ u. u.picks.ready_bins) c.cell_at.ensures.unit
