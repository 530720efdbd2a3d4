-- The bin's row goes to loss 4, and Held joins what is left of it.
use mathlib.Core.Path.{◌≡◌, ap, ◌∙◌}
use mathlib.Core.List.{List}
use Prim.Native.Nat.{ℕ}
use native.Mathlib.Omega.{arith}
use lib.ListN.{get_or}
use Rattle.lta_spec.specs.Place.{filling, replaced}
use Rattle.cell_layout.specs.Offsets.{held_stamp_at}
use Rattle.cell_layout.specs.Cells.{with_places}
use Rattle.cell_layout.specs.Views.{unit_by, places_by}
use Rattle.cell_layout.proofs.ViewLaws.{fits_by}
use Rattle.cell_layout.proofs.LaysLaws.{lays-to}
use Rattle.cell_accum_moves.specs.HeldMoves.{held_joined}
use Rattle.cell_accum_moves.proofs.MoveLaws.{drop-folds, dropped, dropped-fits, dropped-held}
use Rattle.cell_accum_moves.proofs.MoveLaws.{dropped-small, replacing}
use Rattle.cell_accum_moves.proofs.replace_bin.Goals as goal
use Rattle.cell_accum_moves.proofs.replace_bin.Goals.{After-fold}

left : (c : After-fold) → let a = c.args in
    c.fold.new.s ≡ dropped (fits_by a.shape c.requires.0.0) a.k c.requires.0.1
left c = rw (c.fold.ensures, c.bin_start-from.ensures.is, c.loss_row.ensures.is, c.row_words.ensures)

pub fold-requires : goal.fold-requires
fold-requires c =
    rw (c.bin_start-from.ensures.is, c.loss_row.ensures.is, c.row_words.ensures)
    (drop-folds (fits_by c.args.shape c.requires.0.0) c.args.k c.requires.0.1 replaced (omega arith) c.requires.1.1
    c.requires.1.2)

pub join_held-requires : goal.join_held-requires
join_held-requires c =
    let f = fits_by c.args.shape c.requires.0.0 in
    let k = c.args.k in
    let j = c.requires.0.1 in
    rw (left (goal.at.join_held-requires c).After-fold)
    (((dropped-fits f k j).size, j), (dropped-held f k j c.requires.1.0, dropped-small f k j))

pub returns : goal.returns
returns c =
    let s = c
    in
    let a = s.args in
    let l = a.cell.now in
    lays-to c.join_held.ensures
    (ap
    (λ (m : List ℕ). with_places (unit_by a.shape m)
    (held_joined a.shape.lags a.k filling (get_or l held_stamp_at 0) (places_by a.shape m)))
    (left (goal.at.returns c).After-fold)
    ∙ replacing (fits_by a.shape s.requires.0.0) a.k s.requires.0.1)
