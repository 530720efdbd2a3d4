-- What a pick takes: the engine's cell and bin are the machine's.
use Prim.Native.Nat.{ℕ, ◌*◌, ◌<◌}
use mathlib.Core.Path.{◌≡◌, refl, sym, ap, ap₂, ◌∙◌, fun_ext}
use mathlib.Core.Bool.{Bool, true, false}
use mathlib.Core.List.{List}
use native.Mathlib.Omega.{arith}
use lib.Dec.{ltb, leb, eqb}
use borrow.Author.Tests.{lt-ltb, eqb-true}
use Rattle.lta_spec.specs.Words.{some}
use Rattle.lta_spec.specs.Place.{ready}
use Rattle.lta_spec.specs.Machine as M
use Rattle.lta_spec.specs.MachineRun as R
use Rattle.lta_spec.specs.Engine as E
use Rattle.lta_spec.specs.Memory as W
use Rattle.lta_spec.specs.Step as S
use Rattle.lta_spec.specs.declared.Shape.{Shape}
use Rattle.lta_spec.proofs.TestLaws.{Index, some_at, none-at}
use Rattle.lta_spec.proofs.PickLaws.{next_of, next-below, seek-below, seek-as, search-same, Found, found}
use Rattle.lta_spec.proofs.ReadyLaws.{some_is}
use Rattle.lta_spec.proofs.SameCell.{Same}
use Rattle.lta_spec.proofs.SameRun.{SameRun, engine_of, same, state-same, number_is}

module _ (sh : Shape) (es : List E.Unit) (m : R.Run) (q : SameRun sh (engine_of sh es m) m) where
  abbrev e : W.Run
  e = engine_of sh es m

  -- cell c has a Ready bin
  abbrev has : (c : ℕ) → Bool
  has c = leb 1 (M.ready_bins (R.unit_at sh c m).cell)

  has_same : (c : ℕ) → c < sh.cells → S.some_ready sh c e ≡ has c
  has_same c h = ap (leb 1) (number_is sh es m q c (lt-ltb c sh.cells h))

  has_some : R.some_ready m
      ≡ some (λ u. leb 1 (M.ready_bins u.cell)) m.units
  has_some = ap (λ f. some f m.units) (fun_ext (λ u. some_is u.cell))

  -- the engine's search asks what the machine's asks
  search_is : S.picked_cell sh e ≡ E.seek has sh.cells sh.cells (next_of sh.cells m.served)
  unfolding S.picked_cell
  search_is =
      seek-as (λ c. S.some_ready sh c e) has sh.cells sh.cells _ (next-below sh.cells m.served q.served)
      has_same

  -- a cell has one: the search ends at the machine's cell
  module _ (h : R.some_ready m ≡ true) where
    a-cell : Index (λ u. leb 1 (M.ready_bins u.cell)) m.units (R.fresh_unit sh)
    a-cell = some_at _ m.units (R.fresh_unit sh) (sym has_some ∙ h)

    there : a-cell.at < sh.cells
    there = omega (arith, a-cell.inside, q.cells)

    cell-found : Found has sh.cells m.served a-cell.at (R.picked_cell sh m)
    unfolding R.picked_cell
    cell-found = found has sh.cells m.served q.served a-cell.at there a-cell.holds

    pub cell_same : S.picked_cell sh e ≡ R.picked_cell sh m
    unfolding R.picked_cell
    cell_same = search_is ∙ search-same has sh.cells m.served q.served a-cell.at there a-cell.holds

    pub cell_below : R.picked_cell sh m < sh.cells
    cell_below = cell-found.inside

    cell-ok : ltb (R.picked_cell sh m) sh.cells ≡ true
    cell-ok = lt-ltb _ _ cell_below

    abbrev u : R.Unit
    u = R.unit_at sh (R.picked_cell sh m) m

    related : Same sh m.t (S.unit_at sh (R.picked_cell sh m) e) u
    related = same sh es m q (R.picked_cell sh m) cell-ok

    -- and in it the search ends at the machine's bin
    abbrev is_bin : (k : ℕ) → Bool
    is_bin k = M.is_ready (M.bin_at k u.cell)

    a-bin : Index M.is_ready u.cell.bins M.free_bin
    a-bin = some_at M.is_ready u.cell.bins M.free_bin (some_is u.cell ∙ cell-found.holds)

    inside : a-bin.at < 2 * sh.bins
    inside = omega (arith, a-bin.inside, related.good.sound.flat.bins)

    holds : is_bin a-bin.at ≡ true
    unfolding M.bin_at
    holds = a-bin.holds

    bin-found : Found is_bin (2 * sh.bins) u.picked a-bin.at (M.picked_bin sh.bins u.picked u.cell)
    unfolding M.picked_bin
    bin-found = found is_bin (2 * sh.bins) u.picked related.good.picked a-bin.at inside holds

    pub bin_same : E.picked_bin sh.lags sh.bins (S.unit_at sh (R.picked_cell sh m) e)
        ≡ M.picked_bin sh.bins u.picked u.cell
    unfolding E.picked_bin M.picked_bin
    bin_same =
        ap₂ (λ f p. E.seek f (2 * sh.bins) (2 * sh.bins) p)
        (fun_ext (λ k. ap (λ s. eqb s ready) (state-same sh es m q (R.picked_cell sh m) cell-ok k)))
        (ap (λ p. p.next) related.picks)
        ∙ search-same is_bin (2 * sh.bins) u.picked related.good.picked a-bin.at inside holds

    pub bin-below : M.picked_bin sh.bins u.picked u.cell < 2 * sh.bins
    bin-below = bin-found.inside

    pub bin_ready : (M.bin_at (M.picked_bin sh.bins u.picked u.cell) u.cell).state ≡ ready
    bin_ready = eqb-true _ ready bin-found.holds

  -- 20
  pub some_same : S.some_ready sh (S.picked_cell sh e) e ≡ R.some_ready m
  some_same = by-test (R.some_ready m) refl
    where
      by-test : (b : Bool) → R.some_ready m ≡ b
          → S.some_ready sh (S.picked_cell sh e) e ≡ b
      by-test true h =
          ap (λ c. S.some_ready sh c e) (cell_same h) ∙ has_same (R.picked_cell sh m) (cell_below h)
          ∙ (cell-found h).holds
      by-test false h =
          let below = seek-below has sh.cells sh.cells _ (next-below sh.cells m.served q.served) in
          ap (λ c. S.some_ready sh c e) search_is ∙ has_same _ below
          ∙ none-at (λ u. leb 1 (M.ready_bins u.cell)) m.units (sym has_some ∙ h) _ (R.fresh_unit sh)
          (omega (arith, q.cells))
