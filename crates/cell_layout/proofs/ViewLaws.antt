-- A cell by its declared types fits its slice.
use mathlib.Core.List.{List}
use Prim.Native.Nat.{ℕ}
use Rattle.cell_layout.specs.declared.cell.Cell.{Cell}
use Rattle.cell_layout.specs.declared.shape.CellShape.{CellShape}
use Rattle.cell_layout.specs.Cells.{Fits}
use Rattle.cell_layout.specs.Views.{IsCell}

-- the words of a shape's cell fit it
pub fits_by : (s : CellShape) {l : List ℕ} → IsCell s l → Fits l s.lags s.bins
fits_by s h = record { size = h; lags = s.few_lags; bins = s.few_bins }

-- and so do those of a Cell
pub fits_in : (c : Cell) → Fits c.words.now c.shape.lags c.shape.bins
fits_in c = fits_by c.shape c.fits
