-- Document 02, request 2026-03, "A loss page for the reading room": a page of any numbers.
use Rattle.std.specs.Prelude.{ℕ, suc, ◌+◌, ◌*◌, ◌≤◌, List, [], ◌∷◌, ◌++◌}
use Rattle.lta_spec.specs.Words.{joined}
use Rattle.lta_spec.specs.Shape.{run_limit}
use Rattle.lta_spec.specs.Place.{loss_count}
use Rattle.lta_spec.specs.Decimal.{ascii, space, line_feed, right_aligned}
use Rattle.lta_spec.specs.declared.Counts.{Counts}

-- ticks, edge count and centre count, added up
abbrev pub added : Counts → Counts → Counts
added a b = record { ticks = a.ticks + b.ticks; edge = a.edge + b.edge; centre = a.centre + b.centre }

unfoldable pub counts_sum : List Counts → Counts
counts_sum [] = record { ticks = 0; edge = 0; centre = 0 }
counts_sum (k ∷ ks) = added k (counts_sum ks)

-- counts that do not pass their ticks, and ticks that do not pass a limit; a page shows at most the totals of 16 cells
pub record Within (limit : ℕ) (k : Counts) : Type 0 where
  pub ticks : k.ticks ≤ limit
  pub edge : k.edge ≤ k.ticks
  pub centre : k.centre ≤ k.ticks

abbrev pub page_limit : ℕ
page_limit = 16 * run_limit

-- "Column 1-2 cell, 4 loss number, 6-16 ticks, 18-28 edge count, 30-40 centre count. All are right-aligned and filled
-- with spaces, each other column is a space, and a line feed is byte 41."
abbrev pub count_columns : Counts → List ℕ
count_columns k =
    (space ∷ right_aligned 11 k.ticks)
    ++ ((space ∷ right_aligned 11 k.edge) ++ ((space ∷ right_aligned 11 k.centre) ++ line_feed ∷ []))

unfoldable pub page_line : (cell loss : List ℕ) → Counts → List ℕ
page_line cell loss k = cell ++ ((space ∷ loss) ++ count_columns k)

abbrev pub line_bytes : ℕ
line_bytes = 41

-- the line of loss i + 1 of a cell
abbrev pub loss_line : (cell i : ℕ) → Counts → List ℕ
loss_line cell i k = page_line (right_aligned 2 cell) (right_aligned 1 (suc i)) k

-- "losses 1 to 6 within a cell": its lines from loss i + 1 on
unfoldable pub cell_lines : (cell i : ℕ) → List Counts → List (List ℕ)
cell_lines cell i [] = []
cell_lines cell i (k ∷ ks) = loss_line cell i k ∷ cell_lines cell (suc i) ks

-- "One printed line per cell and loss, cells ascending": the lines from a cell on
unfoldable pub ledger_lines : (cell : ℕ) → List (List Counts) → List (List ℕ)
ledger_lines cell [] = []
ledger_lines cell (ks ∷ cells) = cell_lines cell 0 ks ++ ledger_lines (suc cell) cells

-- "The last line has `**` in columns 1-2, `*` in 4, and the totals."
abbrev pub totals_line : Counts → List ℕ
totals_line k = page_line (ascii "**") (ascii "*") k

unfoldable pub page_of : List (List Counts) → (totals : Counts) → List ℕ
page_of cells totals = joined (ledger_lines 0 cells ++ totals_line totals ∷ [])

-- "A page is 41 × (6C + 1) bytes"
unfoldable pub page_length : (cells : ℕ) → ℕ
page_length cells = line_bytes * (loss_count * cells + 1)
