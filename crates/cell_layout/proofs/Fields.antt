-- The fields of a bin, of a cell and of a run, each at its named offset.
use mathlib.Core.Path.{refl, ap}
use mathlib.Core.List.{List}
use Prim.Native.Nat.{ℕ, ◌+◌, ◌*◌, ◌<◌}
use native.Mathlib.Nat.{add-mul}
use native.Mathlib.Omega.{arith}
use lib.ListN.{set}
use Rattle.lta_spec.specs.Size.{row_words, depth}
use Rattle.lta_spec.specs.Place.{Label, Stamped, Held, Bin, loss_count}
use Rattle.lta_spec.specs.Row.{empty_row}
use Rattle.lta_spec.specs.Layout.{Layout, word, block, pair, many}
use Rattle.lta_spec.specs.Engine.{Row, Unit, stamped, loss_at, free_bin, bin_at, fresh_unit}
use Rattle.lta_spec.specs.Memory.{of_bin, to_bin, bin_layout, RowParts, PickParts, CounterParts, CellParts}
use Rattle.lta_spec.specs.Memory.{rows_of, picks_of, counter_of, of_unit, to_unit, unit_layout}
use Rattle.lta_spec.specs.Memory.{of_run, to_run, run_layout}
use Rattle.lta_spec.specs.Step.{unit_at}
use Rattle.lta_spec.specs.declared.Shape.{Shape}
use Rattle.lta_spec.proofs.LayoutLaws.{Law, Any, Long, Each, word-law, block-law, many-law}
use Rattle.lta_spec.proofs.MemoryLaws.{RowOk, row-law, BinOk, bin-law, bin-width, UnitOk, unit-law, unit-width}
use Rattle.cell_layout.specs.Offsets.{
  occupied_at,
  command_at,
  bank_at,
  data_bin_at,
  open_stamp_at,
  held_stamp_at,
  block_at,
  last_command_at,
  ready_bins_at,
  next_bin_at,
  open_row_at,
  held_row_at,
  loss_row_at,
  xs_at,
  ys_at,
  state_at,
  stamp_in,
  row_in,
  stamp_at,
  bin_row_at,
  time_at,
  next_cell_at,
  cell_at,
}
use Rattle.cell_layout.specs.Cells.{with_places, with_counter, with_picks}
use Rattle.cell_layout.proofs.Field.{Field, whole, here, past, via, within, item, named}

-- a cell with one of its places changed
abbrev pub with_open : Unit → Stamped Row → Unit
with_open u p =
    with_places u (record { opened = p; held = u.cell.held; bins = u.cell.bins; losses = u.cell.losses })

abbrev pub with_held : Unit → Held Row → Unit
with_held u h =
    with_places u (record { opened = u.cell.opened; held = h; bins = u.cell.bins; losses = u.cell.losses })

abbrev pub with_bins : Unit → List (Bin Row) → Unit
with_bins u bs =
    with_places u (record { opened = u.cell.opened; held = u.cell.held; bins = bs; losses = u.cell.losses })

abbrev pub with_losses : Unit → List Row → Unit
with_losses u ls =
    with_places u (record { opened = u.cell.opened; held = u.cell.held; bins = u.cell.bins; losses = ls })

abbrev pub with_label : Unit → Label → Unit
with_label u l =
    with_held u (record { occupied = u.cell.held.occupied; label = l; content = u.cell.held.content })

abbrev pub with_content : Unit → Stamped Row → Unit
with_content u p =
    with_held u (record { occupied = u.cell.held.occupied; label = u.cell.held.label; content = p })

-- the fields of a bin of n lags, by their place in it
module _ (n : ℕ) where
  state_of : Field (bin_layout n) word Any 0 (λ b. b.state) (λ b v. record { state = v; content = b.content })
  unfolding bin_layout
  state_of = via of_bin to_bin (λ y. refl) (here word-law (pair word (block (row_words n))))

  stamp_of : Field (bin_layout n) word Any stamp_in (λ b. b.content.stamp)
      (λ b v. record { state = b.state; content = stamped b.content.members v })
  unfolding bin_layout word
  stamp_of = named (via of_bin to_bin (λ y. refl) (past word-law (here word-law (block (row_words n))))) (omega arith)

  row_of : Field (bin_layout n) (block (row_words n)) (RowOk n) row_in (λ b. b.content.members)
      (λ b r. record { state = b.state; content = stamped r b.content.stamp })
  unfolding bin_layout word
  row_of = named (via of_bin to_bin (λ y. refl) (past word-law (past word-law (whole (row-law n))))) (omega arith)

-- what stands behind a field of a cell: the layout of the next field and all behind it
module _ (n bins : ℕ) where
  abbrev bins_layout : Layout (List (Bin Row))
  bins_layout = many (2 * bins) (bin_layout n)

  abbrev ys_layout : Layout (List ℕ × List (Bin Row))
  ys_layout = pair (block (depth n)) bins_layout

  abbrev xs_l : Layout (List ℕ × (List ℕ × List (Bin Row)))
  xs_l = pair (block (depth n)) ys_layout

  abbrev losses_layout : Layout (List Row × (List ℕ × (List ℕ × List (Bin Row))))
  losses_layout = pair (many loss_count (block (row_words n))) xs_l

  abbrev held_layout : Layout (Row × (List Row × (List ℕ × (List ℕ × List (Bin Row)))))
  held_layout = pair (block (row_words n)) losses_layout

  abbrev open_l : Layout RowParts
  open_l = pair (block (row_words n)) held_layout

  abbrev next_bin_layout : Layout (ℕ × RowParts)
  next_bin_layout = pair word open_l

  abbrev ready_bins_layout : Layout PickParts
  ready_bins_layout = pair word next_bin_layout

  abbrev last_command_layout : Layout (ℕ × PickParts)
  last_command_layout = pair word ready_bins_layout

  abbrev block_layout : Layout CounterParts
  block_layout = pair word last_command_layout

  abbrev held_stamp_layout : Layout (ℕ × CounterParts)
  held_stamp_layout = pair word block_layout

  abbrev open_stamp_layout : Layout (ℕ × (ℕ × CounterParts))
  open_stamp_layout = pair word held_stamp_layout

  abbrev data_bin_layout : Layout (ℕ × (ℕ × (ℕ × CounterParts)))
  data_bin_layout = pair word open_stamp_layout

  abbrev bank_layout : Layout (ℕ × (ℕ × (ℕ × (ℕ × CounterParts))))
  bank_layout = pair word data_bin_layout

  abbrev command_layout : Layout (ℕ × (ℕ × (ℕ × (ℕ × (ℕ × CounterParts)))))
  command_layout = pair word bank_layout

-- the words of a cell with its block counter and what is behind it changed; with its picks and what is behind them;
-- with its rows and what is behind them
abbrev with_counter_parts : CellParts → CounterParts → CellParts
with_counter_parts (occupied, (command, (bank, (bin, (open_stamp, (held_stamp, parts)))))) new =
    (occupied, (command, (bank, (bin, (open_stamp, (held_stamp, new))))))

abbrev with_pick_parts : CellParts → PickParts → CellParts
with_pick_parts (occupied, (command, (bank, (bin, (open_stamp, (held_stamp, (offset, (code, parts)))))))) new =
    (occupied, (command, (bank, (bin, (open_stamp, (held_stamp, (offset, (code, new))))))))

abbrev with_rows : CellParts → RowParts → CellParts
with_rows
    (occupied, (command, (bank, (bin, (open_stamp, (held_stamp, (offset, (code, (number, (next, rows)))))))))) new =
    (occupied, (command, (bank, (bin, (open_stamp, (held_stamp, (offset, (code, (number, (next, new))))))))))

-- the fields of a cell
module _ (n bins : ℕ) where
  pub occupied : Field (unit_layout n bins) word Any occupied_at (λ u. u.cell.held.occupied)
      (λ u v. with_held u (record { occupied = v; label = u.cell.held.label; content = u.cell.held.content }))
  unfolding unit_layout word
  occupied = named (via of_unit to_unit (λ y. refl) (here word-law (command_layout n bins))) (omega arith)

  pub command : Field (unit_layout n bins) word Any command_at (λ u. u.cell.held.label.command)
      (λ u v. let x = u.cell.held.label in
      with_label u (record { command = v; bank = x.bank; bin = x.bin }))
  unfolding unit_layout word
  command = named (via of_unit to_unit (λ y. refl) (past word-law (here word-law (bank_layout n bins)))) (omega arith)

  pub bank : Field (unit_layout n bins) word Any bank_at (λ u. u.cell.held.label.bank)
      (λ u v. let x = u.cell.held.label in
      with_label u (record { command = x.command; bank = v; bin = x.bin }))
  unfolding unit_layout word
  bank =
      named (via of_unit to_unit (λ y. refl) (past word-law (past word-law (here word-law (data_bin_layout n bins)))))
      (omega arith)

  pub data_bin : Field (unit_layout n bins) word Any data_bin_at (λ u. u.cell.held.label.bin)
      (λ u v. let x = u.cell.held.label in
      with_label u (record { command = x.command; bank = x.bank; bin = v }))
  unfolding unit_layout word
  data_bin = named (via of_unit to_unit (λ y. refl)
      (past word-law (past word-law (past word-law (here word-law (open_stamp_layout n bins)))))) (omega arith)

  pub open_stamp : Field (unit_layout n bins) word Any open_stamp_at (λ u. u.cell.opened.stamp)
      (λ u v. with_open u (stamped u.cell.opened.members v))
  unfolding unit_layout word
  open_stamp = named (via of_unit to_unit (λ y. refl)
      (past word-law (past word-law (past word-law (past word-law (here word-law (held_stamp_layout n bins)))))))
      (omega arith)

  pub held_stamp : Field (unit_layout n bins) word Any held_stamp_at (λ u. u.cell.held.content.stamp)
      (λ u v. with_content u (stamped u.cell.held.content.members v))
  unfolding unit_layout word
  held_stamp = named (via of_unit to_unit (λ y. refl)
      (past word-law (past word-law (past word-law (past word-law
      (past word-law (here word-law (block_layout n bins))))))))
      (omega arith)

  -- the block counter and what is behind it
  behind_stamps : {C : Type 0} {c : Layout C} {R : C → Type 0} {at : ℕ} {view : CounterParts → C}
      {over : CounterParts → C → CounterParts} → Field (block_layout n bins) c R at view over
      → Field (unit_layout n bins) c R (block_at + at) (λ u. view (counter_of u))
      (λ u y. to_unit (with_counter_parts (of_unit u) (over (counter_of u) y)))
  unfolding unit_layout word
  behind_stamps k =
      named
      (via of_unit to_unit (λ y. refl)
      (past word-law (past word-law (past word-law (past word-law (past word-law (past word-law k)))))))
      (omega arith)

  pub current_block : Field (unit_layout n bins) word Any block_at (λ u. u.counter.offset)
      (λ u v. with_counter u (record { offset = v; last_code = u.counter.last_code }))
  current_block = named (behind_stamps (here word-law (last_command_layout n bins))) (omega arith)

  pub last_command : Field (unit_layout n bins) word Any last_command_at (λ u. u.counter.last_code)
      (λ u v. with_counter u (record { offset = u.counter.offset; last_code = v }))
  unfolding word
  last_command = named (behind_stamps (past word-law (here word-law (ready_bins_layout n bins)))) (omega arith)

  -- the picks and what is behind them
  behind_counter : {C : Type 0} {c : Layout C} {R : C → Type 0} {at : ℕ} {view : PickParts → C}
      {over : PickParts → C → PickParts} → Field (ready_bins_layout n bins) c R at view over
      → Field (unit_layout n bins) c R (ready_bins_at + at) (λ u. view (picks_of u))
      (λ u y. to_unit (with_pick_parts (of_unit u) (over (picks_of u) y)))
  unfolding word
  behind_counter k = named (behind_stamps (past word-law (past word-law k))) (omega arith)

  pub ready_bins : Field (unit_layout n bins) word Any ready_bins_at (λ u. u.picks.ready_bins)
      (λ u v. with_picks u (record { ready_bins = v; next = u.picks.next }))
  ready_bins = named (behind_counter (here word-law (next_bin_layout n bins))) (omega arith)

  pub next_bin : Field (unit_layout n bins) word Any next_bin_at (λ u. u.picks.next)
      (λ u v. with_picks u (record { ready_bins = u.picks.ready_bins; next = v }))
  unfolding word
  next_bin = named (behind_counter (past word-law (here word-law (open_l n bins)))) (omega arith)

  -- the rows and what is behind them
  behind_words : {C : Type 0} {c : Layout C} {R : C → Type 0} {at : ℕ} {view : RowParts → C}
      {over : RowParts → C → RowParts} → Field (open_l n bins) c R at view over
      → Field (unit_layout n bins) c R (open_row_at + at) (λ u. view (rows_of u))
      (λ u y. to_unit (with_rows (of_unit u) (over (rows_of u) y)))
  unfolding word
  behind_words k = named (behind_counter (past word-law (past word-law k))) (omega arith)

  pub open_row : Field (unit_layout n bins) (block (row_words n)) (RowOk n) open_row_at (λ u. u.cell.opened.members)
      (λ u r. with_open u (stamped r u.cell.opened.stamp))
  open_row = named (behind_words (here (row-law n) (held_layout n bins))) (omega arith)

  pub held_row : Field (unit_layout n bins) (block (row_words n)) (RowOk n) (held_row_at n)
      (λ u. u.cell.held.content.members) (λ u r. with_content u (stamped r u.cell.held.content.stamp))
  unfolding block
  held_row = named (behind_words (past (row-law n) (here (row-law n) (losses_layout n bins)))) (omega arith)

  losses-law : Law (many loss_count (block (row_words n))) (Each loss_count (RowOk n))
  losses-law = many-law (row-law n) loss_count

  pub loss : (i : ℕ) → i < loss_count
      → Field (unit_layout n bins) (block (row_words n)) (RowOk n) (loss_row_at n i) (λ u. loss_at n i u.cell.losses)
      (λ u r. with_losses u (set u.cell.losses i r))
  unfolding block
  loss i h =
      named
      (within losses-law (row-law n)
      (behind_words (past (row-law n) (past (row-law n) (here losses-law (xs_l n bins)))))
      (item (row-law n) loss_count i (empty_row n) h))
      (omega (arith, add-mul 2 i (row_words n)))

  pub xs : Field (unit_layout n bins) (block (depth n)) (Long (depth n)) (xs_at n) (λ u. u.xs)
      (λ u r. record { cell = u.cell; counter = u.counter; picks = u.picks; xs = r; ys = u.ys })
  unfolding block many
  xs =
      named
      (behind_words
      (past (row-law n) (past (row-law n) (past losses-law (here (block-law (depth n)) (ys_layout n bins))))))
      (omega arith)

  pub ys : Field (unit_layout n bins) (block (depth n)) (Long (depth n)) (ys_at n) (λ u. u.ys)
      (λ u r. record { cell = u.cell; counter = u.counter; picks = u.picks; xs = u.xs; ys = r })
  unfolding block many
  ys =
      named
      (behind_words
      (past (row-law n)
      (past (row-law n)
      (past losses-law (past (block-law (depth n)) (here (block-law (depth n)) (bins_layout n bins)))))))
      (omega arith)

  bins-law : Law (many (2 * bins) (bin_layout n)) (Each (2 * bins) (BinOk n))
  bins-law = many-law (bin-law n) (2 * bins)

  -- bin k, and its fields
  module _ (k : ℕ) (h : k < 2 * bins) where
    pub bin : Field (unit_layout n bins) (bin_layout n) (BinOk n) (state_at n k) (λ u. bin_at n k u.cell)
        (λ u b. with_bins u (set u.cell.bins k b))
    unfolding block many bin_at
    bin =
        named
        (within bins-law (bin-law n)
        (behind_words
        (past (row-law n)
        (past (row-law n)
        (past losses-law (past (block-law (depth n)) (past (block-law (depth n)) (whole bins-law)))))))
        (item (bin-law n) (2 * bins) k (free_bin n) h))
        (omega (arith, ap (λ m. k * m) (bin-width n)))

    pub bin_state : Field (unit_layout n bins) word Any (state_at n k) (λ u. (bin_at n k u.cell).state)
        (λ u v. with_bins u (set u.cell.bins k (record { state = v; content = (bin_at n k u.cell).content })))
    bin_state = named (within (bin-law n) word-law bin (state_of n)) (omega arith)

    pub bin_stamp : Field (unit_layout n bins) word Any (stamp_at n k) (λ u. (bin_at n k u.cell).content.stamp)
        (λ u v. let b = bin_at n k u.cell in
        with_bins u (set u.cell.bins k (record { state = b.state; content = stamped b.content.members v })))
    bin_stamp = within (bin-law n) word-law bin (stamp_of n)

    pub bin_row : Field (unit_layout n bins) (block (row_words n)) (RowOk n) (bin_row_at n k)
        (λ u. (bin_at n k u.cell).content.members)
        (λ u r. let b = bin_at n k u.cell in
        with_bins u (set u.cell.bins k (record { state = b.state; content = stamped r b.content.stamp })))
    bin_row = within (bin-law n) (row-law n) bin (row_of n)

-- t, the run's place of picks, and cell c of a run
module _ (sh : Shape) where
  abbrev cells_layout : Layout (List Unit)
  cells_layout = many sh.cells (unit_layout sh.lags sh.bins)

  cells-law : Law cells_layout (Each sh.cells (UnitOk sh.lags sh.bins))
  cells-law = many-law (unit-law sh.lags sh.bins) sh.cells

  pub time : Field (run_layout sh) word Any time_at (λ r. r.t)
      (λ r v. record { t = v; next = r.next; units = r.units })
  unfolding run_layout
  time = via of_run to_run (λ y. refl) (here word-law (pair cells_layout word))

  pub next_cell : Field (run_layout sh) word Any (next_cell_at sh.lags sh.bins sh.cells) (λ r. r.next)
      (λ r v. record { t = r.t; next = v; units = r.units })
  unfolding run_layout word many
  next_cell =
      named (via of_run to_run (λ y. refl) (past word-law (past cells-law (whole word-law))))
      (omega (arith, ap (λ m. sh.cells * m) (unit-width sh.lags sh.bins)))

  pub cell : (c : ℕ) → c < sh.cells
      → Field (run_layout sh) (unit_layout sh.lags sh.bins) (UnitOk sh.lags sh.bins)
      (cell_at sh.lags sh.bins c) (λ r. unit_at sh c r)
      (λ r u. record { t = r.t; next = r.next; units = set r.units c u })
  unfolding run_layout word
  cell c h =
      named
      (within cells-law (unit-law sh.lags sh.bins)
      (via of_run to_run (λ y. refl) (past word-law (here cells-law word)))
      (item (unit-law sh.lags sh.bins) sh.cells c (fresh_unit sh.lags sh.bins) h))
      (omega (arith, ap (λ m. c * m) (unit-width sh.lags sh.bins)))

  -- a word of cell c
  pub cell_word : (c : ℕ) → c < sh.cells → {at : ℕ} {view : Unit → ℕ} {over : Unit → ℕ → Unit}
      → Field (unit_layout sh.lags sh.bins) word Any at view over
      → Field (run_layout sh) word Any (cell_at sh.lags sh.bins c + at) (λ r. view (unit_at sh c r))
      (λ r v. record { t = r.t; next = r.next; units = set r.units c (over (unit_at sh c r) v) })
  cell_word c h k = within (unit-law sh.lags sh.bins) word-law (cell c h) k
