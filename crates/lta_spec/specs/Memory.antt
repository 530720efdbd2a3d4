-- Work memory: where each word of a run stands.
use Rattle.std.specs.Prelude.{ℕ, ◌*◌, List, replicate}
use Rattle.lta_spec.specs.Size.{row_words, depth}
use Rattle.lta_spec.specs.Place.{Bin, loss_count}
use Rattle.lta_spec.specs.Layout.{Layout, word, block, pair, many, fields}
use Rattle.lta_spec.specs.Engine.{Row, Unit, fresh_unit}
use Rattle.lta_spec.specs.declared.Shape.{Shape}

-- a bin: state, stamp, row
abbrev pub BinParts : Type 0
BinParts = ℕ × (ℕ × Row)

abbrev pub of_bin : Bin Row → BinParts
of_bin b = (b.state, (b.content.stamp, b.content.members))

abbrev pub to_bin : BinParts → Bin Row
to_bin (state, (stamp, row)) = record { state = state; content = record { members = row; stamp = stamp } }

unfoldable pub bin_layout : (n : ℕ) → Layout (Bin Row)
bin_layout n = fields {A = BinParts} of_bin to_bin (pair word (pair word (block (row_words n))))

-- a cell: Held's flag, command, bank and data bin; the stamps of Open and Held; the block counter; the Ready number and
-- the place of picks; the rows of Open, Held and losses 1 to 6; the X and the Y shift register; the bins of bank 0 and
-- of bank 1
abbrev pub RowParts : Type 0
RowParts = Row × (Row × (List Row × (List ℕ × (List ℕ × List (Bin Row)))))

abbrev pub PickParts : Type 0
PickParts = ℕ × (ℕ × RowParts)

abbrev pub CounterParts : Type 0
CounterParts = ℕ × (ℕ × PickParts)

abbrev pub CellParts : Type 0
CellParts = ℕ × (ℕ × (ℕ × (ℕ × (ℕ × (ℕ × CounterParts)))))

abbrev pub rows_of : Unit → RowParts
rows_of u =
    let c = u.cell in (c.opened.members, (c.held.content.members, (c.losses, (u.xs, (u.ys, c.bins)))))

abbrev pub picks_of : Unit → PickParts
picks_of u = (u.picks.ready_bins, (u.picks.next, rows_of u))

abbrev pub counter_of : Unit → CounterParts
counter_of u = (u.counter.offset, (u.counter.last_code, picks_of u))

abbrev pub of_unit : Unit → CellParts
of_unit u =
    let c = u.cell in
    let l = c.held.label in
    (c.held.occupied, (l.command, (l.bank, (l.bin, (c.opened.stamp, (c.held.content.stamp, counter_of u))))))

abbrev pub to_unit : CellParts → Unit
to_unit (
  occupied,
  (
    command,
    (
      bank,
      (
        bin,
        (open_stamp, (held_stamp, (offset, (code, (ready, (next, (opened, (held, (losses, (xs, (ys, bins))))))))))),
      ),
    ),
  ),
) =
    record {
      cell =
          record {
            opened = record { members = opened; stamp = open_stamp };
            held =
                record {
                  occupied = occupied;
                  label = record { command = command; bank = bank; bin = bin };
                  content = record { members = held; stamp = held_stamp };
                };
            bins = bins;
            losses = losses;
          };
      counter = record { offset = offset; last_code = code };
      picks = record { ready_bins = ready; next = next };
      xs = xs;
      ys = ys;
    }

unfoldable pub unit_layout : (n bins : ℕ) → Layout Unit
unit_layout n bins =
    fields {A = CellParts} of_unit to_unit
    (pair word
    (pair word
    (pair word
    (pair word
    (pair word
    (pair word
    (pair word
    (pair word
    (pair word
    (pair word
    (pair (block (row_words n))
    (pair (block (row_words n))
    (pair (many loss_count (block (row_words n)))
    (pair (block (depth n)) (pair (block (depth n)) (many (2 * bins) (bin_layout n)))))))))))))))))

-- a run: t; its cells; the cell at which the next pick starts, behind the last one served. It stands last, so that
-- Open's sums, to which every tick adds, are at an even word: with memory at a multiple of 16 bytes, so are they.
pub record Run : Type 0 where
  pub t : ℕ
  pub next : ℕ
  pub units : List Unit

abbrev pub RunParts : Type 0
RunParts = ℕ × (List Unit × ℕ)

abbrev pub of_run : Run → RunParts
of_run r = (r.t, (r.units, r.next))

abbrev pub to_run : RunParts → Run
to_run (t, (units, next)) = record { t = t; next = next; units = units }

unfoldable pub run_layout : Shape → Layout Run
run_layout sh = fields {A = RunParts} of_run to_run (pair word (pair (many sh.cells (unit_layout sh.lags sh.bins)) word))

-- "Setup clears the memory and gives a fresh run"
abbrev pub start : Shape → Run
start sh = record { t = 0; next = 0; units = replicate sh.cells (fresh_unit sh.lags sh.bins) }
