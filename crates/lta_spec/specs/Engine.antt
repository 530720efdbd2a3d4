-- The engine's definitions of one cell: the rules of the plain machine again, on rows of words. A text of its own, so
-- that demand 3 holds one against the other; refusal 11 is in Damage. n is the lags of a cell, bins the data bins of
-- a bank.
use Rattle.std.specs.Prelude.{ℕ, zero, suc, ◌+◌, ◌*◌, ◌-◌, Bool, true, false, cond, not, ◌&&◌, ◌||◌, List, ◌∷◌, map, leb, ltb, eqb, get_or, set, take, replicate}
use Rattle.lta_spec.specs.Words.{sums, zeros}
use Rattle.lta_spec.specs.Shape.{open_limit, bin_limit}
use Rattle.lta_spec.specs.Size.{depth}
use Rattle.lta_spec.specs.Place.{Label, Stamped, Bin, Cell, Result, free, filling, ready, ordered, overrun, full}
use Rattle.lta_spec.specs.Place.{replaced, too_wide, holdoff, loss_count}
use Rattle.lta_spec.specs.Call.{save, add, last, speed, discard, idle, bin_index}
use Rattle.lta_spec.specs.Row.{ticks_of, empty_row, tick_row, from_word}

-- a row of words
abbrev pub Row : Type 0
Row = List ℕ

abbrev pub stamped : Row → ℕ → Stamped Row
stamped row stamp = record { members = row; stamp = stamp }

abbrev pub loss_at : (n i : ℕ) → List Row → Row
loss_at n i ls = get_or ls i (empty_row n)

-- a row is added to loss i
unfoldable pub lose : (n i : ℕ) → Row → List Row → List Row
lose n i row ls = set ls i (sums (loss_at n i ls) row)

abbrev pub free_bin : (n : ℕ) → Bin Row
free_bin n = record { state = free; content = stamped (empty_row n) 0 }

unfoldable pub bin_at : (n k : ℕ) → Cell Row → Bin Row
bin_at n k c = get_or c.bins k (free_bin n)

-- the place behind place k of so many, and behind the last one the first
abbrev pub after : (size k : ℕ) → ℕ
after size k = cond (ltb (suc k) size) (suc k) 0

-- The recirculation block counter of a cell, so that cleared words are a fresh run's: the current block as its offset
-- from S, and the last command plus 1, 0 for none
pub record Counter : Type 0 where
  pub offset : ℕ
  pub last_code : ℕ

-- The picks of a cell: how many of its bins are Ready, and the place in its list of bins at which the next pick
-- starts, behind the bin last picked, so that cleared words are a fresh run's
pub record Picks : Type 0 where
  pub ready_bins : ℕ
  pub next : ℕ

-- One cell of a run: its places, its block counter, its picks, and its X and Y shift registers, newest entry first
pub record Unit : Type 0 where
  pub cell : Cell Row
  pub counter : Counter
  pub picks : Picks
  pub xs : List ℕ
  pub ys : List ℕ

abbrev pub no_label : Label
no_label = record { command = 0; bank = 0; bin = 0 }

-- The counter's step in a dump: the offset returns to 0 on the first command, on 100, and on 010 behind 000 or 001,
-- whose codes are the lowest two.
unfoldable pub resets : (command last_code : ℕ) → Bool
resets command code = eqb code 0 || (eqb command discard || (eqb command last && leb code (suc add)))

-- Else it is the next of as many offsets as there are blocks, behind the last one 0.
unfoldable pub offset_after : (blocks command : ℕ) → Counter → ℕ
offset_after blocks command k = cond (resets command k.last_code) 0 (after blocks k.offset)

-- the command that is kept as the last one: 001 for 011
unfoldable pub kept_as : (command : ℕ) → ℕ
kept_as command = cond (eqb command speed) add command

unfoldable pub counted : (blocks command : ℕ) → Counter → Counter
counted blocks command k =
    cond (eqb command idle) k (record { offset = offset_after blocks command k; last_code = suc (kept_as command) })

-- the label of a dump: the data bins of a phase stand side by side, one for each block
abbrev pub dump_label : (blocks command bank phase offset : ℕ) → Label
dump_label blocks command bank phase offset =
    record { command = command; bank = bank; bin = phase * blocks + offset }

-- The ticks that Open's row is short of its limit.
unfoldable pub forecast_of : Cell Row → ℕ
forecast_of c = open_limit - ticks_of c.opened.members

-- A search over so many places more, one behind the other from place k on: where it ends, at the first place for which
-- f holds.
unfoldable pub seek : (f : ℕ → Bool) (size more k : ℕ) → ℕ
seek f size zero k = k
seek f size (suc more) k = cond (f k) k (seek f size more (after size k))

-- The bank and the data bin of a bin, by its place in the cell's list.
abbrev pub bank_of : (bins k : ℕ) → ℕ
bank_of bins k = cond (ltb k bins) 0 1

abbrev pub data_bin_of : (bins k : ℕ) → ℕ
data_bin_of bins k = cond (ltb k bins) k (k - bins)

-- An emission leaves one Ready bin less.
unfoldable pub lowered : Picks → Picks
lowered p = record { ready_bins = p.ready_bins - 1; next = p.next }

module _ (n : ℕ) where
  -- Tick. A tick's row is added to Open, or to loss 6 where Open is full.
  unfoldable pub has_room : Cell Row → Bool
  has_room c = ltb (ticks_of c.opened.members) open_limit

  unfoldable pub tick_by : (room : Bool) → Row → Cell Row → Cell Row
  tick_by true row c =
      record {
        opened = stamped (sums c.opened.members row) c.opened.stamp;
        held = c.held;
        bins = c.bins;
        losses = c.losses;
      }
  tick_by false row c =
      record { opened = c.opened; held = c.held; bins = c.bins; losses = lose n holdoff row c.losses }

  -- a shift register moves: a new entry, and the oldest falls out
  abbrev pub shifted : (entry : ℕ) → List ℕ → List ℕ
  shifted entry register = take (depth n) (entry ∷ register)

  -- x and y are the entries that the tick brings. "The shift registers move either way."
  unfoldable pub tick_unit : (x y : ℕ) → Unit → Unit
  tick_unit x y u =
      let xs = shifted x u.xs in
      let ys = shifted y u.ys in
      record {
        cell = tick_by (has_room u.cell) (tick_row n (map from_word xs) (map from_word ys)) u.cell;
        counter = u.counter;
        picks = u.picks;
        xs = xs;
        ys = ys;
      }

  -- Dump. Open's row is added to loss i, and Open is cleared and stamped t.
  unfoldable pub lose_open : (i t : ℕ) → Cell Row → Cell Row
  lose_open i t c =
      record {
        opened = stamped (empty_row n) t;
        held = c.held;
        bins = c.bins;
        losses = lose n i c.opened.members c.losses;
      }

  -- Open's row and stamp and the label go to Held.
  unfoldable pub hold_open : Label → (t : ℕ) → Cell Row → Cell Row
  hold_open l t c =
      record {
        opened = stamped (empty_row n) t;
        held = record { occupied = 1; label = l; content = c.opened };
        bins = c.bins;
        losses = c.losses;
      }

  unfoldable pub dump_by : (nothing dropped occupied : Bool) → Label → (t : ℕ) → Cell Row → Result Row
  dump_by true d o l t c = record { answer = 7; cell = c }
  dump_by false true o l t c = record { answer = 1; cell = lose_open ordered t c }
  dump_by false false true l t c = record { answer = 2; cell = lose_open overrun t c }
  dump_by false false false l t c = record { answer = 0; cell = hold_open l t c }

  unfoldable pub dump_cell : Label → (t : ℕ) → Cell Row → Result Row
  dump_cell l t c = dump_by (eqb l.command idle) (eqb l.command discard) (eqb c.held.occupied 1) l t c

  -- A speed dump: Open is cleared and stamped t, and nothing else moves.
  unfoldable pub send_open : (t : ℕ) → Cell Row → Cell Row
  send_open t c = record { opened = stamped (empty_row n) t; held = c.held; bins = c.bins; losses = c.losses }

  -- Integrate. Held's flag and row are cleared, its label and stamp stay; bin k and the losses become b and ls.
  unfoldable pub release : (k : ℕ) → Bin Row → List Row → Cell Row → Cell Row
  release k b ls c =
      record {
        opened = c.opened;
        held =
            record { occupied = 0; label = c.held.label; content = stamped (empty_row n) c.held.content.stamp };
        bins = set c.bins k b;
        losses = ls;
      }

  unfoldable pub state_after : (last : Bool) → ℕ
  state_after true = ready
  state_after false = filling

  unfoldable pub stamp_after : (was_free : Bool) (new old : ℕ) → ℕ
  stamp_after true new old = new
  stamp_after false new old = old

  unfoldable pub integrate_by : (is_ready replaces is_wide : Bool) (k : ℕ) → Bin Row → Cell Row → Result Row
  integrate_by true r w k b c =
      record { answer = 3; cell = release k b (lose n full c.held.content.members c.losses) c }
  integrate_by false true w k b c =
      record {
        answer = 4;
        cell =
            release k (record { state = filling; content = c.held.content })
            (lose n replaced b.content.members c.losses) c;
      }
  integrate_by false false true k b c =
      record {
        answer = 5;
        cell =
            release k (record { state = state_after (eqb c.held.label.command last); content = b.content })
            (lose n too_wide c.held.content.members c.losses) c;
      }
  integrate_by false false false k b c =
      record {
        answer = 0;
        cell =
            release k
            (record {
              state = state_after (eqb c.held.label.command last);
              content =
                  stamped (sums b.content.members c.held.content.members)
                  (stamp_after (eqb b.state free) c.held.content.stamp b.content.stamp);
            })
            c.losses c;
      }

  abbrev pub is_replacing : Bin Row → Cell Row → Bool
  is_replacing b c = eqb c.held.label.command save && eqb b.state filling

  -- where 000 meets a Free bin the joint set is Held's, and never so wide
  abbrev pub is_too_wide : Bin Row → Cell Row → Bool
  is_too_wide b c = ltb bin_limit (ticks_of b.content.members + ticks_of c.held.content.members)

  unfoldable pub integrate_at : (k : ℕ) → Bin Row → Cell Row → Result Row
  integrate_at k b c = integrate_by (eqb b.state ready) (is_replacing b c) (is_too_wide b c) k b c

  -- the bin that Held's label names
  abbrev pub held_bin : (bins : ℕ) → Cell Row → ℕ
  held_bin bins c = bin_index bins c.held.label.bank c.held.label.bin

  unfoldable pub integrate_cell : (bins : ℕ) → Cell Row → Result Row
  integrate_cell bins c = integrate_at (held_bin bins c) (bin_at n (held_bin bins c) c) c

  -- It makes its bin Ready by 010, where the bin is not Ready yet: one Ready bin more.
  abbrev pub is_raising : Bin Row → Cell Row → Bool
  is_raising b c = eqb c.held.label.command last && not (eqb b.state ready)

  unfoldable pub raised : (bins : ℕ) → Cell Row → Picks → Picks
  raised bins c p =
      record {
        ready_bins = p.ready_bins + cond (is_raising (bin_at n (held_bin bins c) c) c) 1 0;
        next = p.next;
      }

  -- Emit. The bin is Free and its row cleared; its stamp stays.
  unfoldable pub empty_bin : (k : ℕ) → Cell Row → Cell Row
  empty_bin k c =
      record {
        opened = c.opened;
        held = c.held;
        bins =
            set c.bins k (record { state = free; content = stamped (empty_row n) (bin_at n k c).content.stamp });
        losses = c.losses;
      }

  -- Pick. The Ready bin at which a search from the cell's place of picks ends.
  unfoldable pub picked_bin : (bins : ℕ) → Unit → ℕ
  picked_bin bins u =
      seek (λ k. eqb (bin_at n k u.cell).state ready) (2 * bins) (2 * bins) u.picks.next

  -- Setup. All rows clear, Held unoccupied, bins Free, registers full of invalid entries.
  abbrev pub fresh_unit : (bins : ℕ) → Unit
  fresh_unit bins =
      record {
        cell =
            record {
              opened = stamped (empty_row n) 0;
              held =
                  record { occupied = 0; label = no_label; content = stamped (empty_row n) 0 };
              bins = replicate (2 * bins) (free_bin n);
              losses = replicate loss_count (empty_row n);
            };
        counter = record { offset = 0; last_code = 0 };
        picks = record { ready_bins = 0; next = 0 };
        xs = zeros (depth n);
        ys = zeros (depth n);
      }
