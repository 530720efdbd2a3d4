-- Document 01, "The plain machine", one cell: each place holds a set of tick numbers, as a list.
use Rattle.std.specs.Prelude.{ℕ, suc, ◌+◌, ◌*◌, ◌-◌, Bool, true, false, cond, ◌&&◌, ◌||◌, List, [], ◌∷◌, ◌++◌, ltb, eqb, length, get_or, set, replicate}
use Rattle.lta_spec.specs.Words.{over_all, numbers_from}
use Rattle.lta_spec.specs.Shape.{open_limit, bin_limit}
use Rattle.lta_spec.specs.Place.{Label, Stamped, Bin, Cell, Result, free, filling, ready}
use Rattle.lta_spec.specs.Place.{ordered, overrun, full, replaced, too_wide, holdoff, loss_count}
use Rattle.lta_spec.specs.Call.{save, add, last, speed, discard, idle, bin_index}

-- a set of tick numbers
abbrev pub Ticks : Type 0
Ticks = List ℕ

abbrev pub stamped : Ticks → ℕ → Stamped Ticks
stamped s stamp = record { members = s; stamp = stamp }

-- s goes to loss i
unfoldable pub lose : (i : ℕ) → Ticks → List Ticks → List Ticks
lose i s ls = set ls i (get_or ls i [] ++ s)

-- **Tick.** "t joins Open if Open has fewer than 524,288 members, else loss 6."
unfoldable pub has_room : Cell Ticks → Bool
has_room c = ltb (length c.opened.members) open_limit

unfoldable pub tick_by : (room : Bool) (t : ℕ) → Cell Ticks → Cell Ticks
tick_by true t c =
    record {
      opened = stamped (c.opened.members ++ t ∷ []) c.opened.stamp;
      held = c.held;
      bins = c.bins;
      losses = c.losses;
    }
tick_by false t c =
    record { opened = c.opened; held = c.held; bins = c.bins; losses = lose holdoff (t ∷ []) c.losses }

unfoldable pub tick_cell : (t : ℕ) → Cell Ticks → Cell Ticks
tick_cell t c = tick_by (has_room c) t c

-- **Forecast.** Request 2026-02: "It shall be exactly 524,288 less the ticks in the open integration."
unfoldable pub forecast_of : Cell Ticks → ℕ
forecast_of c = open_limit - length c.opened.members

-- **Dump.** Open goes to loss i. "Open is then empty"; the next integration's stamp is t.
unfoldable pub lose_open : (i t : ℕ) → Cell Ticks → Cell Ticks
lose_open i t c =
    record { opened = stamped [] t; held = c.held; bins = c.bins; losses = lose i c.opened.members c.losses }

-- "Open and the label go to Held. Open is then empty."
unfoldable pub hold_open : Label → (t : ℕ) → Cell Ticks → Cell Ticks
hold_open l t c =
    record {
      opened = stamped [] t;
      held = record { occupied = 1; label = l; content = c.opened };
      bins = c.bins;
      losses = c.losses;
    }

-- "111: nothing. 100: Open goes to loss 1. 000 (save), 001 (add), 010 (last): if Held is occupied, Open goes to loss 2;
-- else Open and the label go to Held."
unfoldable pub dump_by : (nothing dropped occupied : Bool) → Label → (t : ℕ) → Cell Ticks → Result Ticks
dump_by true d o l t c = record { answer = 7; cell = c }
dump_by false true o l t c = record { answer = 1; cell = lose_open ordered t c }
dump_by false false true l t c = record { answer = 2; cell = lose_open overrun t c }
dump_by false false false l t c = record { answer = 0; cell = hold_open l t c }

-- a dump with a command other than 011
unfoldable pub dump_cell : Label → (t : ℕ) → Cell Ticks → Result Ticks
dump_cell l t c = dump_by (eqb l.command idle) (eqb l.command discard) (eqb c.held.occupied 1) l t c

-- Request 2026-04, 011: it "empties Open, leaves Held as it is, and ignores the accumulator"; "in the plain machine
-- Open becomes its set", that of a frame.
unfoldable pub send_open : (t : ℕ) → Cell Ticks → Cell Ticks
send_open t c = record { opened = stamped [] t; held = c.held; bins = c.bins; losses = c.losses }

-- the latest of commands, or of places, by its number; none in a fresh run
pub data Latest : Type 0 where
  none : Latest
  was : (number : ℕ) → Latest

-- Request 2026-01, the recirculation block counter: "Each cell keeps a current block." The last command is that of the
-- cell's last accepted dump but 111, whatever became of Open.
pub record Counter : Type 0 where
  pub block : ℕ
  pub last_command : Latest

-- "It returns to S on 100, and on a 010 whose cell's last command before it was 000 or 001"; "A cell's first dump but
-- 111 in a fresh run uses S"
unfoldable pub returns : (command : ℕ) → Latest → Bool
returns command none = true
returns command (was before) = eqb command discard || (eqb command last && (eqb before save || eqb before add))

-- request 2026-04, 011: "For the block counter it counts as a 001."
unfoldable pub counts_as : (command : ℕ) → ℕ
counts_as command = cond (eqb command speed) add command

-- start is S, blocks is M
module _ (start blocks : ℕ) where
  -- "any other accepted dump but 111 moves it one on, from S + M - 1 back to S"
  unfoldable pub one_on : (block : ℕ) → ℕ
  one_on block = cond (eqb block (start + blocks - 1)) start (suc block)

  -- "111 never counts as an earlier command", and leaves the block. "The value after this step is the dump's block."
  unfoldable pub counted : (command : ℕ) → Counter → Counter
  counted command k =
      cond (eqb command idle) k
      (record {
        block = cond (returns command k.last_command) start (one_on k.block);
        last_command = was command;
      })

  -- "Data bin = phase × M + (block - S) (memo figure 4-41)"
  abbrev pub data_bin : (phase block : ℕ) → ℕ
  data_bin phase block = phase * blocks + (block - start)

  -- the label of a dump of that block
  abbrev pub dump_label : (command bank phase block : ℕ) → Label
  dump_label command bank phase block = record { command = command; bank = bank; bin = data_bin phase block }

-- **Integrate.** Held "becomes unoccupied", and keeps its label and stamp; bin k and the losses
-- become b and ls.
unfoldable pub release : (k : ℕ) → Bin Ticks → List Ticks → Cell Ticks → Cell Ticks
release k b ls c =
    record {
      opened = c.opened;
      held = record { occupied = 0; label = c.held.label; content = stamped [] c.held.content.stamp };
      bins = set c.bins k b;
      losses = ls;
    }

-- "After 010 a bin is Ready, also after loss 5." Else it is Filling: "A Free bin becomes Filling."
unfoldable pub state_after : (last : Bool) → ℕ
state_after true = ready
state_after false = filling

-- "A bin's stamp is that of the integration that took it out of Free or replaced its set."
unfoldable pub stamp_after : (was_free : Bool) (new old : ℕ) → ℕ
stamp_after true new old = new
stamp_after false new old = old

-- "Bin Ready: to loss 3. Command 000 on a Filling bin: the bin's old set goes to loss 4 and Held replaces it. Command
-- 001 or 010 where the joint set would pass 16,777,215 members: Held goes to loss 5. Otherwise it joins the set."
unfoldable pub integrate_by : (is_ready replaces is_wide : Bool) (k : ℕ) → Bin Ticks → Cell Ticks → Result Ticks
integrate_by true r w k b c =
    record { answer = 3; cell = release k b (lose full c.held.content.members c.losses) c }
integrate_by false true w k b c =
    record {
      answer = 4;
      cell =
          release k (record { state = filling; content = c.held.content })
          (lose replaced b.content.members c.losses) c;
    }
integrate_by false false true k b c =
    record {
      answer = 5;
      cell =
          release k (record { state = state_after (eqb c.held.label.command last); content = b.content })
          (lose too_wide c.held.content.members c.losses) c;
    }
integrate_by false false false k b c =
    record {
      answer = 0;
      cell =
          release k
          (record {
            state = state_after (eqb c.held.label.command last);
            content =
                stamped (b.content.members ++ c.held.content.members)
                (stamp_after (eqb b.state free) c.held.content.stamp b.content.stamp);
          })
          c.losses c;
    }

abbrev pub free_bin : Bin Ticks
free_bin = record { state = free; content = stamped [] 0 }

unfoldable pub bin_at : (k : ℕ) → Cell Ticks → Bin Ticks
bin_at k c = get_or c.bins k free_bin

-- (With 000 on a Free bin the joint set is Held's, and never so wide.)
unfoldable pub integrate_at : (k : ℕ) → Bin Ticks → Cell Ticks → Result Ticks
integrate_at k b c =
    integrate_by (eqb b.state ready)
    (eqb c.held.label.command save && eqb b.state filling)
    (ltb bin_limit (length b.content.members + length c.held.content.members)) k b c

unfoldable pub integrate_cell : (bins : ℕ) → Cell Ticks → Result Ticks
integrate_cell bins c =
    let k = bin_index bins c.held.label.bank c.held.label.bin in integrate_at k (bin_at k c) c

-- **Emit** "a named Ready bin: .. the bin Free and empty"; "An emptied Held keeps its label and stamp, an emptied bin
-- its stamp."
unfoldable pub empty_bin : (k : ℕ) → Cell Ticks → Cell Ticks
empty_bin k c =
    record {
      opened = c.opened;
      held = c.held;
      bins = set c.bins k (record { state = free; content = stamped [] (bin_at k c).content.stamp });
      losses = c.losses;
    }

-- **Pick.** Request 2026-07: how many of a cell's bins are Ready
abbrev pub is_ready : Bin Ticks → Bool
is_ready b = eqb b.state ready

unfoldable pub ready_bins : Cell Ticks → ℕ
ready_bins c = over_all (λ b. cond (is_ready b) 1 0) c.bins

-- The numbers below n, "starting after" the latest and "going round": the latest comes last, and is not left out.
unfoldable pub round_from : (n : ℕ) → Latest → List ℕ
round_from n none = numbers_from 0 n
round_from n (was k) = numbers_from (suc k) (n - suc k) ++ numbers_from 0 (suc k)

-- the first of a list for which f holds
unfoldable pub first_with : (f : ℕ → Bool) → List ℕ → ℕ
first_with f [] = 0
first_with f (k ∷ ks) = cond (f k) k (first_with f ks)

-- The bin that a pick takes of a cell, by its place in the cell's list: "starting after the bin last picked in that
-- cell (at first from bank 0, bin 0), it goes round bank 0's bins and then bank 1's."
unfoldable pub picked_bin : (bins : ℕ) (picked : Latest) → Cell Ticks → ℕ
picked_bin bins picked c = first_with (λ k. is_ready (bin_at k c)) (round_from (2 * bins) picked)

-- "All start empty, Held unoccupied, each bin Free."
abbrev pub fresh_cell : (bins : ℕ) → Cell Ticks
fresh_cell bins =
    record {
      opened = stamped [] 0;
      held = record { occupied = 0; label = record { command = 0; bank = 0; bin = 0 }; content = stamped [] 0 };
      bins = replicate (2 * bins) free_bin;
      losses = replicate loss_count [];
    }

abbrev pub fresh_counter : (start : ℕ) → Counter
fresh_counter start = record { block = start; last_command = none }
