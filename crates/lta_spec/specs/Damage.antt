-- Document 01, "Whoever writes in work memory": refusal 11, with the parts that each call tests.
use Rattle.std.specs.Prelude.{ℕ, suc, ◌+◌, ◌*◌, Bool, true, false, cond, not, ◌&&◌, ◌||◌, List, leb, ltb, eqb}
use Rattle.lta_spec.specs.Words.{over_all, every}
use Rattle.lta_spec.specs.Shape.{open_limit, bin_limit, run_limit}
use Rattle.lta_spec.specs.Place.{Label, Stamped, Held, Bin, Cell, ready}
use Rattle.lta_spec.specs.Place.{ordered, overrun, full, replaced, too_wide, holdoff}
use Rattle.lta_spec.specs.Call.{last, speed, discard, idle, bank_ok}
use Rattle.lta_spec.specs.Row.{ticks_of, row_ok, entry_ok}
use Rattle.lta_spec.specs.Engine.{Row, Counter, Unit, loss_at, bin_at, has_room, is_replacing, is_too_wide, held_bin}

-- a row within its limits, and "a stamp passes t"
abbrev pub content_ok : (limit t : ℕ) → Stamped Row → Bool
content_ok limit t p = row_ok limit p.members && leb p.stamp t

-- no ticks: of a row within its limits that has none, every word is 0
abbrev pub is_empty : Stamped Row → Bool
is_empty p = eqb (ticks_of p.members) 0

abbrev pub open_ok : (t : ℕ) → Cell Row → Bool
open_ok t c = content_ok open_limit t c.opened

-- Held but its label: its flag is one of the listed, and "an unoccupied Held .. isn't empty" does not hold
abbrev pub held_ok : (t : ℕ) → Held Row → Bool
held_ok t h =
    content_ok open_limit t h.content && (leb h.occupied 1 && (leb 1 h.occupied || is_empty h.content))

-- "label (000, 001 or 010; bank 0 or 1; data bin below B)"
abbrev pub label_ok : (bins : ℕ) → Label → Bool
label_ok bins l = leb l.command last && (bank_ok l.bank && ltb l.bin bins)

-- a bin: its state is one of the listed, and a Free bin is empty
abbrev pub bin_ok : (t : ℕ) → Bin Row → Bool
bin_ok t b = content_ok bin_limit t b.content && (leb b.state ready && (leb 1 b.state || is_empty b.content))

unfoldable pub losses_ok : List Row → Bool
losses_ok ls = every (row_ok run_limit) ls

abbrev pub registers_ok : Unit → Bool
registers_ok u = every entry_ok u.xs && every entry_ok u.ys

-- request 2026-01, of a dump alone: "A stored block outside S to S + M - 1 or an unknown last command"
unfoldable pub counter_ok : (blocks : ℕ) → Counter → Bool
counter_ok blocks k = ltb k.offset blocks && (leb k.last_code (suc last) || eqb k.last_code (suc discard))

-- so many ticks more do not "take a loss past 2,147,483,648 ticks"
abbrev pub loss_holds : (n i more : ℕ) → Cell Row → Bool
loss_holds n i more c = leb (ticks_of (loss_at n i c.losses) + more) run_limit

-- "tick, every cell's shift registers, Open and losses"
unfoldable pub tick_sound : (n t : ℕ) → Unit → Bool
tick_sound n t u =
    registers_ok u
    && (open_ok t u.cell
    && (losses_ok u.cell.losses
    && (has_room n u.cell || loss_holds n holdoff 1 u.cell)))

unfoldable pub dump_holds : (n : ℕ) (nothing dropped occupied : Bool) → Cell Row → Bool
dump_holds n true d o c = true
dump_holds n false true o c = loss_holds n ordered (ticks_of c.opened.members) c
dump_holds n false false true c = loss_holds n overrun (ticks_of c.opened.members) c
dump_holds n false false false c = true

-- "dump, the cell's Open, Held and losses"
unfoldable pub dump_parts : (bins t : ℕ) → Cell Row → Bool
dump_parts bins t c =
    open_ok t c && (held_ok t c.held && (label_ok bins c.held.label && losses_ok c.losses))

-- 111 and 011 add to no loss
unfoldable pub loses_none : (command : ℕ) → Bool
loses_none command = eqb command idle || eqb command speed

unfoldable pub dump_sound : (n bins t command : ℕ) → Cell Row → Bool
dump_sound n bins t command c =
    dump_parts bins t c && dump_holds n (loses_none command) (eqb command discard) (eqb c.held.occupied 1) c

-- with the cell's block counter
unfoldable pub dump_unit_sound : (n bins blocks t command : ℕ) → Unit → Bool
dump_unit_sound n bins blocks t command u = counter_ok blocks u.counter && dump_sound n bins t command u.cell

unfoldable pub integrate_holds : (n : ℕ) (is_ready replaces is_wide : Bool) → Bin Row → Cell Row → Bool
integrate_holds n true r w b c = loss_holds n full (ticks_of c.held.content.members) c
integrate_holds n false true w b c = loss_holds n replaced (ticks_of b.content.members) c
integrate_holds n false false true b c = loss_holds n too_wide (ticks_of c.held.content.members) c
integrate_holds n false false false b c = true

-- the bin that Held goes to
unfoldable pub integrate_bin_sound : (n t : ℕ) → Bin Row → Cell Row → Bool
integrate_bin_sound n t b c =
    bin_ok t b && integrate_holds n (eqb b.state ready) (is_replacing n b c) (is_too_wide n b c) b c

-- "integration, Held, losses and, where Held is occupied, its label and bin"
unfoldable pub integrate_sound : (n bins t : ℕ) → Cell Row → Bool
integrate_sound n bins t c =
    (held_ok t c.held && losses_ok c.losses)
    && cond (eqb c.held.occupied 1)
    (label_ok bins c.held.label && integrate_bin_sound n t (bin_at n (held_bin n bins c) c) c) true

-- request 2026-07, not "where the cell's Ready number is above 2B, or is 0 though the bin tested is Ready, or 2B though
-- it isn't"
unfoldable pub number_fits : (bins ready_bins : ℕ) (is_ready : Bool) → Bool
number_fits bins ready_bins is_ready =
    leb ready_bins (2 * bins) && not (eqb ready_bins (cond is_ready 0 (2 * bins)))

-- with the cell's Ready number; where Held is unoccupied, no bin is tested
unfoldable pub integrate_unit_sound : (n bins t : ℕ) → Unit → Bool
integrate_unit_sound n bins t u =
    let c = u.cell in
    integrate_sound n bins t c
    && cond (eqb c.held.occupied 1)
    (number_fits bins u.picks.ready_bins (eqb (bin_at n (held_bin n bins c) c).state ready))
    (leb u.picks.ready_bins (2 * bins))

-- "emission, the bin"
unfoldable pub emit_sound : (n t k : ℕ) → Cell Row → Bool
emit_sound n t k c = bin_ok t (bin_at n k c)

-- with the cell's Ready number
unfoldable pub emit_unit_sound : (n bins t k : ℕ) → Unit → Bool
emit_unit_sound n bins t k u =
    emit_sound n t k u.cell
    && number_fits bins u.picks.ready_bins (eqb (bin_at n k u.cell).state ready)

-- of a pick: "here 11 covers every cell's bins, Ready numbers that differ from them and places not in the run"
abbrev pub count_ready : List (Bin Row) → ℕ
count_ready bs = over_all (λ b. cond (eqb b.state ready) 1 0) bs

unfoldable pub pick_sound : (bins t : ℕ) → Unit → Bool
pick_sound bins t u =
    every (bin_ok t) u.cell.bins
    && (eqb u.picks.ready_bins (count_ready u.cell.bins) && ltb u.picks.next (2 * bins))

abbrev pub picks_sound : (bins t : ℕ) → List Unit → Bool
picks_sound bins t us = every (pick_sound bins t) us

-- "reading, the losses"
abbrev pub read_sound : Cell Row → Bool
read_sound c = losses_ok c.losses

-- request 2026-03: 11 "here covers every cell's losses and six that together pass 2,147,483,648 ticks"
unfoldable pub page_sound : Cell Row → Bool
page_sound c = losses_ok c.losses && leb (over_all ticks_of c.losses) run_limit

abbrev pub ledgers_sound : List Unit → Bool
ledgers_sound us = every (λ u. page_sound u.cell) us

-- "forecast, Open"
abbrev pub forecast_sound : (t : ℕ) → Cell Row → Bool
forecast_sound t c = open_ok t c
