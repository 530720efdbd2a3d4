-- The words after a dump are the cell after a dump.
use mathlib.Core.Path.{◌≡◌, refl, ap, ◌∙◌}
use mathlib.Core.Logic.{inl}
use mathlib.Core.Bool.{true, false, ◌||◌}
use mathlib.Core.List.{List}
use Prim.Native.Nat.{ℕ, zero, suc, ◌+◌, ◌<◌, ◌≤◌}
use native.Mathlib.Nat.{mul-le-mul_right}
use native.Mathlib.Omega.{arith}
use lib.Dec.{leb, eqb}
use lib.ListN.{length, get_or, set}
use borrow.Author.Tests.{leb-true, eqb-true, eqb-false, eq-eqb, ne_eqb}
use Rattle.lta_spec.specs.Words.{splice, sums, zeros}
use Rattle.lta_spec.specs.Shape.{open_limit}
use Rattle.lta_spec.specs.Size.{row_words}
use Rattle.lta_spec.specs.Place.{Label, Cell, loss_count}
use Rattle.lta_spec.specs.Row.{ticks_of, empty_row, row_ok}
use Rattle.lta_spec.specs.Engine as E
use Rattle.lta_spec.specs.Engine.{Row, Unit, loss_at}
use Rattle.lta_spec.specs.Damage as D
use Rattle.lta_spec.specs.Memory.{unit_layout}
use Rattle.lta_spec.proofs.TestLaws.{and_both}
use Rattle.lta_spec.proofs.WordLaws.{length-zeros}
use Rattle.words.specs.Moves.{Folds, folded}
use Rattle.cell_layout.specs.Lays.{Lays}
use Rattle.cell_layout.specs.Offsets.{
  occupied_at,
  command_at,
  bank_at,
  data_bin_at,
  open_stamp_at,
  held_stamp_at,
  open_row_at,
  held_row_at,
  loss_row_at,
}
use Rattle.cell_layout.specs.Cells.{Small, with_places}
use Rattle.cell_layout.proofs.LaysLaws.{word_of, row-length, lays-set, lays-row, lays-move}
use Rattle.cell_layout.proofs.Fields as F
use Rattle.lta_spec.proofs.RowLaws.{zeros-sums}
use Rattle.cell_layout.proofs.RowLaws.{clear, small_row, folds}

-- what the tests of a dump have shown
pub record DumpFacts (c : Cell Row) : Type 0 where
  pub opened : row_ok open_limit c.opened.members ≡ true
  pub held : row_ok open_limit c.held.content.members ≡ true
  pub flag : c.held.occupied ≤ 1
  pub empty : leb 1 c.held.occupied || eqb (ticks_of c.held.content.members) 0 ≡ true
  pub losses : D.losses_ok c.losses ≡ true

pub dump-facts : (bins t : ℕ) (c : Cell Row) → D.dump_parts bins t c ≡ true → DumpFacts c
unfolding D.dump_parts
dump-facts bins t c e =
    let a = and_both (D.open_ok t c) _ e in
    let b = and_both (D.held_ok t c.held) _ a.1 in
    let d = and_both (D.label_ok bins c.held.label) _ b.1 in
    let h = and_both (D.content_ok open_limit t c.held.content) _ b.0 in
    let i = and_both (leb c.held.occupied 1) _ h.1 in
    record {
      opened = (and_both (row_ok open_limit c.opened.members) _ a.0).0;
      held = (and_both (row_ok open_limit c.held.content.members) _ h.0).0;
      flag = leb-true _ _ i.0;
      empty = i.1;
      losses = d.1;
    }

-- an unoccupied Held is clear
held-clear : (n : ℕ) (c : Cell Row) → DumpFacts c → length c.held.content.members ≡ row_words n
    → eqb c.held.occupied 1 ≡ false → c.held.content.members ≡ empty_row n
held-clear n c f e o =
    clear open_limit c.held.content.members f.held
    (no-ticks c.held.occupied f.flag (eqb-false _ _ o) f.empty)
    ∙ ap zeros e
  where
    no-ticks : (k : ℕ) → k ≤ 1 → (k ≡ 1 → ⊥) → leb 1 k || eqb (ticks_of c.held.content.members) 0 ≡ true
        → ticks_of c.held.content.members ≡ 0
    no-ticks zero a b h = eqb-true _ _ h
    no-ticks (suc zero) a b h = absurd (b refl)
    no-ticks (suc (suc k)) a b h = absurd (omega arith)

-- the words after Open and the label x went to Held
abbrev pub held_words : (l : List ℕ) (n : ℕ) → Label → (t : ℕ) → List ℕ
held_words l n x t =
    set
    (set
    (set
    (set
    (set (set (folded l open_row_at (held_row_at n) (row_words n)) occupied_at 1) command_at x.command)
    bank_at x.bank)
    data_bin_at x.bin)
    held_stamp_at (get_or l open_stamp_at 0))
    open_stamp_at t

module _ (n bins : ℕ) {l : List ℕ} {u : Unit} (s : Lays (unit_layout n bins) l u) where
  -- Open may be moved to loss i + 1, and to Held
  pub open-loss-folds : (i : ℕ) → i < loss_count → Small u.cell.opened.members
      → Small (loss_at n i u.cell.losses) → Folds l open_row_at (loss_row_at n i) (row_words n)
  open-loss-folds i h a b =
      folds s (F.open_row n bins) (F.loss n bins i h) a b
      (inl (omega (arith, mul-le-mul_right {m = 1} {n = 2 + i} (row_words n) (omega arith))))

  pub open-held-folds : DumpFacts u.cell → Folds l open_row_at (held_row_at n) (row_words n)
  open-held-folds d =
      folds s (F.open_row n bins) (F.held_row n bins) (small_row open_limit _ d.opened (omega arith))
      (small_row open_limit _ d.held (omega arith)) (inl (omega arith))

  -- Open goes to loss i + 1
  pub lays-lose-open : (i t : ℕ) → i < loss_count
      → Lays (unit_layout n bins) (set (folded l open_row_at (loss_row_at n i) (row_words n)) open_stamp_at t)
      (with_places u (E.lose_open n i t u.cell))
  unfolding E.lose_open E.lose
  lays-lose-open i t h = lays-set (lays-move s (F.open_row n bins) (F.loss n bins i h)) (F.open_stamp n bins) t

  -- Open is emptied
  pub lays-send-open : (t : ℕ)
      → Lays (unit_layout n bins) (set (splice l open_row_at (empty_row n)) open_stamp_at t)
      (with_places u (E.send_open n t u.cell))
  unfolding E.send_open
  lays-send-open t =
      lays-set (lays-row s (F.open_row n bins) (empty_row n) (length-zeros (row_words n))) (F.open_stamp n bins) t

  -- Open and the label go to Held
  module _ (x : Label) (t : ℕ) (d : DumpFacts u.cell) (o : eqb u.cell.held.occupied 1 ≡ false) where
    joined : sums u.cell.held.content.members u.cell.opened.members ≡ u.cell.opened.members
    joined =
        ap (λ r. sums r u.cell.opened.members)
        (held-clear n u.cell d (row-length s (F.held_row n bins)) o)
        ∙ zeros-sums (row_words n) u.cell.opened.members (row-length s (F.open_row n bins))

    pub lays-hold-open : Lays (unit_layout n bins) (held_words l n x t) (with_places u (E.hold_open n x t u.cell))
    unfolding E.hold_open
    lays-hold-open =
        let a = lays-move s (F.open_row n bins) (F.held_row n bins) in
        let a₁ = lays-set a (F.occupied n bins) 1 in
        let a₂ = lays-set a₁ (F.command n bins) x.command in
        let a₃ = lays-set a₂ (F.bank n bins) x.bank in
        let a₄ = lays-set a₃ (F.data_bin n bins) x.bin in
        let a₅ = lays-set a₄ (F.held_stamp n bins) u.cell.opened.stamp in
        let a₆ = lays-set a₅ (F.open_stamp n bins) t in
        rw (word_of s (F.open_stamp n bins)) (rw joined at a₆)

-- the four ways of a dump
module _ (n : ℕ) (x : Label) (t : ℕ) (c : Cell Row) where
  pub dump-idle : x.command ≡ 7 → E.dump_cell n x t c ≡ record { answer = 7; cell = c }
  unfolding E.dump_cell E.dump_by
  dump-idle a = rw (eq-eqb x.command 7 a)

  module _ (a : x.command ≡ 7 → ⊥) where
    pub dump-ordered : x.command ≡ 4 → E.dump_cell n x t c ≡ record { answer = 1; cell = E.lose_open n 0 t c }
    unfolding E.dump_cell E.dump_by
    dump-ordered b = rw (ne_eqb x.command 7 a, eq-eqb x.command 4 b)

    module _ (b : x.command ≡ 4 → ⊥) where
      pub dump-overrun : c.held.occupied ≡ 1
          → E.dump_cell n x t c ≡ record { answer = 2; cell = E.lose_open n 1 t c }
      unfolding E.dump_cell E.dump_by
      dump-overrun o = rw (ne_eqb x.command 7 a, ne_eqb x.command 4 b, eq-eqb c.held.occupied 1 o)

      pub dump-held : eqb c.held.occupied 1 ≡ false
          → E.dump_cell n x t c ≡ record { answer = 0; cell = E.hold_open n x t c }
      unfolding E.dump_cell E.dump_by
      dump-held o = rw (ne_eqb x.command 7 a, ne_eqb x.command 4 b, o)

-- a dump whose tests passed has passed those of the parts
pub sound-parts : (n bins t command : ℕ) (c : Cell Row) → D.dump_sound n bins t command c ≡ true
    → D.dump_parts bins t c ≡ true
unfolding D.dump_sound
sound-parts n bins t command c e = (and_both (D.dump_parts bins t c) _ e).0
