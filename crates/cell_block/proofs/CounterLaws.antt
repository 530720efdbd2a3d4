-- The words of the block counter: its test, and what a dump leaves of it.
use mathlib.Core.Path.{◌≡◌, refl, sym, ap, ◌∙◌}
use mathlib.Core.Bool.{Bool, true, false, cond, ◌&&◌, ◌||◌}
use mathlib.Core.List.{List}
use Prim.Native.Nat.{ℕ, suc, ◌<◌, ◌≤◌}
use lib.Dec.{leb, ltb, eqb}
use lib.ListN.{get_or, set}
use native.Mathlib.Omega.{arith}
use borrow.Author.Tests.{ltb-true, eqb-true, eq-eqb, ne_eqb}
use Rattle.lta_spec.specs.Call.{add, last, speed, discard, idle}
use Rattle.lta_spec.specs.Engine as E
use Rattle.lta_spec.specs.Damage.{counter_ok}
use Rattle.lta_spec.proofs.TestLaws.{and_both}
use Rattle.lta_spec.proofs.MemoryLaws.{unit-width}
use Rattle.cell_layout.specs.Offsets.{block_at, last_command_at}
use Rattle.cell_layout.specs.Cells.{Fits, unit_of, with_counter}
use Rattle.cell_layout.proofs.LaysLaws.{word_of, lays-set, lays-to}
use Rattle.cell_layout.proofs.Fields as F
use Rattle.cell_layout.proofs.CellLaws.{laid}
use Rattle.cell_block.specs.Counting.{counter_of, Counts}

-- the ways of the step behind a command other than 111
module _ (blocks command offset code : ℕ) where
  pub back : E.resets command code ≡ true → 0 ≡ E.offset_after blocks command (counter_of offset code)
  unfolding E.offset_after
  back e = sym (rw e)

  pub on : E.resets command code ≡ false
      → E.after blocks offset ≡ E.offset_after blocks command (counter_of offset code)
  unfolding E.offset_after
  on e = sym (rw e)

-- the command that is kept is no higher than 001 or the command
pub kept_small : (command : ℕ) → E.kept_as command ≤ suc command
unfolding E.kept_as
kept_small command = by-test (eqb command speed) refl
  where
    by-test : (b : Bool) → eqb command speed ≡ b → cond b add command ≤ suc command
    by-test true e = omega (arith, eqb-true command speed e)
    by-test false e = omega arith

module _ {l : List ℕ} {n bins : ℕ} (f : Fits l n bins) where
  pub block-is : get_or l block_at 0 ≡ (unit_of n bins l).counter.offset
  block-is = word_of (laid f) (F.current_block n bins)

  code_is : get_or l last_command_at 0 ≡ (unit_of n bins l).counter.last_code
  code_is = word_of (laid f) (F.last_command n bins)

  pub counter-test : (blocks : ℕ)
      → ltb (get_or l block_at 0) blocks
      && (leb (get_or l last_command_at 0) (suc last) || eqb (get_or l last_command_at 0) (suc discard))
      ≡ counter_ok blocks (unit_of n bins l).counter
  unfolding counter_ok
  counter-test blocks = rw (block-is, code_is)

  module _ (blocks command : ℕ) where
    pub within : counter_ok blocks (unit_of n bins l).counter ≡ true → get_or l block_at 0 < blocks
    unfolding counter_ok
    within ok = rw block-is (ltb-true _ _ (and_both (ltb (unit_of n bins l).counter.offset blocks) _ ok).0)

    abbrev counted : E.Counter
    counted = E.counted blocks command (unit_of n bins l).counter

    pub idle-counts : command ≡ idle → Counts n bins blocks command l l (get_or l block_at 0)
    unfolding E.counted
    idle-counts e =
        let same : (unit_of n bins l).counter ≡ counted = sym (rw (eq-eqb command idle e)) in
        record {
          offset = block-is ∙ ap (λ k. k.offset) same;
          words = lays-to (laid f) (ap (with_counter (unit_of n bins l)) same);
        }

    pub counts : (next : ℕ) → (command ≡ idle → ⊥)
        → next ≡ E.offset_after blocks command (counter_of (get_or l block_at 0) (get_or l last_command_at 0))
        → Counts n bins blocks command l (set (set l block_at next) last_command_at (suc (E.kept_as command))) next
    unfolding E.counted
    counts next other e =
        let code = suc (E.kept_as command) in
        let k : E.Counter = counter_of next code in
        let by = rw (block-is, code_is) at e in
        let moved : k ≡ counted = sym (rw (ne_eqb command idle other) (ap (λ o. counter_of o code) (sym by))) in
        record {
          offset = ap (λ k. k.offset) moved;
          words =
              lays-to
              (lays-set (lays-set (laid f) (F.current_block n bins) next) (F.last_command n bins) code)
              (ap (with_counter (unit_of n bins l)) moved);
        }

-- a cell whose block counter has moved: its words still fit, and it is the cell with its counter moved
module _ {n bins blocks command : ℕ} {l m : List ℕ} {r : ℕ} (f : Fits l n bins)
    (k : Counts n bins blocks command l m r) where
  pub still-fits : Fits m n bins
  still-fits = record { size = k.words.size ∙ unit-width n bins; lags = f.lags; bins = f.bins }

  pub unit-moved : unit_of n bins m
      ≡ with_counter (unit_of n bins l) (E.counted blocks command (unit_of n bins l).counter)
  unfolding unit_of
  unit-moved = k.words.is
