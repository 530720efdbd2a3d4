-- Request 2026-03, what a loss page shows, read back from its bytes: on any work memory, and behind every list of calls
-- of demand 3. proofs/LossPages.antt proves it.
use Rattle.std.specs.Prelude.{ℕ, zero, suc, ◌+◌, ◌*◌, ◌-◌, ◌≤◌, ◌<◌, ◌≡◌, true, List, length, take, Ok}
use Rattle.lta_spec.specs.Words.{part, over_all}
use Rattle.lta_spec.specs.Shape.{shape_ok}
use Rattle.lta_spec.specs.Decimal.{read_number}
use Rattle.lta_spec.specs.Page.{page_length}
use Rattle.lta_spec.specs.Call.Call.{page}
use Rattle.lta_spec.specs.Numbers.{set_counts}
use Rattle.lta_spec.specs.MachineRun as M
use Rattle.lta_spec.specs.Row.{row_counts}
use Rattle.lta_spec.specs.Engine.{loss_at}
use Rattle.lta_spec.specs.Memory.{Run, run_layout}
use Rattle.lta_spec.specs.Step as S
use Rattle.lta_spec.specs.Demand.{Listed, AllStand, machine_after, mem_after}
use Rattle.lta_spec.specs.declared.Shape.{Shape}
use Rattle.lta_spec.specs.declared.Counts.{Counts}

-- the three numbers of a line
pub data Number : Type 0 where
  ticks : Number
  edge : Number
  centre : Number

abbrev pub number_of : Number → Counts → ℕ
number_of ticks k = k.ticks
number_of edge k = k.edge
number_of centre k = k.centre

-- where they start: "6-16 ticks, 18-28 edge count, 30-40 centre count"
abbrev pub first_column : Number → ℕ
first_column ticks = 6
first_column edge = 18
first_column centre = 30

-- the number that so many columns of a line show, lines counted from 0 and columns from 1
abbrev pub shown : (text : List ℕ) (line first columns : ℕ) → ℕ
shown text line first columns = read_number (part (41 * line + (first - 1)) columns text)

abbrev pub number_shown : (text : List ℕ) → Number → (line : ℕ) → ℕ
number_shown text k line = shown text line (first_column k) 11

-- a sum over the lines above one
abbrev pub above : (ℕ → ℕ) → (line : ℕ) → ℕ
above f zero = 0
above f (suc line) = above f line + f line

-- the page that a call leaves at the front of its buffer
abbrev pub page_left : Shape → (mem out : List ℕ) → List ℕ
page_left sh mem out = take (page_length sh.cells) (S.step sh (page out) mem).out

-- what the text of a page shows of a run
pub record Shows (sh : Shape) (r : Run) (text : List ℕ) : Type 0 where
  pub size : length text ≡ 41 * (6 * sh.cells + 1)
  -- line 6c + i is that of loss i + 1 of cell c, with the numbers of its row
  pub cells : (c i : ℕ) → c < sh.cells → i < 6 → shown text (6 * c + i) 1 2 ≡ c
  pub losses : (c i : ℕ) → c < sh.cells → i < 6 → shown text (6 * c + i) 4 1 ≡ suc i
  pub numbers : (k : Number) (c i : ℕ) → c < sh.cells → i < 6
      → number_shown text k (6 * c + i) ≡ number_of k (row_counts (loss_at sh.lags i (S.cell_at sh c r).losses))
  -- "The totals equal the sums of the lines"
  pub totals : (k : Number) → number_shown text k (6 * sh.cells) ≡ above (number_shown text k) (6 * sh.cells)

-- a number over all losses of a run of the plain machine: "the sums over the ledger of the run"
abbrev pub over_ledger : (n : ℕ) → Number → M.Run → ℕ
over_ledger n k m =
    over_all (λ u. over_all (λ s. number_of k (set_counts n u.xs u.ys s)) u.cell.losses) m.units

pub record LossPages : Type 0 where
  -- whatever work memory holds
  pub shows : (sh : Shape) (mem out : List ℕ) → S.verdict sh mem (page out) ≡ Ok tt
      → Shows sh ((run_layout sh).get mem) (page_left sh mem out)
  -- behind a list of demand 3 a page with room is not refused: 11 does not arise, of six losses together neither
  pub accepts : (sh : Shape) → shape_ok sh ≡ true → (cs : List Listed) → AllStand cs → (out : List ℕ)
      → 41 * (6 * sh.cells + 1) ≤ length out → S.verdict sh (mem_after sh cs) (page out) ≡ Ok tt
  -- "and also the sums over the ledger of the run"
  pub ledger : (sh : Shape) → shape_ok sh ≡ true → (cs : List Listed) → AllStand cs → (out : List ℕ)
      → 41 * (6 * sh.cells + 1) ≤ length out → (k : Number)
      → number_shown (page_left sh (mem_after sh cs) out) k (6 * sh.cells)
      ≡ over_ledger sh.lags k (machine_after sh cs)
