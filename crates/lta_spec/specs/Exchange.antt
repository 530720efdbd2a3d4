-- Request 2026-08, "Swapping the aerials": "For two fresh runs of equal shape, the second given each tick with X and Y
-- exchanged (bytes and validity bits), and otherwise the same calls". One statement for every list of calls of demand
-- 3. proofs/Exchange.antt proves it.
use Rattle.std.specs.Prelude.{ℕ, suc, ◌+◌, ◌*◌, ◌-◌, ◌/◌, ◌%◌, ◌≤◌, ◌<◌, ◌≡◌, Bool, true, false, ◌&&◌, ◌||◌, List, [], ◌∷◌, map, leb, ltb, eqb, pos, neg_ℤ, length, get_or, drop}
use Rattle.lta_spec.specs.Words.{some}
use Rattle.lta_spec.specs.Shape.{shape_ok}
use Rattle.lta_spec.specs.Answer.{Answer, number_in}
use Rattle.lta_spec.specs.Answer.Answer.{refused, number, entry, fields, normal, no_data}
use Rattle.lta_spec.specs.Place.{Stamped, loss_count}
use Rattle.lta_spec.specs.Page.{line_bytes, page_length}
use Rattle.lta_spec.specs.Frame.{accumulated, speed_frame, frame_length, lags_at}
use Rattle.lta_spec.specs.FrameCalls.{read_answer}
use Rattle.lta_spec.specs.Call.{Call, speed}
use Rattle.lta_spec.specs.Call.Call.{tick, dump, integrate, emit, reading, forecast, page, pick}
use Rattle.lta_spec.specs.MachineRun as M
use Rattle.lta_spec.specs.Row.{row_sums, x_entry, y_entry}
use Rattle.lta_spec.specs.Engine as E
use Rattle.lta_spec.specs.Engine.{Row}
use Rattle.lta_spec.specs.Memory.{Run, run_layout}
use Rattle.lta_spec.specs.Step as S
use Rattle.lta_spec.specs.Demand.{Listed, AllStand, Returned, engine_returns, fresh_mem, mem_after}
use Rattle.lta_spec.specs.Demand.{machine_after, places, frames_returned, read_sums}
use Rattle.lta_spec.specs.Demand.Listed.{on_run, on_other}
use Rattle.lta_spec.specs.TwoRuns.{Pairs, AllTold, ButBytes}
use Rattle.lta_spec.specs.declared.Shape.{Shape}
use Rattle.lta_spec.specs.declared.Fields.{Fields}
use Rattle.lta_spec.specs.declared.Sums.{Sums}

-- a validity byte with bits 0 and 1 exchanged; its other bits stay
unfoldable pub bits_exchanged : (validity : ℕ) → ℕ
bits_exchanged v = 4 * (v / 4) + 2 * (v % 2) + v / 2 % 2

-- the bytes of a tick with X and Y exchanged in each cell's three: those of a tick that 3 refuses as far as they go
unfoldable pub exchanged : (samples : List ℕ) → List ℕ
exchanged [] = []
exchanged (x ∷ []) = x ∷ []
exchanged (x ∷ y ∷ []) = y ∷ x ∷ []
exchanged (x ∷ y ∷ v ∷ samples) = y ∷ x ∷ bits_exchanged v ∷ exchanged samples

abbrev pub exchanged_call : Call → Call
exchanged_call (tick samples) = tick (exchanged samples)
exchanged_call (dump c command bank phase out) = dump c command bank phase out
exchanged_call (integrate c) = integrate c
exchanged_call (emit c bank bin out) = emit c bank bin out
exchanged_call (reading c lag loss) = reading c lag loss
exchanged_call (forecast c) = forecast c
exchanged_call (page out) = page out
exchanged_call (pick out) = pick out

abbrev pub exchanged_listed : Listed → Listed
exchanged_listed (on_run call) = on_run (exchanged_call call)
exchanged_listed (on_other shape call given) = on_other shape (exchanged_call call) given

-- the calls of the second run: "each tick with X and Y exchanged .., and otherwise the same calls"
abbrev pub exchanged_list : List Listed → List Listed
exchanged_list cs = map exchanged_listed cs

-- What the exchange of a tick's bytes does.
pub record ByteExchange : Type 0 where
  pub twice : (samples : List ℕ) → exchanged (exchanged samples) ≡ samples
  pub bytes : (samples : List ℕ) → ((i : ℕ) → get_or samples i 0 < 256) → (i : ℕ) → get_or (exchanged samples) i 0 < 256
  -- a tick is refused by the same number as the exchanged one, 3 and 19 included, whatever work memory holds
  pub refusals : (sh : Shape) (mem samples : List ℕ)
      → S.verdict sh mem (tick (exchanged samples)) ≡ S.verdict sh mem (tick samples)
  -- the entries that a cell's three bytes bring: what was X's is Y's, and what was Y's is X's
  pub entries : (c : ℕ) (samples : List ℕ) → 3 * suc c ≤ length samples
      → (x_entry (drop (3 * c) (exchanged samples)) ≡ y_entry (drop (3 * c) samples))
      × (y_entry (drop (3 * c) (exchanged samples)) ≡ x_entry (drop (3 * c) samples))

-- "for every lag k from 1 to N - 1, each place's I sum at lag k equals the other's at lag N - k, and its Q sum is the
-- negative. Centre counts agree." The numbers of a place at each lag in the one run and in the other; ticks agree too.
-- Nothing is said of lag 0, for there is no lag N, and of edge counts, which are those of lag 0.
pub record Exchanged (n : ℕ) (one other : ℕ → Sums) : Type 0 where
  pub in_phase : (k : ℕ) → 0 < k → k < n → (one k).i ≡ (other (n - k)).i
  pub quadrature : (k : ℕ) → 0 < k → k < n → (one k).q ≡ neg_ℤ (other (n - k)).q
  pub ticks : (k : ℕ) → k < n → (one k).ticks ≡ (other k).ticks
  pub centre : (k : ℕ) → k < n → (one k).centre ≡ (other k).centre

-- the rows of a place in work memory, and with its stamp
abbrev pub RowsExchanged : (n : ℕ) → Row → Row → Type 0
RowsExchanged n row row' = Exchanged n (λ k. row_sums k row) (λ k. row_sums k row')

pub record StampedExchanged (n : ℕ) (p p' : Stamped Row) : Type 0 where
  pub numbers : RowsExchanged n p.members p'.members
  pub stamp : p.stamp ≡ p'.stamp

-- all of a cell in work memory: "open, held, bins .. and all losses"; flags, labels, states, block counters and picks
-- are equal, and each shift register is the other run's of the other aerial
pub record CellsExchanged (n : ℕ) (u u' : E.Unit) : Type 0 where
  pub opened : StampedExchanged n u.cell.opened u'.cell.opened
  pub held : StampedExchanged n u.cell.held.content u'.cell.held.content
  pub occupied : u.cell.held.occupied ≡ u'.cell.held.occupied
  pub label : u.cell.held.label ≡ u'.cell.held.label
  pub bins : (k : ℕ) → StampedExchanged n (E.bin_at n k u.cell).content (E.bin_at n k u'.cell).content
  pub states : (k : ℕ) → (E.bin_at n k u.cell).state ≡ (E.bin_at n k u'.cell).state
  pub losses : (i : ℕ) → RowsExchanged n (E.loss_at n i u.cell.losses) (E.loss_at n i u'.cell.losses)
  pub counter : u.counter ≡ u'.counter
  pub picks : u.picks ≡ u'.picks
  pub xs : u.xs ≡ u'.ys
  pub ys : u.ys ≡ u'.xs

-- an answer without what it carries of sums and edge counts
abbrev pub without_sums : Answer → Answer
without_sums (refused k) = refused k
without_sums (number k) = number k
without_sums (entry e) =
    entry (record { i = pos 0; q = pos 0; ticks = e.ticks; edge = 0; centre = e.centre })
without_sums (fields f) =
    fields
    (record {
      kind = f.kind;
      cell = f.cell;
      block = f.block;
      bin = f.bin;
      bank = f.bank;
      ticks = f.ticks;
      centre = f.centre;
      edge = 0;
      second = f.second;
      offset = f.offset;
    })
without_sums (normal z) = normal z
without_sums no_data = no_data

-- a frame in the one run and in the other, read back: the reader accepts both, their fields are equal but for the edge
-- count, and their numbers are exchanged
pub record FramesExchanged (n : ℕ) (frame frame' : List ℕ) : Type 0 where
  pub header : Fields
  pub read : read_answer n frame ≡ fields header
  pub other : without_sums (read_answer n frame') ≡ without_sums (fields header)
  pub numbers : Exchanged n (λ k. read_sums n k frame) (λ k. read_sums n k frame')

-- the bytes of a frame that carry sums or edge counts: W4, the lag pairs, and the last word, which is the sum of all
abbrev pub frame_carries : (kind n j : ℕ) → Bool
frame_carries kind n j = (leb 18 j && ltb j 22) || (leb (lags_at kind) j && ltb j (frame_length kind n))

-- and of a page: in each line the columns "18-28 edge count", counted from 1
abbrev pub page_carries : (cells j : ℕ) → Bool
page_carries cells j = ltb j (page_length cells) && (leb 17 (j % line_bytes) && ltb (j % line_bytes) 28)

-- byte j of a lent buffer carries sums or edge counts, where the call is accepted
abbrev pub may_carry : Shape → Listed → (j : ℕ) → Bool
may_carry sh (on_run (emit c bank bin out)) j = frame_carries accumulated sh.lags j
may_carry sh (on_run (pick out)) j = frame_carries accumulated sh.lags j
may_carry sh (on_run (dump c command bank phase out)) j = eqb command speed && frame_carries speed_frame sh.lags j
may_carry sh (on_run (page out)) j = page_carries sh.cells j
may_carry sh (on_run (tick samples)) j = false
may_carry sh (on_run (integrate c)) j = false
may_carry sh (on_run (reading c lag loss)) j = false
may_carry sh (on_run (forecast c)) j = false
may_carry sh (on_other shape call given) j = false

abbrev pub carries : Shape → Listed → Answer → (j : ℕ) → Bool
carries sh l a j = some (λ k. true) (number_in a) && may_carry sh l j

-- what a call tells in the one run and in the other: equal answers, and equal bytes in the lent buffer, but for sums
-- and edge counts
pub record ToldAlike (sh : Shape) (l : Listed) (t t' : Returned) : Type 0 where
  pub answer : without_sums t.answer ≡ without_sums t'.answer
  pub size : length t.out ≡ length t'.out
  pub bytes : (j : ℕ) → carries sh l t.answer j ≡ false → get_or t.out j 0 ≡ get_or t'.out j 0

-- what readings of one loss answer at each lag
pub record ReadingsExchanged (sh : Shape) (c loss : ℕ) (mem mem' : List ℕ) : Type 0 where
  pub one : ℕ → Sums
  pub other : ℕ → Sums
  pub reads : (k : ℕ) → k < sh.lags → (S.step sh (reading c k loss) mem).answer ≡ entry (one k)
  pub reads_other : (k : ℕ) → k < sh.lags → (S.step sh (reading c k loss) mem').answer ≡ entry (other k)
  pub numbers : Exchanged sh.lags one other

-- the two runs behind a list of calls and behind the exchanged list
module _ (sh : Shape) (cs : List Listed) where
  abbrev pub mem_there : List ℕ
  mem_there = mem_after sh (exchanged_list cs)

  abbrev pub run_here : Run
  run_here = (run_layout sh).get (mem_after sh cs)

  abbrev pub run_there : Run
  run_there = (run_layout sh).get mem_there

  abbrev pub returns_here : List Returned
  returns_here = engine_returns sh cs (fresh_mem sh)

  abbrev pub returns_there : List Returned
  returns_there = engine_returns sh (exchanged_list cs) (fresh_mem sh)

  pub record RunsExchanged : Type 0 where
    -- what each call tells, speed dumps, picks, forecasts, pages and refused calls among them
    pub tells : AllTold (ToldAlike sh) cs returns_here returns_there
    -- work memory: t, the run's place of picks, and every cell
    pub time : run_here.t ≡ run_there.t
    pub next_cell : run_here.next ≡ run_there.next
    pub cells : (c : ℕ) → c < sh.cells → CellsExchanged sh.lags (S.unit_at sh c run_here) (S.unit_at sh c run_there)
    -- "frames", of both kinds, one by one
    pub frames : (c : ℕ) → c < sh.cells
        → Pairs (FramesExchanged sh.lags) (frames_returned c cs returns_here)
        (frames_returned c (exchanged_list cs) returns_there)
    -- and readings of "all losses", at each lag of the one run and the lags of the other
    pub readings : (c loss : ℕ) → c < sh.cells → 1 ≤ loss → loss ≤ loss_count
        → ReadingsExchanged sh c loss (mem_after sh cs) mem_there

pub record Exchange : Type 0 where
  pub of-bytes : ByteExchange
  -- where ticks go does not depend on the bytes: the plain machine has the same sets in all places of a cell
  pub of_places : (sh : Shape) (cs cs' : List Listed) → Pairs (ButBytes sh) cs cs' → (c : ℕ)
      → places (M.unit_at sh c (machine_after sh cs)) ≡ places (M.unit_at sh c (machine_after sh cs'))
  pub of-runs : (sh : Shape) → shape_ok sh ≡ true → (cs : List Listed) → AllStand cs → RunsExchanged sh cs
