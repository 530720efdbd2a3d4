-- What a loss page shows: the lines and the totals, read back; and behind every list of demand 3.
use Rattle.std.specs.Prelude.{Ok}
use Prim.Native.Nat.{ℕ, zero, suc, ◌+◌, ◌*◌, ◌-◌, ◌≤◌, ◌<◌}
use mathlib.Core.Path.{◌≡◌, refl, sym, ap, ap₂, ◌∙◌, subst}
use mathlib.Core.Bool.{true, ◌&&◌}
use mathlib.Core.List.{List, [], ◌∷◌, ◌++◌, map}
use native.Mathlib.Nat.{not-suc-le-zero, le_of_suc-le-suc}
use native.Mathlib.Omega.{arith}
use lib.Dec.{leb, eqb}
use lib.ListN
use lib.ListN.{length, get_or, take, length-append, length-map, get_or-append}
use lib.Seq.{get_or_at, take_all}
use borrow.Author.Tests.{leb-true, eqb-true, eq-eqb, le-leb}
use Rattle.lta_spec.specs.Words.{part, joined, every, over_all}
use Rattle.lta_spec.specs.Shape.{shape_ok, run_limit}
use Rattle.lta_spec.specs.Size.{memory_words, host_tests}
use Rattle.lta_spec.specs.Place.{loss_count}
use Rattle.lta_spec.specs.Decimal.{right_aligned, read_number}
use Rattle.lta_spec.specs.Page.{Within, page_limit, counts_sum, line_bytes, loss_line, ledger_lines, totals_line}
use Rattle.lta_spec.specs.Page.{page_of, page_length}
use Rattle.lta_spec.specs.Call.Call.{page}
use Rattle.lta_spec.specs.Numbers.{set_counts}
use Rattle.lta_spec.specs.Machine.Latest.{none}
use Rattle.lta_spec.specs.MachineRun as R
use Rattle.lta_spec.specs.Row.{empty_row, row_ok, row_counts}
use Rattle.lta_spec.specs.Engine as E
use Rattle.lta_spec.specs.Damage as D
use Rattle.lta_spec.specs.Memory as W
use Rattle.lta_spec.specs.Memory.{run_layout}
use Rattle.lta_spec.specs.Step as S
use Rattle.lta_spec.specs.Demand.{Listed, AllStand, machine_after, mem_after}
use Rattle.lta_spec.specs.LossPages.{Number, number_of, first_column, shown, number_shown, above, page_left, Shows}
use Rattle.lta_spec.specs.LossPages.{over_ledger, LossPages}
use Rattle.lta_spec.specs.LossPages.Number.{ticks, edge, centre}
use Rattle.lta_spec.specs.declared.Shape.{Shape}
use Rattle.lta_spec.specs.declared.Counts.{Counts}
use Rattle.lta_spec.proofs.DecimalLaws.{read_right}
use Rattle.lta_spec.proofs.WordLaws.{over-append, over-map, over-next, take-splice}
use Rattle.lta_spec.proofs.TestLaws.{and_both, pass}
use Rattle.lta_spec.proofs.ShapeLaws.{shaped}
use Rattle.lta_spec.proofs.LayoutLaws.{All, Each, Long, all-get, all_append}
use Rattle.lta_spec.proofs.MemoryLaws.{UnitOk, run-law, run-width}
use Rattle.lta_spec.proofs.PageLaws.{Ledger, cell-size, loss-size, line-size}
use Rattle.lta_spec.proofs.PageLaws.{cell-columns, loss-column, number-columns, length-joined, part-joined}
use Rattle.lta_spec.proofs.PageLaws.{ledger-lines-count, ledger-lines-long, ledger-lines-show}
use Rattle.lta_spec.proofs.PageLaws.{ledger-line-at, none_within, within_more, within-added, losses-within}
use Rattle.lta_spec.proofs.PageLaws.{rows-within}
use Rattle.lta_spec.proofs.LedgerLaws.{counts-append}
use Rattle.lta_spec.proofs.SameDone.{ledger-same}
use Rattle.lta_spec.proofs.Follow.{Followed, verdicts, from_start, read_behind}

-- a number of a sum is the sum of the numbers
number-sum : (q : Number) (ks : List Counts) → number_of q (counts_sum ks) ≡ over_all (number_of q) ks
unfolding counts_sum
number-sum ticks [] = refl
number-sum edge [] = refl
number-sum centre [] = refl
number-sum ticks (k ∷ ks) = ap (λ r. k.ticks + r) (number-sum ticks ks)
number-sum edge (k ∷ ks) = ap (λ r. k.edge + r) (number-sum edge ks)
number-sum centre (k ∷ ks) = ap (λ r. k.centre + r) (number-sum centre ks)

column-room : (q : Number) → first_column q - 1 + 11 ≤ line_bytes
column-room ticks = omega arith
column-room edge = omega arith
column-room centre = omega arith

get_d_map : {A B : Type 0} (f : A → B) (l : List A) (j : ℕ) (d : A) (e : B) → j < length l
    → get_or (map f l) j e ≡ f (get_or l j d)
get_d_map f [] j d e h = absurd (not-suc-le-zero h)
get_d_map f (x ∷ l) zero d e h = refl
get_d_map f (x ∷ l) (suc j) d e h = get_d_map f l j d e (le_of_suc-le-suc h)

-- a sum over the lines above a line, where these are the numbers of a list
above-list : (f : ℕ → ℕ) (l : List ℕ) (j : ℕ) → ((i : ℕ) → i < j → f i ≡ get_or l i 0) → j ≤ length l
    → above f j ≡ over_all (λ x. x) (take j l)
above-list f l zero e h = refl
above-list f l (suc j) e h =
    ap₂ ◌+◌ (above-list f l j (λ i k. e i (omega arith)) (omega arith)) (e j (omega arith))
    ∙ sym (over-next (λ x. x) l j 0 h)

-- the page of numbers that fit
module _ (cells : List (List Counts)) (totals : Counts) (few : length cells ≤ 16) (fit : Ledger cells)
    (whole : Within page_limit totals) where
  abbrev lines : List (List ℕ)
  lines = ledger_lines 0 cells ++ totals_line totals ∷ []

  all-long : All (Long line_bytes) lines
  all-long =
      all_append (Long line_bytes) (ledger_lines 0 cells) _ (ledger-lines-long 0 cells (omega arith) fit)
      (line-size _ _ refl refl totals whole, tt)

  counted : length (ledger_lines 0 cells) ≡ loss_count * length cells
  counted = ledger-lines-count 0 cells fit

  how-many : length lines ≡ loss_count * length cells + 1
  how-many = length-append (ledger_lines 0 cells) (totals_line totals ∷ []) ∙ omega (arith, counted)

  pub page-size : length (page_of cells totals) ≡ page_length (length cells)
  unfolding page_of page_length
  page-size = length-joined line_bytes lines all-long ∙ ap (λ n. line_bytes * n) how-many

  -- columns of the page are columns of its lines
  in-line : (j a v : ℕ) → j < loss_count * length cells + 1 → a + v ≤ line_bytes
      → part (line_bytes * j + a) v (page_of cells totals) ≡ part a v (get_or lines j [])
  unfolding page_of
  in-line j a v h k = part-joined line_bytes lines all-long j (omega (arith, how-many)) a v k

  -- line 6c + i
  module _ (c i : ℕ) (z : Counts) (h : c < length cells) (k : i < loss_count) where
    abbrev here : Counts
    here = get_or (get_or cells c []) i z

    loss-line : get_or lines (loss_count * c + i) [] ≡ loss_line c i here
    loss-line =
        get_or-append (ledger_lines 0 cells) _ [] (loss_count * c + i) (omega (arith, counted))
        ∙ ledger-line-at 0 cells fit c i z h k
        ∙ ap (λ d. loss_line d i here) (omega arith)

    fits : Within page_limit here
    fits =
        let six = all-get (Each loss_count (Within page_limit)) cells [] fit c h in
        all-get (Within page_limit) (get_or cells c []) z six.1 i (omega (arith, six.0))

    -- some columns of it
    columns : (a v : ℕ) → a + v ≤ line_bytes
        → part (line_bytes * (loss_count * c + i) + a) v (page_of cells totals) ≡ part a v (loss_line c i here)
    columns a v room =
        in-line (loss_count * c + i) a v (omega arith) room ∙ ap (part a v) loss-line

    two : length (right_aligned 2 c) ≡ 2
    two = cell-size c i (omega arith) (omega arith)

    one : length (right_aligned 1 (suc i)) ≡ 1
    one = loss-size c i (omega arith) (omega arith)

    pub shows-cell : shown (page_of cells totals) (6 * c + i) 1 2 ≡ c
    shows-cell =
        ap read_number
        (columns 0 2 (omega arith) ∙ cell-columns _ _ two one here fits)
        ∙ read_right 2 c

    pub shows-loss : shown (page_of cells totals) (6 * c + i) 4 1 ≡ suc i
    shows-loss =
        ap read_number
        (columns 3 1 (omega arith) ∙ loss-column _ _ two one here fits)
        ∙ read_right 1 (suc i)

    pub shows-number : (q : Number) → number_shown (page_of cells totals) q (6 * c + i) ≡ number_of q here
    shows-number q =
        ap read_number (columns (first_column q - 1) 11 (column-room q))
        ∙ number-columns _ _ two one here fits q

  -- the last line
  last_line : get_or lines (loss_count * length cells) [] ≡ totals_line totals
  last_line = get_or_at (ledger_lines 0 cells) (totals_line totals) [] [] (loss_count * length cells) counted

  pub shows-total : (q : Number)
      → number_shown (page_of cells totals) q (6 * length cells) ≡ number_of q totals
  shows-total q =
      ap read_number
      (in-line (loss_count * length cells) (first_column q - 1) 11 (omega arith) (column-room q)
      ∙ ap (part (first_column q - 1) 11) last_line)
      ∙ number-columns _ _ refl refl totals whole q

  -- the sums of the lines
  pub shows-sum : (q : Number)
      → above (number_shown (page_of cells totals) q) (6 * length cells) ≡ number_of q (counts_sum (joined cells))
  shows-sum q =
      let f : List ℕ → ℕ = λ l. read_number (part (first_column q - 1) 11 l) in
      let l = map f (ledger_lines 0 cells) in
      let size : length l ≡ 6 * length cells = length-map (ledger_lines 0 cells) f ∙ counted in
      let read : (j : ℕ) → j < 6 * length cells → number_shown (page_of cells totals) q j ≡ get_or l j 0 =
      λ j h.
      ap read_number
      (in-line j (first_column q - 1) 11 (omega arith) (column-room q)
      ∙ ap (part (first_column q - 1) 11) (get_or-append (ledger_lines 0 cells) _ [] j (omega (arith, counted))))
      ∙ line-number f j (omega (arith, counted)) in
      above-list (number_shown (page_of cells totals) q) l (6 * length cells) read (omega (arith, size))
      ∙ ap (over_all (λ x. x)) (take_all (6 * length cells) l (omega (arith, size)))
      ∙ ap (over_all (λ x. x)) (ledger-lines-show q 0 cells (omega arith) fit)
      ∙ over-map (λ x. x) (number_of q) (joined cells)
      ∙ sym (number-sum q (joined cells))
    where
      line-number : (f : List ℕ → ℕ) (j : ℕ) → j < length (ledger_lines 0 cells)
          → f (get_or (ledger_lines 0 cells) j []) ≡ get_or (map f (ledger_lines 0 cells)) j 0
      line-number f j h = sym (get_d_map f (ledger_lines 0 cells) j [] 0 h)

-- the ledger of cells that passed their test, in a run that passed 1 and 2
pub ledger-fits : (n B : ℕ) (us : List E.Unit) → All (UnitOk n B) us → D.ledgers_sound us ≡ true
    → Ledger (map S.loss_counts us)
unfolding D.page_sound D.losses_ok
ledger-fits n B [] o ok = tt
ledger-fits n B (u ∷ us) o ok =
    let a = and_both (D.page_sound u.cell) _ ok in
    let rows = (and_both (every (row_ok run_limit) u.cell.losses) _ a.0).0 in (
      (length-map u.cell.losses row_counts ∙ o.0.losses.0, losses-within u.cell.losses rows),
      ledger-fits n B us o.1 a.1,
    )

pub ledger-within : (us : List E.Unit) → D.ledgers_sound us ≡ true
    → Within (length us * run_limit) (counts_sum (joined (map S.loss_counts us)))
unfolding D.page_sound D.losses_ok
ledger-within [] ok = none_within
ledger-within (u ∷ us) ok =
    let a = and_both (D.page_sound u.cell) _ ok in
    let b = and_both (every (row_ok run_limit) u.cell.losses) _ a.0 in
    let six = within_more _ run_limit _ (leb-true _ run_limit b.1) (rows-within u.cell.losses b.0) in
    subst (Within (length (u ∷ us) * run_limit)) (sym (counts-append (S.loss_counts u) (joined (map S.loss_counts us))))
    (within_more _ _ _ (omega arith) (within-added run_limit _ _ _ six (ledger-within us a.1)))

length-is : (cells : ℕ) → page_length cells ≡ 41 * (6 * cells + 1)
unfolding page_length
length-is cells = refl

-- what the tests of an accepted page showed
record Passed (sh : Shape) (mem out : List ℕ) : Type 0 where
  cells : sh.cells ≤ 16
  count : length ((run_layout sh).get mem).units ≡ sh.cells
  units : All (UnitOk sh.lags sh.bins) ((run_layout sh).get mem).units
  sound : D.ledgers_sound ((run_layout sh).get mem).units ≡ true
  room : page_length sh.cells ≤ length out

passed : (sh : Shape) (mem out : List ℕ) → S.verdict sh mem (page out) ≡ Ok tt → Passed sh mem out
unfolding S.verdict host_tests
passed sh mem out v =
    let r = (run_layout sh).get mem in
    let s = pass (shape_ok sh) _ _ v in
    let m = pass (eqb (length mem) (memory_words sh)) _ _ s.1 in
    let x = pass (leb r.t run_limit && D.ledgers_sound r.units) _ _ m.1 in
    let y = pass (leb (page_length sh.cells) (length out)) _ _ x.1 in
    let long : (run_layout sh).width ≤ length mem =
    omega (arith, run-width sh, eqb-true (length mem) (memory_words sh) m.0) in
    let o = (run-law sh).fits mem long in
    record {
      cells = (shaped sh s.0).cells;
      count = o.1.0.0;
      units = o.1.0.1;
      sound = (and_both (leb r.t run_limit) _ x.0).1;
      room = leb-true _ _ y.0;
    }

-- the page of an accepted call, and what it shows
module _ (sh : Shape) (mem out : List ℕ) (v : S.verdict sh mem (page out) ≡ Ok tt) where
  abbrev run : W.Run
  run = (run_layout sh).get mem

  abbrev ledger : List (List Counts)
  ledger = S.ledger_counts run

  p : Passed sh mem out
  p = passed sh mem out v

  size : length ledger ≡ sh.cells
  size = length-map run.units _ ∙ p.count

  few : length ledger ≤ 16
  few = omega (arith, size, p.cells)

  fit : Ledger ledger
  fit = ledger-fits sh.lags sh.bins run.units p.units p.sound

  whole : Within page_limit (counts_sum (joined ledger))
  whole =
      within_more _ page_limit _ (omega (arith, p.count, p.cells))
      (ledger-within run.units p.sound)

  abbrev text : List ℕ
  text = page_of ledger (counts_sum (joined ledger))

  left_is : page_left sh mem out ≡ text
  unfolding S.step S.accepted S.loss_page
  left_is =
      rw v
      (take-splice out text (page_length sh.cells) (page-size ledger _ few fit whole ∙ ap page_length size) p.room)

  -- the last line
  total-shown : (q : Number) → number_shown text q (6 * sh.cells) ≡ number_of q (counts_sum (joined ledger))
  total-shown q =
      ap (λ n. number_shown text q (6 * n)) (sym size) ∙ shows-total ledger _ few fit whole q

  row_at : (c i : ℕ) → c < sh.cells → i < loss_count
      → get_or (get_or ledger c []) i (row_counts (empty_row sh.lags))
      ≡ row_counts (E.loss_at sh.lags i (S.cell_at sh c run).losses)
  row_at c i h k =
      let n = sh.lags in
      ap (λ l. get_or l i (row_counts (empty_row n)))
      (get_d_map S.loss_counts run.units c (E.fresh_unit n sh.bins) []
      (omega (arith, p.count)))
      ∙ ListN.get_or-map row_counts (S.cell_at sh c run).losses i (empty_row n)

  shows : Shows sh run (page_left sh mem out)
  shows =
      rw left_is
      (record {
        size = page-size ledger _ few fit whole ∙ ap page_length size ∙ length-is sh.cells;
        cells = λ c i h k. shows-cell ledger _ few fit whole c i zero-counts (omega (arith, size)) k;
        losses = λ c i h k. shows-loss ledger _ few fit whole c i zero-counts (omega (arith, size)) k;
        numbers = λ q c i h k.
            shows-number ledger _ few fit whole c i _ (omega (arith, size)) k q ∙ ap (number_of q) (row_at c i h k);
        totals = λ q.
            total-shown q
            ∙ sym (shows-sum ledger _ few fit whole q)
            ∙ ap (λ n. above (number_shown text q) (6 * n)) size;
      })
    where
      zero-counts : Counts
      zero-counts = row_counts []

-- behind a list of demand 3
module _ (sh : Shape) (ok : shape_ok sh ≡ true) (cs : List Listed) (stand : AllStand cs) (out : List ℕ)
    (room : 41 * (6 * sh.cells + 1) ≤ length out) where
  abbrev m : R.Run
  m = machine_after sh cs

  followed : Followed sh cs (W.start sh) (R.start sh)
  followed = from_start sh (shaped sh ok) cs stand

  machine-accepts : R.verdict sh m (memory_words sh) (page out) ≡ Ok tt
  unfolding R.verdict host_tests page_length
  machine-accepts = rw (ok, eq-eqb (memory_words sh) (memory_words sh) refl, le-leb _ (length out) room)

  accepts : S.verdict sh (mem_after sh cs) (page out) ≡ Ok tt
  accepts =
      ap (λ z. S.verdict sh z (page out)) followed.mem
      ∙ verdicts sh (shaped sh ok).some-lags followed.run m followed.same (page out)
      ∙ machine-accepts

  -- the totals: those of the lines, which are the machine's
  over-joined : (q : Number) (us : List R.Unit)
      → over_all (number_of q) (joined (map (R.loss_counts sh.lags) us))
      ≡ over_ledger sh.lags q (record { t = 0; served = none; units = us })
  over-joined q [] = refl
  over-joined q (u ∷ us) =
      over-append (number_of q) (R.loss_counts sh.lags u) _
      ∙ ap₂ ◌+◌ (over-map (number_of q) (set_counts sh.lags u.xs u.ys) u.cell.losses) (over-joined q us)

  ledger-of : S.ledger_counts followed.run ≡ map (R.loss_counts sh.lags) m.units
  ledger-of = ledger-same sh m.t followed.run.units m.units followed.same.units

  shows-ledger : (q : Number)
      → number_shown (page_left sh (mem_after sh cs) out) q (6 * sh.cells) ≡ over_ledger sh.lags q m
  shows-ledger q =
      let mem = mem_after sh cs in
      let read : (run_layout sh).get mem ≡ followed.run = read_behind sh cs (W.start sh) (R.start sh) followed in
      ap (λ z. number_shown z q (6 * sh.cells)) (left_is sh mem out accepts)
      ∙ total-shown sh mem out accepts q
      ∙ number-sum q (joined (S.ledger_counts ((run_layout sh).get mem)))
      ∙ ap (λ z. over_all (number_of q) (joined z)) (ap S.ledger_counts read ∙ ledger-of)
      ∙ over-joined q m.units

pub loss-pages : LossPages
loss-pages =
    record {
      shows = λ sh mem out v. shows sh mem out v;
      accepts = λ sh ok cs stand out room. accepts sh ok cs stand out room;
      ledger = λ sh ok cs stand out room q. shows-ledger sh ok cs stand out room q;
    }
