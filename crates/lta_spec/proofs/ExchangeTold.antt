-- What is told of sets under exchanged samples: the frames and the pages of their numbers.
use Prim.Native.Nat.{ℕ, zero, suc, ◌+◌, ◌*◌, ◌/◌, ◌≤◌, ◌<◌}
use mathlib.Core.Path.{◌≡◌, refl, sym, ap, ap₂, ◌∙◌, subst}
use mathlib.Core.Bool.{false}
use mathlib.Core.List.{List, [], ◌∷◌, map}
use native.Mathlib.Omega.{arith}
use lib.ListN.{length, get_or, length-map}
use borrow.Author.Tests.{lt-ltb}
use Rattle.lta_spec.specs.Words.{splice, joined}
use Rattle.lta_spec.specs.Tick.{Sample, edge_lag}
use Rattle.lta_spec.specs.Bytes.{number_word}
use Rattle.lta_spec.specs.Page.{Within, page_limit, counts_sum, page_length}
use Rattle.lta_spec.specs.Frame.{lag_words, header}
use Rattle.lta_spec.specs.Call.{emitted_fields}
use Rattle.lta_spec.specs.Machine.{Ticks}
use Rattle.lta_spec.specs.Numbers.{Emitted, valid_count, lag_sums, set_counts, set_fields, set_frame}
use Rattle.lta_spec.specs.MachineRun as R
use Rattle.lta_spec.specs.Memory as W
use Rattle.lta_spec.specs.Exchange.{frame_carries, page_carries}
use Rattle.lta_spec.specs.TwoRuns.{Pairs}
use Rattle.lta_spec.specs.declared.Shape.{Shape}
use Rattle.lta_spec.specs.declared.Fields.{Fields}
use Rattle.lta_spec.proofs.WordLaws.{splice-alike}
use Rattle.lta_spec.proofs.RoundTrips.{length-header}
use Rattle.lta_spec.proofs.PageLaws.{Ledger, within_more}
use Rattle.lta_spec.proofs.LedgerLaws.{ledger-total}
use Rattle.lta_spec.proofs.SameRun.{SameRun, same_length}
use Rattle.lta_spec.proofs.SameVerdict.{ledgers-sound}
use Rattle.lta_spec.proofs.SameDone.{ledger-same}
use Rattle.lta_spec.proofs.Follow.{units-ok}
use Rattle.lta_spec.proofs.Frames.{lags-length, frame-length}
use Rattle.lta_spec.proofs.LossPages.{page-size, ledger-fits, ledger-within}
use Rattle.lta_spec.proofs.ExchangeLaws.{centre-count}
use Rattle.lta_spec.proofs.Placement.{other_unit, other_run}
use Rattle.lta_spec.proofs.FrameAlike.{byte-alike}
use Rattle.lta_spec.proofs.PageAlike.{CountsAlike, page-alike}

-- a cell and a run whose samples are exchanged
abbrev pub of_y : (xs ys : List Sample) → List Sample
of_y xs ys = ys

abbrev pub of_x : (xs ys : List Sample) → List Sample
of_x xs ys = xs

abbrev pub exchanged_unit : R.Unit → R.Unit
exchanged_unit = other_unit of_y of_x

abbrev pub exchanged_run : R.Run → R.Run
exchanged_run = other_run of_y of_x

-- frames: headers that differ in the edge count have equal words but W4
header-alike : (sh : Shape) (kind c bank bin stamp ticks edge edge' centre i : ℕ) → (i ≡ 4 → ⊥)
    → get_or (header (emitted_fields sh kind c bank bin stamp ticks edge centre)) i 0
    ≡ get_or (header (emitted_fields sh kind c bank bin stamp ticks edge' centre)) i 0
unfolding header emitted_fields
header-alike sh kind c bank bin stamp ticks edge edge' centre zero other = refl
header-alike sh kind c bank bin stamp ticks edge edge' centre (suc zero) other = refl
header-alike sh kind c bank bin stamp ticks edge edge' centre (suc (suc zero)) other = refl
header-alike sh kind c bank bin stamp ticks edge edge' centre (suc (suc (suc zero))) other = refl
header-alike sh kind c bank bin stamp ticks edge edge' centre (suc (suc (suc (suc zero)))) other = absurd (other refl)
header-alike sh kind c bank bin stamp ticks edge edge' centre (suc (suc (suc (suc (suc i))))) other = refl

module _ (sh : Shape) (even : sh.lags ≡ 2 * (sh.lags / 2)) (c : ℕ) (xs ys : List Sample) (e : Emitted) where
  abbrev set : Ticks
  set = e.content.members

  lags-alike : length (lag_words (lag_sums sh.lags xs ys set sh.lags 0))
      ≡ length (lag_words (lag_sums sh.lags ys xs set sh.lags 0))
  lags-alike =
      let n = sh.lags in
      length-map (lag_sums n xs ys set n 0) number_word
      ∙ lags-length n xs ys set n 0
      ∙ sym (length-map (lag_sums n ys xs set n 0) number_word ∙ lags-length n ys xs set n 0)

  words-alike : (i : ℕ) → (i ≡ 4 → ⊥)
      → get_or (header (set_fields sh c xs ys e)) i 0 ≡ get_or (header (set_fields sh c ys xs e)) i 0
  words-alike i other =
      let n = sh.lags in
      let sent : (edge centre : ℕ) → Fields =
      λ edge centre.
      emitted_fields sh e.kind c e.bank e.bin e.content.stamp (length set) edge centre in
      header-alike sh e.kind c e.bank e.bin e.content.stamp (length set) _ _ _ i other
      ∙ ap (λ m. get_or (header (sent (valid_count n ys xs set edge_lag) m)) i 0) (sym (centre-count n even xs ys set))

  -- a byte of the buffer that does not carry sums or edge counts
  pub frame-bytes : (out : List ℕ) (j : ℕ) → frame_carries e.kind sh.lags j ≡ false
      → get_or (splice out 0 (set_frame sh c xs ys e)) j 0 ≡ get_or (splice out 0 (set_frame sh c ys xs e)) j 0
  unfolding set_frame emitted_fields
  frame-bytes out j outside =
      let size = frame-length sh c xs ys e in
      splice-alike out _ _ (size ∙ sym (frame-length sh c ys xs e)) j
      (byte-alike _ _ _ _ heads lags-alike words-alike j (rw (length-header (set_fields sh c xs ys e), size) outside))
    where
      heads : length (header (set_fields sh c xs ys e)) ≡ length (header (set_fields sh c ys xs e))
      heads = length-header (set_fields sh c xs ys e) ∙ sym (length-header (set_fields sh c ys xs e))

-- pages: the numbers of a ledger
module _ (n : ℕ) (even : n ≡ 2 * (n / 2)) where
  set-counts : (xs ys : List Sample) (s : Ticks) → CountsAlike (set_counts n xs ys s) (set_counts n ys xs s)
  unfolding set_counts
  set-counts xs ys s = record { ticks = refl; centre = sym (centre-count n even xs ys s) }

  losses-alike : (xs ys : List Sample) (ls : List Ticks)
      → Pairs CountsAlike (map (set_counts n xs ys) ls) (map (set_counts n ys xs) ls)
  losses-alike xs ys [] = tt
  losses-alike xs ys (s ∷ ls) = (set-counts xs ys s, losses-alike xs ys ls)

  ledgers-alike : (us : List R.Unit)
      → Pairs (Pairs CountsAlike) (map (R.loss_counts n) us) (map (R.loss_counts n) (map exchanged_unit us))
  ledgers-alike [] = tt
  ledgers-alike (u ∷ us) = (losses-alike u.xs u.ys u.cell.losses, ledgers-alike us)

  totals-alike : (us : List R.Unit)
      → CountsAlike (counts_sum (map (R.lost_counts n) us)) (counts_sum (map (R.lost_counts n) (map exchanged_unit us)))
  unfolding counts_sum
  totals-alike [] = record { ticks = refl; centre = refl }
  totals-alike (u ∷ us) =
      let first = set-counts u.xs u.ys (joined u.cell.losses) in
      let rest = totals-alike us in
      record { ticks = ap₂ ◌+◌ first.ticks rest.ticks; centre = ap₂ ◌+◌ first.centre rest.centre }

-- those of a run that the engine follows fit the page
record Fits (sh : Shape) (m : R.Run) : Type 0 where
  cells : length (map (R.loss_counts sh.lags) m.units) ≡ sh.cells
  ledger : Ledger (map (R.loss_counts sh.lags) m.units)
  totals : Within page_limit (counts_sum (map (R.lost_counts sh.lags) m.units))

fits : (sh : Shape) → sh.cells ≤ 16 → (e : W.Run) (m : R.Run) → SameRun sh e m → Fits sh m
fits sh few e m s =
    let n = sh.lags in
    let sound = ledgers-sound sh m.t s.limit e.units m.units s.units in
    let same = ledger-same sh m.t e.units m.units s.units in
    record {
      cells = length-map m.units _ ∙ s.cells;
      ledger =
          subst Ledger same
          (ledger-fits n sh.bins e.units (units-ok sh m.t e.units m.units s.units) sound);
      totals =
          subst (Within page_limit) (ap (λ z. counts_sum (joined z)) same ∙ ledger-total n m.units)
          (within_more _ page_limit _
          (omega (arith, same_length sh m.t e.units m.units s.units, s.cells))
          (ledger-within e.units sound));
    }

module _ (sh : Shape) (even : sh.lags ≡ 2 * (sh.lags / 2)) (few : sh.cells ≤ 16) (m : R.Run) (e e' : W.Run)
    (s : SameRun sh e m) (s' : SameRun sh e' (exchanged_run m)) where
  page-length : (m : R.Run) → Fits sh m → length (R.loss_page sh m) ≡ page_length sh.cells
  unfolding R.loss_page
  page-length m f =
      page-size _ _ (omega (arith, f.cells)) f.ledger f.totals ∙ ap page_length f.cells

  pub page-bytes : (out : List ℕ) (j : ℕ) → page_carries sh.cells j ≡ false
      → get_or (splice out 0 (R.loss_page sh m)) j 0 ≡ get_or (splice out 0 (R.loss_page sh (exchanged_run m))) j 0
  unfolding R.loss_page
  page-bytes out j outside =
      let f = fits sh few e m s in
      let f' = fits sh few e' (exchanged_run m) s' in
      let size = page-length m f in
      splice-alike out _ _ (size ∙ sym (page-length (exchanged_run m) f')) j (λ h. in-page f f' (omega (arith, size)))
    where
      in-page : Fits sh m → Fits sh (exchanged_run m) → j < page_length sh.cells
          → get_or (R.loss_page sh m) j 0 ≡ get_or (R.loss_page sh (exchanged_run m)) j 0
      in-page f f' h =
          page-alike _ _ _ _ (omega (arith, f.cells)) f.ledger f'.ledger f.totals f'.totals
          (ledgers-alike sh.lags even m.units) (totals-alike sh.lags even m.units) j
          (rw (lt-ltb j (page_length sh.cells) h) at outside)
