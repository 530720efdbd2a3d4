-- Demand 3 of document 01: one theorem for every list of calls after a setup.
use Prim.Native.Nat.{ℕ, zero, suc, ◌*◌, ◌<◌}
use mathlib.Core.Path.{◌≡◌, refl, sym, ap, ap₂, ◌∙◌, subst}
use mathlib.Core.Bool.{true}
use mathlib.Core.List.{List, [], ◌∷◌, ◌++◌, map, append-nil, append_assoc, map-append, map-map, Memᴰ}
use native.Mathlib.Omega.{arith}
use lib.ListN.{length, get_or, replicate}
use Rattle.lta_spec.specs.Shape.{shape_ok}
use Rattle.lta_spec.specs.Tick.{Sample}
use Rattle.lta_spec.specs.Place.{Stamped, Cell}
use Rattle.lta_spec.specs.Call.{Call}
use Rattle.lta_spec.specs.Machine as M
use Rattle.lta_spec.specs.Machine.{Ticks}
use Rattle.lta_spec.specs.Numbers.{set_sums, set_frame}
use Rattle.lta_spec.specs.MachineRun as R
use Rattle.lta_spec.specs.Row.{row_sums}
use Rattle.lta_spec.specs.Engine as E
use Rattle.lta_spec.specs.Memory as W
use Rattle.lta_spec.specs.Memory.{run_layout}
use Rattle.lta_spec.specs.Step as S
use Rattle.lta_spec.specs.Demand.{Listed, AllStand, AllKeep, machine_after, mem_after, frames_returned}
use Rattle.lta_spec.specs.Demand.{machine_returns, engine_returns, fresh_mem}
use Rattle.lta_spec.specs.Demand.{Equal, EqualStamped, EqualCell, Demand3, is_tick, places, ticks_below}
use Rattle.lta_spec.specs.Demand.{AllRead, rows, read_sums, AddUp}
use Rattle.lta_spec.specs.Demand.Listed.{on_run, on_other}
use Rattle.lta_spec.specs.declared.Shape.{Shape}
use Rattle.lta_spec.specs.declared.Sums.{Sums}
use Rattle.lta_spec.proofs.ShapeLaws.{shaped}
use Rattle.lta_spec.proofs.RowLaws.{numbers, numbers-size}
use Rattle.lta_spec.proofs.SetLaws.{stored-in_phase, stored-quadrature, stored-edge, stored-centre, sums-read}
use Rattle.lta_spec.proofs.BlockLaws.{last_stored}
use Rattle.lta_spec.proofs.PickLaws.{place_after_lem}
use Rattle.lta_spec.proofs.Carry.{row, map_stamped, map_bin, map_cell, bin-carry, loss-carry}
use Rattle.lta_spec.proofs.SameCell.{Same}
use Rattle.lta_spec.proofs.SameRun.{unit-same}
use Rattle.lta_spec.proofs.Follow.{start-same, sized, turned, from_start, read_behind}
use Rattle.lta_spec.proofs.Clean.{never-eleven}
use Rattle.lta_spec.proofs.Totals.{none_below, one_below, sums-add-up, sets-add-up}
use Rattle.lta_spec.proofs.Frames.{list-framed}
use Rattle.lta_spec.proofs.ReadBack.{all_back, sums-back}

-- a row is its set's numbers
equal : (n : ℕ) (xs ys : List Sample) (s : Ticks) → Equal n xs ys (numbers n xs ys s) s
equal n xs ys s =
    record {
      ticks = numbers-size n xs ys s;
      edge = stored-edge n xs ys s;
      centre = stored-centre n xs ys s;
      in_phase = stored-in_phase n xs ys s;
      quadrature = stored-quadrature n xs ys s;
    }

equal-stamped : (n : ℕ) (xs ys : List Sample) (p : Stamped Ticks) → EqualStamped n xs ys (map_stamped (row n xs ys) p) p
unfolding map_stamped
equal-stamped n xs ys p = record { numbers = equal n xs ys p.members; stamp = refl }

-- the places of a related cell
equal-cell : (sh : Shape) (t : ℕ) (e : E.Unit) (m : R.Unit) → Same sh t e m
    → EqualCell sh.lags sh.bins sh.start e m
unfolding map_cell map_bin
equal-cell sh t e m s =
    let n = sh.lags in
    let c = s.cell [] [] in
    let xs = m.xs in
    let ys = m.ys in
    let bin : (k : ℕ) → E.bin_at n k e.cell ≡ map_bin (row n xs ys) (M.bin_at k m.cell) =
    λ k. ap (E.bin_at n k) c ∙ bin-carry n xs ys k m.cell in
    record {
      opened = rw c (equal-stamped n xs ys m.cell.opened);
      held = rw c (equal-stamped n xs ys m.cell.held.content);
      occupied = ap (λ z. z.held.occupied) c;
      label = ap (λ z. z.held.label) c;
      bins = λ k. rw (bin k) (equal-stamped n xs ys (M.bin_at k m.cell).content);
      states = λ k. ap (λ z. z.state) (bin k);
      losses = λ i. rw (c, loss-carry n xs ys i m.cell) (equal n xs ys (get_or m.cell.losses i []));
      block = rw s.counter (omega (arith, s.good.counter.low));
      last_command = rw s.counter (last_stored m.counter.last_command);
      ready_bins = ap (λ p. p.ready_bins) s.picks;
      next_bin = ap (λ p. p.next) s.picks ∙ place_after_lem (2 * sh.bins) m.picked s.good.picked;
    }

-- the numbers of a related cell's rows and of its frames are those of the sets of its places
module _ (n : ℕ) (xs ys : List Sample) (k : ℕ) (h : k < n) where
  abbrev sums_of : Ticks → Sums
  sums_of s = set_sums n xs ys s k

  -- the sets of a cell's places but its frames
  abbrev kept : Cell Ticks → List Ticks
  kept c = c.opened.members ∷ c.held.content.members ∷ map (λ b. b.content.members) c.bins ++ c.losses

  rows-carry : (c : Cell Ticks) → rows (map_cell (row n xs ys) c) ≡ map (row n xs ys) (kept c)
  unfolding map_cell map_bin map_stamped
  rows-carry c =
      let sets = map (λ b. b.content.members) c.bins in
      rw (
        map-append (row n xs ys) sets c.losses,
        map-map (λ b. b.content.members) (map_bin (row n xs ys)) c.bins,
        map-map (row n xs ys) (λ b. b.content.members) c.bins,
      )

  rows-read : (ls : List Ticks) → map (row_sums k) (map (row n xs ys) ls) ≡ map sums_of ls
  rows-read [] = refl
  rows-read (s ∷ ls) = ap₂ (λ x r. x ∷ r) (sums-read n xs ys s k h) (rows-read ls)

  places-read : (u : R.Unit) (back : List Sums) → back ≡ map (λ e. sums_of e.content.members) u.frames
      → map (row_sums k) (rows (map_cell (row n xs ys) u.cell)) ++ back ≡ map sums_of (places u)
  places-read u back e =
      let c = u.cell in
      let frames = map (λ e. e.content.members) u.frames in
      let sets = map (λ b. b.content.members) c.bins in
      ap₂ ◌++◌ (ap (map (row_sums k)) (rows-carry c) ∙ rows-read (kept c))
      (e ∙ sym (map-map sums_of (λ e. e.content.members) u.frames))
      ∙ sym (map-append sums_of (kept c) frames)
      ∙ ap (λ l. map sums_of (c.opened.members ∷ c.held.content.members ∷ l)) (append_assoc sets c.losses frames)

-- other work memory is left alone
all_keep : (cs : List Listed) → AllStand cs → AllKeep cs
all_keep [] a = tt
all_keep (on_run call ∷ cs) a = (tt, all_keep cs a.1)
all_keep (on_other shape call given ∷ cs) a =
    (ap (λ s. s.mem) (turned shape call given (R.start shape) a.0).engine, all_keep cs a.1)

-- a fresh cell has sent no frame
none-sent : (sh : Shape) (k c : ℕ) → (get_or (replicate k (R.fresh_unit sh)) c (R.fresh_unit sh)).frames ≡ []
none-sent sh zero c = refl
none-sent sh (suc k) zero = refl
none-sent sh (suc k) (suc c) = none-sent sh k c

-- calls on the run may stand in a list, each after any others
pub on-run : {A : Type 0} (call : A → Call) (xs : List A) → AllStand (map (λ x. on_run (call x)) xs)
on-run call [] = tt
on-run call (x ∷ xs) = (tt, on-run call xs)

pub demand3 : (sh : Shape) → shape_ok sh ≡ true → (cs : List Listed) → AllStand cs → Demand3 sh cs
demand3 sh ok cs stand =
    let k = shaped sh ok in
    let f = from_start sh k cs stand in
    let m = machine_after sh cs in
    let read : (run_layout sh).get (mem_after sh cs) ≡ f.run = read_behind sh cs (W.start sh) (R.start sh) f in
    let at : (c : ℕ) → c < sh.cells → Same sh m.t (S.unit_at sh c f.run) (R.unit_at sh c m) =
    unit-same sh f.run m f.same in
    let returned : (c : ℕ) → List (List ℕ) = λ c. frames_returned c cs (engine_returns sh cs (fresh_mem sh)) in
    let sent : (c : ℕ) → c < sh.cells → returned c
    ≡ map (set_frame sh c (R.unit_at sh c m).xs (R.unit_at sh c m).ys) (R.unit_at sh c m).frames =
    λ c h.
    ap (frames_returned c cs) f.tells
    ∙ sym (append-nil (frames_returned c cs (machine_returns sh cs (R.start sh))))
    ∙ list-framed sh k cs stand (W.start sh) (R.start sh) (start-same sh k) c h []
    (λ gx gy. rw (none-sent sh sh.cells c)) [] [] in
    let back : (c : ℕ) → (h : c < sh.cells)
    → AllRead sh c (R.unit_at sh c m).xs (R.unit_at sh c m).ys (returned c) (R.unit_at sh c m).frames =
    λ c h.
    let u = R.unit_at sh c m in
    subst (λ fs. AllRead sh c u.xs u.ys fs u.frames) (sym (sent c h))
    (all_back sh ok c h m.t f.same.limit u.xs u.ys u.frames (at c h).good.frames) in
    record {
      tells = f.tells;
      clean = λ t i e. never-eleven sh cs (R.start sh) t (subst (Memᴰ t) f.tells i) e;
      others = all_keep cs stand;
      words = ap length f.mem ∙ sized sh f.run m f.same;
      time = ap (λ r. r.t) read ∙ f.same.t;
      next_cell =
          ap (λ r. r.next) read ∙ f.same.next
          ∙ place_after_lem sh.cells m.served f.same.served;
      cells = λ c h. subst (λ r. EqualCell sh.lags sh.bins sh.start (S.unit_at sh c r) (R.unit_at sh c m))
          (sym read) (equal-cell sh m.t _ _ (at c h));
      frames = sent;
      once = λ c i h l. (at c h).good.once (is_tick i) ∙ one_below i m.t l;
      never = λ c i h l. (at c h).good.once (is_tick i) ∙ none_below i m.t l;
      adds-up = λ c h g. sums-add-up g (places (R.unit_at sh c m)) (ticks_below m.t) (at c h).good.once;
      read_back = back;
      totals = λ c k h l.
          let u = R.unit_at sh c m in
          let n = sh.lags in
          let parts =
          ap (λ z. map (row_sums k) (rows z) ++ map (read_sums n k) (returned c))
          (ap (S.cell_at sh c) read ∙ (at c h).cell [] [])
          ∙ places-read n u.xs u.ys k l u _
          (sums-back sh c u.xs u.ys k l (returned c) u.frames (back c h)) in
          subst (λ p. AddUp p (set_sums n u.xs u.ys (ticks_below m.t) k)) (sym parts)
          (sets-add-up n u.xs u.ys k (places u) (ticks_below m.t) (at c h).good.once);
    }
