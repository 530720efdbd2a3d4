-- The engine's cell and the machine's: what relates them, and that ticks, dumps, integrations and emissions keep it.
use Prim.Native.Nat.{ℕ, zero, suc, ◌*◌, ◌≤◌, ◌<◌}
use mathlib.Core.Path.{◌≡◌, refl, sym, ap, ap₂, ◌∙◌, subst, fun_ext}
use mathlib.Core.Bool.{true, false}
use mathlib.Core.List.{List, [], ◌∷◌, ◌++◌, map}
use native.Mathlib.Omega.{arith}
use lib.Dec.{eqb}
use lib.ListN.{length}
use lib.Seq.{append_snoc}
use borrow.Author.Tests.{eqb-false}
use Rattle.lta_spec.specs.Words.{over_all}
use Rattle.lta_spec.specs.Tick.{Sample, from_sample}
use Rattle.lta_spec.specs.Shape.{bin_limit}
use Rattle.lta_spec.specs.Place.{Label, Cell, ready}
use Rattle.lta_spec.specs.Frame.{accumulated, speed_frame, kind_ok}
use Rattle.lta_spec.specs.Call.{idle, discard, command_ok, bin_index}
use Rattle.lta_spec.specs.Row.{tick_row, from_word}
use Rattle.lta_spec.specs.Machine as M
use Rattle.lta_spec.specs.Machine.{Ticks, Latest}
use Rattle.lta_spec.specs.Machine.Latest.{was}
use Rattle.lta_spec.specs.Numbers.{Emitted}
use Rattle.lta_spec.specs.MachineRun as R
use Rattle.lta_spec.specs.Engine as E
use Rattle.lta_spec.specs.Engine.{Row}
use Rattle.lta_spec.specs.Demand.{places, ticks_below}
use Rattle.lta_spec.specs.declared.Shape.{Shape}
use Rattle.lta_spec.proofs.ShapeLaws.{index_below}
use Rattle.lta_spec.proofs.LayoutLaws.{All}
use Rattle.lta_spec.proofs.TickLaws.{stored_entry}
use Rattle.lta_spec.proofs.RowLaws.{numbers-one, window, window-shift, ago-window, row_same}
use Rattle.lta_spec.proofs.BlockLaws.{stored, CounterSound, counted_same, counted-sound}
use Rattle.lta_spec.proofs.PickLaws.{Among, next_of}
use Rattle.lta_spec.proofs.ReadyLaws.{tick-ready, dump-ready, send-ready, empty-ready, integrate-ready}
use Rattle.lta_spec.proofs.Carry.{row, map_cell, map_result, tick-carry, dump-carry, send-carry, integrate-carry}
use Rattle.lta_spec.proofs.Carry.{empty-carry}
use Rattle.lta_spec.proofs.Conserve.{tally, tally-ones, over_cell, over-places}
use Rattle.lta_spec.proofs.Conserve.{tick-total, dump-total, send-total, integrate-total, empty-total}
use Rattle.lta_spec.proofs.Sound.{Sound, LabelSound, tick-sound, dump-sound, send-sound, integrate-sound}
use Rattle.lta_spec.proofs.Sound.{empty-sound}

-- a frame that was sent: its kind, the bin that it names, and the limits that its set and stamp had
pub record Sent (B t : ℕ) (e : Emitted) : Type 0 where
  pub kind : kind_ok e.kind ≡ true
  pub bank : e.bank < 2
  pub bin : e.bin < B
  pub few : length e.content.members ≤ bin_limit
  pub stamp : e.content.stamp ≤ t

sent-later : (B t : ℕ) (es : List Emitted) → All (Sent B t) es → All (Sent B (suc t)) es
sent-later B t [] a = tt
sent-later B t (e ∷ es) a =
    let s = a.0 in
    let later : Sent B (suc t) e =
    record { kind = s.kind; bank = s.bank; bin = s.bin; few = s.few; stamp = omega arith } in
    (later, sent-later B t es a.1)

-- the machine's cell: as many samples as ticks, sound, and each tick once in its places
pub record Good (sh : Shape) (t : ℕ) (m : R.Unit) : Type 0 where
  pub taken_x : length m.xs ≡ t
  pub taken_y : length m.ys ≡ t
  pub sound : Sound sh.bins t m.cell
  pub counter : CounterSound sh.start sh.blocks m.counter
  pub picked : Among (2 * sh.bins) m.picked
  -- any quantity of the ticks: its sum over the places is its sum over the ticks taken
  pub once : (f : ℕ → ℕ) → over_all (tally f) (places m) ≡ tally f (ticks_below t)
  pub frames : All (Sent sh.bins t) m.frames

-- what the engine stores of a cell's picks
abbrev pub stored_picks : (B : ℕ) → Cell Ticks → Latest → E.Picks
stored_picks B c picked = record { ready_bins = M.ready_bins c; next = next_of (2 * B) picked }

-- the engine's cell has, in each place, the row of the machine's set, whatever samples come later
pub record Same (sh : Shape) (t : ℕ) (e : E.Unit) (m : R.Unit) : Type 0 where
  pub cell : (gx gy : List Sample) → e.cell ≡ map_cell (row sh.lags (gx ++ m.xs) (gy ++ m.ys)) m.cell
  pub counter : e.counter ≡ stored sh.start m.counter
  pub picks : e.picks ≡ stored_picks sh.bins m.cell m.picked
  pub xs : e.xs ≡ window sh.lags m.xs
  pub ys : e.ys ≡ window sh.lags m.ys
  pub good : Good sh t m

ones_below : (t : ℕ) → tally (λ i. 1) (ticks_below t) ≡ t
ones_below zero = refl
ones_below (suc t) = omega (arith, ones_below t)

-- the places of a cell have no more members than there were ticks
pub few : (sh : Shape) (t : ℕ) (m : R.Unit) → Good sh t m → over_cell length m.cell ≤ t
few sh t m g =
    let f : tally (λ i. 1) ≡ length = fun_ext tally-ones in
    let p : over_cell (tally (λ i. 1)) m.cell ≤ t =
    omega (arith, g.once (λ i. 1), over-places (tally (λ i. 1)) m, ones_below t) in
    subst (λ q. over_cell q m.cell ≤ t) f p

tally-none : (f : ℕ → ℕ) (s : Ticks) → length s ≡ 0 → tally f s ≡ 0
tally-none f [] e = refl
tally-none f (x ∷ s) e = absurd (omega arith)

-- an unoccupied Held is empty
held_none : (B t : ℕ) (c : Cell Ticks) → Sound B t c → (f : ℕ → ℕ) → eqb c.held.occupied 1 ≡ false
    → tally f c.held.content.members ≡ 0
held_none B t c s f e =
    let n : (c.held.occupied ≡ 1) → ⊥ = eqb-false c.held.occupied 1 e in
    let g = s.flat in
    tally-none f c.held.content.members (omega arith)

-- a tick
module _ (sh : Shape) (t : ℕ) (wide : 2 ≤ sh.lags) (x y : Sample) (e : E.Unit) (m : R.Unit) (s : Same sh t e m) where
  abbrev pub ticked : R.Unit
  ticked =
      record {
        cell = M.tick_cell t m.cell;
        counter = m.counter;
        picked = m.picked;
        frames = m.frames;
        xs = x ∷ m.xs;
        ys = y ∷ m.ys;
      }

  new-xs : E.shifted sh.lags (stored_entry x) e.xs ≡ window sh.lags (x ∷ m.xs)
  new-xs = rw s.xs (window-shift sh.lags x m.xs)

  new-ys : E.shifted sh.lags (stored_entry y) e.ys ≡ window sh.lags (y ∷ m.ys)
  new-ys = rw s.ys (window-shift sh.lags y m.ys)

  new_row : tick_row sh.lags (map from_word (E.shifted sh.lags (stored_entry x) e.xs))
      (map from_word (E.shifted sh.lags (stored_entry y) e.ys))
      ≡ tick_row sh.lags (map from_sample (x ∷ m.xs)) (map from_sample (y ∷ m.ys))
  new_row =
      rw (new-xs, new-ys)
      (row_same sh.lags _ _ _ _ (λ d h. ago-window sh.lags (x ∷ m.xs) d h)
      (λ d h. ago-window sh.lags (y ∷ m.ys) d h) wide)

  abbrev with_ready : (ready_bins : ℕ) → E.Picks
  with_ready k = record { ready_bins = k; next = next_of (2 * sh.bins) m.picked }

  pub tick-same : Same sh (suc t) (E.tick_unit sh.lags (stored_entry x) (stored_entry y) e) ticked
  unfolding E.tick_unit
  tick-same =
      record {
        cell = λ gx gy.
            let c : e.cell ≡ map_cell (row sh.lags (gx ++ x ∷ m.xs) (gy ++ y ∷ m.ys)) m.cell =
            rw (append_snoc gx x m.xs, append_snoc gy y m.ys) at (s.cell (gx ++ x ∷ []) (gy ++ y ∷ [])) in
            let g = s.good in
            let r = new_row ∙ sym (numbers-one sh.lags gx m.xs gy m.ys x y t g.taken_x g.taken_y) in
            ap₂ (λ q z. E.tick_by sh.lags (E.has_room sh.lags q) z q) c r
            ∙ sym (tick-carry sh.lags (gx ++ x ∷ m.xs) (gy ++ y ∷ m.ys) t m.cell);
        counter = s.counter;
        picks = s.picks ∙ ap with_ready (sym (tick-ready m.cell t));
        xs = new-xs;
        ys = new-ys;
        good =
            record {
              taken_x = ap suc s.good.taken_x;
              taken_y = ap suc s.good.taken_y;
              sound = tick-sound _ t m.cell s.good.sound;
              counter = s.good.counter;
              picked = s.good.picked;
              once = λ f.
                  omega (
                    arith,
                    over-places (tally f) ticked,
                    over-places (tally f) m,
                    tick-total f m.cell s.good.sound.flat.losses t,
                    s.good.once f,
                  );
              frames = sent-later _ t m.frames s.good.frames;
            };
      }

-- a call that changes places of a cell
module _ (sh : Shape) (t : ℕ) (e : E.Unit) (m : R.Unit) (s : Same sh t e m) where
  abbrev n : ℕ
  n = sh.lags

  abbrev B : ℕ
  B = sh.bins

  -- the units with other places, another block counter and another Ready number
  abbrev pub engine_with : Cell Row → E.Counter → E.Picks → E.Unit
  engine_with c k p = record { cell = c; counter = k; picks = p; xs = e.xs; ys = e.ys }

  abbrev pub machine_with : Cell Ticks → M.Counter → List Emitted → R.Unit
  machine_with c k fs = record { cell = c; counter = k; picked = m.picked; frames = fs; xs = m.xs; ys = m.ys }

  change : (ec : Cell Row) (mc : Cell Ticks) (ek : E.Counter) (mk : M.Counter) (ep : E.Picks) (fs : List Emitted)
      → ((gx gy : List Sample) → ec ≡ map_cell (row n (gx ++ m.xs) (gy ++ m.ys)) mc)
      → ek ≡ stored sh.start mk
      → ep ≡ stored_picks B mc m.picked
      → Sound B t mc
      → CounterSound sh.start sh.blocks mk
      → ((f : ℕ → ℕ) → over_all (tally f) (places (machine_with mc mk fs)) ≡ over_all (tally f) (places m))
      → All (Sent B t) fs
      → Same sh t (engine_with ec ek ep) (machine_with mc mk fs)
  change ec mc ek mk ep fs carried is numbered sound among kept sent =
      record {
        cell = carried;
        counter = is;
        picks = numbered;
        xs = s.xs;
        ys = s.ys;
        good =
            record {
              taken_x = s.good.taken_x;
              taken_y = s.good.taken_y;
              sound = sound;
              counter = among;
              picked = s.good.picked;
              once = λ f. kept f ∙ s.good.once f;
              frames = sent;
            };
      }

  -- the Ready number of a call that leaves the bins
  unready : (c : Cell Ticks) → M.ready_bins c ≡ M.ready_bins m.cell → e.picks ≡ stored_picks B c m.picked
  unready c same = s.picks ∙ ap (λ k. record { ready_bins = k; next = next_of (2 * B) m.picked }) (sym same)

  -- the block counter of a dump
  pub counter-same : (command : ℕ)
      → E.counted sh.blocks command e.counter
      ≡ stored sh.start (M.counted sh.start sh.blocks (M.counts_as command) m.counter)
  counter-same command =
      rw s.counter (sym (counted_same sh.start sh.blocks m.counter s.good.counter command))

  -- the machine's counter behind a dump
  abbrev moved : (command : ℕ) → M.Counter
  moved command = M.counted sh.start sh.blocks (M.counts_as command) m.counter

  pub dump-same : (l : Label) (command : ℕ) → command_ok command ≡ true
      → (eqb l.command idle ≡ false → eqb l.command discard ≡ false → LabelSound B l)
      → Same sh t
      (engine_with (E.dump_cell n l t e.cell).cell (E.counted sh.blocks command e.counter) e.picks)
      (machine_with (M.dump_cell l t m.cell).cell (moved command) m.frames)
  unfolding map_result
  dump-same l command ok h =
      change _ _ _ (moved command) _ m.frames
      (λ gx gy.
      ap (λ c. (E.dump_cell n l t c).cell) (s.cell gx gy)
      ∙ sym (ap (λ r. r.cell) (dump-carry n (gx ++ m.xs) (gy ++ m.ys) l t m.cell)))
      (counter-same command)
      (unready _ (dump-ready m.cell l t))
      (dump-sound B t m.cell s.good.sound l h)
      (counted-sound sh.start sh.blocks m.counter s.good.counter command ok)
      (λ f.
      omega (
        arith,
        over-places (tally f) (machine_with (M.dump_cell l t m.cell).cell (moved command) m.frames),
        over-places (tally f) m,
        dump-total f m.cell s.good.sound.flat.losses l t (held_none B t m.cell s.good.sound f),
      ))
      s.good.frames

  pub dump-answer : (l : Label) → (E.dump_cell n l t e.cell).answer ≡ (M.dump_cell l t m.cell).answer
  unfolding map_result
  dump-answer l =
      ap (λ c. (E.dump_cell n l t c).answer) (s.cell [] [])
      ∙ sym (ap (λ r. r.answer) (dump-carry n m.xs m.ys l t m.cell))

  -- a speed dump
  pub send-same : (bank bin command : ℕ) → command_ok command ≡ true → bank < 2 → bin < B
      → Same sh t (engine_with (E.send_open n t e.cell) (E.counted sh.blocks command e.counter) e.picks)
      (machine_with (M.send_open t m.cell) (moved command)
      (record { kind = speed_frame; bank = bank; bin = bin; content = m.cell.opened } ∷ m.frames))
  send-same bank bin command ok hk hb =
      let sent : Emitted = record { kind = speed_frame; bank = bank; bin = bin; content = m.cell.opened } in
      let f = s.good.sound.flat in
      change _ _ _ (moved command) _ (sent ∷ m.frames)
      (λ gx gy. ap (E.send_open n t) (s.cell gx gy) ∙ sym (send-carry n (gx ++ m.xs) (gy ++ m.ys) t m.cell))
      (counter-same command)
      (unready _ (send-ready m.cell t))
      (send-sound B t m.cell s.good.sound)
      (counted-sound sh.start sh.blocks m.counter s.good.counter command ok)
      (λ f.
      omega (
        arith,
        over-places (tally f) (machine_with (M.send_open t m.cell) (moved command) (sent ∷ m.frames)),
        over-places (tally f) m,
        send-total f m.cell s.good.sound.flat.losses t,
      )) (
        record { kind = refl; bank = hk; bin = hb; few = omega (arith, f.opened); stamp = f.open_stamp },
        s.good.frames,
      )

  -- the bin that Held's label names
  held_below : bin_index B m.cell.held.label.bank m.cell.held.label.bin < length m.cell.bins
  held_below =
      let l = s.good.sound.flat.label in
      omega (arith, index_below B _ _ l.bank l.bin, s.good.sound.flat.bins)

  pub integrate-same :
      Same sh t
      (engine_with (E.integrate_cell n B e.cell).cell e.counter (E.raised n B e.cell e.picks))
      (machine_with (M.integrate_cell B m.cell).cell m.counter m.frames)
  unfolding map_result
  integrate-same =
      change _ _ _ _ _ m.frames
      (λ gx gy.
      ap (λ c. (E.integrate_cell n B c).cell) (s.cell gx gy)
      ∙ sym (ap (λ r. r.cell) (integrate-carry n (gx ++ m.xs) (gy ++ m.ys) B m.cell)))
      s.counter
      (ap₂ (E.raised n B) (s.cell [] []) s.picks ∙ integrate-ready m.cell n m.xs m.ys B _ held_below)
      (integrate-sound B t m.cell s.good.sound)
      s.good.counter
      (λ f.
      omega (
        arith,
        over-places (tally f) (machine_with (M.integrate_cell B m.cell).cell m.counter m.frames),
        over-places (tally f) m,
        integrate-total f m.cell s.good.sound.flat.losses B held_below,
      ))
      s.good.frames

  pub integrate-answer : (E.integrate_cell n B e.cell).answer ≡ (M.integrate_cell B m.cell).answer
  unfolding map_result
  integrate-answer =
      ap (λ c. (E.integrate_cell n B c).answer) (s.cell [] [])
      ∙ sym (ap (λ r. r.answer) (integrate-carry n m.xs m.ys B m.cell))

  pub empty-same : (bank bin : ℕ) → bank < 2 → bin < B → (M.bin_at (bin_index B bank bin) m.cell).state ≡ ready
      → let k = bin_index B bank bin in
      Same sh t (engine_with (E.empty_bin n k e.cell) e.counter (E.lowered e.picks))
      (machine_with (M.empty_bin k m.cell) m.counter
      (record { kind = accumulated; bank = bank; bin = bin; content = (M.bin_at k m.cell).content } ∷ m.frames))
  unfolding E.lowered
  empty-same bank bin hk hb is =
      let k = bin_index B bank bin in
      let below : k < length m.cell.bins =
      omega (arith, index_below B bank bin hk hb, s.good.sound.flat.bins) in
      let sent : Emitted =
      record { kind = accumulated; bank = bank; bin = bin; content = (M.bin_at k m.cell).content } in
      let b = s.good.sound.bins k in
      change _ _ _ _ _ (sent ∷ m.frames)
      (λ gx gy. ap (E.empty_bin n k) (s.cell gx gy) ∙ sym (empty-carry n (gx ++ m.xs) (gy ++ m.ys) k m.cell))
      s.counter
      (ap E.lowered s.picks
      ∙ ap (λ r. record { ready_bins = r; next = next_of (2 * B) m.picked }) (sym (empty-ready m.cell k below is)))
      (empty-sound B t m.cell s.good.sound k)
      s.good.counter
      (λ f.
      omega (
        arith,
        over-places (tally f) (machine_with (M.empty_bin k m.cell) m.counter (sent ∷ m.frames)),
        over-places (tally f) m,
        empty-total f m.cell s.good.sound.flat.losses k below,
      ))
      (record { kind = refl; bank = hk; bin = hb; few = b.few; stamp = b.stamp }, s.good.frames)

  -- the place of picks behind bin k
  pub pointed-same : (k : ℕ) → k < 2 * B
      → Same sh t
      (engine_with e.cell e.counter (record { ready_bins = e.picks.ready_bins; next = E.after (2 * B) k }))
      (record {
        cell = m.cell;
        counter = m.counter;
        picked = was k;
        frames = m.frames;
        xs = m.xs;
        ys = m.ys;
      })
  pointed-same k h =
      record {
        cell = s.cell;
        counter = s.counter;
        picks = ap (λ p. record { ready_bins = p.ready_bins; next = E.after (2 * B) k }) s.picks;
        xs = s.xs;
        ys = s.ys;
        good =
            record {
              taken_x = s.good.taken_x;
              taken_y = s.good.taken_y;
              sound = s.good.sound;
              counter = s.good.counter;
              picked = h;
              once = s.good.once;
              frames = s.good.frames;
            };
      }
