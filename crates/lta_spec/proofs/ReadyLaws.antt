-- The number of Ready bins of the machine's cell: what each call makes of it, and its limits by one bin.
use Prim.Native.Nat.{ℕ, ◌+◌, ◌*◌, ◌-◌, ◌≤◌, ◌<◌}
use mathlib.Core.Path.{◌≡◌, refl, sym, ap, ◌∙◌}
use mathlib.Core.Bool.{Bool, true, false, cond, not, ◌&&◌, ◌||◌}
use mathlib.Core.List.{List, [], ◌∷◌}
use native.Mathlib.Omega.{arith}
use lib.Dec.{leb, eqb}
use lib.ListN.{length, set, length-set}
use borrow.Author.Tests.{eqb-true, ne_eqb, le-leb}
use Rattle.lta_spec.specs.Words.{over_all, some}
use Rattle.lta_spec.specs.Tick.{Sample}
use Rattle.lta_spec.specs.Place.{Label, Bin, Cell, free, ready, full}
use Rattle.lta_spec.specs.Call.{save, last, bin_index}
use Rattle.lta_spec.specs.Machine as M
use Rattle.lta_spec.specs.Machine.{Ticks, stamped}
use Rattle.lta_spec.specs.Engine as E
use Rattle.lta_spec.specs.Damage as D
use Rattle.lta_spec.proofs.TestLaws.{bit-small, and_both}
use Rattle.lta_spec.proofs.WordLaws.{over-at, over-set, over-map}
use Rattle.lta_spec.proofs.Carry.{row, map_bin, map_cell, bin-carry}

-- 1 for a Ready bin
abbrev pub flag : (state : ℕ) → ℕ
flag state = cond (eqb state ready) 1 0

-- one bin set anew
ready-set : (c : Cell Ticks) (k : ℕ) (b : Bin Ticks) → k < length c.bins
    → over_all (λ b. flag b.state) (set c.bins k b) + flag (M.bin_at k c).state ≡ M.ready_bins c + flag b.state
unfolding M.ready_bins M.bin_at
ready-set c k b h = over-set (λ b. flag b.state) M.free_bin c.bins k b h

module _ (c : Cell Ticks) where
  -- ticks and dumps leave the bins
  pub tick-bins : (room : Bool) (t : ℕ) → (M.tick_by room t c).bins ≡ c.bins
  unfolding M.tick_by
  tick-bins true t = refl
  tick-bins false t = refl

  pub tick-ready : (t : ℕ) → M.ready_bins (M.tick_cell t c) ≡ M.ready_bins c
  unfolding M.tick_cell M.ready_bins
  tick-ready t = ap (over_all (λ b. flag b.state)) (tick-bins (M.has_room c) t)

  pub dump-bins : (n d o : Bool) (l : Label) (t : ℕ) → (M.dump_by n d o l t c).cell.bins ≡ c.bins
  unfolding M.dump_by M.lose_open M.hold_open
  dump-bins true d o l t = refl
  dump-bins false true o l t = refl
  dump-bins false false true l t = refl
  dump-bins false false false l t = refl

  pub dump-ready : (l : Label) (t : ℕ) → M.ready_bins (M.dump_cell l t c).cell ≡ M.ready_bins c
  unfolding M.dump_cell M.ready_bins
  dump-ready l t = ap (over_all (λ b. flag b.state)) (dump-bins _ _ _ l t)

  pub send-ready : (t : ℕ) → M.ready_bins (M.send_open t c) ≡ M.ready_bins c
  unfolding M.ready_bins M.send_open
  send-ready t = refl

  -- an emission of a Ready bin
  pub empty-ready : (k : ℕ) → k < length c.bins → (M.bin_at k c).state ≡ ready
      → M.ready_bins (M.empty_bin k c) ≡ M.ready_bins c - 1
  unfolding M.empty_bin M.ready_bins
  empty-ready k h e =
      let b : Bin Ticks = record { state = free; content = stamped [] (M.bin_at k c).content.stamp } in
      let was : flag (M.bin_at k c).state ≡ 1 = ap flag e in
      omega (arith, ready-set c k b h)

  -- an integration into bin k: 010 makes a bin Ready that is not
  abbrev more : (is_last is_ready : Bool) → ℕ
  more l r = cond (l && not r) 1 0

  module _ (k : ℕ) (h : k < length c.bins) where
    abbrev old : Bin Ticks
    old = M.bin_at k c

    release-ready : (b : Bin Ticks) (ls : List Ticks)
        → M.ready_bins (M.release k b ls c) + flag old.state ≡ M.ready_bins c + flag b.state
    unfolding M.release M.ready_bins
    release-ready b ls = ready-set c k b h

    same-ready : (ls : List Ticks) → M.ready_bins (M.release k old ls c) ≡ M.ready_bins c + 0
    same-ready ls = omega (arith, release-ready old ls)

    last-ready : (l : Bool) (b : Bin Ticks) (ls : List Ticks) → eqb old.state ready ≡ false
        → b.state ≡ M.state_after l
        → M.ready_bins (M.release k b ls c) ≡ M.ready_bins c + more l false
    unfolding M.state_after
    last-ready true b ls r e =
        let was : flag old.state ≡ 0 = rw r in
        let is : flag b.state ≡ 1 = rw e in
        omega (arith, release-ready b ls)
    last-ready false b ls r e =
        let was : flag old.state ≡ 0 = rw r in
        let is : flag b.state ≡ 0 = rw e in
        omega (arith, release-ready b ls)

    integrate_by-ready : (r p w l : Bool) → eqb old.state ready ≡ r → eqb c.held.label.command last ≡ l
        → (p ≡ true → l ≡ false)
        → M.ready_bins (M.integrate_by r p w k old c).cell ≡ M.ready_bins c + more l r
    unfolding M.integrate_by M.state_after
    integrate_by-ready true p w true r e s = same-ready (M.lose full c.held.content.members c.losses)
    integrate_by-ready true p w false r e s = same-ready (M.lose full c.held.content.members c.losses)
    integrate_by-ready false true w true r e s = let q = s refl in let z : ◌≡◌ {A = ℕ} 0 1 = cc in absurd (omega arith)
    integrate_by-ready false true w false r e s = last-ready false _ _ r refl
    integrate_by-ready false false true l r e s = last-ready l _ _ r (ap M.state_after e)
    integrate_by-ready false false false l r e s = last-ready l _ _ r (ap M.state_after e)

  -- 000 is not 010
  save-not-last : (command : ℕ) (x : Bool) → eqb command save && x ≡ true → eqb command last ≡ false
  save-not-last command x e =
      let zero_is = eqb-true command save (and_both (eqb command save) x e).0 in
      ne_eqb command last (λ two. omega arith)

  -- so the engine's number behind an integration is that of the machine's bins
  pub integrate-ready : (n : ℕ) (xs ys : List Sample) (B next : ℕ)
      → bin_index B c.held.label.bank c.held.label.bin < length c.bins
      → E.raised n B (map_cell (row n xs ys) c) (record { ready_bins = M.ready_bins c; next = next })
      ≡ record { ready_bins = M.ready_bins (M.integrate_cell B c).cell; next = next }
  unfolding E.raised M.integrate_cell M.integrate_at map_cell map_bin
  integrate-ready n xs ys B next h =
      let k = bin_index B c.held.label.bank c.held.label.bin in
      rw (
        bin-carry n xs ys k c,
        integrate_by-ready k h _ _ _ _ refl refl (save-not-last c.held.label.command _),
      )

  -- the limits of the number, by a bin
  pub some-ready : (k : ℕ) → (M.bin_at k c).state ≡ ready → 1 ≤ M.ready_bins c
  unfolding M.ready_bins M.bin_at
  some-ready k e =
      let is : flag (M.bin_at k c).state ≡ 1 = rw e in
      omega (arith, over-at (λ b. flag b.state) M.free_bin refl c.bins k)

  few-flags : (bs : List (Bin Ticks)) → over_all (λ b. flag b.state) bs ≤ length bs
  few-flags [] = omega arith
  few-flags (b ∷ bs) = omega (arith, few-flags bs, bit-small (eqb b.state ready))

  pub ready-most : M.ready_bins c ≤ length c.bins
  unfolding M.ready_bins
  ready-most = few-flags c.bins

  not-all : (k : ℕ) → k < length c.bins → eqb (M.bin_at k c).state ready ≡ false
      → M.ready_bins c < length c.bins
  not-all k h e =
      let b : Bin Ticks = record { state = ready; content = (M.bin_at k c).content } in
      let was : flag (M.bin_at k c).state ≡ 0 = rw e in
      omega (arith, ready-set c k b h, few-flags (set c.bins k b), length-set c.bins k b)

  pub number_fits_lem : (B k : ℕ) → length c.bins ≡ 2 * B → k < 2 * B
      → D.number_fits B (M.ready_bins c) (eqb (M.bin_at k c).state ready) ≡ true
  unfolding D.number_fits
  number_fits_lem B k long h =
      rw (le-leb (M.ready_bins c) (2 * B) (omega (arith, ready-most))) (by-test (eqb (M.bin_at k c).state ready) refl)
    where
      by-test : (b : Bool) → eqb (M.bin_at k c).state ready ≡ b
          → not (eqb (M.ready_bins c) (cond b 0 (2 * B))) ≡ true
      by-test true e =
          rw (ne_eqb (M.ready_bins c) 0 (λ z. omega (arith, some-ready k (eqb-true _ ready e))))
      by-test false e =
          rw (ne_eqb (M.ready_bins c) (2 * B) (λ z. omega (arith, not-all k (omega arith) e)))

  -- the bins of the engine's cell, counted
  pub count-carry : (n : ℕ) (xs ys : List Sample)
      → D.count_ready (map_cell (row n xs ys) c).bins ≡ M.ready_bins c
  unfolding map_cell map_bin M.ready_bins
  count-carry n xs ys = over-map (λ b. flag b.state) (map_bin (row n xs ys)) c.bins

-- some bin is Ready where the number is not 0
pub ready-some : {P : Type 0} (bs : List (Bin P))
    → some (λ b. eqb b.state ready) bs ≡ leb 1 (over_all (λ b. flag b.state) bs)
ready-some [] = refl
ready-some (b ∷ bs) = by-test (eqb b.state ready) (ready-some bs)
  where
    rest : ℕ
    rest = over_all (λ b. flag b.state) bs

    by-test : (x : Bool) → some (λ b. eqb b.state ready) bs ≡ leb 1 rest
        → x || some (λ b. eqb b.state ready) bs ≡ leb 1 (cond x 1 0 + rest)
    by-test true later = sym (le-leb 1 (1 + rest) (omega arith))
    by-test false later = let same : rest ≡ 0 + rest = omega arith in later ∙ ap (leb 1) same

pub some_is : (c : Cell Ticks) → some M.is_ready c.bins ≡ leb 1 (M.ready_bins c)
unfolding M.ready_bins
some_is c = ready-some c.bins
