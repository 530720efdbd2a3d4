-- What holds of a cell of the plain machine after any list of calls: limits, flags, labels, states and stamps.
use Prim.Native.Nat.{ℕ, zero, suc, ◌+◌, ◌*◌, ◌≤◌, ◌<◌}
use mathlib.Core.Path.{◌≡◌, refl, ◌∙◌}
use mathlib.Core.Bool.{Bool, true, false}
use mathlib.Core.List.{List, [], ◌∷◌, ◌++◌}
use native.Mathlib.Omega.{arith}
use lib.Dec.{eqb}
use lib.ListN.{length, get_or, set, length-append, length-set}
use borrow.Author.Tests.{ltb-true, ltb-false}
use Rattle.lta_spec.specs.Shape.{open_limit, bin_limit}
use Rattle.lta_spec.specs.Place.{Label, Bin, Cell, free, loss_count}
use Rattle.lta_spec.specs.Call.{last, idle, discard, bin_index}
use Rattle.lta_spec.specs.Machine as M
use Rattle.lta_spec.specs.Machine.{Ticks, stamped}

-- B is the data bins of a bank
pub record LabelSound (B : ℕ) (l : Label) : Type 0 where
  pub command : l.command ≤ last
  pub bank : l.bank < 2
  pub bin : l.bin < B

pub record BinSound (t : ℕ) (b : Bin Ticks) : Type 0 where
  pub few : length b.content.members ≤ bin_limit
  pub free : length b.content.members ≤ bin_limit * b.state
  pub state : b.state ≤ 2
  pub stamp : b.content.stamp ≤ t

pub record Flat (B t : ℕ) (c : Cell Ticks) : Type 0 where
  pub opened : length c.opened.members ≤ open_limit
  pub open_stamp : c.opened.stamp ≤ t
  pub held : length c.held.content.members ≤ open_limit * c.held.occupied
  pub occupied : c.held.occupied ≤ 1
  pub held_stamp : c.held.content.stamp ≤ t
  pub label : LabelSound B c.held.label
  pub bins : length c.bins ≡ 2 * B
  pub losses : length c.losses ≡ loss_count

pub record Sound (B t : ℕ) (c : Cell Ticks) : Type 0 where
  pub flat : Flat B t c
  pub bins : (k : ℕ) → BinSound t (M.bin_at k c)

lose-length : (i : ℕ) (s : Ticks) (ls : List Ticks) → length (M.lose i s ls) ≡ length ls
unfolding M.lose
lose-length i s ls = length-set ls i (get_or ls i [] ++ s)

get_set : {A : Type 0} (Q : A → Type 0) (d : A) (l : List A) (i : ℕ) (a : A) → ((k : ℕ) → Q (get_or l k d)) → Q a
    → (k : ℕ) → Q (get_or (set l i a) k d)
get_set Q d [] i a h q k = h k
get_set Q d (x ∷ xs) zero a h q zero = q
get_set Q d (x ∷ xs) zero a h q (suc k) = h (suc k)
get_set Q d (x ∷ xs) (suc i) a h q zero = h zero
get_set Q d (x ∷ xs) (suc i) a h q (suc k) = get_set Q d xs i a (λ j. h (suc j)) q k

module _ (B t : ℕ) (c : Cell Ticks) (s : Sound B t c) where
  later : (k : ℕ) → BinSound (suc t) (M.bin_at k c)
  later k =
      let b = s.bins k in record { few = b.few; free = b.free; state = b.state; stamp = omega arith }

  tick_by-sound : (b : Bool) → M.has_room c ≡ b → Sound B (suc t) (M.tick_by b t c)
  unfolding M.tick_by M.has_room M.bin_at
  tick_by-sound true e =
      let l : length c.opened.members < open_limit = ltb-true _ _ e in
      let f = s.flat in
      record { flat = omega (arith, length-append c.opened.members (t ∷ [])); bins = later }
  tick_by-sound false e =
      let f = s.flat in record { flat = omega (arith, lose-length 5 (t ∷ []) c.losses); bins = later }

  pub tick-sound : Sound B (suc t) (M.tick_cell t c)
  unfolding M.tick_cell
  tick-sound = tick_by-sound (M.has_room c) refl

  dump_by-sound : (n d o : Bool) (l : Label) → (n ≡ false → d ≡ false → LabelSound B l)
      → Sound B t (M.dump_by n d o l t c).cell
  unfolding M.dump_by M.lose_open M.hold_open M.bin_at
  dump_by-sound true d o l h = s
  dump_by-sound false true o l h =
      let f = s.flat in
      record { flat = omega (arith, lose-length 0 c.opened.members c.losses); bins = s.bins }
  dump_by-sound false false true l h =
      let f = s.flat in
      record { flat = omega (arith, lose-length 1 c.opened.members c.losses); bins = s.bins }
  dump_by-sound false false false l h =
      let f = s.flat in let ls = h refl refl in record { flat = omega arith; bins = s.bins }

  pub dump-sound : (l : Label) → (eqb l.command idle ≡ false → eqb l.command discard ≡ false → LabelSound B l)
      → Sound B t (M.dump_cell l t c).cell
  unfolding M.dump_cell
  dump-sound l h = dump_by-sound _ _ _ l h

  pub send-sound : Sound B t (M.send_open t c)
  unfolding M.send_open M.bin_at
  send-sound = let f = s.flat in record { flat = omega arith; bins = s.bins }

  release-sound : (k : ℕ) (b : Bin Ticks) (ls : List Ticks) → BinSound t b → length ls ≡ loss_count
      → Sound B t (M.release k b ls c)
  unfolding M.release M.bin_at
  release-sound k b ls bs e =
      let f = s.flat in
      record {
        flat = omega (arith, length-set c.bins k b);
        bins = get_set (BinSound t) M.free_bin c.bins k b s.bins bs;
      }

  state-sound : (q : Bool) → (1 ≤ M.state_after q) × (M.state_after q ≤ 2)
  unfolding M.state_after
  state-sound true = omega arith
  state-sound false = omega arith

  stamp-sound : (q : Bool) (a b : ℕ) → a ≤ t → b ≤ t → M.stamp_after q a b ≤ t
  unfolding M.stamp_after
  stamp-sound true a b p q = p
  stamp-sound false a b p q = q

  integrate_by-sound : (r p w : Bool) (k : ℕ)
      → (w ≡ false → length (M.bin_at k c).content.members + length c.held.content.members ≤ bin_limit)
      → Sound B t (M.integrate_by r p w k (M.bin_at k c) c).cell
  unfolding M.integrate_by
  integrate_by-sound true p w k h =
      release-sound k _ _ (s.bins k) (lose-length 2 c.held.content.members c.losses ∙ s.flat.losses)
  integrate_by-sound false true w k h =
      let f = s.flat in
      release-sound k _ _ (omega arith)
      (lose-length 3 (M.bin_at k c).content.members c.losses ∙ s.flat.losses)
  integrate_by-sound false false true k h =
      let b = s.bins k in
      let a = state-sound (eqb c.held.label.command last) in
      release-sound k _ _ (record { few = b.few; free = omega arith; state = a.1; stamp = b.stamp })
      (lose-length 4 c.held.content.members c.losses ∙ s.flat.losses)
  integrate_by-sound false false false k h =
      let b = s.bins k in
      let a = state-sound (eqb c.held.label.command last) in
      let n = h refl in
      let m = length-append (M.bin_at k c).content.members c.held.content.members in
      release-sound k _ _
      (record {
        few = omega arith;
        free = omega arith;
        state = a.1;
        stamp = stamp-sound (eqb (M.bin_at k c).state free) _ _ s.flat.held_stamp b.stamp;
      })
      s.flat.losses

  pub integrate-sound : Sound B t (M.integrate_cell B c).cell
  unfolding M.integrate_cell M.integrate_at
  integrate-sound =
      let k = bin_index B c.held.label.bank c.held.label.bin in
      integrate_by-sound _ _ _ k
      (λ e. ltb-false bin_limit (length (M.bin_at k c).content.members + length c.held.content.members) e)

  pub empty-sound : (k : ℕ) → Sound B t (M.empty_bin k c)
  unfolding M.empty_bin M.bin_at
  empty-sound k =
      let b = s.bins k in
      let f = s.flat in
      let e : Bin Ticks = record { state = free; content = stamped [] (M.bin_at k c).content.stamp } in
      record {
        flat = omega (arith, length-set c.bins k e);
        bins =
            get_set (BinSound t) M.free_bin c.bins k e s.bins
            (record { few = omega arith; free = omega arith; state = omega arith; stamp = b.stamp });
      }
