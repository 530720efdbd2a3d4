-- A tick going through the cells: what it leaves before a cell, at it, and behind the last.
use mathlib.Core.Path.{◌≡◌, refl, sym, ap, ◌∙◌}
use mathlib.Core.Bool.{Bool, true, false, cond}
use mathlib.Core.List.{List, [], ◌∷◌}
use Prim.Native.Nat.{ℕ, zero, suc, ◌+◌, ◌*◌, ◌/◌, ◌%◌, ◌<◌, ◌≤◌}
use native.Mathlib.Nat.{not-suc-le-zero, le_of_suc-le-suc}
use native.Mathlib.Omega.{arith}
use lib.ListN.{length, get_or, set, take, drop}
use lib.Seq.{get_or-drop}
use Rattle.lta_spec.specs.Row.{entry_word, x_entry, y_entry}
use Rattle.lta_spec.specs.Engine.{Unit, has_room, tick_unit}
use Rattle.lta_spec.specs.Damage.{tick_sound}
use Rattle.lta_spec.specs.Memory.{Run, run_layout}
use Rattle.lta_spec.specs.Step.{unit_at, units_sound, tick_units, held_off}
use Rattle.lta_spec.specs.declared.Shape.{Shape}
use Rattle.lta_spec.proofs.TestLaws.{every-at}
use Rattle.lta_spec.proofs.MemoryLaws.{run-width}
use Rattle.cell_layout.specs.Lays.{Lays}
use Rattle.cell_layout.proofs.LaysLaws.{lays-to}
use Rattle.call_run.specs.Runs.{Hosted, run_of}
use Rattle.call_run.proofs.RunLaws.{length-is, units-length}
use Rattle.call_tick.specs.Cells.{ticked_to, Ticks, TickedAt}

-- cell c has not taken its samples yet
pub ticked-at : (n c : ℕ) (samples : List ℕ) (us : List Unit) (d : Unit)
    → get_or (ticked_to n c samples us) c d ≡ get_or us c d
ticked-at n zero samples us d = refl
ticked-at n (suc c) samples [] d = refl
ticked-at n (suc c) samples (u ∷ us) d = ticked-at n c (drop 3 samples) us d

-- the entries of its bytes
abbrev pub x_at : (samples : List ℕ) (c : ℕ) → ℕ
x_at samples c = entry_word (get_or samples (3 * c) 0) (get_or samples (3 * c + 2) 0 % 2)

abbrev pub y_at : (samples : List ℕ) (c : ℕ) → ℕ
y_at samples c = entry_word (get_or samples (3 * c + 1) 0) (get_or samples (3 * c + 2) 0 / 2 % 2)

byte_next : (samples : List ℕ) (i k : ℕ) → i ≡ 3 + k → get_or samples i 0 ≡ get_or (drop 3 samples) k 0
byte_next samples i k e = rw e (sym (get_or-drop 3 samples k 0))

-- it takes them
pub ticked-next : (n c : ℕ) (samples : List ℕ) (us : List Unit) (d : Unit) → c < length us
    → set (ticked_to n c samples us) c (tick_unit n (x_at samples c) (y_at samples c) (get_or us c d))
    ≡ ticked_to n (suc c) samples us
ticked-next n c samples [] d h = absurd (not-suc-le-zero h)
ticked-next n zero samples (u ∷ us) d h = refl
ticked-next n (suc c) samples (u ∷ us) d h =
    ap (λ (r : List Unit). tick_unit n (x_entry samples) (y_entry samples) u ∷ r)
    (rw (
      byte_next samples (3 * suc c) (3 * c) (omega arith),
      byte_next samples (3 * suc c + 1) (3 * c + 1) (omega arith),
      byte_next samples (3 * suc c + 2) (3 * c + 2) (omega arith),
    )
    (ticked-next n c (drop 3 samples) us d (le_of_suc-le-suc h)))

-- all have
pub ticked-all : (s : Shape) (samples : List ℕ) (us : List Unit)
    → ticked_to s.lags (length us) samples us ≡ tick_units s samples us
unfolding tick_units
ticked-all s samples [] = refl
ticked-all s samples (u ∷ us) =
    ap (λ (r : List Unit). tick_unit s.lags (x_entry samples) (y_entry samples) u ∷ r)
    (ticked-all s (drop 3 samples) us)

-- how many are held off
pub held_next : (s : Shape) (c : ℕ) (us : List Unit) (d : Unit) → c < length us
    → held_off s (take (suc c) us) ≡ held_off s (take c us) + cond (has_room s.lags (get_or us c d).cell) 0 1
unfolding held_off
held_next s c [] d h = absurd (not-suc-le-zero h)
held_next s zero (u ∷ us) d h = omega arith
held_next s (suc c) (u ∷ us) d h = omega (arith, held_next s c us d (le_of_suc-le-suc h))

pub one_at_most : {s : Shape} {c x y : ℕ} {r : Run} {held : ℕ} {vs : List ℕ} → TickedAt s c x y r held vs → held ≤ 1
one_at_most {s} {c} {x} {y} {r} q = rw q.held-off (by-room (has_room s.lags (unit_at s c r).cell))
  where
    by-room : (b : Bool) → cond b 0 1 ≤ 1
    by-room true = omega arith
    by-room false = omega arith

-- the run when the first c cells have taken their samples
abbrev pub run_to : Shape → (mem₀ samples : List ℕ) → (c : ℕ) → Run
run_to s mem₀ samples c =
    let r = run_of s mem₀ in record { t = r.t; next = r.next; units = ticked_to s.lags c samples r.units }

module _ (s : Shape) (mem₀ : List ℕ) (h : Hosted s mem₀) (samples : List ℕ) (c : ℕ) (mem : List ℕ)
    (l : Lays (run_layout s) mem (run_to s mem₀ samples c)) where
  pub size-kept : length mem ≡ length mem₀
  size-kept = l.size ∙ run-width s ∙ sym (length-is s mem₀ h)

  run_is : run_of s mem ≡ run_to s mem₀ samples c
  unfolding run_of
  run_is = l.is

  unit-is : unit_at s c (run_of s mem) ≡ unit_at s c (run_of s mem₀)
  unit-is = ap (unit_at s c) run_is ∙ ticked-at s.lags c samples (run_of s mem₀).units _

  module _ (k : c < s.cells) where
    inside : c < length (run_of s mem₀).units
    inside = omega (arith, units-length s mem₀ h)

    -- the next cell may tick
    pub may-tick : units_sound s (run_of s mem₀).t (run_of s mem₀).units ≡ true → Ticks s mem c
    may-tick e =
        let r = run_of s mem₀ in
        let t : (run_of s mem).t ≡ r.t = ap (λ (z : Run). z.t) run_is in
        record {
          cell = record { hosted = rw size-kept h; there = k };
          sound = rw (unit-is, t) (every-at (tick_sound s.lags r.t) r.units e c _ inside);
        }

    -- it does
    pub has-ticked : (held : ℕ) (vs : List ℕ)
        → TickedAt s c (x_at samples c) (y_at samples c) (run_of s mem) held vs
        → Lays (run_layout s) vs (run_to s mem₀ samples (suc c))
    has-ticked held vs q =
        let r = run_of s mem₀ in
        let next = ticked-next s.lags c samples r.units _ inside in
        lays-to q.words
        (rw (unit-is, run_is) (ap (λ (us : List Unit). record { t = r.t; next = r.next; units = us }) next))

    pub held_more : (held more x y : ℕ) (vs : List ℕ) → held ≡ held_off s (take c (run_of s mem₀).units)
        → TickedAt s c x y (run_of s mem) more vs → held + more ≡ held_off s (take (suc c) (run_of s mem₀).units)
    held_more held more x y vs e q =
        let o = q.held-off ∙ ap (λ (u : Unit). cond (has_room s.lags u.cell) 0 1) unit-is in
        rw (e, o) (sym (held_next s c (run_of s mem₀).units _ inside))
