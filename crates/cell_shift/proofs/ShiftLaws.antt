-- The words after the registers moved are the cell after they moved.
use mathlib.Core.Path.{◌≡◌}
use mathlib.Core.List.{List, ◌∷◌}
use Prim.Native.Nat.{ℕ}
use native.Mathlib.Omega.{arith}
use lib.ListN.{length, take}
use lib.Seq.{length-take-le}
use Rattle.lta_spec.specs.Words.{part, splice}
use Rattle.lta_spec.specs.Size.{depth}
use Rattle.lta_spec.specs.Engine as E
use Rattle.lta_spec.specs.Engine.{Unit}
use Rattle.lta_spec.specs.Memory.{unit_layout}
use Rattle.cell_layout.specs.Lays.{Lays}
use Rattle.cell_layout.specs.Offsets.{xs_at, ys_at}
use Rattle.cell_layout.proofs.LaysLaws.{row_of, row-length, lays-row}
use Rattle.cell_layout.proofs.Fields as F
use Rattle.cell_shift.specs.Shifts.{moved}

-- a register as long as it was
length-shifted : (n entry : ℕ) (r : List ℕ) → length r ≡ depth n → length (E.shifted n entry r) ≡ depth n
length-shifted n entry r e = length-take-le (depth n) (entry ∷ r) (omega arith)

-- the words after a register of `depth n` entries at `at` moved
abbrev pub shifted_at : (l : List ℕ) (n at entry : ℕ) → List ℕ
shifted_at l n at entry = splice l at (take (depth n) (entry ∷ part at (depth n) l))

module _ (n bins : ℕ) {l : List ℕ} {u : Unit} (s : Lays (unit_layout n bins) l u) where
  -- the registers move, X and then Y
  pub lays-shift : (x y : ℕ)
      → Lays (unit_layout n bins) (shifted_at (shifted_at l n (xs_at n) x) n (ys_at n) y) (moved n x y u)
  lays-shift x y =
      let a : Lays (unit_layout n bins) (shifted_at l n (xs_at n) x)
      (record {
        cell = u.cell;
        counter = u.counter;
        picks = u.picks;
        xs = E.shifted n x u.xs;
        ys = u.ys;
      }) =
      rw (row_of s (F.xs n bins))
      (lays-row s (F.xs n bins) _ (length-shifted n x u.xs (row-length s (F.xs n bins)))) in
      rw (row_of a (F.ys n bins))
      (lays-row a (F.ys n bins) _ (length-shifted n y u.ys (row-length s (F.ys n bins))))
