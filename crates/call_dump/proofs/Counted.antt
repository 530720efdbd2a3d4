-- A dump of a cell whose block counter has moved: its places are what they were.
use mathlib.Core.Path.{◌≡◌, sym, subst}
use mathlib.Core.Bool.{true}
use mathlib.Core.List.{List}
use Prim.Native.Nat.{ℕ, ◌+◌, ◌*◌}
use Rattle.lta_spec.specs.Engine.{Unit, dump_cell}
use Rattle.lta_spec.specs.Damage.{dump_sound}
use Rattle.lta_spec.specs.declared.Moved.{Moved}
use Rattle.cell_layout.specs.Cells.{Fits, unit_of, places_of, with_counter}
use Rattle.cell_layout.specs.Moves.{label_of, Leaves}
use Rattle.cell_block.specs.Counting.{Counts}
use Rattle.cell_block.proofs.CounterLaws.{unit-moved}
use Rattle.call_dump.specs.Dumping.{counted_by, Dumped}

module _ {n bins blocks command : ℕ} {l m : List ℕ} {r : ℕ} (f : Fits l n bins)
    (k : Counts n bins blocks command l m r) where
  pub still-sound : (t : ℕ) → dump_sound n bins t command (places_of n bins l) ≡ true
      → dump_sound n bins t command (places_of n bins m) ≡ true
  still-sound t e = subst (λ u. dump_sound n bins t command u.cell ≡ true) (sym (unit-moved f k)) e

  -- a dump of it
  pub dumped : (t bank phase : ℕ) (v : Moved) (ws : List ℕ)
      → Leaves n bins (unit_of n bins m)
      (dump_cell n (label_of command bank (phase * blocks + r)) t (places_of n bins m)) v ws
      → Dumped n bins blocks t command bank phase (unit_of n bins l) v ws
  dumped t bank phase v ws e =
      let by : Unit → ℕ → Type 0 = λ u o.
      Leaves n bins u (dump_cell n (label_of command bank (phase * blocks + o)) t u.cell) v ws in
      subst (by (with_counter (unit_of n bins l) (counted_by blocks command (unit_of n bins l)))) k.offset
      (subst (λ u. by u r) (unit-moved f k) e)
