-- The tests of an integration, in their order.
use mathlib.Core.Path.{◌≡◌, refl, sym}
use mathlib.Core.Bool.{Bool, true, false, ◌&&◌}
use Prim.Native.Nat.{ℕ}
use lib.Dec.{eqb}
use borrow.Author.Tests.{eq-eqb, ne_eqb}
use Rattle.lta_spec.specs.Place.{Cell, full, replaced, too_wide, ready}
use Rattle.lta_spec.specs.Row.{ticks_of}
use Rattle.lta_spec.specs.Engine.{Row, bin_at, is_replacing, is_too_wide, held_bin}
use Rattle.lta_spec.specs.Damage as D
use Rattle.cell_accum_tests.specs.Ways.{bin_holds}

-- room in the loss that an integration into bin k adds to
module _ (n k : ℕ) (c : Cell Row) where
  holds_by : (r p w : Bool) → eqb (bin_at n k c).state ready ≡ r → is_replacing n (bin_at n k c) c ≡ p
      → is_too_wide n (bin_at n k c) c ≡ w → D.integrate_holds n r p w (bin_at n k c) c ≡ bin_holds n k c
  holds_by r p w a b d = sym (rw (a, b, d))

  pub holds-full : (bin_at n k c).state ≡ ready
      → D.loss_holds n full (ticks_of c.held.content.members) c ≡ bin_holds n k c
  unfolding D.integrate_holds
  holds-full a = holds_by true _ _ (eq-eqb _ ready a) refl refl

  module _ (a : (bin_at n k c).state ≡ ready → ⊥) where
    pub holds-replaced : is_replacing n (bin_at n k c) c ≡ true
        → D.loss_holds n replaced (ticks_of (bin_at n k c).content.members) c ≡ bin_holds n k c
    unfolding D.integrate_holds
    holds-replaced b = holds_by false true _ (ne_eqb _ ready a) b refl

    module _ (b : is_replacing n (bin_at n k c) c ≡ false) where
      pub holds-wide : is_too_wide n (bin_at n k c) c ≡ true
          → D.loss_holds n too_wide (ticks_of c.held.content.members) c ≡ bin_holds n k c
      unfolding D.integrate_holds
      holds-wide d = holds_by false false true (ne_eqb _ ready a) b d

      pub holds-joins : is_too_wide n (bin_at n k c) c ≡ false → true ≡ bin_holds n k c
      unfolding D.integrate_holds
      holds-joins d = holds_by false false false (ne_eqb _ ready a) b d

-- the tests of an integration, in their order
module _ (n bins t : ℕ) (c : Cell Row) where
  pub parts-bad : D.held_ok t c.held && D.losses_ok c.losses ≡ false → false ≡ D.integrate_sound n bins t c
  unfolding D.integrate_sound
  parts-bad e = sym (rw e)

  module _ (ok : D.held_ok t c.held && D.losses_ok c.losses ≡ true) where
    pub held-free : (c.held.occupied ≡ 1 → ⊥) → true ≡ D.integrate_sound n bins t c
    unfolding D.integrate_sound
    held-free o = sym (rw (ok, ne_eqb c.held.occupied 1 o))

    module _ (o : c.held.occupied ≡ 1) where
      pub label-bad : D.label_ok bins c.held.label ≡ false → false ≡ D.integrate_sound n bins t c
      unfolding D.integrate_sound
      label-bad e = sym (rw (ok, eq-eqb c.held.occupied 1 o, e))

      module _ (e : D.label_ok bins c.held.label ≡ true) (k : ℕ) (q : k ≡ held_bin n bins c) where
        pub bin-bad : D.emit_sound n t k c ≡ false → false ≡ D.integrate_sound n bins t c
        unfolding D.integrate_sound D.integrate_bin_sound D.emit_sound
        bin-bad g = sym (rw (ok, eq-eqb c.held.occupied 1 o, e, ← q, g))

        pub bin-good : D.emit_sound n t k c ≡ true → bin_holds n k c ≡ D.integrate_sound n bins t c
        unfolding D.integrate_sound D.integrate_bin_sound D.emit_sound
        bin-good g = sym (rw (ok, eq-eqb c.held.occupied 1 o, e, ← q, g))
