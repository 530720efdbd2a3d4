-- The tests of a dump, in their order.
use mathlib.Core.Path.{◌≡◌, refl, sym}
use mathlib.Core.Bool.{Bool, true, false}
use Prim.Native.Nat.{ℕ}
use lib.Dec.{eqb}
use borrow.Author.Tests.{eq-eqb, ne_eqb}
use Rattle.lta_spec.specs.Place.{Cell, ordered, overrun}
use Rattle.lta_spec.specs.Call.{discard}
use Rattle.lta_spec.specs.Row.{ticks_of}
use Rattle.lta_spec.specs.Engine.{Row}
use Rattle.lta_spec.specs.Damage as D

-- the tests of a dump, in their order
module _ (n bins t command : ℕ) (c : Cell Row) where
  pub unsound : D.dump_parts bins t c ≡ false → false ≡ D.dump_sound n bins t command c
  unfolding D.dump_sound
  unsound e = sym (rw e)

  module _ (ok : D.dump_parts bins t c ≡ true) where
    by : (a b o : Bool) → D.loses_none command ≡ a → eqb command discard ≡ b → eqb c.held.occupied 1 ≡ o
        → D.dump_holds n a b o c ≡ D.dump_sound n bins t command c
    unfolding D.dump_sound
    by a b o p q r = sym (rw (ok, p, q, r))

    pub sound_none : D.loses_none command ≡ true → true ≡ D.dump_sound n bins t command c
    unfolding D.dump_holds
    sound_none e = by true _ _ e refl refl

    module _ (a : D.loses_none command ≡ false) where
      pub sound-ordered : command ≡ discard
          → D.loss_holds n ordered (ticks_of c.opened.members) c ≡ D.dump_sound n bins t command c
      unfolding D.dump_holds
      sound-ordered e = by false true _ a (eq-eqb command discard e) refl

      module _ (b : command ≡ discard → ⊥) where
        pub sound-overrun : c.held.occupied ≡ 1
            → D.loss_holds n overrun (ticks_of c.opened.members) c ≡ D.dump_sound n bins t command c
        unfolding D.dump_holds
        sound-overrun o = by false false true a (ne_eqb command discard b) (eq-eqb _ 1 o)

        pub sound-held : (c.held.occupied ≡ 1 → ⊥) → true ≡ D.dump_sound n bins t command c
        unfolding D.dump_holds
        sound-held o = by false false false a (ne_eqb command discard b) (ne_eqb _ 1 o)
