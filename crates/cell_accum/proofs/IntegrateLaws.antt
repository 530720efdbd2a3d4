-- What the tests of an integration have shown, and the ways that it goes.
use mathlib.Core.Path.{◌≡◌, refl, ap, ◌∙◌}
use mathlib.Core.Bool.{Bool, true, false, cond, ◌&&◌}
use mathlib.Core.List.{List}
use Prim.Native.Nat.{ℕ, ◌<◌}
use native.Mathlib.Omega.{arith}
use lib.Dec.{eqb}
use borrow.Author.Tests.{eq-eqb, ne_eqb}
use Rattle.lta_spec.specs.Shape.{open_limit, bin_limit}
use Rattle.lta_spec.specs.Place.{Cell, loss_count, full, too_wide, free, filling, ready}
use Rattle.lta_spec.specs.Call.{last}
use Rattle.lta_spec.specs.Row.{row_ok}
use Rattle.lta_spec.specs.Engine as E
use Rattle.lta_spec.specs.Engine.{Row, loss_at, bin_at, is_replacing, is_too_wide, held_bin}
use Rattle.lta_spec.specs.Damage as D
use Rattle.lta_spec.proofs.TestLaws.{and_both}
use Rattle.cell_layout.specs.Cells.{Fits, Small, places_of}
use Rattle.cell_layout.proofs.RowLaws.{small_row}
use Rattle.cell_parts.proofs.PartLaws.{loss-small}
use Rattle.cell_accum_moves.specs.HeldMoves.{held_lost, held_joined, bin_replaced}
use Rattle.cell_accum.specs.Integrates.{Integrates}

-- what the tests of an integration have shown
pub record IntegrateFacts (n bins : ℕ) (c : Cell Row) : Type 0 where
  pub held : row_ok open_limit c.held.content.members ≡ true
  pub losses : D.losses_ok c.losses ≡ true
  pub label : D.label_ok bins c.held.label ≡ true
  pub bin : row_ok bin_limit (bin_at n (held_bin n bins c) c).content.members ≡ true

pub integrate-facts : (n bins : ℕ) (c : Cell Row) → Integrates n bins c → IntegrateFacts n bins c
unfolding D.integrate_sound D.integrate_bin_sound
integrate-facts n bins c i =
    let b = bin_at n (held_bin n bins c) c in
    let a = and_both (D.held_ok i.t c.held && D.losses_ok c.losses) _ i.sound in
    let p = and_both (D.held_ok i.t c.held) (D.losses_ok c.losses) a.0 in
    let h = and_both (D.content_ok open_limit i.t c.held.content) _ p.0 in
    let q : D.label_ok bins c.held.label && D.integrate_bin_sound n i.t b c ≡ true =
    rw (eq-eqb c.held.occupied 1 i.occupied) at a.1 in
    let d = and_both (D.label_ok bins c.held.label) _ q in
    let o = and_both (D.bin_ok i.t b) _ d.1 in
    let r = and_both (D.content_ok bin_limit i.t b.content) _ o.0 in
    record {
      held = (and_both (row_ok open_limit c.held.content.members) _ h.0).0;
      losses = p.1;
      label = d.0;
      bin = (and_both (row_ok bin_limit b.content.members) _ r.0).0;
    }

-- so the rows of an integration are small
module _ {l : List ℕ} {n bins : ℕ} (f : Fits l n bins) (g : IntegrateFacts n bins (places_of n bins l)) where
  pub held_small : Small (places_of n bins l).held.content.members
  held_small = small_row open_limit (places_of n bins l).held.content.members g.held (omega arith)

  pub bin_small : (k : ℕ) → k ≡ held_bin n bins (places_of n bins l)
      → Small (bin_at n k (places_of n bins l)).content.members
  bin_small k e =
      rw e
      (small_row bin_limit (bin_at n (held_bin n bins (places_of n bins l)) (places_of n bins l)).content.members
      g.bin (omega arith))

  pub lost-small : (i : ℕ) → i < loss_count → Small (loss_at n i (places_of n bins l).losses)
  lost-small i h = loss-small f i h g.losses

-- the bin's state and stamp afterwards, as a condition
state-after : (n : ℕ) (b : Bool) → cond b ready filling ≡ E.state_after n b
unfolding E.state_after
state-after n true = refl
state-after n false = refl

stamp-after : (n : ℕ) (b : Bool) (new old : ℕ) → cond b new old ≡ E.stamp_after n b new old
unfolding E.stamp_after
stamp-after n true new old = refl
stamp-after n false new old = refl

-- the four ways of an integration into bin k
module _ (n bins : ℕ) (c : Cell Row) (k : ℕ) (e : k ≡ held_bin n bins c) where
  by : (r p w : Bool) → eqb (bin_at n k c).state ready ≡ r → is_replacing n (bin_at n k c) c ≡ p
      → is_too_wide n (bin_at n k c) c ≡ w
      → E.integrate_cell n bins c ≡ E.integrate_by n r p w k (bin_at n k c) c
  unfolding E.integrate_cell E.integrate_at
  by r p w a b d = rw (← e, a, b, d)

  pub goes-full : (bin_at n k c).state ≡ ready
      → E.integrate_cell n bins c ≡ record { answer = 3; cell = held_lost n k full ready c }
  unfolding E.integrate_by
  goes-full a =
      by true _ _ (eq-eqb _ ready a) refl refl
      ∙ ap
      (λ x. record {
        answer = 3;
        cell =
            E.release n k (record { state = x; content = (bin_at n k c).content })
            (E.lose n full c.held.content.members c.losses) c;
      }) a

  module _ (a : (bin_at n k c).state ≡ ready → ⊥) where
    pub goes-replaced : is_replacing n (bin_at n k c) c ≡ true
        → E.integrate_cell n bins c ≡ record { answer = 4; cell = bin_replaced n k c }
    unfolding E.integrate_by
    goes-replaced b = by false true _ (ne_eqb _ ready a) b refl

    module _ (b : is_replacing n (bin_at n k c) c ≡ false) where
      pub goes-wide : is_too_wide n (bin_at n k c) c ≡ true → (v : ℕ)
          → v ≡ cond (eqb c.held.label.command last) ready filling
          → E.integrate_cell n bins c ≡ record { answer = 5; cell = held_lost n k too_wide v c }
      unfolding E.integrate_by
      goes-wide d v q = rw (q, state-after n _) (by false false true (ne_eqb _ ready a) b d)

      pub goes-joined : is_too_wide n (bin_at n k c) c ≡ false → (v t : ℕ)
          → v ≡ cond (eqb c.held.label.command last) ready filling
          → t ≡ cond (eqb (bin_at n k c).state free) c.held.content.stamp (bin_at n k c).content.stamp
          → E.integrate_cell n bins c ≡ record { answer = 0; cell = held_joined n k v t c }
      unfolding E.integrate_by
      goes-joined d v t q r =
          rw (q, r, state-after n _, stamp-after n _ _ _) (by false false false (ne_eqb _ ready a) b d)
