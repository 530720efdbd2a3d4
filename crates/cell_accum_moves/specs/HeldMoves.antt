-- What the moves of an integration make of a cell.
use Rattle.std.specs.Prelude.{ℕ}
use Rattle.lta_spec.specs.Words.{sums}
use Rattle.lta_spec.specs.Place.{Cell, filling, replaced}
use Rattle.lta_spec.specs.Engine.{Row, stamped, lose, bin_at, release}

-- Held goes to loss i and becomes unoccupied, and bin k takes the state given
abbrev pub held_lost : (n k i state : ℕ) → Cell Row → Cell Row
held_lost n k i state c =
    release n k (record { state = state; content = (bin_at n k c).content })
    (lose n i c.held.content.members c.losses) c

-- Held joins bin k and becomes unoccupied, and the bin takes the state and the stamp given
abbrev pub held_joined : (n k state stamp : ℕ) → Cell Row → Cell Row
held_joined n k state stamp c =
    release n k
    (record {
      state = state;
      content = stamped (sums (bin_at n k c).content.members c.held.content.members) stamp;
    })
    c.losses c

-- the set of bin k goes to loss 4, and Held takes its place
abbrev pub bin_replaced : (n k : ℕ) → Cell Row → Cell Row
bin_replaced n k c =
    release n k (record { state = filling; content = c.held.content })
    (lose n replaced (bin_at n k c).content.members c.losses) c
