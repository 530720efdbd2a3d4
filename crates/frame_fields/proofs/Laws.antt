-- The fields of the frame of a row keep to the rules of a frame; a place whose content is within its limits has a
-- frame.
use mathlib.Core.Path.{◌≡◌}
use mathlib.Core.Bool.{true}
use mathlib.Core.List.{List}
use Prim.Native.Nat.{ℕ, ◌<◌, ◌≤◌}
use native.Mathlib.Omega.{arith}
use lib.ListN.{length}
use borrow.Author.Tests.{leb-true}
use Rattle.lta_spec.specs.Shape.{shape_ok, run_limit, bin_limit}
use Rattle.lta_spec.specs.Size.{row_words}
use Rattle.lta_spec.specs.Place.{Stamped}
use Rattle.lta_spec.specs.Frame.{kind_ok}
use Rattle.lta_spec.specs.Row.{row_ok}
use Rattle.lta_spec.specs.Engine.{Row}
use Rattle.lta_spec.specs.Damage.{content_ok}
use Rattle.lta_spec.specs.declared.Shape.{Shape}
use Rattle.lta_spec.proofs.TestLaws.{and_both}
use Rattle.lta_spec.proofs.ShapeLaws.{shaped}
use Rattle.lta_spec.proofs.RoundTrips.{Valid}
use Rattle.lta_spec.proofs.EmittedBack.{emitted-valid, row-wider}
use Rattle.frame_fields.specs.Emits.{Emits, fields_from}

pub sent : (s : Shape) (kind cell bank bin stamp : ℕ) (row : List ℕ) → Emits s kind cell bank bin stamp row
    → Valid (fields_from s kind cell bank bin stamp row)
sent s kind cell bank bin stamp row e =
    emitted-valid s (shaped s e.shaped) kind cell bank bin stamp row e.known e.celled e.banked e.binned
    e.stamped e.limited

pub content-emits : (s : Shape) (kind cell bank bin limit t : ℕ) (x : Stamped Row) → shape_ok s ≡ true
    → kind_ok kind ≡ true → cell < s.cells → bank < 2 → bin < s.bins → length x.members ≡ row_words s.lags
    → limit ≤ bin_limit → t ≤ run_limit → content_ok limit t x ≡ true
    → Emits s kind cell bank bin x.stamp x.members
content-emits s kind cell bank bin limit t x ok known hc hk hb size narrow early sound =
    let a = and_both (row_ok limit x.members) _ sound in
    record {
      shaped = ok;
      known = known;
      celled = hc;
      banked = hk;
      binned = hb;
      sized = size;
      limited = row-wider limit bin_limit x.members narrow a.0;
      stamped = omega (arith, leb-true x.stamp t a.1, early);
    }
