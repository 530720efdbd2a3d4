-- Values stored one behind the other from the start of a slice: the values, and behind them what stood there.
use Prim.Native.Nat.{ℕ, suc, ◌≤◌}
use mathlib.Core.Path.{◌≡◌, refl, sym, ap, ◌∙◌}
use mathlib.Core.List.{List, [], ◌∷◌, ◌++◌}
use native.Mathlib.Omega.{arith}
use lib.ListN.{length, drop, set}
use Rattle.host_pack.specs.Boundary.{stored}

stored_behind : {A : Type 0} (x : A) (l : List A) (k : ℕ) (vs : List A) → stored (x ∷ l) (suc k) vs ≡ x ∷ stored l k vs
stored_behind x l k [] = refl
stored_behind x l k (v ∷ vs) = stored_behind x (set l k v) (suc k) vs

pub stored_front : {A : Type 0} (l vs : List A) → length vs ≤ length l → vs ++ drop (length vs) l ≡ stored l 0 vs
stored_front l [] h = refl
stored_front [] (v ∷ vs) h = absurd (omega arith)
stored_front (x ∷ l) (v ∷ vs) h =
    ap (λ r. v ∷ r) (stored_front l vs (omega (arith, h))) ∙ sym (stored_behind v l 0 vs)
