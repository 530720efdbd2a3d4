-- What the reader's verdict makes of that on a lag.
use Rattle.std.proofs.Common.{◌≡◌, ℕ, cond, ltb, List, Ok, Err, refl, ◌∙◌}
use Rattle.lta_spec.specs.FrameCalls.{read_verdict, normal_verdict}
use Rattle.lta_spec.specs.declared.Refusal.{Refusal}
use Rattle.lta_spec.specs.declared.Refusal.TheVariants.{NoLag}
use Rattle.lta_spec.proofs.RoundTrips.{normal-follows}

pub refused_first : (n : ℕ) (s : List ℕ) (k : ℕ) (r : Refusal) → read_verdict n s ≡ Err r
    → normal_verdict n s k ≡ Err r
refused_first n s k r e = normal-follows n s k ∙ rw e refl

pub tested_then : (n : ℕ) (s : List ℕ) (k : ℕ) → read_verdict n s ≡ Ok tt
    → normal_verdict n s k ≡ cond (ltb k n) (Ok tt) (Err NoLag)
tested_then n s k e = normal-follows n s k ∙ rw e refl
