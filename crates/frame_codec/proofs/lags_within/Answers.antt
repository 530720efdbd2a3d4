-- The fold has tested the numbers that it went over.
use Rattle.std.proofs.Common.{◌≡◌, Bool, List, ℤ, true, refl, rules}
use borrow.Author.Tests.{tests}
use Rattle.std.proofs.iter.Yields.{fronts}
use Rattle.std.proofs.lemmas.Iterator.{YieldsList-from_slice}
use Rattle.std.proofs.lemmas.Fn.{fold_over}
use Rattle.lta_spec.specs.Words.{every}
use Rattle.lta_spec.specs.Frame.{within}
use Rattle.frame_codec.proofs.Laws.{every_next}
use Rattle.frame_codec.proofs.lags_within.Goals as goal

pub returns : goal.returns
returns c =
    let zs = c.args.lags.now in
    let near = within c.args.b in
    let Tested : List ℤ → Bool → Type 0 = λ xs ok. ok ≡ every near xs in
    fold_over fronts (λ y. y.now) _ Tested _
    (λ xs ok x next f e k. (every_next near xs x.now e (search (rules, tests)), search rules)) c.iter.result zs true
    c.fold.result (YieldsList-from_slice zs cc).runs refl c.fold.ensures.ran
