-- The part of the slice that is filled with zeros.
use Rattle.std.proofs.Common.{◌≡◌, rules}
use Rattle.lta_spec.specs.Words.{zeros}
use Rattle.lta_spec.proofs.WordLaws.{returned, length-zeros}
use Rattle.words.proofs.clear.Goals as goal

pub returns : goal.returns
returns c =
    let l = c.args.s.now in
    let at = c.args.at in
    let n = c.args.n in
    let filled : c.fill.new.self ≡ zeros n = search rules in
    rw filled (returned l at n (zeros n) c.requires (length-zeros n))
