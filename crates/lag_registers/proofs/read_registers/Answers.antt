-- What `gather` writes is decoded in its place.
use Rattle.std.proofs.Common.{arith}
use Rattle.lta_spec.specs.Size.{depth}
use Rattle.lta_spec.proofs.WordLaws.{lent}
use Rattle.lag_registers.proofs.Decoding.{registers-are}
use Rattle.lag_registers.proofs.read_registers.Goals as goal

pub returns : goal.returns
returns c =
    let a = c.args in
    let l = a.s.now in
    let g = c.gather.ensures in
    registers-are l a.x a.y a.n c.gather.new.xs c.gather.new.ys (omega (arith, c.requires)) (lent l a.x (depth a.n))
    (lent l a.y (depth a.n)) g.newest_first g.oldest_first c.decode.ensures c.decode-2.ensures
