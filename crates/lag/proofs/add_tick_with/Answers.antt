-- What is read and counted is what `add_lags` asks for.
use Rattle.std.proofs.Common.{arith}
use Rattle.std.proofs.lemmas.List.{length-replicate}
use Rattle.lag.proofs.Adding.{terms-fit, row-added}
use Rattle.lag.proofs.add_tick_with.Goals as goal

pub add_lags-requires : goal.add_lags-requires
add_lags-requires g c =
    let p = c.requires.ready in
    let a = c.args in
    let kept = c.read_registers.auto in (
      omega (arith, p.most),
      omega (arith, kept, c.requires.enough),
      omega (arith, kept, c.requires.enough),
      simp length-replicate (omega (arith, p.even, c.requires.enough)),
      omega (arith, p.even, p.to_in, c.count_tick.auto),
      terms-fit a.s.now a.x a.y a.to a.n p c.read_registers.ensures c.count_tick.ensures,
    )

pub returns : goal.returns
returns g c =
    let a = c.args in
    row-added a.s.now a.x a.y a.to a.n c.requires.ready c.read_registers.ensures
    c.count_tick.ensures c.add_lags.ensures
