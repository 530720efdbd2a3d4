-- Open's ticks are within their limit.
use native.Mathlib.Omega.{arith}
use Rattle.lta_spec.specs.Engine.{forecast_of}
use Rattle.cell_layout.proofs.ViewLaws.{fits_in}
use Rattle.cell_parts.proofs.PartLaws.{open-ticks}
use Rattle.cell_reads.proofs.ReadLaws.{open-few}
use Rattle.cell_reads.proofs.forecast_cell.Goals as goal

pub overflow_sub-result : goal.overflow_sub-result
overflow_sub-result c = omega (arith, open-few (fits_in c.args.cell) c.args.t c.requires)

pub returns : goal.returns
unfolding forecast_of
returns c = rw (open-ticks (fits_in c.args.cell))
