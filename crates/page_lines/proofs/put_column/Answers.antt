-- A space, and behind it the number.
use mathlib.Core.List.{[], ◌∷◌}
use native.Mathlib.Omega.{arith}
use Rattle.lta_spec.specs.Decimal.{space, right_aligned}
use Rattle.lta_spec.proofs.WordLaws.{splice-behind}
use Rattle.lta_spec.proofs.PageLaws.{fits-columns}
use Rattle.page_lines.proofs.put_column.Goals as goal

pub put_right-requires : goal.put_right-requires
put_right-requires c = (
  fits-columns c.args.n c.requires.0,
  omega (arith, c.requires.1, c.put_byte-b.ensures.behind, c.put_byte-b.auto.out),
)

pub returns-clause-leaves : goal.returns-clause-leaves
returns-clause-leaves c =
    let a = c.args in
    splice-behind a.out.now a.at (space ∷ []) (right_aligned 11 a.n) c.put_byte-b.ensures.leaves
    c.put_byte-b.ensures.behind c.put_right.ensures.leaves
