-- Three columns and a line feed, one behind the other.
use mathlib.Core.Path.{sym, ap, ◌∙◌}
use mathlib.Core.List.{[], ◌∷◌, ◌++◌}
use Prim.Native.Nat.{◌+◌}
use native.Mathlib.Omega.{arith}
use Rattle.lta_spec.specs.Decimal.{space, line_feed, right_aligned}
use Rattle.lta_spec.proofs.WordLaws.{splice-behind}
use Rattle.lta_spec.proofs.PageLaws.{column-size}
use Rattle.page_lines.proofs.put_counts.Goals as goal

pub returns : goal.returns
returns c =
    let a = c.args in
    let ticks = space ∷ right_aligned 11 a.k.ticks in
    let edge = space ∷ right_aligned 11 a.k.edge in
    let centre = space ∷ right_aligned 11 a.k.centre in
    let w = c.requires.0 in
    let one = column-size a.k.ticks w.ticks in
    let two = column-size a.k.edge (omega (arith, w.ticks, w.edge)) in
    let three = column-size a.k.centre (omega (arith, w.ticks, w.centre)) in
    splice-behind a.out.now a.at ticks (edge ++ (centre ++ line_feed ∷ [])) c.put_column-a.ensures.leaves
    (c.put_column-a.ensures.behind ∙ ap (λ n. a.at + n) (sym one))
    (splice-behind c.put_column-a.new.out _ edge (centre ++ line_feed ∷ []) c.put_column-b.ensures.leaves
    (c.put_column-b.ensures.behind ∙ ap (λ n. c.put_column-a.result + n) (sym two))
    (splice-behind c.put_column-b.new.out _ centre (line_feed ∷ []) c.put_column-c.ensures.leaves
    (c.put_column-c.ensures.behind ∙ ap (λ n. c.put_column-b.result + n) (sym three))
    c.put_byte.ensures.leaves))
