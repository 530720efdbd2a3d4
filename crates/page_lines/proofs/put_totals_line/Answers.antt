-- The stars with the space between them, and the columns of the numbers.
use Rattle.lta_spec.specs.Page.{count_columns, page_line}
use Rattle.lta_spec.proofs.WordLaws.{splice-behind}
use Rattle.page_lines.proofs.put_totals_line.Goals as goal

pub returns : goal.returns
unfolding page_line
returns c =
    let a = c.args in
    splice-behind a.out.now a.at _ (count_columns a.k) c.put_bytes-a.ensures.leaves
    c.put_bytes-a.ensures.behind c.put_counts.ensures
