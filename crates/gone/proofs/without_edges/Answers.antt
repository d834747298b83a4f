-- `gone::without_edges` meets its contract.
-- Assumes nothing.
use mathlib.Core.Path.{ap, ◌∙◌}
use Rattle.gone.specs.Marks.{marked}
use Rattle.form.specs.Stored.{graph_of}
use Rattle.form.specs.declared.Sizes.{Sizes}
use Rattle.write.specs.Write.{counted_as, fitted}
use Rattle.form.proofs.Drawn.{stored_in}
use Rattle.write.proofs.Grows.{left_count}
use Rattle.gone.proofs.without_edges.Goals as goal

pub returns : goal.returns
returns c =
    let z = c.args.drawing.sizes in
    let g = graph_of c.args.drawing.src.now in
    let goes = marked c.args.room.now z.edges in
    let h = (stored_in c.args.drawing).sizes in
    let edges = left_count goes g.edges z.edges (ap (λ (y : Sizes). y.edges) h) in
    c.sized.ensures
    ∙ (λ i. fitted (counted_as (h i).nodes ((c.left.ensures ∙ edges) i) (h i).sources (h i).targets (h i).pairs) (c.ports_of_left.ensures i))
