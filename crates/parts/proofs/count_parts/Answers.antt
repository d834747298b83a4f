-- `parts::count_parts` meets its contract.
-- Assumes nothing.
use mathlib.Core.Path.{◌≡◌, ap, ◌∙◌}
use Prim.Native.Nat.{◌+◌}
use native.Mathlib.Omega.{arith}
use lib.ListN.{get_or}
use lib.Seq.{take_all}
use Rattle.parts.specs.Parts.{parts_of}
use Rattle.graph.specs.Form.{no_edge}
use Rattle.le.specs.Rows.{entry}
use Rattle.le.specs.declared.Row.{Row}
use Rattle.le.proofs.Rows.{at_row}
use Rattle.form.specs.Stored.{graph_of}
use Rattle.form.specs.declared.Sizes.{Sizes}
use Rattle.parts.proofs.Walking.{label_held, label_is, edge_inside, parts_none, addable, counted}
use Rattle.form.proofs.Drawn.{stored_in}
use Rattle.parts.proofs.count_parts.Goals as goal
use Rattle.parts.proofs.count_parts.Goals.{After-number-label}

-- the label that was read
label : (c : After-number-label) → let a = c.args in
    c.number-label.result ≡ (get_or (graph_of a.drawing.src.now).edges c.loop-i.i no_edge).label
label c = let i = c.loop-i.i in
    c.number-label.ensures.0 ∙ ap (λ (r : Row). entry c.args.drawing.src.now r (c.args.drawing.sizes.nodes + i)) c.labels-labels.ensures ∙ label_is (stored_in c.args.drawing) i (omega arith)

pub loop-i-init : goal.loop-i-init
loop-i-init c = parts_none (graph_of c.args.drawing.src.now).edges

pub number-label-requires : goal.number-label-requires
number-label-requires c = at_row c.labels-labels.ensures (label_held (stored_in c.args.drawing) c.loop-i.i (omega arith))

pub add_part-parts-requires : goal.add_part-parts-requires
add_part-parts-requires c =
    let l = c.loop-i in
    addable (graph_of c.args.drawing.src.now).edges (stored_in c.args.drawing).within.counts.edges c.requires l.i (edge_inside (stored_in c.args.drawing) l.i (omega arith)) l.parts l.invariant _ (label (goal.at.add_part-parts-requires c).After-number-label)

pub loop-i-preserved : goal.loop-i-preserved
loop-i-preserved c =
    let l = c.loop-i in
    c.add_part-parts.ensures
    ∙ counted (graph_of c.args.drawing.src.now).edges (stored_in c.args.drawing).within.counts.edges c.requires l.i (edge_inside (stored_in c.args.drawing) l.i (omega arith)) l.parts l.invariant _ (label (goal.at.loop-i-preserved c).After-number-label)

pub returns : goal.returns
returns c =
    let l = c.loop-i in
    let s = stored_in c.args.drawing in
    l.invariant ∙ ap parts_of (take_all l.i (graph_of c.args.drawing.src.now).edges (omega (arith, ap (λ (y : Sizes). y.edges) s.sizes)))
