-- `gone::ports_of_left` meets its contract.
-- Assumes nothing.
use mathlib.Core.List.{List, ◌++◌}
use mathlib.Core.Path.{ap, ◌∙◌}
use lib.ListN.{length}
use Rattle.gone.specs.Marks.{marked}
use Rattle.form.specs.Stored.{graph_of}
use Rattle.graph.specs.Graph.{Edge, edge_entries}
use Rattle.form.proofs.Drawn.{stored_in}
use Rattle.graph.specs.Delete.{remaining}
use Rattle.le.proofs.Rows.{holds_index}
use Rattle.write.proofs.Edges.{Met, met, edge_held, all_edges, edge_less}
use Rattle.write.proofs.Grows.{count_more}
use Rattle.gone.proofs.Grows.{unless_long, edges_grow}
use native.Mathlib.Omega.{arith}
use Rattle.gone.proofs.ports_of_left.Goals as goal
use Rattle.gone.proofs.ports_of_left.Goals.{After-edge_at-e}

-- the edge that is met
edge : (c : After-edge_at-e) → Met c.args.drawing.src.now c.body-body.result c.args.drawing.sizes c.loop-i.i c.loop-i.k c.edge_at-e.result
edge c = let l = c.loop-i in
    met (stored_in c.args.drawing) l.i l.k (omega arith) l.invariant.1 _ c.body-body.ensures c.edge_at-e.result c.edge_at-e.ensures

pub edge_at-e-requires : goal.edge_at-e-requires
edge_at-e-requires c =
    let l = c.loop-i in
    edge_held (stored_in c.args.drawing) l.i l.k (omega arith) l.invariant.1 _ c.body-body.ensures

pub overflow_add-e : goal.overflow_add-e
overflow_add-e c = omega (arith, (edge (goal.at.overflow_add-e c).After-edge_at-e).low)

pub overflow_add-ports : goal.overflow_add-ports
overflow_add-ports c =
    let m = edge (goal.at.overflow_add-ports c).After-edge_at-e in
    omega (arith, m.first, holds_index m.held)

pub loop-i-preserved : goal.loop-i-preserved
loop-i-preserved c =
    let l = c.loop-i in
    let m = edge (goal.at.loop-i-preserved c).After-edge_at-e in
    let goes = marked c.args.room.now c.args.drawing.sizes.edges in
    let one = unless_long _ _ _ _ c.if_stays-ports.result (goes l.i) _ m.ids (c.if_stays-ports.ensures.1 c.args.drawing.sizes.edges (omega arith)) in (
      omega (arith, m.past),
      m.end,
      omega (arith, l.invariant.2, one, count_more (edges_grow goes (λ (e : Edge). e.sources ++ e.targets) (graph_of c.args.drawing.src.now).edges) l.i (edge_less (stored_in c.args.drawing) l.i (omega arith))),
    )

pub returns : goal.returns
returns c =
    let l = c.loop-i in
    l.invariant.2 ∙ ap (λ (es : List Edge). length (edge_entries (remaining (marked c.args.room.now c.args.drawing.sizes.edges) 0 es))) (all_edges (stored_in c.args.drawing) l.i (omega arith))
