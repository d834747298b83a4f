-- `gone::ports_left` meets its contract.
-- Assumes nothing.
use mathlib.Core.List.{List, ◌++◌, map}
use Prim.Native.Nat.{ℕ}
use mathlib.Core.Path.{sym, ap, ◌∙◌}
use lib.ListN.{length}
use Rattle.gone.specs.Marks.{marked}
use Rattle.form.specs.Stored.{graph_of}
use Rattle.form.specs.declared.Sizes.{Sizes}
use Rattle.graph.specs.Delete.{renamed, renamed_edge}
use Rattle.graph.specs.Graph.{Edge, edge_entries}
use Rattle.form.proofs.Drawn.{stored_in}
use Rattle.le.proofs.Rows.{holds_index}
use Rattle.write.proofs.Edges.{edge_no, Met, met, edge_held, ids_below, all_edges, edge_less}
use Rattle.write.proofs.Grows.{count_more}
use Rattle.gone.proofs.Grows.{renamed_append, moved_grow}
use native.Mathlib.Omega.{arith}
use Rattle.gone.proofs.ports_left.Goals as goal
use Rattle.gone.proofs.ports_left.Goals.{After-edge_at-e}

-- the edge that is met
edge : (c : After-edge_at-e) → Met c.args.drawing.src.now c.body-body.result c.args.drawing.sizes c.loop-i.i c.loop-i.k c.edge_at-e.result
edge c = let l = c.loop-i in
    met (stored_in c.args.drawing) l.i l.k (omega arith) l.invariant.1 _ c.body-body.ensures c.edge_at-e.result c.edge_at-e.ensures

pub edge_at-e-requires : goal.edge_at-e-requires
edge_at-e-requires c =
    let l = c.loop-i in
    edge_held (stored_in c.args.drawing) l.i l.k (omega arith) l.invariant.1 _ c.body-body.ensures

pub overflow_add-e : goal.overflow_add-e
overflow_add-e c = omega (arith, (edge (goal.at.overflow_add-e c).After-edge_at-e).low)

pub ids_left-ports-requires : goal.ids_left-ports-requires
ids_left-ports-requires c =
    let m = edge (goal.at.ids_left-ports-requires c).After-edge_at-e in
    (m.held, ids_below m _ c.requires)

pub overflow_add-ports : goal.overflow_add-ports
overflow_add-ports c =
    let m = edge (goal.at.overflow_add-ports c).After-edge_at-e in
    omega (arith, m.first, holds_index m.held)

pub loop-i-preserved : goal.loop-i-preserved
loop-i-preserved c =
    let l = c.loop-i in
    let m = edge (goal.at.loop-i-preserved c).After-edge_at-e in
    let g = graph_of c.args.drawing.src.now in
    let nodes = length g.labels in
    let goes = marked c.args.room.now nodes in
    let e = edge_no c.args.drawing.src.now l.i in
    let one = c.ids_left-ports.ensures.1 nodes (ids_below m nodes (omega (arith, ap (λ (z : Sizes). z.nodes) (stored_in c.args.drawing).sizes)))
    ∙ ap (λ (l : List ℕ). length (renamed goes l)) m.ids ∙ ap length (renamed_append goes e.sources e.targets) in (
      omega (arith, m.past),
      m.end,
      omega (arith, l.invariant.2, one, count_more (moved_grow goes (λ (e : Edge). e.sources ++ e.targets) g.edges) l.i (edge_less (stored_in c.args.drawing) l.i (omega arith))),
    )

pub returns : goal.returns
returns c =
    let l = c.loop-i in
    let nodes = ap (λ (z : Sizes). z.nodes) (stored_in c.args.drawing).sizes in
    l.invariant.2 ∙ (λ i. length (edge_entries (map (renamed_edge (marked c.args.room.now (sym nodes i))) (all_edges (stored_in c.args.drawing) l.i (omega arith) i))))
