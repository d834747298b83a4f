-- `additions::load_edge` meets its contract.
-- Assumes nothing.
use mathlib.Core.List.{◌++◌}
use mathlib.Core.Path.{◌≡◌, ap, ◌∙◌, subst}
use Prim.Native.Nat.{◌+◌, ◌-◌, ◌*◌, ◌≤◌}
use lib.ListN.{get_or}
use Rattle.le.specs.Le.{Below, words}
use Rattle.le.specs.Rows.{Holds, entry, span}
use Rattle.le.specs.declared.Row.{Row}
use Rattle.le.proofs.Numbers.{below_front, below_back}
use Rattle.le.proofs.Rows.{at_row, holds_less, span_append}
use Rattle.graph.specs.Graph.{largest}
use Rattle.graph.specs.Form.{no_edge}
use Rattle.form.specs.Stored.{graph_of}
use Rattle.form.specs.declared.Sizes.{Sizes}
use Rattle.form.proofs.Stored.{stored_rows}
use Rattle.write.proofs.Edges.{Met, met, edge_held, edge_less}
use Rattle.additions.proofs.Loads.{start_ports, start_few, edge_label, edge_loaded}
use native.Mathlib.Omega.{arith}
use Rattle.form.proofs.Drawn.{stored_in}
use Rattle.additions.proofs.load_edge.Goals as goal
use Rattle.additions.proofs.load_edge.Goals.{After-edge_at-e}

-- two counts for each edge before it
even : (c : After-edge_at-e) → 2 * c.args.i ≤ c.args.k
even c = omega (arith, c.requires.stored.1, start_ports (graph_of c.args.drawing.src.now).edges c.args.i (omega (arith, edge_less (stored_in c.args.drawing) c.args.i c.requires.stored.0)))

-- the edge as it was read
edge : (c : After-edge_at-e) → Met c.args.drawing.src.now c.body-body.result c.args.drawing.sizes c.args.i c.args.k c.edge_at-e.result
edge c = met (stored_in c.args.drawing) c.args.i c.args.k c.requires.stored.0 c.requires.stored.1 c.body-body.result c.body-body.ensures c.edge_at-e.result c.edge_at-e.ensures

-- there is room for it
fits : (c : After-edge_at-e) → c.args.k - 2 * c.args.i + (c.edge_at-e.result.sources + c.edge_at-e.result.targets) ≤ largest.most_ports
fits c = let S = stored_in c.args.drawing in
    let m = edge c in
    let e = even c in
    let few = start_few (graph_of c.args.drawing.src.now).edges (c.args.i + 1) (omega (arith, edge_less S c.args.i c.requires.stored.0)) in
    omega (arith, m.past, m.end, S.within.ports, few)

pub edge_at-e-requires : goal.edge_at-e-requires
edge_at-e-requires c = edge_held (stored_in c.args.drawing) c.args.i c.args.k c.requires.stored.0 c.requires.stored.1 c.body-body.result c.body-body.ensures

pub number-label-requires : goal.number-label-requires
number-label-requires c = let h = c.requires.stored.0 in at_row c.labels.ensures (holds_less (stored_rows (stored_in c.args.drawing)).labels_held _ (omega arith))

pub overflow_sub-y : goal.overflow_sub-y
overflow_sub-y c = even (goal.at.overflow_sub-y c).After-edge_at-e

pub add_edge-requires : goal.add_edge-requires
add_edge-requires c =
    let a = c.args in
    let S = stored_in c.args.drawing in
    let D = c.requires.draws in
    let m = edge (goal.at.add_edge-requires c).After-edge_at-e in
    let f = fits (goal.at.add_edge-requires c).After-edge_at-e in
    let n = ap (λ (y : Sizes). y.edges) S.sizes in
    let e = c.edge_at-e.result in
    let b = a.drawing.src.now in
    let r = c.body-body.result in
    let known : Below a.drawing.sizes.nodes (span b r e.first e.sources ++ span b r (e.first + e.sources) e.targets) = subst (Below a.drawing.sizes.nodes) (span_append b r e.first e.sources e.targets) m.ids_known in
    let held : Holds b r (e.first + e.sources + e.targets) = holds_less m.held _ (omega arith) in
    record { sound = (D.sound, omega (arith, S.within.counts.edges, c.requires.stored.0), f, omega (arith, c.requires.stored.2)); holds = (held, below_front a.drawing.sizes.nodes (span b r e.first e.sources) (span b r (e.first + e.sources) e.targets) known, below_back a.drawing.sizes.nodes (span b r e.first e.sources) (span b r (e.first + e.sources) e.targets) known) }

pub returns : goal.returns
returns c =
    let a = c.args in
    let S = stored_in c.args.drawing in
    let b = a.drawing.src.now in
    let m = edge (goal.at.returns c).After-edge_at-e in
    let e = c.edge_at-e.result in
    let even-k = even (goal.at.returns c).After-edge_at-e in
    let label : c.number-label.result ≡ (get_or (graph_of b).edges a.i no_edge).label =
    c.number-label.ensures.0 ∙ ap (λ (r : Row). entry b r (a.drawing.sizes.nodes + a.i)) c.labels.ensures ∙ edge_label S a.i (edge_less S a.i c.requires.stored.0) c.requires.stored.0 in
    let sized : e.end - 2 * (a.i + 1) ≡ a.k - 2 * a.i + (e.sources + e.targets) = omega (arith, m.past) in
    let D = c.add_edge.ensures in (
      m.end,
      edge_loaded S a.i (edge_less S a.i c.requires.stored.0) (words a.room.now) (words c.add_edge.new.room) (a.k - 2 * a.i) c.number-label.result (span b c.body-body.result e.first e.sources) (span b c.body-body.result (e.first + e.sources) e.targets)
          (e.sources + e.targets) e.end c.requires.draws D label m.sources m.targets sized,
    )
