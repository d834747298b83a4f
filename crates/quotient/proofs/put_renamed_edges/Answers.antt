-- `quotient::put_renamed_edges` meets its contract.
-- Assumes nothing.
use Rattle.form.specs.Drawn.{graph_in}
use Rattle.form.proofs.Drawn.{stored_in}
use mathlib.Core.List.{List, map}
use mathlib.Core.Path.{refl, ap, ◌∙◌, subst}
use Prim.Native.Nat.{◌+◌, ◌*◌, ◌≤◌}
use lib.ListN.{length}
use Rattle.form.specs.Form.{body_of, edge_in}
use Rattle.graph.specs.Form.{edge_row, edge_start}
use Rattle.graph.specs.Graph.{Edge}
use Rattle.graph.specs.Lists.{joined}
use Rattle.graph.specs.Merge.{looked_edge}
use Rattle.le.specs.Le.{words}
use Rattle.le.specs.declared.Row.{Row}
use Rattle.le.proofs.Rows.{holds_less, holds_same, length_puts}
use Rattle.write.specs.Write.{Put}
use Rattle.form.proofs.Stored.{stored_rows}
use Rattle.write.proofs.Results.{put_none}
use Rattle.write.proofs.Edges.{Met, met, edge_held, all_edges, edge_less, edges_end, edge_inside}
use Rattle.write.proofs.Grows.{put_length, put_more}
use Rattle.quotient.proofs.Renamed.{edges_grow, edge_put}
use native.Mathlib.Omega.{arith}
use Rattle.quotient.proofs.put_renamed_edges.Goals as goal
use Rattle.quotient.proofs.put_renamed_edges.Goals.{After-edge_at-e}

-- the edge that is met
edge : (c : After-edge_at-e) → Met c.args.drawing.src.now (body_of c.args.drawing.sizes) c.args.drawing.sizes c.loop-i.i c.loop-i.k c.edge_at-e.result
edge c = let l = c.loop-i in
    met (stored_in c.args.drawing) l.i l.k (omega arith) l.invariant.1 _ refl c.edge_at-e.result
    (c.edge_at-e.ensures ∙ ap (λ (r : Row). edge_in c.args.drawing.src.now r l.k) c.body-body.ensures)

inside : (c : After-edge_at-e) → edge_start (graph_in c.args.drawing).edges (c.loop-i.i + 1) ≤ 2 * c.args.drawing.sizes.edges + c.args.drawing.sizes.ports
inside c = edge_inside (stored_in c.args.drawing) c.loop-i.i (omega arith)

pub loop-i-init : goal.loop-i-init
loop-i-init c = (omega arith, refl, put_none)

pub edge_at-e-requires : goal.edge_at-e-requires
edge_at-e-requires c =
    let l = c.loop-i in
    edge_held (stored_in c.args.drawing) l.i l.k (omega arith) l.invariant.1 _ c.body-body.ensures

pub put_two-requires : goal.put_two-requires
put_two-requires c =
    let m = edge (goal.at.put_two-requires c).After-edge_at-e in
    let l = c.loop-i in
    (holds_same (holds_less c.requires.1 _ (omega (arith, m.end, m.past, inside (goal.at.put_two-requires c).After-edge_at-e))) l.out (put_length l.invariant.2), omega (arith, m.low), omega (arith, m.low))

pub overflow_add-e : goal.overflow_add-e
overflow_add-e c = omega (arith, (edge (goal.at.overflow_add-e c).After-edge_at-e).low)

pub put_renamed_ids-requires : goal.put_renamed_ids-requires
put_renamed_ids-requires c =
    let m = edge (goal.at.put_renamed_ids-requires c).After-edge_at-e in
    let l = c.loop-i in (
      c.requires.0.held,
      m.held,
      m.ids_known,
      holds_same (holds_less c.requires.1 _ (omega (arith, m.first, m.end, m.past, inside (goal.at.put_renamed_ids-requires c).After-edge_at-e))) _
          (ap length c.put_two.ensures ∙ length_puts l.out c.args.to l.k _ ∙ put_length l.invariant.2),
    )

pub loop-i-preserved : goal.loop-i-preserved
loop-i-preserved c =
    let l = c.loop-i in
    let m = edge (goal.at.loop-i-preserved c).After-edge_at-e in
    let W = words c.args.room.now in (
      omega arith,
      m.end,
      put_more (edges_grow W (graph_in c.args.drawing).edges) (edge_less (stored_in c.args.drawing) l.i (omega arith)) l.invariant.2 (edge_put m W c.put_two.ensures c.put_renamed_ids.ensures),
    )

pub returns : goal.returns
returns c =
    let l = c.loop-i in
    let all = all_edges (stored_in c.args.drawing) l.i (omega arith) in (
      l.invariant.1 ∙ ap (λ (es : List Edge). length (joined edge_row es)) all ∙ edges_end (stored_in c.args.drawing),
      subst (λ (es : List Edge). Put c.args.out.now c.args.to 0 (joined edge_row (map (looked_edge (words c.args.room.now)) es)) l.out l.k) all l.invariant.2,
    )

pub loop-i-smaller : goal.loop-i-smaller
loop-i-smaller c = omega (arith, c.loop-i-test.true, (stored_rows (stored_in c.args.drawing)).low.edges)
