-- `moved::put_moved_edges` meets its contract.
-- Assumes nothing.
use mathlib.Core.List.{List, map}
use Prim.Native.Nat.{ℕ, ◌+◌}
use mathlib.Core.Path.{refl, sym, ap, ◌∙◌, subst}
use lib.ListN.{length}
use Rattle.moved.specs.Places.{gone_in}
use Rattle.form.specs.Form.{body_of, edge_in}
use Rattle.form.specs.Drawn.{graph_in}
use Rattle.graph.specs.Delete.{renamed_edge}
use Rattle.graph.specs.Form.{edge_row}
use Rattle.graph.specs.Graph.{Edge}
use Rattle.graph.specs.Lists.{joined}
use Rattle.le.specs.Rows.{Holds}
use Rattle.le.specs.declared.Row.{Row}
use Rattle.write.specs.Write.{Put}
use Rattle.form.proofs.Drawn.{stored_in}
use Rattle.write.proofs.Results.{put_none}
use Rattle.write.proofs.Edges.{Met, met, edge_held, all_edges, all_fits, edge_less}
use Rattle.moved.proofs.Edges.{same_row}
use Rattle.write.proofs.Grows.{put_fits, put_more}
use Rattle.gone.proofs.Grows.{moved_grow}
use native.Mathlib.Omega.{arith}
use Rattle.moved.proofs.put_moved_edges.Goals as goal
use Rattle.moved.proofs.put_moved_edges.Goals.{After-edge_at-e}

-- the edge that is met
edge : (c : After-edge_at-e) → Met c.args.by.drawing.src.now (body_of c.args.by.drawing.sizes) c.args.by.drawing.sizes c.loop-i.i c.loop-i.k c.edge_at-e.result
edge c = let l = c.loop-i in
    met (stored_in c.args.by.drawing) l.i l.k (omega arith) l.invariant.0 _ refl c.edge_at-e.result
    (c.edge_at-e.ensures ∙ ap (λ (r : Row). edge_in c.args.by.drawing.src.now r l.k) c.body-body.ensures)

pub loop-i-init : goal.loop-i-init
loop-i-init c = (refl, put_none)

pub edge_at-e-requires : goal.edge_at-e-requires
edge_at-e-requires c =
    let l = c.loop-i in
    edge_held (stored_in c.args.by.drawing) l.i l.k (omega arith) l.invariant.0 _ c.body-body.ensures

pub put_moved_edge-j-requires : goal.put_moved_edge-j-requires
put_moved_edge-j-requires c =
    let a = c.args in
    let l = c.loop-i in
    let m = edge (goal.at.put_moved_edge-j-requires c).After-edge_at-e in
    let es = (graph_in a.by.drawing).edges in
    let goes = gone_in a.by.drawing.sizes a.by.map.now in record {
      mapped = (m.held, m.ids_known);
      targets_bound = (
        m.low,
        subst (λ (l : List ℕ). Holds c.loop-i.out a.to (c.loop-i.j + length l)) (sym (same_row m goes))
            (put_fits (moved_grow goes edge_row es) (edge_less (stored_in a.by.drawing) l.i (omega arith)) l.invariant.1
            (all_fits (λ (es : List Edge). joined edge_row (map (renamed_edge goes) es)) es c.requires)),
      );
    }

pub loop-i-preserved : goal.loop-i-preserved
loop-i-preserved c =
    let a = c.args in
    let l = c.loop-i in
    let m = edge (goal.at.loop-i-preserved c).After-edge_at-e in
    let goes = gone_in a.by.drawing.sizes a.by.map.now in
    let p = c.put_moved_edge-j in (
      m.end,
      put_more (moved_grow goes edge_row (graph_in a.by.drawing).edges) (edge_less (stored_in a.by.drawing) l.i (omega arith)) l.invariant.1
          (subst (λ (r : List ℕ). Put l.out a.to l.j r p.new.out p.result) (same_row m goes) p.ensures),
    )

pub returns : goal.returns
returns c =
    let a = c.args in
    let l = c.loop-i in
    subst (λ (es : List Edge). Put a.out.now a.to 0 (joined edge_row (map (renamed_edge (gone_in a.by.drawing.sizes a.by.map.now)) es)) l.out l.j)
    (all_edges (stored_in a.by.drawing) l.i (omega arith)) l.invariant.1
