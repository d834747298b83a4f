-- `left::put_left_edges` meets its contract.
-- Assumes nothing.
use mathlib.Core.List.{List}
use Prim.Native.Nat.{ℕ, ◌+◌}
use mathlib.Core.Path.{refl, sym, subst}
use Rattle.gone.specs.Marks.{marked}
use Rattle.form.specs.Drawn.{graph_in}
use Rattle.graph.specs.Delete.{remaining}
use Rattle.graph.specs.Form.{edge_row}
use Rattle.graph.specs.Graph.{Edge}
use Rattle.graph.specs.Lists.{joined}
use Rattle.le.specs.Rows.{Holds}
use Rattle.write.specs.Write.{Put}
use Rattle.form.proofs.Drawn.{stored_in}
use Rattle.le.proofs.Rows.{holds_less, holds_index}
use Rattle.write.proofs.Results.{put_none}
use Rattle.write.proofs.Edges.{Met, met, edge_held, all_edges, all_fits, edge_less}
use Rattle.write.proofs.Grows.{put_length, put_fits, put_more}
use Rattle.gone.proofs.Grows.{edges_grow, unless_long, put_unless}
use native.Mathlib.Omega.{arith}
use Rattle.left.proofs.put_left_edges.Goals as goal
use Rattle.left.proofs.put_left_edges.Goals.{After-edge_at-e, After-if_stays-n}

-- the edge that is met
edge : (c : After-edge_at-e) → Met c.args.drawing.src.now c.body-body.result c.args.drawing.sizes c.loop-i.i c.loop-i.k c.edge_at-e.result
edge c = let l = c.loop-i in
    met (stored_in c.args.drawing) l.i l.k (omega arith) l.invariant.0 _ c.body-body.ensures c.edge_at-e.result c.edge_at-e.ensures

-- room for the edge, if it stays
fits : (c : After-if_stays-n) → Met c.args.drawing.src.now c.body-body.result c.args.drawing.sizes c.loop-i.i c.loop-i.k c.edge_at-e.result
    → Holds c.loop-i.out c.args.to (c.loop-i.j + c.if_stays-n.result)
fits c m = let l = c.loop-i in
    let es = (graph_in c.args.drawing).edges in
    let n = c.args.drawing.sizes.edges in
    let goes = marked c.args.room.now n in
    subst (λ (m : ℕ). Holds l.out c.args.to (l.j + m))
    (sym (unless_long _ _ l.k _ _ (goes l.i) _ m.whole (c.if_stays-n.ensures.1 n (omega arith))))
    (put_fits (edges_grow goes edge_row es) (edge_less (stored_in c.args.drawing) l.i (omega arith)) l.invariant.1 (all_fits (λ (es : List Edge). joined edge_row (remaining goes 0 es)) es c.requires.1))

pub loop-i-init : goal.loop-i-init
loop-i-init c = (refl, put_none)

pub edge_at-e-requires : goal.edge_at-e-requires
edge_at-e-requires c =
    let l = c.loop-i in
    edge_held (stored_in c.args.drawing) l.i l.k (omega arith) l.invariant.0 _ c.body-body.ensures

pub overflow_sub-e : goal.overflow_sub-e
overflow_sub-e c = omega (arith, (edge (goal.at.overflow_sub-e c).After-edge_at-e).past)

pub copy_numbers-requires : goal.copy_numbers-requires
copy_numbers-requires c =
    let at = goal.at.copy_numbers-requires c in
    let m = edge at.After-edge_at-e in
    (fits at.After-if_stays-n m, holds_less m.held _ (omega (arith, m.past, m.first)))

pub overflow_add-j : goal.overflow_add-j
overflow_add-j c =
    let at = goal.at.overflow_add-j c in
    omega (arith, holds_index (fits at.After-if_stays-n (edge at.After-edge_at-e)), put_length c.loop-i.invariant.1)

pub loop-i-preserved : goal.loop-i-preserved
loop-i-preserved c =
    let l = c.loop-i in
    let m = edge (goal.at.loop-i-preserved c).After-edge_at-e in
    let n = c.args.drawing.sizes.edges in
    let goes = marked c.args.room.now n in (
      m.end,
      put_more (edges_grow goes edge_row (graph_in c.args.drawing).edges) (edge_less (stored_in c.args.drawing) l.i (omega arith)) l.invariant.1
          (put_unless _ _ l.k _ _ (goes l.i) _ m.whole (c.if_stays-n.ensures.1 n (omega arith)) c.copy_numbers.ensures),
    )

pub returns : goal.returns
returns c =
    let l = c.loop-i in
    subst (λ (es : List Edge). Put c.args.out.now c.args.to 0 (joined edge_row (remaining (marked c.args.room.now c.args.drawing.sizes.edges) 0 es)) l.out l.j)
    (all_edges (stored_in c.args.drawing) l.i (omega arith)) l.invariant.1
