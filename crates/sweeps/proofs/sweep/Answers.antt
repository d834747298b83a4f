-- `sweeps::sweep` meets its contract.
-- Assumes nothing.
use mathlib.Core.Path.{◌≡◌, ◌∙◌, subst}
use mathlib.Core.List.{List}
use Prim.Native.Nat.{ℕ, ◌+◌, ◌≤◌, ◌<◌}
use native.Mathlib.Omega.{arith}
use lib.ListN.{length, get_or}
use Rattle.graph.specs.Form.{no_edge}
use Rattle.form.specs.Stored.{graph_of}
use Rattle.choice.specs.Calls.{room_cycle_breaking_nodes_scanning}
use Rattle.choice.specs.Drawing.{vertex_count}
use Rattle.marks.specs.Tables.{Alike, visited, visited_of}
use Rattle.sweeps.proofs.Form.{is_nodes, is_edges, drawn, Read, counts_held, read_edge_lem}
use Rattle.sweeps.proofs.Sweeping.{size_few, visit_moves, swept_next}
use Rattle.form.proofs.Drawn.{stored_in}
use Rattle.sweeps.proofs.sweep.Goals as goal
use Rattle.sweeps.proofs.sweep.Goals.{After-edge_at-e, After-visit_held}

-- the edge as it was read
read : (c : After-edge_at-e) → c.loop-i.i < c.args.drawing.sizes.edges → Read (stored_in c.args.drawing) c.body-r.result c.loop-i.i c.edge_at-e.result
read c less = let l = c.loop-i in
    let r = c.body-r in
    read_edge_lem (stored_in c.args.drawing) r.result r.ensures l.i l.k less l.invariant.2 c.edge_at-e.result c.edge_at-e.ensures

-- the visit, in the graph's own terms
seen : (c : After-visit_held) → Read (stored_in c.args.drawing) c.body-r.result c.loop-i.i c.edge_at-e.result → let g = graph_of c.args.drawing.src.now in let l = c.loop-i in let d = get_or g.edges l.i no_edge in
    (c.visit_held.result ≡ visited_of d.sources d.targets (length g.labels + l.i) l.room) × Alike (visited d.sources d.targets (length g.labels + l.i) l.room) c.visit_held.new.room
seen c f = let n = is_nodes (stored_in c.args.drawing) in
    let l = c.loop-i in
    let o = c.visit_held in (
      o.ensures.value ∙ (λ i. visited_of (f.sources_are i) (f.targets_are i) (n i + l.i) l.room),
      subst (λ (q : List ℕ). Alike q o.new.room) (λ i. visited (f.sources_are i) (f.targets_are i) (n i + l.i) l.room) o.ensures.alike,
    )

pub edge_at-e-requires : goal.edge_at-e-requires
edge_at-e-requires c =
    let l = c.loop-i in
    counts_held (stored_in c.args.drawing) c.body-r.result c.body-r.ensures l.i l.k (omega arith) l.invariant.2

pub visit_held-requires : goal.visit_held-requires
visit_held-requires c =
    let f = read (goal.at.visit_held-requires c).After-edge_at-e c.loop-i-test.true in
    let l = c.loop-i in record { holds = (f.held, omega (arith, is_nodes (stored_in c.args.drawing), is_edges (stored_in c.args.drawing), (drawn (stored_in c.args.drawing)).few), omega (arith, is_edges (stored_in c.args.drawing), (stored_in c.args.drawing).within.counts.edges), omega (arith, c.requires, l.invariant.1)); below = (f.low_sources, f.low_targets) }

pub with-gone-requires : goal.with-gone-requires
with-gone-requires c =
    let l = c.loop-i in
    let g = graph_of c.args.drawing.src.now in
    let d = drawn (stored_in c.args.drawing) in
    let long : room_cycle_breaking_nodes_scanning ≤ length l.room = omega (arith, c.requires, l.invariant.1) in
    let m = visit_moves g d l.room long l.i (omega (arith, is_edges (stored_in c.args.drawing))) in
    let few = size_few (vertex_count g) c.args.room.now (omega (arith, c.requires, d.few)) in
    (omega (arith, (seen (goal.at.with-gone-requires c).After-visit_held (read (goal.at.with-gone-requires c).After-edge_at-e c.loop-i-test.true)).0, m.fewer, l.invariant.3.moves.fewer, few, d.few), omega (arith, l.invariant.3.few, l.invariant.3.moves.fewer, few, d.few))

pub loop-i-preserved : goal.loop-i-preserved
loop-i-preserved c =
    let l = c.loop-i in
    let g = graph_of c.args.drawing.src.now in
    let o = c.visit_held in
    let w = seen (goal.at.loop-i-preserved c).After-visit_held (read (goal.at.loop-i-preserved c).After-edge_at-e c.loop-i-test.true) in
    let long : room_cycle_breaking_nodes_scanning ≤ length l.room = omega (arith, c.requires, l.invariant.1) in
    let x = c.with-gone in (
      omega arith,
      o.auto.room ∙ l.invariant.1,
      (read (goal.at.loop-i-preserved c).After-edge_at-e c.loop-i-test.true).next,
      swept_next g (drawn (stored_in c.args.drawing)) c.args.room.now l.room long l.i l.gone.all l.gone.edges (omega (arith, is_edges (stored_in c.args.drawing))) l.invariant.3 o.new.room o.result x.result.all x.result.edges (omega (arith, o.auto.room)) w.1 w.0 x.ensures.0 x.ensures.1,
    )
