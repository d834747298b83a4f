-- `copying::count_edges` meets its contract.
-- Assumes nothing.
use mathlib.Core.List.{List}
use mathlib.Core.Path.{◌≡◌, ap, ◌∙◌}
use Prim.Native.Nat.{ℕ, ◌+◌, ◌≤◌}
use lib.ListN.{length, take, length-append}
use Rattle.form.specs.Drawn.{graph_in}
use Rattle.form.specs.Form.{body_of}
use Rattle.form.specs.declared.Sizes.{Sizes}
use Rattle.form.proofs.Drawn.{stored_in}
use Rattle.form.proofs.Stored.{stored_rows, stored_known}
use Rattle.graph.specs.Graph.{Edge, edge_entries}
use Rattle.graph.specs.Lists.{keep}
use Rattle.graph.specs.Merge.{looked}
use Rattle.le.proofs.Rows.{holds_index, length_span}
use Rattle.links.specs.Links.{cells, is_listed}
use Rattle.links.proofs.Cells.{keep_more}
use Rattle.rewriting.specs.Rewriting.{ids_at}
use Rattle.rewriting.proofs.Lists.{EdgeRead, edge_row_lem, edge_held, edge_read, rows_stored, rows_held, edges_counted, all_edges}
use Rattle.copying.proofs.Mapping.{looked_append, entries_within}
use native.Mathlib.Omega.{arith}
use Rattle.copying.proofs.count_edges.Given as given
use Rattle.copying.proofs.count_edges.Goals as goal
use Rattle.copying.proofs.count_edges.Goals.{After-edge_at-e}

-- the edge of this turn
met : (g : given.Over) (c : After-edge_at-e g)
    → EdgeRead c.args.drawing.src.now c.args.drawing.sizes c.args.drawing.sizes.nodes (graph_in c.args.drawing).edges c.loop-i.i c.loop-i.k c.edge_at-e.result
met g c = let s = stored_in c.args.drawing in
    let b = c.args.drawing.src.now in
    let z = c.args.drawing.sizes in
    let l = c.loop-i in
    let es = (graph_in c.args.drawing).edges in
    edge_read z es l.i l.k (omega (arith, edges_counted s)) l.invariant.2 (rows_held s) _ c.body-row.ensures (edge_row_lem b z es l.i (omega (arith, edges_counted s)) (rows_stored s)) (stored_rows s).low z.nodes (stored_known s).edges c.edge_at-e.result c.edge_at-e.ensures

-- how many entries were met
sum : (g : given.Over) (c : After-edge_at-e g) → length (edge_entries (take (c.loop-i.i + 1) (graph_in c.args.drawing).edges))
    ≡ length (edge_entries (take c.loop-i.i (graph_in c.args.drawing).edges)) + (c.edge_at-e.result.sources + c.edge_at-e.result.targets)
sum g c = let a = c.args in
    let e = c.edge_at-e.result in
    let done = edge_entries (take c.loop-i.i (graph_in a.drawing).edges) in
    ap length (met g c).sofar ∙ length-append done (ids_at a.drawing.src.now a.drawing.sizes e.first (e.sources + e.targets))
    ∙ ap (λ (n : ℕ). length done + n) (length_span a.drawing.src.now (body_of a.drawing.sizes) e.first (e.sources + e.targets))

most : (g : given.Over) (c : After-edge_at-e g) → length (edge_entries (take (c.loop-i.i + 1) (graph_in c.args.drawing).edges)) ≤ c.args.drawing.sizes.ports
most g c = omega (arith, entries_within (graph_in c.args.drawing).edges (c.loop-i.i + 1), ap (λ (y : Sizes). y.ports) (stored_in c.args.drawing).sizes)

pub edge_at-e-requires : goal.edge_at-e-requires
edge_at-e-requires g c =
    let s = stored_in c.args.drawing in
    let l = c.loop-i in
    edge_held c.args.drawing.sizes (graph_in c.args.drawing).edges l.i l.k (omega (arith, edges_counted s)) l.invariant.2 (rows_held s) _ c.body-row.ensures

pub overflow_add-e : goal.overflow_add-e
overflow_add-e g c = omega (arith, holds_index (met g (goal.at.overflow_add-e g c).After-edge_at-e).ids.held)

pub count_part-count-requires-clause-ids : goal.count_part-count-requires-clause-ids
count_part-count-requires-clause-ids g c = (met g (goal.at.count_part-count-requires-clause-ids g c).After-edge_at-e).ids

pub overflow_add-count : goal.overflow_add-count
overflow_add-count g c =
    let e = (goal.at.overflow_add-count g c).After-edge_at-e in
    omega (arith, c.count_part-count.ensures.0, c.loop-i.invariant.3, sum g e, most g e, c.args.drawing.few)

pub loop-i-preserved : goal.loop-i-preserved
loop-i-preserved g c =
    let a = c.args in
    let l = c.loop-i in
    let e = (goal.at.loop-i-preserved g c).After-edge_at-e in
    let m = met g e in
    let f = c.count_part-count.ensures in (
      omega arith,
      l.invariant.1,
      m.end,
      omega (arith, f.0, l.invariant.3, sum g e),
      λ nodes map looks.
          let test = is_listed nodes (cells a.table.now) in
          let done = edge_entries (take l.i (graph_in a.drawing).edges) in
          let more = ap (λ (xs : List ℕ). length (keep test (looked map xs))) m.sofar ∙ ap (λ (xs : List ℕ). length (keep test xs)) (looked_append map done _) ∙ keep_more test (looked map done) _ in
          omega (arith, f.1 nodes map looks, l.invariant.4 nodes map looks, more),
    )

pub returns : goal.returns
returns g c =
    let a = c.args in
    let l = c.loop-i in
    let s = stored_in a.drawing in
    let es = (graph_in a.drawing).edges in
    let all = all_edges es l.i (omega (arith, l.invariant.0, l.invariant.1, c.loop-i-test.false, edges_counted s)) in (
      omega (arith, l.invariant.3, entries_within es l.i, ap (λ (y : Sizes). y.ports) s.sizes),
      λ nodes map looks. l.invariant.4 nodes map looks ∙ ap (λ (es : List Edge). length (keep (is_listed nodes (cells a.table.now)) (looked map (edge_entries es)))) all,
    )
