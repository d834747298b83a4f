-- `additions::load` meets its contract.
-- Assumes nothing.
use mathlib.Core.List.{List}
use mathlib.Core.Path.{◌≡◌, sym, ap, ◌∙◌}
use Prim.Native.Nat.{◌-◌, ◌*◌}
use native.Mathlib.Nat.{le_antisymm}
use lib.ListN.{length}
use Rattle.graph.specs.Graph.{Edge}
use Rattle.graph.specs.Build.{with_edges}
use Rattle.graph.specs.Form.{edge_start}
use Rattle.graph.proofs.Rows.{edge_start_all}
use Rattle.form.specs.Stored.{graph_of}
use Rattle.form.specs.declared.Sizes.{Sizes}
use Rattle.write.proofs.Edges.{all_edges, edges_end}
use Rattle.ledger.proofs.Added.{draws_as}
use native.Mathlib.Omega.{arith}
use Rattle.form.proofs.Drawn.{stored_in}
use Rattle.additions.proofs.load.Goals as goal

pub returns : goal.returns
returns c =
    let a = c.args in
    let l = c.loop-i in
    let S = stored_in c.args.drawing in
    let g = graph_of a.drawing.src.now in
    let all : l.i ≡ a.drawing.sizes.edges = le_antisymm l.invariant.0 c.loop-i-test.false in
    let n : length g.edges ≡ a.drawing.sizes.edges = sym (ap (λ (y : Sizes). y.edges) S.sizes) in
    let ports : l.k - 2 * l.i ≡ a.drawing.sizes.ports = omega (arith, l.invariant.1, ap (edge_start g.edges) (all ∙ sym n), edge_start_all g.edges, edges_end S) in
    draws_as (λ k. record { width = a.drawing.sizes.width; nodes = a.drawing.sizes.nodes; edges = all k; ports = ports k; sources = a.drawing.sizes.sources; targets = a.drawing.sizes.targets; pairs = a.drawing.sizes.pairs })
    (ap (λ (es : List Edge). with_edges es g) (all_edges S l.i (omega arith))) l.invariant.2
