-- `rewriting::rewrite_edges` meets its contract.
-- Assumes nothing.
use mathlib.Core.Path.{◌≡◌, refl, ◌∙◌}
use Prim.Native.Nat.{◌<◌}
use Rattle.graph.specs.Graph.{Graph}
use Rattle.le.proofs.Numbers.{below_each}
use Rattle.rewriting.specs.Rewriting.{Laid}
use Rattle.rewriting.proofs.Lists.{EdgeRead}
use Rattle.rewriting.proofs.Parts.{walk_start, walk_held, walk_met, walk_ready, walk_more, walk_done}
use native.Mathlib.Omega.{arith}
use Rattle.rewriting.proofs.rewrite_edges.Goals as goal
use Rattle.rewriting.proofs.rewrite_edges.Goals.{After-edge_at-e}

-- the edge of this turn
met : (c : After-edge_at-e) → c.loop-i.i < c.args.n → (g : Graph) → Laid g c.args.nodes c.args.n c.args.y c.args.room.now c.args.out.now
    → EdgeRead c.loop-i.out c.args.y c.args.nodes g.edges c.loop-i.i c.loop-i.k c.edge_at-e.result
met c less g h = let l = c.loop-i in let t = l.invariant.4 g h in walk_met h c.requires.1 l.room less t.0 t.1 l.invariant.2 _ c.body_row-row.ensures c.edge_at-e.result c.edge_at-e.ensures

pub loop-i-init : goal.loop-i-init
loop-i-init c = (
  omega arith,
  refl,
  refl,
  below_each 256 c.args.out.now (λ i l. omega (arith, c.type_inv.out i)),
  λ g h. (refl, walk_start h c.requires.1),
)

pub edge_at-e-requires : goal.edge_at-e-requires
edge_at-e-requires c =
    let l = c.loop-i in
    let h = c.requires.0.1 in
    let t = l.invariant.4 _ h in
    walk_held h c.requires.1 l.room c.loop-i-test.true t.0 t.1 l.invariant.2 _ c.body_row-row.ensures

pub rewrite_edge-next-requires : goal.rewrite_edge-next-requires
rewrite_edge-next-requires c =
    let l = c.loop-i in
    let h = c.requires.0.1 in
    let t = l.invariant.4 _ h in
    walk_ready h c.requires.1 l.room c.loop-i-test.true t.0 t.1 l.invariant.2 (met (goal.at.rewrite_edge-next-requires c).After-edge_at-e c.loop-i-test.true _ h) l.invariant.1

pub loop-i-preserved : goal.loop-i-preserved
loop-i-preserved c =
    let l = c.loop-i in
    let q = c.rewrite_edge-next in (
      omega (arith, c.loop-i-test.true),
      q.auto.room ∙ l.invariant.1,
      q.auto.out ∙ l.invariant.2,
      below_each 256 q.new.out (λ i d. omega (arith, c.type_inv.out i)),
      λ g h.
          let t = l.invariant.4 g h in
          let m = met (goal.at.loop-i-preserved c).After-edge_at-e c.loop-i-test.true g h in
          (m.end, walk_more h c.requires.1 l.room c.loop-i-test.true t.0 t.1 l.invariant.2 m l.invariant.3 q.new.room q.ensures),
    )

pub returns : goal.returns
returns c = λ g h.
    let l = c.loop-i in
    let e : l.i ≡ c.args.n = omega (arith, l.invariant.0, c.loop-i-test.false) in
    walk_done h c.requires.1 l.room e (l.invariant.4 g h).1
