-- `once_fed::mark_edges` meets its contract.
-- Assumes nothing.
use Rattle.form.proofs.Drawn.{stored_in}
use mathlib.Core.Path.{refl, sym, ◌∙◌, subst}
use Prim.Native.Nat.{◌+◌}
use native.Mathlib.Omega.{arith}
use Rattle.le.specs.Rows.{Holds}
use Rattle.le.specs.declared.Row.{Row}
use Rattle.once_fed.proofs.Edges.{Fit, begun, there, fit, ended}
use Rattle.once_fed.proofs.Marked.{marked_cleared}
use Rattle.once_fed.proofs.mark_edges.Goals as goal
use Rattle.once_fed.proofs.mark_edges.Goals.{After-edge_at-e}

-- the next edge
fitting : (c : After-edge_at-e) → let l = c.loop-i in
    Fit (stored_in c.args.drawing) l.room l.i l.k (omega arith) l.invariant.3 c.body-row.result c.edge_at-e.result
fitting c = let l = c.loop-i in
    let r = c.body-row in
    fit (stored_in c.args.drawing) l.room l.i l.k (omega arith) l.invariant.3 r.result r.ensures c.edge_at-e.result c.edge_at-e.ensures

pub clear-requires : goal.clear-requires
clear-requires c = c.requires

pub loop-i-init : goal.loop-i-init
loop-i-init c =
    let d = c.clear in
    (omega arith, refl, refl, begun (stored_in c.args.drawing) d.new.d (marked_cleared c.args.room.now d.new.d c.args.drawing.sizes.nodes c.requires d.ensures))

pub edge_at-e-requires : goal.edge_at-e-requires
edge_at-e-requires c =
    let l = c.loop-i in
    subst (λ (r : Row). Holds c.args.drawing.src.now r (l.k + 2)) (sym c.body-row.ensures)
    (there (stored_in c.args.drawing) l.room l.i l.k (omega arith) l.invariant.3).held

pub mark_edge-requires : goal.mark_edge-requires
mark_edge-requires c =
    let f = fitting (goal.at.mark_edge-requires c).After-edge_at-e in
    let long = c.requires in
    record { holds = (f.held, omega (arith, long, c.loop-i.invariant.2, c.clear.auto.d)); below = (f.sources_known, f.targets_known) }

pub returns-then-not-mark_edge : goal.returns-then-not-mark_edge
returns-then-not-mark_edge c =
    let f = c.mark_edge in
    let new = f.new.room in
    (fitting (goal.at.returns-then-not-mark_edge c).After-edge_at-e).stop new f.result c.if-not-mark_edge.true f.ensures

pub loop-i-preserved : goal.loop-i-preserved
loop-i-preserved c =
    let l = c.loop-i in
    let f = c.mark_edge in
    let new = f.new.room in (
      omega arith,
      l.invariant.1,
      f.auto.room ∙ l.invariant.2,
      (fitting (goal.at.loop-i-preserved c).After-edge_at-e).turn new f.result c.if-not-mark_edge.false f.ensures,
    )

pub returns : goal.returns
returns c = let l = c.loop-i in ended (stored_in c.args.drawing) l.room l.i l.k (omega arith) l.invariant.3
