-- `sweeps::settle` meets its contract.
-- Assumes nothing.
use mathlib.Core.Path.{refl, ◌∙◌, subst}
use Prim.Native.Nat.{ℕ, suc}
use native.Mathlib.Omega.{arith}
use lib.ListN.{length}
use Rattle.form.specs.Stored.{graph_of}
use Rattle.choice.specs.Drawing.{vertex_count}
use Rattle.sweeps.specs.Sweeps.{Swept, start, another}
use Rattle.sweeps.proofs.Form.{is_edges, drawn}
use Rattle.sweeps.proofs.Sweeping.{size_few, moves_none, moves_then, settled_stable}
use Rattle.form.proofs.Drawn.{stored_in}
use Rattle.sweeps.proofs.settle.Goals as goal
use Rattle.sweeps.proofs.settle.Goals.{After-sweep-swept}

-- the sweep, over all edges
swept : (c : After-sweep-swept) → let g = graph_of c.args.drawing.src.now in Swept g c.loop.room c.sweep-swept.new.room (length g.edges) c.sweep-swept.result.all c.sweep-swept.result.edges
swept c = subst (λ (k : ℕ). Swept (graph_of c.args.drawing.src.now) c.loop.room c.sweep-swept.new.room k c.sweep-swept.result.all c.sweep-swept.result.edges) (is_edges (stored_in c.args.drawing)) c.sweep-swept.ensures

pub loop-init : goal.loop-init
loop-init c = (refl, moves_none (graph_of c.args.drawing.src.now) c.args.room.now, (0, start))

pub overflow_add-gone : goal.overflow_add-gone
overflow_add-gone c =
    let d = drawn (stored_in c.args.drawing) in
    omega (arith, c.sweep-swept.ensures.moves.fewer, c.loop.invariant.1.fewer, size_few (vertex_count (graph_of c.args.drawing.src.now)) c.args.room.now (omega (arith, c.requires, d.few)), d.few)

pub returns : goal.returns
returns c =
    let w = c.sweep-swept in
    record {
      moves = moves_then c.loop.invariant.1 w.ensures.moves;
      stable = settled_stable (graph_of c.args.drawing.src.now) (drawn (stored_in c.args.drawing)) w.new.room (omega (arith, c.requires, w.auto.room, c.loop.invariant.0))
          (λ i l. w.ensures.still c.if-swept.true i (omega (arith, is_edges (stored_in c.args.drawing))));
      sweeps = c.loop.invariant.2.0;
      before = c.loop.room;
      run = c.loop.invariant.2.1;
      last = (w.result.edges, subst (λ (k : ℕ). Swept (graph_of c.args.drawing.src.now) c.loop.room w.new.room (length (graph_of c.args.drawing.src.now).edges) k w.result.edges) c.if-swept.true (swept (goal.at.returns c).After-sweep-swept));
    }

pub loop-preserved : goal.loop-preserved
loop-preserved c =
    let l = c.loop in
    let w = c.sweep-swept in
    (w.auto.room ∙ l.invariant.0, moves_then l.invariant.1 w.ensures.moves, (suc l.invariant.2.0, another w.new.room w.result.all w.result.edges l.invariant.2.1 (swept (goal.at.loop-preserved c).After-sweep-swept) c.if-swept.false))
