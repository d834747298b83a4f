-- `scan::stages` meets its contract.
-- Assumes nothing.
use mathlib.Core.Path.{◌≡◌, refl, ◌∙◌, subst}
use mathlib.Core.Logic.{⊎_elim}
use Prim.Native.Nat.{ℕ, ◌+◌, ◌≤◌, ◌<◌}
use native.Mathlib.Nat.{eq-zero-or-pos}
use native.Mathlib.Omega.{arith}
use lib.ListN.{length, length-set}
use Rattle.form.specs.Stored.{graph_of}
use Rattle.choice.specs.Arcs.{size}
use Rattle.choice.specs.Drawing.{vertex_count}
use Rattle.marks.specs.Tables.{left}
use Rattle.scan.specs.Stages.{Top}
use Rattle.sweeps.proofs.Form.{is_nodes, is_all, drawn}
use Rattle.scan.proofs.Choosing.{pick_size}
use Rattle.scan.proofs.Staging.{run_start, run_stuck, run_turn, run_done}
use Rattle.form.proofs.Drawn.{stored_in}
use Rattle.scan.proofs.stages.Goals as goal
use Rattle.scan.proofs.stages.Goals.{After-best_node-best, After-settle-gone, At-loop-gone}

positive : {k : ℕ} → (k ≡ 0 → ⊥) → 0 < k
positive {k} f = ⊎_elim (λ e. absurd (f e)) (λ l. l) (eq-zero-or-pos k)

-- at each test: how many there are
few : (c : At-loop-gone) → (c.loop-gone.gone + c.loop-gone.ids ≤ 32768) × (c.args.drawing.sizes.nodes + c.args.drawing.sizes.edges ≡ vertex_count (graph_of c.args.drawing.src.now))
few c = let s = stored_in c.args.drawing in (omega (arith, c.loop-gone.invariant.1, (drawn s).few), is_all s)

-- the best of the graph's nodes
top : (c : After-best_node-best) → Top c.loop-gone.room (length (graph_of c.args.drawing.src.now).labels) c.best_node-best.result
top c = subst (λ (k : ℕ). Top c.loop-gone.room k c.best_node-best.result) (is_nodes (stored_in c.args.drawing)) c.best_node-best.ensures

-- what remains after the stage
fewer : (c : After-settle-gone) → Top c.loop-gone.room (length (graph_of c.args.drawing.src.now).labels) c.best_node-best.result
    → let n = vertex_count (graph_of c.args.drawing.src.now) in
    c.settle-gone.result + size (left n c.settle-gone.new.room) + 1 ≡ size (left n c.loop-gone.room)
fewer c top =
    let l = c.loop-gone in
    omega (
      arith,
      c.settle-gone.ensures.moves.fewer,
      pick_size (graph_of c.args.drawing.src.now) (drawn (stored_in c.args.drawing)) l.room (omega (arith, c.requires.0, l.invariant.0)) c.best_node-best.result top c.if-best-eq0.false,
    )

pub loop-gone-init : goal.loop-gone-init
loop-gone-init c =
    let g = graph_of c.args.drawing.src.now in
    let e = subst (λ (k : ℕ). c.args.free + size (left k c.args.room.now) ≡ k) (is_all (stored_in c.args.drawing)) c.requires.1 in
    (refl, omega (arith, e), λ kept b. run_start kept g c.args.room.now c.args.free b)

pub best_node-best-requires : goal.best_node-best-requires
best_node-best-requires c = let s = stored_in c.args.drawing in (omega (arith, is_nodes s, (drawn s).few_nodes), omega (arith, c.requires.0, c.loop-gone.invariant.0))

pub bounds-room-v : goal.bounds-room-v
bounds-room-v c =
    let best = top (goal.at.bounds-room-v c).After-best_node-best in
    let s = stored_in c.args.drawing in
    omega (arith, (best.is c.if-best-eq0.false).0, (drawn s).few_nodes, c.requires.0, c.loop-gone.invariant.0)

pub overflow_add-ids : goal.overflow_add-ids
overflow_add-ids c = omega (arith, (few (goal.at.overflow_add-ids c).At-loop-gone).0)

pub overflow_add-gone : goal.overflow_add-gone
overflow_add-gone c = omega (arith, (few (goal.at.overflow_add-gone c).At-loop-gone).0)

pub returns-then-best-eq0 : goal.returns-then-best-eq0
returns-then-best-eq0 c kept b =
    let l = c.loop-gone in
    let at = goal.at.returns-then-best-eq0 c in
    let some : 0 < size (left (vertex_count (graph_of c.args.drawing.src.now)) l.room) = positive (λ z. c.loop-gone-test.true (omega (arith, l.invariant.1, (few at.At-loop-gone).1, z))) in
    run_stuck (graph_of c.args.drawing.src.now) (drawn (stored_in c.args.drawing)) kept l.room (omega (arith, c.requires.0, l.invariant.0)) l.gone (l.invariant.2 kept b) c.best_node-best.result (top at.After-best_node-best) c.if-best-eq0.true some

pub overflow_add-gone-in-loop-gone : goal.overflow_add-gone-in-loop-gone
overflow_add-gone-in-loop-gone c =
    let at = goal.at.overflow_add-gone-in-loop-gone c in
    omega (arith, fewer at.After-settle-gone (top at.After-best_node-best), c.loop-gone.invariant.1, (drawn (stored_in c.args.drawing)).few)

pub loop-gone-smaller : goal.loop-gone-smaller
loop-gone-smaller c =
    let at = goal.at.loop-gone-smaller c in
    omega (arith, fewer at.After-settle-gone (top at.After-best_node-best))

pub loop-gone-preserved : goal.loop-gone-preserved
loop-gone-preserved c =
    let l = c.loop-gone in
    let b = c.best_node-best.result in
    let o = c.settle-gone in
    let at = goal.at.loop-gone-preserved c in
    let best = top at.After-best_node-best in (
      o.auto.room ∙ length-set l.room b.node 2 ∙ l.invariant.0,
      omega (arith, fewer at.After-settle-gone best, l.invariant.1),
      λ kept begun. run_turn (graph_of c.args.drawing.src.now) (drawn (stored_in c.args.drawing)) kept l.room (omega (arith, c.requires.0, l.invariant.0)) l.gone (l.invariant.2 kept begun) b best c.if-best-eq0.false o.new.room o.result o.ensures,
    )

pub returns : goal.returns
returns c kept b =
    let l = c.loop-gone in
    run_done (graph_of c.args.drawing.src.now) (drawn (stored_in c.args.drawing)) kept l.room (omega (arith, c.requires.0, l.invariant.0)) l.gone (l.invariant.2 kept b) (omega (arith, l.invariant.1, (few (goal.at.returns c).At-loop-gone).1, c.loop-gone-test.false))
