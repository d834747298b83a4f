-- `build::new_node` meets its contract.
-- Assumes nothing.
use mathlib.Core.Path.{◌≡◌, refl, subst}
use Prim.Native.Nat.{ℕ}
use Rattle.le.specs.Le.{words}
use Rattle.graph.specs.Answer.{answered}
use Rattle.graph.specs.Graph.{Graph}
use Rattle.steps.specs.Calls.{stepped}
use Rattle.ledger.specs.Ledger.{drawing, Draws, more}
use Rattle.build.proofs.Counts.{drawing_sized}
use Rattle.build.proofs.Steps.{turned_passed, step_nine, step_done}
use Rattle.build.proofs.Counts.{node_sized}
use Rattle.graph.specs.Build.{new_node}
use Rattle.steps.specs.Steps.{node_step}
use Rattle.build.proofs.new_node.Goals as goal

node : (l : ℕ) (g : Graph) → stepped (node_step l) g ≡ answered (new_node l g)
unfolding stepped
node l g = refl

pub returns-in_err-y : goal.returns-in_err-y
returns-in_err-y c =
    let a = c.args in
    let W = words a.room.now in
    turned_passed _ _ W c.from_residual.ensures.1 (step_nine _ _ (node _ _) (node_sized _ a.z (drawing_sized W a.z c.requires.0) _) _ c.in_err-y.ensures)

pub returns : goal.returns
returns c =
    let a = c.args in
    let W = words a.room.now in
    let g = drawing W a.z in
    step_done _ g (node _ g) (node_sized g a.z (drawing_sized W a.z c.requires.0) _) _ _ c.in_ok-y.ensures
    (subst (λ (k : ℕ). Draws (words c.add_node.new.room) (more a.z 1 0 0 0) (new_node k g)) c.get4.ensures c.add_node.ensures)
