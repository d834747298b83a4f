-- `additions::add_node` meets its contract.
-- Assumes nothing.
use mathlib.Core.List.{List, [], ◌∷◌}
use mathlib.Core.Path.{sym, subst}
use Prim.Native.Nat.{ℕ}
use Rattle.le.specs.Le.{words}
use Rattle.graph.specs.Build.{new_node}
use Rattle.ledger.specs.Ledger.{drawing, Draws, more}
use Rattle.ledger.proofs.Added.{nodes_added}
use Rattle.additions.proofs.add_node.Goals as goal

pub returns : goal.returns
unfolding new_node
returns c =
    let a = c.args in
    let W = words a.room.now in
    subst (λ (X : List ℕ). Draws X (more a.z 1 0 0 0) (new_node a.label (drawing W a.z))) (sym c.set_word.ensures)
    (nodes_added W a.z c.requires.0 (a.label ∷ []) c.requires.1)
