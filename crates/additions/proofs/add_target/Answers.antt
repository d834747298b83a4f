-- `additions::add_target` meets its contract.
-- Assumes nothing.
use mathlib.Core.List.{List, [], ◌∷◌}
use mathlib.Core.Path.{◌≡◌, sym, ap, ◌∙◌, subst}
use Prim.Native.Nat.{ℕ, ◌+◌, ◌*◌}
use lib.ListN.{set}
use lib.Seq.{sets}
use Rattle.le.specs.Le.{words}
use Rattle.graph.specs.Build.{add_edge_target}
use Rattle.ledger.specs.Tables.{log_at, labels_at}
use Rattle.ledger.specs.Ledger.{drawing, Draws, more}
use Rattle.ledger.proofs.Added.{target_added}
use native.Mathlib.Omega.{arith}
use Rattle.additions.proofs.add_target.Goals as goal

pub returns : goal.returns
returns c =
    let a = c.args in
    let W = words a.room.now in
    let half : 2 * a.edge + 1 ≡ 2 * a.edge + 1 = omega arith in
    subst (λ (X : List ℕ). Draws X (more a.z 1 0 1 0) (add_edge_target a.edge a.label (drawing W a.z)))
    (sym (c.add_port.ensures ∙ ap (λ (h : ℕ). sets (set W (labels_at + a.z.nodes) a.label) (log_at + 2 * a.z.ports) (h ∷ a.z.nodes ∷ [])) half))
    (target_added W a.z c.requires.0 a.edge a.label c.requires.1 c.requires.2 c.requires.3)
