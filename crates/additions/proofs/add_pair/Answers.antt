-- `additions::add_pair` meets its contract.
-- Assumes nothing.
use mathlib.Core.List.{List}
use mathlib.Core.Path.{sym, subst}
use Prim.Native.Nat.{ℕ}
use Rattle.le.specs.Le.{words}
use Rattle.graph.specs.Build.{unify}
use Rattle.ledger.specs.Ledger.{drawing, Draws, more}
use Rattle.ledger.proofs.Added.{pair_added}
use Rattle.additions.proofs.add_pair.Goals as goal

pub returns : goal.returns
returns c =
    let a = c.args in
    let W = words a.room.now in
    subst (λ (X : List ℕ). Draws X (more a.z 0 0 0 1) (unify a.v a.w (drawing W a.z))) (sym c.put_pair.ensures)
    (pair_added W a.z c.requires.0 a.v a.w c.requires.1 c.requires.2 c.requires.3)
