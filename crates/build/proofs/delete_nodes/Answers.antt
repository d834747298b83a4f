-- `build::delete_nodes` meets its contract.
-- Assumes nothing.
use mathlib.Core.List.{List}
use mathlib.Core.Path.{◌≡◌, sym, ap, ◌∙◌, subst}
use Prim.Native.Nat.{ℕ}
use native.Mathlib.Omega.{arith}
use Rattle.le.specs.Le.{Below, words}
use Rattle.le.proofs.Rows.{at_row}
use Rattle.graph.specs.Answer.{answered, ◌>>=◌}
use Rattle.graph.proofs.Steps.{stops, goes}
use Rattle.form.specs.declared.Sizes.{Sizes}
use Rattle.form.proofs.Answers.{refused_so}
use Rattle.steps.specs.Calls.{known_all, stepped}
use Rattle.ledger.specs.Ledger.{drawing, Draws}
use Rattle.ledger.proofs.Added.{drawn_nodes}
use Rattle.build.proofs.Lists.{list_held, ids_known, listed_first}
use Rattle.build.proofs.Steps.{turned_passed, step_stops, step_drawn}
use Rattle.graph.specs.Delete.{delete_nodes}
use Rattle.steps.specs.Steps.{without_nodes_step}
use Rattle.build.proofs.delete_nodes.Goals as goal

by_step : (W : List ℕ) (z : Sizes) (ids : List ℕ) → stepped (without_nodes_step ids) (drawing W z) ≡ (known_all z.nodes ids >>= λ gone. answered (delete_nodes gone (drawing W z)))
unfolding stepped
by_step W z ids = ap (λ (n : ℕ). known_all n ids >>= λ gone. answered (delete_nodes gone (drawing W z))) (drawn_nodes W z)

pub returns-in_err-n : goal.returns-in_err-n
returns-in_err-n c = turned_passed _ _ _ c.from_residual.ensures.1 (step_stops _ _ (by_step _ _ _ ∙ stops _ (refused_so _ _ _ c.in_err-n.ensures)))

pub delete_nodes-requires : goal.delete_nodes-requires
delete_nodes-requires c =
    let a = c.args in
    let k = ids_known _ _ _ _ c.in_ok-n.ensures in
    let row = listed_first a.steps.now c.row_at.result a.p.lists _ _ c.row_at.ensures k.many in
    (c.requires.0, at_row c.row_at.ensures (list_held a.steps.now a.p.lists _ (omega (arith, k.many))), subst (Below a.z.nodes) (sym row) k.below, c.requires.1)

pub returns : goal.returns
returns c =
    let a = c.args in
    let g = drawing (words a.room.now) a.z in
    let k = ids_known _ _ _ _ c.in_ok-n.ensures in
    let row = listed_first a.steps.now c.row_at.result a.p.lists _ _ c.row_at.ensures k.many in
    step_drawn _ g _ (by_step _ _ _ ∙ goes _ k.answers) _ _
    (subst (λ (ids : List ℕ). Draws (words c.delete_nodes.new.room) c.delete_nodes.result (delete_nodes ids g)) row c.delete_nodes.ensures)
