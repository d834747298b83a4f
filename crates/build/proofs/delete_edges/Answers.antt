-- `build::delete_edges` meets its contract.
-- Assumes nothing.
use mathlib.Core.List.{List}
use mathlib.Core.Path.{◌≡◌, sym, ap, ◌∙◌, subst}
use Prim.Native.Nat.{ℕ}
use native.Mathlib.Omega.{arith}
use Rattle.le.specs.Le.{Below, words}
use Rattle.le.proofs.Rows.{at_row}
use Rattle.graph.specs.Answer.{answered, ◌>>=◌}
use Rattle.graph.proofs.Steps.{stops, goes}
use Rattle.form.specs.declared.Sizes.{Sizes}
use Rattle.form.proofs.Answers.{refused_so}
use Rattle.steps.specs.Calls.{known_all, stepped}
use Rattle.ledger.specs.Ledger.{drawing, Draws}
use Rattle.ledger.proofs.Added.{drawn_edges}
use Rattle.build.proofs.Lists.{list_held, ids_known, listed_first}
use Rattle.build.proofs.Steps.{turned_passed, step_stops, step_drawn}
use Rattle.graph.specs.Delete.{delete_edges}
use Rattle.steps.specs.Steps.{without_edges_step}
use Rattle.build.proofs.delete_edges.Goals as goal

by_step : (W : List ℕ) (z : Sizes) (ids : List ℕ) → stepped (without_edges_step ids) (drawing W z) ≡ (known_all z.edges ids >>= λ gone. answered (delete_edges gone (drawing W z)))
unfolding stepped
by_step W z ids = ap (λ (n : ℕ). known_all n ids >>= λ gone. answered (delete_edges gone (drawing W z))) (drawn_edges W z)

pub returns-in_err-n : goal.returns-in_err-n
returns-in_err-n c = turned_passed _ _ _ c.from_residual.ensures.1 (step_stops _ _ (by_step _ _ _ ∙ stops _ (refused_so _ _ _ c.in_err-n.ensures)))

pub delete_edges-requires : goal.delete_edges-requires
delete_edges-requires c =
    let a = c.args in
    let k = ids_known _ _ _ _ c.in_ok-n.ensures in
    let row = listed_first a.steps.now c.row_at.result a.p.lists _ _ c.row_at.ensures k.many in
    (c.requires.0, at_row c.row_at.ensures (list_held a.steps.now a.p.lists _ (omega (arith, k.many))), subst (Below a.z.edges) (sym row) k.below, c.requires.1)

pub returns : goal.returns
returns c =
    let a = c.args in
    let g = drawing (words a.room.now) a.z in
    let k = ids_known _ _ _ _ c.in_ok-n.ensures in
    let row = listed_first a.steps.now c.row_at.result a.p.lists _ _ c.row_at.ensures k.many in
    step_drawn _ g _ (by_step _ _ _ ∙ goes _ k.answers) _ _
    (subst (λ (ids : List ℕ). Draws (words c.delete_edges.new.room) c.delete_edges.result (delete_edges ids g)) row c.delete_edges.ensures)
