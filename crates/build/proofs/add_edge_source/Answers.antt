-- `build::add_edge_source` meets its contract.
-- Assumes nothing.
use mathlib.Core.List.{List}
use mathlib.Core.Path.{◌≡◌, sym, ap, ◌∙◌, subst}
use Prim.Native.Nat.{ℕ}
use Rattle.le.specs.Le.{words}
use Rattle.graph.specs.Answer.{answered, ◌>>=◌}
use Rattle.graph.specs.Calls.{known}
use Rattle.graph.proofs.Answers.{known_below}
use Rattle.graph.proofs.Steps.{stops, goes}
use Rattle.form.specs.declared.Sizes.{Sizes}
use Rattle.steps.specs.Calls.{stepped}
use Rattle.ledger.specs.Ledger.{drawing, Draws, more}
use Rattle.ledger.proofs.Added.{drawn_edges}
use Rattle.build.proofs.Counts.{drawing_sized}
use Rattle.build.proofs.Steps.{turned_passed, step_stops, step_nine, step_done, within_each}
use Rattle.build.proofs.Counts.{source_sized}
use Rattle.graph.specs.Build.{add_edge_source}
use Rattle.steps.specs.Steps.{source_step}
use Rattle.build.proofs.add_edge_source.Goals as goal

by_step : (W : List ℕ) (z : Sizes) {e x : ℕ} (l : ℕ) → e ≡ x → stepped (source_step x l) (drawing W z) ≡ (known z.edges e >>= λ edge. answered (add_edge_source edge l (drawing W z)))
unfolding stepped
by_step W z {e} l h = (λ i. stepped (source_step (sym h i) l) (drawing W z)) ∙ ap (λ (n : ℕ). known n e >>= λ edge. answered (add_edge_source edge l (drawing W z))) (drawn_edges W z)

pub returns-in_err-edge : goal.returns-in_err-edge
returns-in_err-edge c = turned_passed _ _ _ c.from_residual.ensures.1 (step_stops _ _ (by_step _ _ _ c.get4.ensures ∙ stops _ (sym c.in_err-edge.ensures)))

pub returns-in_err-y : goal.returns-in_err-y
returns-in_err-y c =
    let a = c.args in
    let W = words a.room.now in
    let edge = sym c.in_ok-edge.ensures in
    turned_passed _ _ W c.from_residual-in_err-y.ensures.1
    (step_nine _ _ (by_step _ _ _ c.get4.ensures ∙ goes _ edge) (source_sized _ a.z (drawing_sized W a.z c.requires.0) _ _ (known_below _ _ _ edge)) _ c.in_err-y.ensures)

pub add_source-requires : goal.add_source-requires
add_source-requires c =
    let w = within_each (more c.args.z 1 0 1 0) c.in_ok-y.ensures.0 in
    (c.requires.0, w.0.nodes, w.1, known_below _ _ _ (sym c.in_ok-edge.ensures), c.requires.1)

pub returns : goal.returns
returns c =
    let a = c.args in
    let W = words a.room.now in
    let g = drawing W a.z in
    let edge = sym c.in_ok-edge.ensures in
    step_done _ g (by_step _ _ _ c.get4.ensures ∙ goes _ edge) (source_sized g a.z (drawing_sized W a.z c.requires.0) _ _ (known_below _ _ _ edge)) _ _ c.in_ok-y.ensures
    (subst (λ (k : ℕ). Draws (words c.add_source.new.room) (more a.z 1 0 1 0) (add_edge_source c.in_ok-edge.edge k g)) c.get4-2.ensures c.add_source.ensures)
