-- `build::unify` meets its contract.
-- Assumes nothing.
use mathlib.Core.List.{List}
use mathlib.Core.Path.{◌≡◌, sym, ap, ◌∙◌}
use Prim.Native.Nat.{ℕ}
use Rattle.le.specs.Le.{words}
use Rattle.graph.specs.Answer.{answered, ◌>>=◌}
use Rattle.graph.specs.Calls.{known}
use Rattle.graph.proofs.Answers.{known_below}
use Rattle.graph.proofs.Steps.{stops, goes}
use Rattle.form.specs.declared.Sizes.{Sizes}
use Rattle.steps.specs.Calls.{stepped}
use Rattle.ledger.specs.Ledger.{drawing, more}
use Rattle.ledger.proofs.Added.{drawn_nodes}
use Rattle.build.proofs.Counts.{drawing_sized}
use Rattle.build.proofs.Steps.{turned_passed, step_stops, step_nine, step_done, within_each, known_same}
use Rattle.build.proofs.Counts.{pair_sized}
use Rattle.graph.specs.Build.{unify}
use Rattle.steps.specs.Steps.{pair_step}
use Rattle.build.proofs.unify.Goals as goal

by_step : (W : List ℕ) (z : Sizes) {v w x y : ℕ} → v ≡ x → w ≡ y
    → stepped (pair_step x y) (drawing W z) ≡ (known z.nodes v >>= λ v. known z.nodes w >>= λ w. answered (unify v w (drawing W z)))
unfolding stepped
by_step W z {v} {w} e f =
    (λ i. stepped (pair_step (sym e i) (sym f i)) (drawing W z)) ∙ ap (λ (n : ℕ). known n v >>= λ v. known n w >>= λ w. answered (unify v w (drawing W z))) (drawn_nodes W z)

pub returns-in_err-known : goal.returns-in_err-known
returns-in_err-known c =
    turned_passed _ _ _ c.from_residual.ensures.1 (step_stops _ _ (by_step _ _ c.get4-v.ensures c.get4-w.ensures ∙ stops _ (sym c.in_err-known.ensures)))

pub returns-in_err-known-2 : goal.returns-in_err-known-2
returns-in_err-known-2 c =
    turned_passed _ _ _ c.from_residual-in_err-known-2.ensures.1
    (step_stops _ _ (by_step _ _ c.get4-v.ensures c.get4-w.ensures ∙ goes _ (sym c.in_ok-known.ensures) ∙ stops _ (sym c.in_err-known-2.ensures)))

pub returns-in_err-y : goal.returns-in_err-y
returns-in_err-y c =
    let a = c.args in
    let W = words a.room.now in
    let v = known_same _ _ _ (sym c.in_ok-known.ensures) in
    let w = known_same _ _ _ (sym c.in_ok-known-2.ensures) in
    turned_passed _ _ W c.from_residual-in_err-y.ensures.1
    (step_nine _ _ (by_step _ _ c.get4-v.ensures c.get4-w.ensures ∙ goes _ v ∙ goes _ w) (pair_sized _ a.z (drawing_sized W a.z c.requires.0) _ _) _ c.in_err-y.ensures)

pub add_pair-requires : goal.add_pair-requires
add_pair-requires c =
    let w = within_each (more c.args.z 0 0 0 1) c.in_ok-y.ensures.0 in
    (c.requires.0, w.0.pairs, known_below _ _ _ (known_same _ _ _ (sym c.in_ok-known.ensures)), known_below _ _ _ (known_same _ _ _ (sym c.in_ok-known-2.ensures)), c.requires.1)

pub returns : goal.returns
returns c =
    let a = c.args in
    let W = words a.room.now in
    let v = known_same _ _ _ (sym c.in_ok-known.ensures) in
    let w = known_same _ _ _ (sym c.in_ok-known-2.ensures) in
    step_done _ _ (by_step _ _ c.get4-v.ensures c.get4-w.ensures ∙ goes _ v ∙ goes _ w) (pair_sized _ a.z (drawing_sized W a.z c.requires.0) _ _) _ _ c.in_ok-y.ensures
    c.add_pair.ensures
