-- `build::new_operation` meets its contract.
-- Assumes nothing.
use mathlib.Core.List.{List}
use mathlib.Core.Path.{◌≡◌, refl, subst}
use Prim.Native.Nat.{ℕ, ◌+◌}
use Rattle.le.specs.Le.{words, numbers}
use Rattle.graph.specs.Answer.{answered}
use Rattle.graph.specs.Graph.{Graph}
use Rattle.form.specs.declared.Sizes.{Sizes}
use Rattle.steps.specs.Calls.{stepped}
use Rattle.ledger.specs.Ledger.{drawing, Sound, Draws, more}
use Rattle.build.proofs.Lists.{listed, listed_first}
use Rattle.build.proofs.Counts.{Sized, drawing_sized}
use Rattle.build.proofs.Steps.{turned_passed, step_nine, step_done}
use Rattle.le.proofs.Numbers.{length_numbers}
use Rattle.build.proofs.Counts.{operation_sized}
use Rattle.graph.specs.Build.{new_operation}
use Rattle.steps.specs.Steps.{operation_step}
use Rattle.build.proofs.new_operation.Goals as goal

given : (l : ℕ) (s t : List ℕ) (g : Graph) → stepped (operation_step l s t) g ≡ answered (new_operation l s t g)
unfolding stepped
given l s t g = refl

-- the sizes of what the step gives
sizes : (W : List ℕ) (z : Sizes) → Sound W z → (l m n : ℕ) (b c : List ℕ) → Sized (new_operation l (numbers 4 m b) (numbers 4 n c) (drawing W z)) (more z (m + n) 1 (m + n) 0)
sizes W z sound l m n b c =
    let s = numbers 4 m b in
    let t = numbers 4 n c in
    subst (λ (k : ℕ). Sized (new_operation l s t (drawing W z)) (more z k 1 k 0)) (λ i. length_numbers 4 m b i + length_numbers 4 n c i) (operation_sized (drawing W z) z (drawing_sized W z sound) l s t)

pub returns-in_err-y : goal.returns-in_err-y
returns-in_err-y c =
    let a = c.args in
    let W = words a.room.now in
    turned_passed _ _ W c.from_residual.ensures.1 (step_nine _ _ (given _ _ _ _) (sizes W a.z c.requires.0 _ _ _ _ _) _ c.in_err-y.ensures)

pub returns : goal.returns
returns c =
    let a = c.args in
    let W = words a.room.now in
    let g = drawing W a.z in
    let b = a.steps.now in
    let p = a.p in
    let s = listed_first b c.row_at.result p.lists p.first p.first c.row_at.ensures refl in
    let t = listed b c.row_at.result p.lists p.first p.second p.second c.row_at.ensures refl in
    step_done _ g (given _ _ _ g) (sizes W a.z c.requires.0 _ _ _ _ _) _ _ c.in_ok-y.ensures
    (subst (λ (h : Graph). Draws (words c.add_operation.new.room) (more a.z (p.first + p.second) 1 (p.first + p.second) 0) h) (λ i. new_operation (c.get4.ensures i) (s i) (t i) g) c.add_operation.ensures)
