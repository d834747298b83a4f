-- `build::new_edge` meets its contract.
-- Assumes nothing.
use mathlib.Core.List.{List}
use mathlib.Core.Path.{◌≡◌, sym, ap, ◌∙◌, subst}
use Prim.Native.Nat.{ℕ, ◌+◌}
use native.Mathlib.Omega.{arith}
use lib.ListN.{length}
use Rattle.le.specs.Le.{Below, words}
use Rattle.le.specs.Rows.{span}
use Rattle.le.proofs.Rows.{at_row}
use Rattle.graph.specs.Answer.{answered, ◌>>=◌}
use Rattle.graph.specs.Graph.{Graph}
use Rattle.graph.proofs.Steps.{stops, goes}
use Rattle.form.specs.declared.Sizes.{Sizes}
use Rattle.form.proofs.Answers.{refused_so}
use Rattle.steps.specs.Calls.{known_all, stepped}
use Rattle.ledger.specs.Ledger.{drawing, Sound, Draws, more}
use Rattle.ledger.proofs.Added.{drawn_nodes}
use Rattle.build.proofs.Lists.{list_held, ids_known, listed, listed_first}
use Rattle.build.proofs.Counts.{Sized, drawing_sized}
use Rattle.build.proofs.Steps.{turned_passed, step_stops, step_nine, step_done}
use Rattle.build.proofs.Counts.{edge_sized}
use Rattle.graph.specs.Build.{new_edge}
use Rattle.steps.specs.Steps.{edge_step}
use Rattle.build.proofs.new_edge.Goals as goal

by_step : (W : List ℕ) (z : Sizes) (l : ℕ) (s t : List ℕ)
    → stepped (edge_step l s t) (drawing W z) ≡ (known_all z.nodes s >>= λ s. known_all z.nodes t >>= λ t. answered (new_edge l s t (drawing W z)))
unfolding stepped
by_step W z l s t = ap (λ (n : ℕ). known_all n s >>= λ s. known_all n t >>= λ t. answered (new_edge l s t (drawing W z))) (drawn_nodes W z)

-- the sizes of what the step gives
sizes : (W : List ℕ) (z : Sizes) → Sound W z → (l m n : ℕ) (s t : List ℕ) → length s ≡ m → length t ≡ n → Sized (new_edge l s t (drawing W z)) (more z 0 1 (m + n) 0)
sizes W z sound l m n s t e f =
    subst (λ (k : ℕ). Sized (new_edge l s t (drawing W z)) (more z 0 1 k 0)) (λ i. e i + f i) (edge_sized (drawing W z) z (drawing_sized W z sound) l s t)

pub returns-in_err-s : goal.returns-in_err-s
returns-in_err-s c = turned_passed _ _ _ c.from_residual.ensures.1 (step_stops _ _ (by_step _ _ _ _ _ ∙ stops _ (refused_so _ _ _ c.in_err-s.ensures)))

pub returns-in_err-t : goal.returns-in_err-t
returns-in_err-t c =
    let s = ids_known _ _ _ _ c.in_ok-s.ensures in
    turned_passed _ _ _ c.from_residual-in_err-t.ensures.1 (step_stops _ _ (by_step _ _ _ _ _ ∙ goes _ s.answers ∙ stops _ (refused_so _ _ _ c.in_err-t.ensures)))

pub overflow_add-s : goal.overflow_add-s
overflow_add-s c = omega (arith, (ids_known _ _ _ _ c.in_ok-s.ensures).many, (ids_known _ _ _ _ c.in_ok-t.ensures).many)

pub grown-requires : goal.grown-requires
grown-requires c =
    let s = ids_known _ _ _ _ c.in_ok-s.ensures in
    let t = ids_known _ _ _ _ c.in_ok-t.ensures in
    (omega arith, omega arith, omega (arith, s.many, t.many), omega arith)

pub returns-in_err-y : goal.returns-in_err-y
returns-in_err-y c =
    let a = c.args in
    let W = words a.room.now in
    let s = ids_known _ _ _ _ c.in_ok-s.ensures in
    let t = ids_known _ _ _ _ c.in_ok-t.ensures in
    turned_passed _ _ W c.from_residual-in_err-y.ensures.1
    (step_nine _ _ (by_step _ _ _ _ _ ∙ goes _ s.answers ∙ goes _ t.answers) (sizes W a.z c.requires.0 _ _ _ _ _ s.long t.long) _ c.in_err-y.ensures)

pub add_edge-requires-clause-holds : goal.add_edge-requires-clause-holds
add_edge-requires-clause-holds c =
    let a = c.args in
    let p = a.p in
    let s = ids_known _ _ _ _ c.in_ok-s.ensures in
    let t = ids_known _ _ _ _ c.in_ok-t.ensures in
    let from = listed_first a.steps.now c.row_at.result p.lists _ _ c.row_at.ensures s.many in
    let start : 0 + c.in_ok-s.s ≡ p.first = omega (arith, s.many) in
    let to = ap (λ (k : ℕ). span a.steps.now c.row_at.result k c.in_ok-t.t) start ∙ listed a.steps.now c.row_at.result p.lists p.first _ _ c.row_at.ensures t.many in (
      at_row c.row_at.ensures (list_held a.steps.now p.lists _ (omega (arith, s.many, t.many))),
      subst (Below a.z.nodes) (sym from) s.below,
      subst (Below a.z.nodes) (sym to) t.below,
    )

pub returns : goal.returns
returns c =
    let a = c.args in
    let p = a.p in
    let W = words a.room.now in
    let g = drawing W a.z in
    let s = ids_known _ _ _ _ c.in_ok-s.ensures in
    let t = ids_known _ _ _ _ c.in_ok-t.ensures in
    let from = listed_first a.steps.now c.row_at.result p.lists _ _ c.row_at.ensures s.many in
    let start : 0 + c.in_ok-s.s ≡ p.first = omega (arith, s.many) in
    let to = ap (λ (k : ℕ). span a.steps.now c.row_at.result k c.in_ok-t.t) start ∙ listed a.steps.now c.row_at.result p.lists p.first _ _ c.row_at.ensures t.many in
    step_done _ g (by_step _ _ _ _ _ ∙ goes _ s.answers ∙ goes _ t.answers) (sizes W a.z c.requires.0 _ _ _ _ _ s.long t.long) _ _ c.in_ok-y.ensures
    (subst (λ (h : Graph). Draws (words c.add_edge.new.room) (more a.z 0 1 (c.in_ok-s.s + c.in_ok-t.t) 0) h) (λ i. new_edge (c.get4.ensures i) (from i) (to i) g) c.add_edge.ensures)
