-- `open_hypergraph::singleton` meets its contract.
-- Assumes nothing.
use mathlib.Core.Logic.{inr}
use mathlib.Core.Path.{refl, ◌∙◌}
use native.Mathlib.Omega.{arith}
use lib.ListN.{length}
use Rattle.graph.specs.Build.{singleton}
use Rattle.graph.specs.Calls.{label_list, singleton_call, singleton_step}
use Rattle.form.proofs.Answers.{refused_so, gives_passed}
use Rattle.form.proofs.Listed.{labels_given}
use Rattle.write.proofs.Calls.{nothing_refused, Ends, nothing_ends}
use Rattle.pieces.specs.Lent.{lent}
use Rattle.open_hypergraph.proofs.Forms.{singleton_sources, singleton_targets, singleton_next, singleton_sizes}
use Rattle.open_hypergraph.proofs.singleton.Goals as goal
use Rattle.open_hypergraph.proofs.singleton.Goals.{After-result_size}

ends : (c : After-result_size) → Ends (singleton_call c.args.label c.args.sources.now c.args.targets.now (length c.args.out.now)) c.args.out.now c.sized-y.result
    (singleton c.args.label (lent c.args.sources.now 4 c.in_ok-s.s) (lent c.args.targets.now 4 c.in_ok-t.t)) 0
ends c =
    let a = c.args in
    let from = labels_given _ _ (inr refl) c.in_ok-s.ensures in
    let to = labels_given _ _ (inr refl) c.in_ok-t.ensures in
    nothing_ends a.out.now _ _ (c.sized-y.ensures ∙ singleton_sizes a.label a.sources.now a.targets.now _ _) (singleton_step a.label a.sources.now a.targets.now)
    (singleton_next a.label a.sources.now a.targets.now from.answers to.answers)

pub returns-in_err-s : goal.returns-in_err-s
returns-in_err-s c =
    let a = c.args in
    gives_passed _ _ c.from_residual.ensures.1
    (nothing_refused _ _ (singleton_sources a.label a.sources.now a.targets.now (refused_so _ (label_list a.sources.now) _ c.in_err-s.ensures)))

pub returns-in_err-t : goal.returns-in_err-t
returns-in_err-t c =
    let a = c.args in
    let from = labels_given _ _ (inr refl) c.in_ok-s.ensures in
    gives_passed _ _ c.from_residual-in_err-t.ensures.1
    (nothing_refused _ _ (singleton_targets a.label a.sources.now a.targets.now from.answers (refused_so _ (label_list a.targets.now) _ c.in_err-t.ensures)))

pub put_singleton-requires : goal.put_singleton-requires
put_singleton-requires c =
    let y = c.sized-y.ensures in (
      (ends (goal.at.put_singleton-requires c).After-result_size).room c.in_ok-bytes.ensures,
      rw y (omega arith),
      rw y (omega arith),
      rw y (omega arith),
      (labels_given _ _ (inr refl) c.in_ok-s.ensures).there,
      (labels_given _ _ (inr refl) c.in_ok-t.ensures).there,
    )

pub returns-in_err-bytes : goal.returns-in_err-bytes
returns-in_err-bytes c = (ends (goal.at.returns-in_err-bytes c).After-result_size).refuses _ c.in_err-bytes.ensures c.from_residual-in_err-bytes.ensures.1

pub overflow_add-n : goal.overflow_add-n
overflow_add-n c = omega (arith, (labels_given _ _ (inr refl) c.in_ok-s.ensures).there.inside, (labels_given _ _ (inr refl) c.in_ok-t.ensures).there.inside)

pub returns : goal.returns
returns c = (ends (goal.at.returns c).After-result_size).done c.in_ok-bytes.ensures c.put_singleton.ensures
