-- `open_hypergraph::identity` meets its contract.
-- Assumes nothing.
use mathlib.Core.Logic.{inr}
use mathlib.Core.Path.{refl, ◌∙◌}
use native.Mathlib.Omega.{arith}
use lib.ListN.{length}
use Rattle.graph.specs.Build.{identity}
use Rattle.graph.specs.Calls.{label_list, identity_call, identity_step}
use Rattle.form.proofs.Answers.{refused_so, gives_passed}
use Rattle.form.proofs.Listed.{labels_given}
use Rattle.write.proofs.Calls.{nothing_refused, Ends, nothing_ends}
use Rattle.pieces.specs.Lent.{lent}
use Rattle.open_hypergraph.proofs.Forms.{identity_stopped, identity_next, identity_sizes}
use Rattle.open_hypergraph.proofs.identity.Goals as goal
use Rattle.open_hypergraph.proofs.identity.Goals.{After-result_size}

ends : (c : After-result_size) → Ends (identity_call c.args.labels.now (length c.args.out.now)) c.args.out.now c.sized-y.result
    (identity (lent c.args.labels.now 4 c.in_ok-n.n)) 0
ends c =
    let b = c.args.labels.now in
    nothing_ends c.args.out.now _ _ (c.sized-y.ensures ∙ identity_sizes b _) (identity_step b)
    (identity_next b (labels_given _ _ (inr refl) c.in_ok-n.ensures).answers)

pub returns-in_err-n : goal.returns-in_err-n
returns-in_err-n c =
    let b = c.args.labels.now in
    gives_passed _ _ c.from_residual.ensures.1 (nothing_refused _ _ (identity_stopped b (refused_so _ (label_list b) _ c.in_err-n.ensures)))

pub put_identity-requires : goal.put_identity-requires
put_identity-requires c =
    let y = c.sized-y.ensures in (
      (ends (goal.at.put_identity-requires c).After-result_size).room c.in_ok-bytes.ensures,
      rw y (omega arith),
      rw y (omega arith),
      (labels_given _ _ (inr refl) c.in_ok-n.ensures).there,
    )

pub returns-in_err-bytes : goal.returns-in_err-bytes
returns-in_err-bytes c = (ends (goal.at.returns-in_err-bytes c).After-result_size).refuses _ c.in_err-bytes.ensures c.from_residual-in_err-bytes.ensures.1

pub returns : goal.returns
returns c = (ends (goal.at.returns c).After-result_size).done c.in_ok-bytes.ensures c.put_identity.ensures
