-- `hypergraph::discrete` meets its contract.
-- Assumes nothing.
use mathlib.Core.List.{List, []}
use mathlib.Core.Logic.{inr}
use mathlib.Core.Path.{refl, sym, ap, ◌∙◌}
use Prim.Native.Nat.{ℕ}
use native.Mathlib.Omega.{arith}
use lib.ListN.{length}
use Rattle.graph.specs.Build.{discrete}
use Rattle.graph.specs.Calls.{discrete_call, discrete_step, label_list}
use Rattle.graph.proofs.Steps.{stops, goes}
use Rattle.form.proofs.Answers.{refused_so, gives_passed}
use Rattle.form.proofs.Listed.{Given, labels_given}
use Rattle.write.specs.Write.{drawn, fitted, counted_as}
use Rattle.write.proofs.Calls.{nothing_refused, Ends, nothing_ends}
use Rattle.pieces.specs.Lent.{lent}
use Rattle.hypergraph.proofs.Bodies.{discrete_labels}
use Rattle.hypergraph.proofs.discrete.Goals as goal
use Rattle.hypergraph.proofs.discrete.Goals.{After-result_size}

list : (c : After-result_size) → Given (label_list c.args.labels.now) c.args.labels.now 4 c.in_ok-n.n
list c = labels_given _ _ (inr refl) c.in_ok-n.ensures

ends : (c : After-result_size) → Ends (discrete_call c.args.labels.now (length c.args.out.now)) c.args.out.now c.sized-y.result
    (discrete (lent c.args.labels.now 4 c.in_ok-n.n)) 0
unfolding discrete_step discrete
ends c =
    let l = list c in
    nothing_ends c.args.out.now (discrete (lent c.args.labels.now 4 c.in_ok-n.n)) 0
    (c.sized-y.ensures ∙ ap (λ (k : ℕ). fitted (counted_as k 0 0 0 0) 0) l.many) (discrete_step c.args.labels.now) (goes _ l.answers)

pub returns-in_err-n : goal.returns-in_err-n
unfolding discrete_step
returns-in_err-n c =
    gives_passed _ _ c.from_residual.ensures.1
    (nothing_refused (discrete_step c.args.labels.now) _ (stops _ (refused_so _ (label_list c.args.labels.now) _ c.in_err-n.ensures)))

pub returns-in_err-bytes : goal.returns-in_err-bytes
returns-in_err-bytes c = (ends (goal.at.returns-in_err-bytes c).After-result_size).refuses _ c.in_err-bytes.ensures c.from_residual-in_err-bytes.ensures.1

pub put_head-requires : goal.put_head-requires
put_head-requires c =
    let p = (goal.at.put_head-requires c).After-result_size in
    ((ends p).room c.in_ok-bytes.ensures, (list p).there, omega (arith, ap (λ y. y.nodes) c.sized-y.ensures))

pub returns : goal.returns
unfolding discrete
returns c =
    let labels = lent c.args.labels.now 4 c.in_ok-n.n in
    (ends (goal.at.returns c).After-result_size).done c.in_ok-bytes.ensures
    (c.put_head.ensures ∙ ap (λ (l : List ℕ). drawn c.args.out.now c.sized-y.result l []) (sym (discrete_labels labels)))
