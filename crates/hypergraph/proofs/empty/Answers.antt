-- `hypergraph::empty` meets its contract.
-- Assumes nothing.
use mathlib.Core.Path.{refl, sym, ◌∙◌}
use lib.ListN.{length}
use Rattle.graph.specs.Build.{empty}
use Rattle.graph.specs.Calls.{empty_call, empty_step}
use Rattle.write.proofs.Results.{drawn_start}
use Rattle.write.proofs.Calls.{Ends, nothing_ends}
use Rattle.hypergraph.proofs.empty.Goals as goal
use Rattle.hypergraph.proofs.empty.Goals.{After-result_size}

ends : (c : After-result_size) → Ends (empty_call (length c.args.out.now)) c.args.out.now c.sized-y.result empty 0
unfolding empty_step
ends c = nothing_ends c.args.out.now empty 0 c.sized-y.ensures empty_step refl

pub returns-in_err-bytes : goal.returns-in_err-bytes
returns-in_err-bytes c = (ends (goal.at.returns-in_err-bytes c).After-result_size).refuses _ c.in_err-bytes.ensures c.from_residual.ensures.1

pub put_header-requires : goal.put_header-requires
put_header-requires c = let r = (ends (goal.at.put_header-requires c).After-result_size).room c.in_ok-bytes.ensures in (r.low, r.fits, r.header)

pub returns : goal.returns
returns c = (ends (goal.at.returns c).After-result_size).done c.in_ok-bytes.ensures (c.put_header.ensures ∙ sym (drawn_start c.args.out.now c.sized-y.result))
