-- `reasons::put_half` meets its contract.
-- Assumes nothing.
use mathlib.Core.Path.{sym, ◌∙◌}
use native.Mathlib.Omega.{arith}
use Rattle.reasons.specs.Told.{meant}
use Rattle.reasons.proofs.Entries.{freed_node, freed_edge}
use Rattle.reasons.proofs.put_half.Goals as goal

pub returns-then-v-nodes : goal.returns-then-v-nodes
returns-then-v-nodes c = let a = c.args in sym (freed_edge a.nodes (meant a.why) a.y a.out.now (omega arith))

pub returns : goal.returns
returns c =
    let a = c.args in
    c.put_reason.ensures ∙ sym (freed_node a.nodes (meant a.why) a.y a.out.now (omega arith))
