-- `range::lines::put_back` meets its contract.
-- Assumes nothing.
use mathlib.Core.List.{List, ◌++◌}
use mathlib.Core.Path.{subst}
use Prim.Native.Nat.{ℕ}
use Rattle.text.specs.Text.{Printed}
use Rattle.range.specs.Glance.{sum_line, dearest_line, mean_line}
use Rattle.range.proofs.Texts.{printed_3}
use Rattle.range.proofs.lines.put_back.Goals as goal

pub returns-clause-printed : goal.returns-clause-printed
returns-clause-printed c =
    let a = c.args in
    let index = c.index_of in
    let mean = c.mean_of in
    let end = c.put_mean in
    subst (λ (l : List ℕ). Printed a.out.now a.at l end.new.out end.result)
    (λ i. sum_line a.t.sum ++ dearest_line (index.ensures i) ++ mean_line (mean.ensures i).whole (mean.ensures i).rest)
    (printed_3 (sum_line a.t.sum) (dearest_line index.result) (mean_line mean.result.whole mean.result.rest)
    c.put_sum-summed.ensures.printed c.put_dearest-named.ensures.printed end.ensures.printed)
