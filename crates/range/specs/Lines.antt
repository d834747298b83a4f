-- The report's lines by the totals in code. Assumes nothing.
use Rattle.std.specs.Prelude.{List, ◌++◌, ℕ, ◌/◌, ◌%◌}
use Rattle.graph.specs.Lists.{joined}
use Rattle.amounts.specs.Amounts.{kind_line, buffers_line}
use Rattle.catalogue.specs.Price.{kinds}
use Rattle.catalogue.specs.Range.{refusal_numbers, index_of}
use Rattle.price.specs.Totals.{dearest_meant}
use Rattle.price.specs.declared.range.Totals.{Totals}
use Rattle.range.specs.Glance.{head_line, refusal_line, sum_line, dearest_line, mean_line}

abbrev pub front_text : Totals → List ℕ
front_text t = head_line t.drawings t.priced ++ joined (refusal_line t.refusals) refusal_numbers ++ joined (kind_line t.parts) kinds ++ buffers_line t.buffers

abbrev pub back_text : Totals → List ℕ
back_text t = sum_line t.sum ++ dearest_line (index_of (dearest_meant t.dearest)) ++ mean_line (t.sum / t.priced) (t.sum % t.priced)
