-- `bill::lines::put_list` meets its contract.
-- Assumes nothing.
use Rattle.graph.specs.Lists.{joined}
use Rattle.amounts.specs.Amounts.{kind_line}
use Rattle.catalogue.specs.Price.{kinds}
use Rattle.bill.proofs.Texts.{printed_list}
use Rattle.bill.proofs.lines.put_list.Goals as goal

pub returns-clause-printed : goal.returns-clause-printed
returns-clause-printed c =
    let z = c.args.list in
    printed_list (joined (kind_line z.counts) kinds) z.buffers z.total c.put_kinds-kinds.ensures.printed c.put_buffers-lines.ensures.printed
    c.put_text-total.ensures c.put_amount-costs.ensures.printed c.put_text.ensures
