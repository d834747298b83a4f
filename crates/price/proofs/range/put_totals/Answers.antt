-- `price::range::put_totals` meets its contract.
-- Assumes nothing.
use Rattle.price.proofs.Reporting.{totals_put}
use Rattle.price.proofs.range.put_totals.Goals as goal

pub returns : goal.returns
returns c =
    let first = c.put4 in
    let second = c.put_row in
    let third = c.put_row-2 in
    let fourth = c.put4-2 in
    totals_put c.args.out.now first.new.d second.new.out third.new.out fourth.new.d c.args.t.refusals c.args.t.parts c.args.t.priced c.args.t.buffers
    c.requires.1.seventeen c.requires.1.twelve first.ensures second.ensures third.ensures fourth.ensures
