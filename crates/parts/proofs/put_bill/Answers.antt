-- `parts::put_bill` meets its contract.
-- Assumes nothing.
use Rattle.parts.proofs.Putting.{all_put}
use Rattle.parts.proofs.put_bill.Goals as goal

pub returns : goal.returns
returns c =
    let third = c.put8 in
    let second = c.put4 in
    let first = c.put_row in
    all_put c.args.out.now first.new.out second.new.d third.new.d c.args.bill.counts c.args.bill.buffers c.args.bill.total c.requires.1.twelve first.ensures second.ensures third.ensures
