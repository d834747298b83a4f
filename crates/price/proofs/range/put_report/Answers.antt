-- `price::range::put_report` meets its contract.
-- Assumes nothing.
use Rattle.price.specs.Totals.{front_of, amounts_of}
use Rattle.price.proofs.Reporting.{front_long, report_put}
use Rattle.price.proofs.range.put_report.Goals as goal

pub returns : goal.returns
returns c =
    let t = c.args.t in
    let first = c.put_totals in
    let second = c.put_amounts in
    report_put c.args.out.now first.new.out second.new.out (front_of t) (amounts_of t) (front_long t c.requires.1.seventeen c.requires.1.twelve) first.ensures second.ensures
