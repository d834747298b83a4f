-- `spider::list_every` meets its contract.
-- Assumes nothing.
use mathlib.Core.Bool.{true}
use native.Mathlib.Omega.{arith}
use Rattle.spider.proofs.Behind.{listed_behind}
use Rattle.spider.proofs.list_every.Goals as goal

pub returns : goal.returns
returns c =
    let l = c.list_all in
    listed_behind c.args.room.now l.new.room (omega arith) l.auto.room c.args.nodes (λ x. true) l.ensures
