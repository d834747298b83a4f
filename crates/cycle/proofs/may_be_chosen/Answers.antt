-- `cycle::may_be_chosen` meets its contract.
-- Assumes nothing.
use Rattle.le.specs.Le.{words}
use Rattle.cycle.proofs.May.{may_edge, may_unkept, may_flag}
use Rattle.cycle.proofs.may_be_chosen.Goals as goal

pub returns-then-v-nodes : goal.returns-then-v-nodes
returns-then-v-nodes c = let a = c.args in may_edge (words a.room.now) a.nodes a.v c.if-v-nodes.true

pub returns-then-kept-eq0 : goal.returns-then-kept-eq0
returns-then-kept-eq0 c = may_unkept (words c.args.room.now) c.args.nodes c.args.v c.if-v-nodes.false (c.requires.none_kept c.if-kept-eq0.true)

pub returns : goal.returns
returns c = may_flag (words c.args.room.now) c.args.nodes c.args.v _ c.if-v-nodes.false c.word.ensures
