-- What the loop of `price::range::add_counts` keeps: the first k entries have both counts.
-- Assumes nothing.
use Rattle.price.proofs.Adding.{Half}
use Rattle.price.proofs.range.add_counts.Given as goal

abbrev pub invariant-loop-k : goal.invariant-loop-k
invariant-loop-k l = Half l.initial.both l.fn.counts l.both l.k
