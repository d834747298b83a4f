-- `links::link` meets its contract.
-- Assumes nothing.
use Rattle.links.specs.Links.{linked_to}
use Rattle.links.proofs.link.Goals as goal

pub returns : goal.returns
unfolding linked_to
returns c = cc
