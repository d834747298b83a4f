-- `parts::kind_row` meets its contract.
-- Assumes nothing.
use Prim.Native.Nat.{◌-◌}
use lib.ListN.{get_or-map}
use Rattle.parts.specs.Parts.{row_of}
use Rattle.catalogue.specs.Price.{kind, catalogue, kind_of}
use Rattle.parts.proofs.kind_row.Goals as goal

pub returns : goal.returns
unfolding kind_of
returns c = get_or-map row_of catalogue (c.args.label - 1) (kind "" 0 0 0)
