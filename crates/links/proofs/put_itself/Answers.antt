-- `links::put_itself` meets its contract.
-- Assumes nothing.
use Rattle.write.proofs.Results.{put_none}
use Rattle.links.proofs.put_itself.Goals as goal

pub returns-in_default : goal.returns-in_default
returns-in_default c = rw c.in_default.is put_none
