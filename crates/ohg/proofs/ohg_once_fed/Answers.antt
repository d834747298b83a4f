-- `ohg::ohg_once_fed` meets its contract.
-- Assumes nothing.
use lib.ListN.{length}
use Rattle.graph.specs.Calls.{once_fed_call}
use Rattle.packing.proofs.Packing.{packs, returned}
use Rattle.ohg.proofs.Ranges.{once_fed_ranged}
use Rattle.ohg.proofs.ohg_once_fed.Goals as goal

pub pack-requires : goal.pack-requires
pack-requires c =
    let a = c.args in
    packs _ (once_fed_ranged a.src.now (length a.room.now)) c.once_fed-x.ensures

pub returns : goal.returns
returns c =
    let a = c.args in
    returned (once_fed_call a.src.now (length a.room.now)) _ c.once_fed-x.ensures c.pack.ensures
