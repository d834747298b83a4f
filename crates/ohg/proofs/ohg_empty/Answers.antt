-- `ohg::ohg_empty` meets its contract.
-- Assumes nothing.
use lib.ListN.{length}
use Rattle.packing.proofs.Packing.{packs, returns_of}
use Rattle.ohg.proofs.Ranges.{empty_ranged}
use Rattle.ohg.proofs.ohg_empty.Goals as goal

pub pack-requires : goal.pack-requires
pack-requires c =
    let a = c.args in
    packs _ (empty_ranged (length a.out.now)) c.empty-x.ensures.result

pub returns : goal.returns
returns c = returns_of c.empty-x.ensures c.pack.ensures
