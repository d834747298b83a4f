-- `price::ohg_price` meets its contract.
-- Assumes nothing.
use lib.ListN.{length}
use Rattle.packing.proofs.Packing.{packs}
use Rattle.catalogue.proofs.Ranges.{price_ranged}
use Rattle.price.proofs.ohg_price.Goals as goal

pub pack-requires : goal.pack-requires
pack-requires c =
    let a = c.args in
    packs _ (price_ranged a.src.now (length a.out.now) (length a.room.now)) c.price.ensures.result
