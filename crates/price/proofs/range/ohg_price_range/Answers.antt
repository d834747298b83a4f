-- `price::range::ohg_price_range` meets its contract.
-- Assumes nothing.
use lib.ListN.{length}
use Rattle.packing.proofs.Packing.{packs}
use Rattle.price.proofs.Called.{range_ranged}
use Rattle.price.proofs.range.ohg_price_range.Goals as goal

pub pack-requires : goal.pack-requires
pack-requires c =
    let a = c.args in
    packs _ (range_ranged a.src.now (length a.out.now) (length a.room.now)) c.price_range.ensures.result
