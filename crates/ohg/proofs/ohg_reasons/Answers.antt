-- `ohg::ohg_reasons` meets its contract.
-- Assumes nothing.
use native.Mathlib.Omega.{arith}
use lib.ListN.{length}
use Rattle.le.proofs.Numbers.{below_each}
use Rattle.packing.proofs.Packing.{packs, returns_of}
use Rattle.ohg.proofs.Ranges.{reasons_ranged}
use Rattle.ohg.proofs.ohg_reasons.Goals as goal

pub pack-requires : goal.pack-requires
pack-requires c =
    let a = c.args in
    let t-src = below_each 256 a.src.now (λ i l. omega (arith, c.type_inv.src i)) in
    packs _ (reasons_ranged a.src.now t-src (length a.out.now) (length a.room.now)) c.reasons-x.ensures.result

pub returns : goal.returns
returns c = returns_of c.reasons-x.ensures c.pack.ensures
