-- `ohg::ohg_no_loop` meets its contract.
-- Assumes nothing.
use native.Mathlib.Omega.{arith}
use lib.ListN.{length}
use Rattle.le.proofs.Numbers.{below_each}
use Rattle.choice.specs.Calls.{no_loop_call}
use Rattle.packing.proofs.Packing.{packs, returned}
use Rattle.ohg.proofs.Ranges.{no_loop_ranged}
use Rattle.ohg.proofs.ohg_no_loop.Goals as goal

pub pack-requires : goal.pack-requires
pack-requires c =
    let a = c.args in
    let t-src = below_each 256 a.src.now (λ i l. omega (arith, c.type_inv.src i)) in
    packs _ (no_loop_ranged a.src.now t-src (length a.room.now)) c.no_loop-x.ensures

pub returns : goal.returns
returns c =
    let a = c.args in
    returned (no_loop_call a.src.now (length a.room.now)) _ c.no_loop-x.ensures c.pack.ensures
