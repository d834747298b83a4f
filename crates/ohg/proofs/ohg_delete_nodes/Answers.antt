-- `ohg::ohg_delete_nodes` meets its contract.
-- Assumes nothing.
use native.Mathlib.Omega.{arith}
use lib.ListN.{length}
use Rattle.le.proofs.Numbers.{below_each}
use Rattle.packing.proofs.Packing.{packs, returns_map_of}
use Rattle.ohg.proofs.Ranges.{delete_nodes_ranged}
use Rattle.ohg.proofs.ohg_delete_nodes.Goals as goal

pub pack-requires : goal.pack-requires
pack-requires c =
    let a = c.args in
    let t-src = below_each 256 a.src.now (λ i l. omega (arith, c.type_inv.src i)) in
    packs _ (delete_nodes_ranged a.src.now t-src (length a.out.now) a.ids.now (length a.map.now) (length a.room.now)) c.delete_nodes-x.ensures.result

pub returns : goal.returns
returns c = returns_map_of c.delete_nodes-x.ensures c.pack.ensures
