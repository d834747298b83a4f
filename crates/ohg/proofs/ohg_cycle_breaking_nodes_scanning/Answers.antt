-- `ohg::ohg_cycle_breaking_nodes_scanning` meets its contract.
-- Assumes nothing.
use native.Mathlib.Omega.{arith}
use lib.ListN.{length}
use Rattle.le.proofs.Numbers.{below_each}
use Rattle.packing.proofs.Packing.{packs, returns_of}
use Rattle.ohg.proofs.Ranges.{cycle_breaking_nodes_scanning_ranged}
use Rattle.ohg.proofs.ohg_cycle_breaking_nodes_scanning.Goals as goal

pub pack-requires : goal.pack-requires
pack-requires c =
    let a = c.args in
    let t-src = below_each 256 a.src.now (λ i l. omega (arith, c.type_inv.src i)) in
    packs _ (cycle_breaking_nodes_scanning_ranged a.src.now t-src (length a.list.now) a.kept.now (length a.room.now)) c.cycle_breaking_nodes_scanning-x.ensures.result

pub returns : goal.returns
returns c = returns_of c.cycle_breaking_nodes_scanning-x.ensures c.pack.ensures
