-- `ohg::ohg_add_edge_source` meets its contract.
-- Assumes nothing.
use native.Mathlib.Omega.{arith}
use lib.ListN.{length}
use Rattle.le.proofs.Numbers.{below_each}
use Rattle.packing.proofs.Packing.{packs, returns_of}
use Rattle.ohg.proofs.Ranges.{add_source_ranged}
use Rattle.ohg.proofs.ohg_add_edge_source.Goals as goal

pub pack-requires : goal.pack-requires
pack-requires c =
    let a = c.args in
    let t-src = below_each 256 a.src.now (λ i l. omega (arith, c.type_inv.src i)) in
    packs _ (add_source_ranged a.src.now t-src (length a.out.now) a.edge a.label (omega arith)) c.add_edge_source-x.ensures.result

pub returns : goal.returns
returns c = returns_of c.add_edge_source-x.ensures c.pack.ensures
