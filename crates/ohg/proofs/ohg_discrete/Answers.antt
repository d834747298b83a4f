-- `ohg::ohg_discrete` meets its contract.
-- Assumes nothing.
use native.Mathlib.Omega.{arith}
use lib.ListN.{length}
use Rattle.le.proofs.Numbers.{below_each}
use Rattle.packing.proofs.Packing.{packs, returns_of}
use Rattle.ohg.proofs.Ranges.{discrete_ranged}
use Rattle.ohg.proofs.ohg_discrete.Goals as goal

pub pack-requires : goal.pack-requires
pack-requires c =
    let a = c.args in
    let t-labels = below_each 256 a.labels.now (λ i l. omega (arith, c.type_inv.labels i)) in
    packs _ (discrete_ranged a.labels.now t-labels (length a.out.now)) c.discrete-x.ensures.result

pub returns : goal.returns
returns c = returns_of c.discrete-x.ensures c.pack.ensures
