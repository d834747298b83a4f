-- `ohg::ohg_identity` meets its contract.
-- Assumes nothing.
use native.Mathlib.Omega.{arith}
use lib.ListN.{length}
use Rattle.le.proofs.Numbers.{below_each}
use Rattle.packing.proofs.Packing.{packs, returns_of}
use Rattle.ohg.proofs.Ranges.{identity_ranged}
use Rattle.ohg.proofs.ohg_identity.Goals as goal

pub pack-requires : goal.pack-requires
pack-requires c =
    let a = c.args in
    let t-labels = below_each 256 a.labels.now (λ i l. omega (arith, c.type_inv.labels i)) in
    packs _ (identity_ranged a.labels.now t-labels (length a.out.now)) c.identity-x.ensures.result

pub returns : goal.returns
returns c = returns_of c.identity-x.ensures c.pack.ensures
