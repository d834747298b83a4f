-- `ohg::ohg_singleton` meets its contract.
-- Assumes nothing.
use native.Mathlib.Omega.{arith}
use lib.ListN.{length}
use Rattle.le.proofs.Numbers.{below_each}
use Rattle.packing.proofs.Packing.{packs, returns_of}
use Rattle.ohg.proofs.Ranges.{singleton_ranged}
use Rattle.ohg.proofs.ohg_singleton.Goals as goal

pub pack-requires : goal.pack-requires
pack-requires c =
    let a = c.args in
    let t-sources = below_each 256 a.sources.now (λ i l. omega (arith, c.type_inv.sources i)) in
    let t-targets = below_each 256 a.targets.now (λ i l. omega (arith, c.type_inv.targets i)) in
    packs _ (singleton_ranged a.label a.sources.now a.targets.now (omega arith) t-sources t-targets (length a.out.now)) c.singleton-x.ensures.result

pub returns : goal.returns
returns c = returns_of c.singleton-x.ensures c.pack.ensures
