-- `ohg::ohg_new_operation` meets its contract.
-- Assumes nothing.
use native.Mathlib.Omega.{arith}
use lib.ListN.{length}
use Rattle.le.proofs.Numbers.{below_each}
use Rattle.packing.proofs.Packing.{packs, returns_of}
use Rattle.ohg.proofs.Ranges.{new_operation_ranged}
use Rattle.ohg.proofs.ohg_new_operation.Goals as goal

pub pack-requires : goal.pack-requires
pack-requires c =
    let a = c.args in
    let t-src = below_each 256 a.src.now (λ i l. omega (arith, c.type_inv.src i)) in
    let t-sources = below_each 256 a.sources.now (λ i l. omega (arith, c.type_inv.sources i)) in
    let t-targets = below_each 256 a.targets.now (λ i l. omega (arith, c.type_inv.targets i)) in
    packs _ (new_operation_ranged a.src.now t-src (length a.out.now) a.label a.sources.now a.targets.now (omega arith) t-sources t-targets) c.new_operation-x.ensures.result

pub returns : goal.returns
returns c = returns_of c.new_operation-x.ensures c.pack.ensures
