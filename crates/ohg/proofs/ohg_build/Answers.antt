-- `ohg::ohg_build` meets its contract.
-- Assumes nothing.
use native.Mathlib.Omega.{arith}
use lib.ListN.{length}
use Rattle.le.proofs.Numbers.{below_each}
use Rattle.ohg.proofs.Built.{build_ranged, packs_ending, returns_built_of}
use Rattle.ohg.proofs.ohg_build.Goals as goal

pub pack_built-requires : goal.pack_built-requires
pack_built-requires c =
    let a = c.args in
    let t-src = below_each 256 a.src.now (λ i l. omega (arith, c.type_inv.src i)) in
    let t-steps = below_each 256 a.steps.now (λ i l. omega (arith, c.type_inv.steps i)) in
    packs_ending _ (build_ranged a.src.now a.steps.now t-src t-steps (length a.out.now) (length a.room.now)) c.build-x.ensures.result

pub returns : goal.returns
returns c = returns_built_of c.build-x.ensures c.pack_built.ensures
