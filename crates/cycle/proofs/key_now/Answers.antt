-- `cycle::key_now` meets its contract.
-- Assumes nothing.
use mathlib.Core.Path.{ap, ◌∙◌}
use Prim.Native.Nat.{◌+◌, ◌-◌, ◌*◌, ◌≤◌}
use native.Mathlib.Nat.{mul-le-mul}
use native.Mathlib.Omega.{arith}
use lib.ListN.{get_or}
use Rattle.le.specs.Le.{words}
use Rattle.queue.specs.Keys.{radix, key}
use Rattle.cycle.specs.declared.Candidate.{Candidate}
use Rattle.cycle.proofs.key_now.Goals as goal

pub pack-requires : goal.pack-requires
pack-requires c =
    let e = c.candidate_now.ensures in
    let i : get_or (words c.args.room.now) (2 * c.args.v) 0 ≤ radix - 1 = omega (arith, c.requires.v_bound.0) in
    let o : get_or (words c.args.room.now) (2 * c.args.v + 1) 0 ≤ radix - 1 = omega (arith, c.requires.v_bound.1) in
    (omega (arith, ap (λ (x : Candidate). x.score) e, mul-le-mul i o), omega (arith, ap (λ (x : Candidate). x.id) e), omega (arith, ap (λ (x : Candidate). x.indegree) e))

pub returns : goal.returns
unfolding key
returns c =
    let e = c.candidate_now.ensures in
    c.pack.ensures ∙ (λ j. (e j).score * (radix * radix) + (radix - 1 - (e j).id) * radix + (e j).indegree)
