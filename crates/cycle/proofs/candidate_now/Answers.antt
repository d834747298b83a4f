-- `cycle::candidate_now` meets its contract.
-- Assumes nothing.
use Prim.Native.Nat.{◌-◌, ◌*◌, ◌≤◌}
use native.Mathlib.Nat.{mul-le-mul}
use native.Mathlib.Omega.{arith}
use Rattle.queue.specs.Keys.{radix}
use Rattle.cycle.specs.Next.{candidate_of}
use Rattle.cycle.proofs.candidate_now.Goals as goal
use Rattle.cycle.proofs.candidate_now.Goals.{After-word-outdegree}

-- both degrees are below the radix, so their product fits
bound : (c : After-word-outdegree) → c.word-indegree.result * c.word-outdegree.result ≤ (radix - 1) * (radix - 1)
bound c = let i : c.word-indegree.result ≤ radix - 1 = omega (arith, c.word-indegree.ensures, c.requires.v_bound.0) in
    let o : c.word-outdegree.result ≤ radix - 1 = omega (arith, c.word-outdegree.ensures, c.requires.v_bound.1) in
    mul-le-mul i o

pub overflow_mul-result : goal.overflow_mul-result
overflow_mul-result c = omega (arith, bound c)

pub returns : goal.returns
returns c = λ j. candidate_of c.args.v (c.word-indegree.ensures j) (c.word-outdegree.ensures j)
