-- `cycle::unpack` meets its contract.
-- Assumes nothing.
use mathlib.Core.Path.{refl}
use native.Mathlib.Omega.{arith}
use Rattle.queue.specs.Keys.{id_of, in_of, score_of}
use Rattle.cycle.proofs.unpack.Goals as goal

pub returns-then-indegree-eq0 : goal.returns-then-indegree-eq0
unfolding score_of id_of in_of
returns-then-indegree-eq0 c = (refl, omega arith, refl, λ p. absurd (omega arith))

pub returns : goal.returns
unfolding score_of id_of in_of
returns c = (refl, omega arith, refl, λ p. refl)
