-- `build::second_count` meets its contract.
-- Assumes nothing.
use mathlib.Core.Path.{refl}
use native.Mathlib.Omega.{arith}
use lib.Dec.{lit<}
use Rattle.build.specs.Turns.{second_numbers}
use Rattle.build.proofs.Lists.{edge_count}
use Rattle.build.proofs.second_count.Goals as goal

pub returns-in-NewEdge : goal.returns-in-NewEdge
returns-in-NewEdge c =
    let a = c.args in
    (edge_count second_numbers 2 (lit< tt) (λ _. refl) (λ _. refl) a.kind c.in-NewEdge.is a.steps.now a.at _ c.get4.ensures, omega arith)
