-- `build::first_count` meets its contract.
-- Assumes nothing.
use mathlib.Core.Path.{refl}
use native.Mathlib.Omega.{arith}
use lib.Dec.{lit<}
use Rattle.build.specs.Turns.{first_numbers}
use Rattle.build.proofs.Lists.{edge_count}
use Rattle.build.proofs.first_count.Goals as goal

pub returns-in-NewEdge : goal.returns-in-NewEdge
returns-in-NewEdge c =
    let a = c.args in
    (edge_count first_numbers 1 (lit< tt) (λ _. refl) (λ _. refl) a.kind c.in-NewEdge.is a.steps.now a.at _ c.get4.ensures, omega arith)
