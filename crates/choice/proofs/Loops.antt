-- What a no of the no-loop check says: there is a directed cycle.
-- Assumes nothing.
use mathlib.Core.Path.{◌≡◌, refl}
use mathlib.Core.Bool.{Bool, true, false}
use mathlib.Core.List.{List}
use mathlib.Core.Logic.{◌↔◌}
use Prim.Native.Nat.{ℕ, zero, suc, ◌<◌}
use native.Mathlib.Omega.{arith}
use borrow.Author.Tests.{eqb-false}
use Rattle.graph.specs.Graph.{Graph, Proper}
use Rattle.choice.specs.Arcs.{Set, vertices, size, Cycle}
use Rattle.choice.specs.Choice.{core}
use Rattle.choice.specs.Drawing.{arcs, vertex_count, no_loop}
use Rattle.choice.proofs.Sets.{size_some}
use Rattle.choice.proofs.Core.{core_stable}
use Rattle.choice.proofs.Cycles.{stable_cycle}
use Rattle.choice.proofs.Graphs.{no_loop_iff_no_cycle}

-- a core that is not empty has one
found : (g : Graph) → no_loop g ≡ false → (c : List ℕ) × Cycle (arcs g) c
unfolding no_loop
found g e =
    let all : Set = vertices (vertex_count g) in
    let C : Set = core (arcs g) all in
    let n = eqb-false (size C) zero e in
    let v = size_some C (some (size C) n) in
    let c = stable_cycle (arcs g) C (core_stable (arcs g) all) v.0 v.1 in
    (c.0, c.1)
  where
    some : (n : ℕ) → (n ≡ zero → ⊥) → zero < n
    some zero h = absurd (h refl)
    some (suc n) h = omega arith

-- the no-loop check says no exactly when a directed cycle exists
pub no_loop_iff_cycle : (g : Graph) → Proper g → (no_loop g ≡ false) ↔ ((c : List ℕ) × Cycle (arcs g) c)
no_loop_iff_cycle g proper = (found g, λ c. never (no_loop g) (λ said. (no_loop_iff_no_cycle g proper).0 said c.0 c.1))
  where
    never : (said : Bool) → (said ≡ true → ⊥) → said ≡ false
    never true n = absurd (n refl)
    never false n = refl
