-- How many candidate entries are ever made: 01 and 02 name the numbers of each version.
-- Assumes nothing.
use mathlib.Core.List.{List}
use mathlib.Core.Logic.{⊎_elim, inl, inr}
use mathlib.Core.Path.{◌≡◌}
use mathlib.Core.Bool.{Bool}
use Prim.Native.Nat.{ℕ, ◌+◌, ◌*◌, ◌≤◌, ◌<◌}
use native.Mathlib.Omega.{arith}
use lib.ListN.{length, get_or}
use Rattle.graph.specs.Graph.{Graph, form1, form2, ports, Proper, WellFormed}
use Rattle.choice.specs.Arcs.{Set, into, out}
use Rattle.choice.specs.Drawing.{arcs}
use Rattle.choice.proofs.Fits.{proper_fits}
use Rattle.choice.proofs.Scores.{length_arcs}
use Rattle.queue.specs.Keys.{OneEnd, Makes}
use Rattle.queue.proofs.Work.{entries_made}

-- one end of each arc is an edge
one_end : (g : Graph) → Proper g → OneEnd (length g.labels) (arcs g)
one_end g p a i = ⊎_elim (λ e. inr e.1.0) (λ e. inl e.0.0) (proper_fits g p a.from a.to i)

-- however the engine runs on a graph, 10,240 in version 1 and 81,920 in version 2 are not passed
module _ (g : Graph) (S : Set) (may : ℕ → Bool) (first d K : List ℕ) (made : ℕ)
    (less : (v : ℕ) → v < length g.labels → (get_or first (2 * v) 0 ≤ into (arcs g) S v) × (get_or first (2 * v + 1) 0 ≤ out (arcs g) S v)) (m : Makes may (length g.labels) first d K made) where
  few : Proper g → made ≤ length g.labels + ports g
  few p =
      let many : length (arcs g) ≡ ports g = unfold arcs in length_arcs (length g.labels) g.edges in
      omega (arith, many, (entries_made (arcs g) S may (length g.labels) first d K made (one_end g p) less m).0)

  pub entries_most : (WellFormed form1 g → made ≤ 10240) × (WellFormed form2 g → made ≤ 81920)
  entries_most = (λ h. omega (arith, few h.proper, h.counts.nodes, h.ports), λ h. omega (arith, few h.proper, h.counts.nodes, h.ports))
