-- The numbers of the choice's answer fit their bits, and its refusals are those of 01.
-- Assumes nothing.
use mathlib.Core.List.{List}
use mathlib.Core.Path.{refl}
use Prim.Native.Nat.{ℕ}
use native.Mathlib.Omega.{arith}
use Rattle.le.specs.Le.{Below}
use Rattle.graph.proofs.Refusals.{listed, refused_in}
use Rattle.graph.proofs.Versions.{read_sound}
use Rattle.choice.specs.Calls.{cycle_breaking_nodes_call}
use Rattle.choice.specs.RefusedBy.{cycle_breaking_nodes_refusals}
use Rattle.choice.proofs.Graphs.{chosen_and_free_are_all}
use Rattle.choice.proofs.RefusedBy.{cycle_breaking_nodes_by}
use Rattle.choice.proofs.Stored.{cycle_breaking_nodes_answer}
use Rattle.packing.specs.Packed.{Ranged}

pub cycle_breaking_nodes_ranged : (b : List ℕ) → Below 256 b → (room work_room : ℕ) → Ranged (cycle_breaking_nodes_call b room work_room)
cycle_breaking_nodes_ranged b t room work_room = record {
  no = λ r e. refused_in (listed cycle_breaking_nodes_refusals refl (cycle_breaking_nodes_by b room work_room)) e;
  numbers = λ m e.
      let h = cycle_breaking_nodes_answer b t room work_room m e in
      let s = h.0 in
      let sound = read_sound b s t h.1.stored in
      let within = (sound.version.grows s.graph sound.formed).counts in
      let all = chosen_and_free_are_all s.graph sound.formed.proper in
      (omega (arith, h.1.count, all, within.nodes, within.edges), omega (arith, h.1.free, all, within.nodes, within.edges));
}
