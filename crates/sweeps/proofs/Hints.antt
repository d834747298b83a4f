-- A hint that is written: nothing that was told of the room before changes.
-- Assumes nothing.
use mathlib.Core.Path.{◌≡◌, sym, ap, ◌∙◌, subst}
use mathlib.Core.List.{List}
use Prim.Native.Nat.{ℕ, ◌+◌, ◌*◌, ◌%◌, ◌^◌, ◌≤◌, ◌<◌}
use native.Mathlib.Omega.{arith}
use lib.Dec.{T}
use lib.ListN.{length, get_or, take}
use Rattle.graph.specs.Form.{no_edge}
use Rattle.graph.specs.Graph.{Graph}
use Rattle.choice.specs.Arcs.{Set, has, size, into, out}
use Rattle.choice.specs.Calls.{room_cycle_breaking_nodes_scanning}
use Rattle.choice.specs.Degrees.{Sofar}
use Rattle.choice.specs.Drawing.{arcs, vertex_count}
use Rattle.choice.specs.Keeping.{unkept}
use Rattle.marks.specs.Tables.{hints_at, Alike, left, degrees}
use Rattle.sweeps.specs.Sweeps.{State, Moves, Settled, Swept}
use Rattle.marks.proofs.Tables.{left_same, mark_same, alike_marks, alike_degrees, loose_same, some_same}
use Rattle.sweeps.proofs.Going.{Drawn}

-- the same room
pub alike_is : {old new : List ℕ} → new ≡ old → Alike old new
alike_is e = record { long = ap length e; tables = ap (take hints_at) e }

module _ (g : Graph) (d : Drawn g) {old new : List ℕ} (long : room_cycle_breaking_nodes_scanning ≤ length new) (a : Alike old new) where
  same_left : left (vertex_count g) new ≡ left (vertex_count g) old
  same_left = left_same (vertex_count g) old new d.few (alike_marks a)

  same_mark : (v : ℕ) → v < length g.labels → get_or new v 0 ≡ get_or old v 0
  same_mark v l = mark_same old new v (omega (arith, d.few_nodes)) (alike_marks a)

  same_degrees : (u : ℕ) → u < length g.labels → degrees new u ≡ degrees old u
  same_degrees u l = alike_degrees a long u (omega (arith, d.few_nodes))

  state_alike : (kept picked : List ℕ) (free : ℕ) → State kept g old picked free → State kept g new picked free
  state_alike kept picked free s =
      let t = s.telling in
      record {
        telling = record {
          told = subst (λ (S : Set). Sofar (arcs g) (unkept kept g) (vertex_count g) S picked free) (sym same_left) t.told;
          marks = λ v l h. same_mark v l ∙ t.marks v l (subst (λ (S : Set). T (has S v)) same_left h);
          chosen = λ v l. ((λ e. (t.chosen v l).0 (sym (same_mark v l) ∙ e)), (λ i. same_mark v l ∙ (t.chosen v l).1 i));
          right = λ u l. same_degrees u l ∙ t.right u l ∙ (λ i. (into (arcs g) (sym same_left i) u + 65536 * out (arcs g) (sym same_left i) u) % 2 ^ 32);
        };
        tight = λ v l. loose_same old new v (same_mark v l) (same_degrees v l) ∙ s.tight v l;
      }

  moves_alike : {before : List ℕ} {k : ℕ} → Moves g before old k → Moves g before new k
  moves_alike {before} {k} m = record {
    fewer = ap (λ (S : Set). k + size S) same_left ∙ m.fewer;
    goes = λ kept picked free s. state_alike kept picked (free + k) (m.goes kept picked free s);
  }

  settled_alike : (i : ℕ) → i < length g.edges → Settled g old i → Settled g new i
  settled_alike i l s = record {
    source = λ t. some_same (length g.labels) old new (get_or g.edges i no_edge).sources (d.known i l).0 same_mark ∙ s.source (subst (λ (S : Set). T (has S (length g.labels + i))) same_left t);
    target = λ t. some_same (length g.labels) old new (get_or g.edges i no_edge).targets (d.known i l).1 same_mark ∙ s.target (subst (λ (S : Set). T (has S (length g.labels + i))) same_left t);
  }

  pub swept_alike : {before : List ℕ} {k gone edges : ℕ} → k ≤ length g.edges → Swept g before old k gone edges → Swept g before new k gone edges
  swept_alike {before} {k} {gone} {edges} few s = record {
    moves = moves_alike s.moves;
    few = s.few;
    still = λ e i l. settled_alike i (omega arith) (s.still e i l);
    nodes = ap (λ (S : Set). gone + size S) (left_same (length g.labels) old new (omega (arith, d.few_nodes)) (alike_marks a)) ∙ s.nodes;
  }
