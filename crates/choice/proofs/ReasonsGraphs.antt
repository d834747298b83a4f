-- T-04 of graphs whose ids are below the node count.
-- Assumes nothing.
use mathlib.Core.Path.{◌≡◌, refl, sym, ap, ◌∙◌, subst}
use mathlib.Core.Bool.{true, false}
use mathlib.Core.List.{map}
use mathlib.Core.Logic.{◌↔◌}
use Prim.Native.Nat.{ℕ, zero, suc, ◌+◌, ◌≤◌, ◌<◌}
use native.Mathlib.Nat.{le_of_eq, not-suc-le-zero, add-zero, zero-add}
use native.Mathlib.Omega.{arith}
use lib.Dec.{T}
use lib.ListN.{length, get_or, length-map, length-replicate, get_or-replicate}
use Rattle.graph.specs.Lists.{range}
use Rattle.graph.specs.Graph.{Graph, Proper}
use Rattle.graph.proofs.Lists.{length_range}
use Rattle.choice.specs.Arcs.{In, how_many, vertices}
use Rattle.choice.specs.Drawing.{arcs, vertex_count, selectable, chosen}
use Rattle.choice.proofs.Sets.{has_lt, size_vertices}
use Rattle.choice.proofs.Fits.{proper_offers}
use Rattle.choice.proofs.Graphs.{some_run_gives_chosen, chosen_ascends, chosen_are_nodes}
use Rattle.choice.specs.Reasons.{Reason, is_picked, stage_of, reason, reasons, Because}
use Rattle.choice.proofs.Reasons.{why_because, because_only, because_chosen, because_present}
use Rattle.choice.proofs.ReasonsStages.{stage_from, stage_to, stage_only, stage_some, how_many_pass}

-- "For each node answer one reason"
pub reasons_length : (g : Graph) → length (reasons g) ≡ length g.labels
unfolding reasons
reasons_length g = length-map (range 0 (length g.labels)) (reason g) ∙ length_range 0 (length g.labels)

-- the entry of a node is its reason
map_range : {A : Type 0} (f : ℕ → A) (d : A) (from n v : ℕ) → v < n → get_or (map f (range from n)) v d ≡ f (from + v)
map_range f d from zero v l = absurd (not-suc-le-zero l)
map_range f d from (suc n) zero l = ap f (sym (add-zero from))
map_range f d from (suc n) (suc v) l = let e : suc from + v ≡ from + suc v = omega arith in map_range f d (suc from) n v (omega arith) ∙ ap f e

pub reasons_at : (g : Graph) (v : ℕ) → v < length g.labels → (d : Reason) → get_or (reasons g) v d ≡ reason g v
unfolding reasons
reasons_at g v l d = map_range (reason g) d 0 (length g.labels) v l ∙ ap (reason g) (zero-add v)

module _ (g : Graph) (proper : Proper g) (v : ℕ) (l : v < vertex_count g) where
  -- "Each answered reason is proved true of the definition"
  pub reason_true : Because (arcs g) (selectable g) 1 (vertices (vertex_count g)) v (reason g v)
  unfolding reason
  reason_true =
      why_because (arcs g) (selectable g) (proper_offers g proper) (vertex_count g) 1 (vertices (vertex_count g)) v
      (le_of_eq (size_vertices (vertex_count g))) (subst T (sym (get_or-replicate (vertex_count g) v true false l)) tt)

  -- "and each node has exactly one"
  pub reason_only : (r : Reason) → Because (arcs g) (selectable g) 1 (vertices (vertex_count g)) v r → r ≡ reason g v
  reason_only r b = because_only (arcs g) (selectable g) b (vertices (vertex_count g)) refl reason_true

  -- chosen is said exactly of the nodes in the choice's list
  pub picked_iff_chosen : In v (chosen g).ids ↔ T (is_picked (reason g v))
  picked_iff_chosen = because_chosen (arcs g) (selectable g) reason_true (vertices (vertex_count g)) refl (some_run_gives_chosen g proper)

-- as many reasons say chosen as the choice's list has ids: the second number of the answer
pub picked_number : (g : Graph) → Proper g → how_many is_picked (reasons g) ≡ length (chosen g).ids
unfolding reasons
picked_number g proper =
    how_many_pass is_picked (reason g) (length g.labels) (chosen g).ids (chosen_ascends g proper) (chosen_are_nodes g proper)
    (λ v l. picked_iff_chosen g proper v (omega arith))

module _ (g : Graph) (proper : Proper g) where
  -- each stage of the choice, from 1 on, chooses one node
  pub stage_chooses : (j : ℕ) → j < length (chosen g).ids → (v : ℕ) × In v (chosen g).ids × (stage_of (reason g v) ≡ 1 + j)
  stage_chooses j l =
      let h = stage_some (arcs g) (selectable g) (some_run_gives_chosen g proper) 1 j l in
      let low : h.vertex < vertex_count g = omega (arith, has_lt (vertices (vertex_count g)) h.vertex (because_present (arcs g) (selectable g) h.because), length-replicate (vertex_count g) true) in
      let is : h.reason ≡ reason g h.vertex = reason_only g proper h.vertex low h.reason h.because in
      (h.vertex, (picked_iff_chosen g proper h.vertex low).1 (subst (λ (r : Reason). T (is_picked r)) is h.is_picked_lem), ap stage_of (sym is) ∙ h.at_stage)

  -- and no other
  pub stage_chooses_one : (u v : ℕ) → In u (chosen g).ids → In v (chosen g).ids → stage_of (reason g u) ≡ stage_of (reason g v) → u ≡ v
  stage_chooses_one u v i j e =
      stage_only (arcs g) (selectable g) (reason_true g proper u (low u i)) ((picked_iff_chosen g proper u (low u i)).0 i) (vertices (vertex_count g)) refl
      (reason_true g proper v (low v j)) ((picked_iff_chosen g proper v (low v j)).0 j) e
    where
      low : (x : ℕ) → In x (chosen g).ids → x < vertex_count g
      low x m = omega (arith, chosen_are_nodes g proper x m)

  -- every reason names a stage from 1 to the one after the last choice, in which nothing is chosen
  pub stages_named : (v : ℕ) → v < vertex_count g → (1 ≤ stage_of (reason g v)) × (stage_of (reason g v) ≤ 1 + length (chosen g).ids) × (T (is_picked (reason g v)) → stage_of (reason g v) ≤ length (chosen g).ids)
  stages_named v l =
      let b = reason_true g proper v l in
      let h = stage_to (arcs g) (selectable g) b (vertices (vertex_count g)) refl (some_run_gives_chosen g proper) in
      (stage_from (arcs g) (selectable g) b, h.0, λ t. omega (arith, h.1 t))
