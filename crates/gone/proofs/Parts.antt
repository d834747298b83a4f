-- The parts of a result that are left.
-- Assumes nothing.
use mathlib.Core.Bool.{Bool}
use mathlib.Core.List.{List, ◌++◌, map}
use mathlib.Core.Path.{◌≡◌, sym, ap, ◌∙◌}
use Prim.Native.Nat.{ℕ, ◌+◌, ◌*◌}
use native.Mathlib.Omega.{arith}
use Rattle.le.specs.Rows.{span}
use Rattle.graph.specs.Delete.{remaining, renamed, renamed_edge, renamed_pairs}
use Rattle.graph.specs.Graph.{Edge}
use Rattle.graph.specs.Lists.{flat, paired}
use Rattle.form.specs.Form.{labels_of, body_of, lists_from}
use Rattle.form.specs.Stored.{graph_of, Stored}
use Rattle.form.specs.declared.Sizes.{Sizes}
use Rattle.graph.proofs.Kept.{remaining_map, renamed_labels}
use Rattle.graph.proofs.WriteRead.{paired_flat}
use Rattle.form.proofs.Stored.{stored_rows}
use Rattle.gone.proofs.Grows.{renamed_append}
use Rattle.write.proofs.Parts.{ids_there}

-- ---- parts of what was read

module _ {b : List ℕ} {z : Sizes} (s : Stored b z) where
  pub left_labels : (goes : ℕ → Bool) → remaining goes 0 (span b (labels_of z) z.nodes z.edges) ≡ map (λ (e : Edge). e.label) (remaining goes 0 (graph_of b).edges)
  left_labels goes = ap (remaining goes 0) (stored_rows s).edge_labels ∙ sym (remaining_map goes (λ (e : Edge). e.label) 0 (graph_of b).edges)

-- ---- parts that are left without the nodes that go

module _ {b : List ℕ} {z : Sizes} (s : Stored b z) (goes : ℕ → Bool) where
  pub edge_labels_kept : span b (labels_of z) z.nodes z.edges ≡ map (λ (e : Edge). e.label) (map (renamed_edge goes) (graph_of b).edges)
  edge_labels_kept = (stored_rows s).edge_labels ∙ sym (renamed_labels goes (graph_of b).edges)

  pub ids_moved : renamed goes (span b (body_of z) (lists_from z) (z.sources + z.targets)) ≡ renamed goes (graph_of b).sources ++ renamed goes (graph_of b).targets
  ids_moved = ap (renamed goes) (ids_there s) ∙ renamed_append goes (graph_of b).sources (graph_of b).targets

  pub pairs_there : span b (body_of z) (lists_from z + (z.sources + z.targets)) (2 * z.pairs) ≡ flat (graph_of b).pairs
  pairs_there =
      let e : lists_from z + (z.sources + z.targets) ≡ lists_from z + z.sources + z.targets = omega arith in
      ap (λ (k : ℕ). span b (body_of z) k (2 * z.pairs)) e ∙ (stored_rows s).pairs

  pub pairs_moved : {xs : List ℕ} → xs ≡ flat (graph_of b).pairs → renamed_pairs goes (paired xs) ≡ renamed_pairs goes (graph_of b).pairs
  pairs_moved e = ap (λ (l : List ℕ). renamed_pairs goes (paired l)) e ∙ ap (renamed_pairs goes) (paired_flat (graph_of b).pairs)
