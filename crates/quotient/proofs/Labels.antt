-- The first node of each class is found by its number.
-- Assumes nothing.
use mathlib.Core.Bool.{Bool, true, false, not, cond}
use mathlib.Core.List.{List, [], ◌∷◌}
use mathlib.Core.Path.{◌≡◌, refl, sym, ap, ◌∙◌, subst}
use Prim.Native.Nat.{ℕ, ◌+◌, ◌<◌}
use native.Mathlib.Nat.{zero-add}
use native.Mathlib.Omega.{arith}
use lib.Dec.{eqb}
use lib.ListN.{length, get_or}
use borrow.Author.Tests.{eqb-true, eqb-false, eq-eqb, ne_eqb}
use Rattle.le.specs.Le.{words}
use Rattle.le.specs.Rows.{Holds, entry, span}
use Rattle.le.specs.declared.Row.{Row}
use Rattle.le.proofs.Rows.{length_span, at_row, at_span}
use Rattle.graph.specs.Delete.{new_id, remaining}
use Rattle.graph.specs.Merge.{classes, absorbed, merged}
use Rattle.graph.proofs.Lists.{get_d_map}
use Rattle.graph.proofs.Classes.{Tells, tells_leader, leaders_tell}
use Rattle.graph.proofs.Kept.{new_id_below}
use Rattle.form.specs.Form.{labels_of}
use Rattle.form.specs.Drawn.{graph_in}
use Rattle.form.specs.declared.Drawing.{Drawing}
use Rattle.form.specs.declared.Sizes.{Sizes}
use Rattle.form.proofs.Drawn.{stored_in}
use Rattle.form.proofs.Stored.{stored_rows, stored_known, nodes_are}
use Rattle.write.specs.Write.{Put}
use Rattle.write.proofs.Grows.{left_count, labels_grow, put_fits, put_more}
use Rattle.quotient.specs.Merging.{Mapped}

module _ {d : Drawing} {room : List ℕ} (m : Mapped d room) where
  abbrev b : List ℕ
  b = d.src.now

  abbrev z : Sizes
  z = d.sizes

  -- the nodes that are not the least of their class
  abbrev pub goes : ℕ → Bool
  goes = absorbed (classes (graph_in d))

  nodes : length (graph_in d).labels ≡ z.nodes
  nodes = nodes_are (stored_rows (stored_in d))

  tells : Tells (length (graph_in d).labels) (graph_in d).pairs (classes (graph_in d))
  tells = leaders_tell (length (graph_in d).labels) (graph_in d).pairs (rw nodes (stored_known (stored_in d)).pairs)

  module _ (v : ℕ) (h : v < z.nodes) where
    word : get_or (words room) v 0 ≡ new_id goes (get_or (classes (graph_in d)) v 0)
    word = m.map.is v h ∙ get_d_map (new_id goes) (classes (graph_in d)) v (omega (arith, tells.long, nodes))

    -- a class's number is next exactly at its least member
    next_at_lem : eqb (get_or (words room) v 0) (new_id goes v) ≡ not (goes v)
    next_at_lem = ap (λ (k : ℕ). eqb k (new_id goes v)) word ∙ go (eqb (get_or (classes (graph_in d)) v 0) v) refl
      where
        go : (c : Bool) → eqb (get_or (classes (graph_in d)) v 0) v ≡ c → eqb (new_id goes (get_or (classes (graph_in d)) v 0)) (new_id goes v) ≡ not (not c)
        go true e = eq-eqb _ _ (ap (new_id goes) (eqb-true _ v e))
        go false e =
            let inside : v < length (graph_in d).labels = omega (arith, nodes) in
            let ne : get_or (classes (graph_in d)) v 0 ≡ v → ⊥ = eqb-false _ v e in
            let less : get_or (classes (graph_in d)) v 0 < v = omega (arith, tells.low v inside) in
            let stays : goes (get_or (classes (graph_in d)) v 0) ≡ false = ap not (eq-eqb _ _ (tells_leader _ _ (classes (graph_in d)) tells v inside)) in
            let low : new_id goes (get_or (classes (graph_in d)) v 0) < new_id goes v = new_id_below goes (get_or (classes (graph_in d)) v 0) v less stays in
            let apart : new_id goes (get_or (classes (graph_in d)) v 0) ≡ new_id goes v → ⊥ = λ q. omega (arith, low, q) in
            ne_eqb _ _ apart

    -- what is put for a node, by what was put before it
    label_of : (from : Row) {out new : List ℕ} {to : Row} {j : ℕ} → Put out to 0 (remaining goes 0 (span b from 0 v)) new j
        → cond (eqb (get_or (words room) v 0) j) (entry b from v ∷ []) [] ≡ cond (goes v) [] (entry b from (0 + v) ∷ [])
    label_of from {j = j} p =
        let here : j ≡ new_id goes v = p.next ∙ zero-add _ ∙ sym (left_count goes (span b from 0 v) v (sym (length_span b from 0 v))) in
        ap (λ (k : ℕ). cond (eqb (get_or (words room) v 0) k) (entry b from v ∷ []) []) here
        ∙ (λ i. cond (next_at_lem i) (entry b from (sym (zero-add v) i) ∷ []) []) ∙ pick (goes v)
      where
        pick : (c : Bool) → cond (not c) (entry b from (0 + v) ∷ []) [] ≡ cond c [] (entry b from (0 + v) ∷ [])
        pick true = refl
        pick false = refl

    module _ (from : Row) {out new : List ℕ} {to : Row} {j : ℕ} (p : Put out to 0 (remaining goes 0 (span b from 0 v)) new j) where
      pub label_room : Holds out to (0 + length (remaining goes 0 (span b from 0 z.nodes))) → Holds new to (j + length (cond (eqb (get_or (words room) v 0) j) (entry b from v ∷ []) []))
      label_room r = subst (λ (l : List ℕ). Holds new to (j + length l)) (sym (label_of from p)) (put_fits (labels_grow goes b from 0 z.nodes) h p r)

      pub label_next : {more : List ℕ} {end : ℕ} → Put new to j (cond (eqb (get_or (words room) v 0) j) (entry b from v ∷ []) []) more end
          → Put out to 0 (remaining goes 0 (span b from 0 (v + 1))) more end
      label_next {more} {end} q = put_more (labels_grow goes b from 0 z.nodes) h p (subst (λ (l : List ℕ). Put new to j l more end) (label_of from p) q)

  -- all labels
  pub class_labels : (from : Row) → from ≡ labels_of z → remaining goes 0 (span b from 0 z.nodes) ≡ (merged (graph_in d)).graph.labels
  class_labels from e = ap (remaining goes 0) (at_span b 0 z.nodes e (stored_rows (stored_in d)).labels)

  pub labels_fit : (from : Row) → from ≡ labels_of z → {out : List ℕ} {to into : Row} → to ≡ into → Holds out into (length (merged (graph_in d)).graph.labels)
      → Holds out to (0 + length (remaining goes 0 (span b from 0 z.nodes)))
  labels_fit from e {out} {into = into} t h = at_row t (subst (Holds out into) (sym (zero-add _ ∙ ap length (class_labels from e))) h)
