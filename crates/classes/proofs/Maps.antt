-- The table, the labels and the numbers together: what merging a graph answers.
-- Assumes nothing.
use mathlib.Core.Bool.{true, false}
use mathlib.Core.List.{List}
use mathlib.Core.Path.{◌≡◌, sym, ap, ◌∙◌, subst}
use Prim.Native.Nat.{ℕ, ◌+◌, ◌*◌, ◌<◌}
use native.Mathlib.Omega.{arith}
use lib.ListN.{length, get_or}
use Rattle.std.specs.Prelude.{Ok, Err}
use Rattle.le.specs.Le.{Below}
use Rattle.le.specs.Rows.{span}
use Rattle.le.specs.declared.Row.{Row}
use Rattle.graph.specs.Answer.{refused, answered, refusal, ◌else◌, ◌>>◌}
use Rattle.graph.specs.Delete.{new_id}
use Rattle.graph.specs.Graph.{Graph}
use Rattle.graph.specs.Lists.{range, paired, flat, same}
use Rattle.graph.specs.Merge.{Merged, leaders, classes, looked, absorbed, numbered, merged, agreeing, quotient}
use Rattle.graph.proofs.Lists.{get_d_range}
use Rattle.graph.proofs.Merged.{merged_count, quotient_answer, quotient_unpaired}
use Rattle.graph.proofs.Steps.{never}
use Rattle.graph.proofs.WriteRead.{paired_flat}
use Rattle.form.specs.Form.{body_of, labels_of, lists_from}
use Rattle.form.specs.Drawn.{graph_in}
use Rattle.form.specs.Stored.{Stored}
use Rattle.form.specs.declared.Drawing.{Drawing}
use Rattle.form.specs.declared.Sizes.{Sizes}
use Rattle.form.specs.declared.Refusal.TheVariants as why
use Rattle.form.proofs.Drawn.{stored_in}
use Rattle.form.proofs.Stored.{stored_rows, stored_known, nodes_are}
use Rattle.classes.specs.Forest.{Falls, Forest, Tabled, Names, class_count, MapMade}
use Rattle.classes.proofs.Numbering.{leaders_named, names_fall}

-- pairs_from: the index of the first pair's id
module _ (d : Drawing) (body : Row) (eb : body ≡ body_of d.sizes) (pairs_from : ℕ) (ep : pairs_from ≡ lists_from d.sizes + d.sizes.sources + d.sizes.targets) where
  abbrev b : List ℕ
  b = d.src.now

  abbrev z : Sizes
  z = d.sizes

  abbrev g : Graph
  g = graph_in d

  st : Stored b z
  st = stored_in d

  pub pair_ids_lem : span b body pairs_from (2 * z.pairs) ≡ flat g.pairs
  pair_ids_lem = (λ i. span b (eb i) (ep i) (2 * z.pairs)) ∙ (stored_rows st).pairs

  pub pair_ids_below : Below z.nodes (span b body pairs_from (2 * z.pairs))
  pair_ids_below = rw pair_ids_lem (stored_known st).pairs

  module _ (X : List ℕ) (found : Tabled z.nodes (leaders z.nodes (paired (span b body pairs_from (2 * z.pairs)))) X) where
    nodes : length g.labels ≡ z.nodes
    nodes = nodes_are (stored_rows st)

    table_of : leaders z.nodes (paired (span b body pairs_from (2 * z.pairs))) ≡ classes g
    table_of = λ i. leaders (sym nodes i) ((ap paired pair_ids_lem ∙ paired_flat g.pairs) i)

    pub map_named : Names z.nodes (classes g) X
    map_named =
        subst (λ (t : List ℕ). Names z.nodes t X) (λ i. leaders (sym nodes i) g.pairs)
        (leaders_named z.nodes g.pairs X (stored_known st).pairs (subst (λ (t : List ℕ). Tabled z.nodes t X) (table_of ∙ (λ i. leaders (nodes i) g.pairs)) found))

    pub map_falls : Falls z.nodes X
    map_falls = names_fall z.nodes (classes g) X map_named

    module _ (labels : Row) (el : labels ≡ labels_of z) where
      agree_of : agreeing g ≡ same (looked (span b labels 0 z.nodes) (classes g)) (span b labels 0 z.nodes)
      agree_of = ap (λ (ls : List ℕ). same (looked ls (classes g)) ls) (sym (ap (λ (r : Row). span b r 0 z.nodes) el ∙ (stored_rows st).labels))

      refuses : agreeing g ≡ false → quotient g ≡ refused (refusal 11)
      unfolding quotient ◌else◌ ◌>>◌
      refuses e = rw e

      answers : agreeing g ≡ true → quotient g ≡ answered (merged g)
      unfolding quotient ◌else◌ ◌>>◌
      answers e = rw e

      pub map_differs : false ≡ same (looked (span b labels 0 z.nodes) (classes g)) (span b labels 0 z.nodes)
          → (Y : List ℕ) → MapMade g Y (Err why.LabelsDiffer)
      map_differs e Y =
          let r = refuses (agree_of ∙ sym e) in
          record { answer = ap class_count (sym r); map = λ k q. absurd (never (sym r ∙ q)) }

      pub map_made : true ≡ same (looked (span b labels 0 z.nodes) (classes g)) (span b labels 0 z.nodes)
          → (Y : List ℕ) (count : ℕ) → count ≡ new_id (absorbed (classes g)) z.nodes → Tabled z.nodes (numbered (classes g)) Y → MapMade g Y (Ok count)
      map_made e Y count c k =
          let a = answers (agree_of ∙ sym e) in
          record {
            answer =
                ap answered (c ∙ ap (new_id (absorbed (classes g))) (sym nodes) ∙ sym (merged_count g (subst (λ (n : ℕ). Below n (flat g.pairs)) (sym nodes) (stored_known st).pairs)))
                ∙ ap class_count (sym a);
            map = λ m q. subst (λ (y : Merged). Tabled (length g.labels) y.ids Y) (quotient_answer g m q).1 (subst (λ (n : ℕ). Tabled n (numbered (classes g)) Y) (sym nodes) k);
          }

-- without pairs each node is its own class
pub map_unpaired : (d : Drawing) → d.sizes.pairs ≡ 0 → (X : List ℕ) → Forest d.sizes.nodes (range 0 d.sizes.nodes) X → MapMade (graph_in d) X (Ok d.sizes.nodes)
map_unpaired d none X f =
    let z = d.sizes in
    let st = stored_in d in
    let g = graph_in d in
    let n = nodes_are (stored_rows st) in
    let q = quotient_unpaired g st.formed.proper (sym (ap (λ (y : Sizes). y.pairs) st.sizes) ∙ none) in
    let own : Tabled z.nodes (range 0 z.nodes) X = record {
      long = f.long;
      is = λ v l.
          let e : get_or X v 0 < z.nodes = omega (arith, f.falls.low v l) in
          sym (omega (arith, get_d_range 0 z.nodes (get_or X v 0) e)) ∙ f.class v l;
    } in
    record {
      answer = ap answered (sym n) ∙ ap class_count (sym q);
      map = λ m k.
          let same : m ≡ record { graph = g; ids = range 0 (length g.labels) } = cc in
          subst (λ (y : Merged). Tabled (length g.labels) y.ids X) (sym same) (subst (λ (k : ℕ). Tabled k (range 0 k) X) (sym n) own);
    }
