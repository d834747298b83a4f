-- The two walks over the edges: the check, which stops at the first edge at fault, and the counters.
-- Assumes nothing.
use mathlib.Core.List.{List, [], ◌∷◌, ◌++◌}
use mathlib.Core.Logic.{◌⊎◌, inl, inr, ⊎_elim}
use mathlib.Core.Bool.{true}
use mathlib.Core.Path.{◌≡◌, refl, sym, ap, ◌∙◌, subst}
use Prim.Native.Nat.{ℕ, zero, suc, ◌+◌, ◌≤◌, ◌<◌}
use native.Mathlib.Nat.{not-suc-le-zero}
use native.Mathlib.Omega.{arith}
use lib.ListN.{length, get_or, take, drop, get_or-map, take-append-drop}
use lib.Seq.{take_all, drop-cons, length-take-le}
use borrow.Author.Tests.{eqb-true}
use Rattle.le.specs.Rows.{Holds, entry}
use Rattle.le.proofs.Rows.{holds_less, span_at}
use Rattle.graph.specs.Answer.{answered, refused, Refusal}
use Rattle.graph.specs.Form.{no_edge, edge_start}
use Rattle.graph.specs.Graph.{Edge, spider}
use Rattle.graph.proofs.Rows.{take_edges}
use Rattle.choice.specs.Arcs.{how_many}
use Rattle.form.specs.Form.{labels_of}
use Rattle.form.specs.Stored.{graph_of, Stored}
use Rattle.form.specs.declared.Sizes.{Sizes}
use Rattle.form.proofs.Stored.{stored_rows}
use Rattle.parts.specs.Parts.{InCatalogue, Addable, parts_of, added}
use Rattle.parts.specs.declared.Parts.{Parts}
use Rattle.catalogue.specs.Price.{kinds, kind_of, is_spider, part_check, parts_check, of_kind, edge_price, edges_price}
use Rattle.catalogue.specs.Promises.{OfKind}
use Rattle.catalogue.proofs.Bounds.{counts_below, edges_price_few}
use Rattle.catalogue.proofs.Counters.{counters_next, counters_spider}
use Rattle.catalogue.proofs.Faults.{checked, then_goes, parts_append, refused_iff_first_fault, part_in_order}

-- ---- the label of an edge, where it stands

module _ {b : List ℕ} {z : Sizes} (s : Stored b z) (i : ℕ) (less : i < z.edges) where
  pub label_held : Holds b (labels_of z) (z.nodes + i + 1)
  label_held = holds_less (stored_rows s).labels_held _ (omega arith)

  pub label_is : entry b (labels_of z) (z.nodes + i) ≡ (get_or (graph_of b).edges i no_edge).label
  label_is =
      sym (span_at b (labels_of z) z.nodes z.edges i less) ∙ ap (λ (l : List ℕ). get_or l i 0) (stored_rows s).edge_labels
      ∙ get_or-map (λ e. e.label) (graph_of b).edges i no_edge

  pub edge_inside : i < length (graph_of b).edges
  edge_inside = subst (λ (y : Sizes). i < y.edges) s.sizes less

-- ---- the check

-- the first i edges are in order, and the next one begins at k
pub record Sofar (es : List Edge) (i k : ℕ) : Type 0 where
  pub at : k ≡ edge_start es i
  pub in_order : parts_check (take i es) ≡ answered tt

pub begun : (es : List Edge) → Sofar es 0 0
unfolding parts_check
begun es = record { at = refl; in_order = refl }

one_passes : (e : Edge) → part_check e ≡ answered tt → parts_check (e ∷ []) ≡ answered tt
unfolding parts_check
one_passes e p = then_goes (part_check e) (parts_check []) p

pub turned : (es : List Edge) (i k next : ℕ) → i < length es → Sofar es i k → part_check (get_or es i no_edge) ≡ answered tt → next ≡ edge_start es (i + 1) → Sofar es (i + 1) next
turned es i k next l sofar p e = record {
  at = e;
  in_order = ap parts_check (take_edges es i l) ∙ parts_append (take i es) (get_or es i no_edge ∷ []) sofar.in_order ∙ one_passes (get_or es i no_edge) p;
}

pub stopped : (es : List Edge) (i k : ℕ) → i < length es → Sofar es i k → (r : Refusal) → part_check (get_or es i no_edge) ≡ refused r → parts_check es ≡ refused r
stopped es i k l sofar r p = (refused_iff_first_fault es r).1 (record {
  before = take i es;
  edge = get_or es i no_edge;
  after = drop (suc i) es;
  split = sym (take-append-drop i es) ∙ ap (λ (rest : List Edge). take i es ++ rest) (drop-cons es i no_edge l);
  in_order = sofar.in_order;
  fault = p;
})

pub ended : (es : List Edge) (i k : ℕ) → length es ≤ i → Sofar es i k → parts_check es ≡ answered tt
ended es i k l sofar = ap parts_check (sym (take_all i es l)) ∙ sofar.in_order

-- ---- the counters

pub parts_none : (es : List Edge) → ◌≡◌ {A = Parts} (record { counts = 0 ∷ 0 ∷ 0 ∷ 0 ∷ 0 ∷ 0 ∷ 0 ∷ 0 ∷ 0 ∷ 0 ∷ 0 ∷ 0 ∷ []; total = 0 }) (parts_of (take 0 es))
unfolding of_kind how_many edges_price
parts_none es = refl

in_order_at : (es : List Edge) (i : ℕ) → i < length es → parts_check es ≡ answered tt → part_check (get_or es i no_edge) ≡ answered tt
unfolding parts_check
in_order_at [] i l p = absurd (not-suc-le-zero l)
in_order_at (e ∷ es) zero l p = (checked (part_check e) (parts_check es) p).0
in_order_at (e ∷ es) (suc i) l p = in_order_at es i (omega arith) (checked (part_check e) (parts_check es) p).1

price_next : (es : List Edge) (e : Edge) → edges_price (es ++ (e ∷ [])) ≡ edges_price es + edge_price e
unfolding edges_price
price_next [] e = omega arith
price_next (x ∷ es) e = omega (arith, price_next es e)

spider_free : (e : Edge) → is_spider e ≡ true → edge_price e ≡ 0
unfolding edge_price
spider_free e q = rw q

kind_costs : (e : Edge) → OfKind e → edge_price e ≡ (kind_of e.label).price
unfolding edge_price
kind_costs e q = rw q.plain

-- one edge more
added_next : (es : List Edge) (e : Edge) → part_check e ≡ answered tt → added (parts_of es) e.label ≡ parts_of (es ++ (e ∷ []))
added_next es e p = ⊎_elim of_spider of_kind_lem (part_in_order e p)
  where
    of_spider : is_spider e ≡ true → added (parts_of es) e.label ≡ parts_of (es ++ (e ∷ []))
    of_spider q =
        let cost : edges_price es ≡ edges_price (es ++ (e ∷ [])) = omega (arith, price_next es e, spider_free e q) in
        rw q (λ i. record { counts = sym (counters_spider es e q) i; total = cost i })

    of_kind_lem : OfKind e → added (parts_of es) e.label ≡ parts_of (es ++ (e ∷ []))
    of_kind_lem q =
        let cost : edges_price es + (kind_of e.label).price ≡ edges_price (es ++ (e ∷ [])) = omega (arith, price_next es e, kind_costs e q) in
        rw q.plain (λ i. record { counts = sym (counters_next es e q) i; total = cost i })

module _ (es : List Edge) (few : length es ≤ 16384) (p : parts_check es ≡ answered tt) (i : ℕ) (l : i < length es) (parts : Parts) (is : parts ≡ parts_of (take i es)) (label : ℕ)
    (is_label : label ≡ (get_or es i no_edge).label) where
  known : (label ≡ spider) ⊎ InCatalogue label
  known =
      ⊎_elim (λ q. inl (is_label ∙ eqb-true (get_or es i no_edge).label spider q))
      (λ (q : OfKind (get_or es i no_edge)). inr (subst InCatalogue (sym is_label) (record { low = q.low; high = q.high })))
      (part_in_order (get_or es i no_edge) (in_order_at es i l p))

  pub addable : Addable parts label
  addable =
      let n = length-take-le i es (omega arith) in
      record {
        known = known;
        counts = rw is (counts_below (take i es) 16384 (omega arith) kinds);
        total = rw is (omega (arith, edges_price_few (take i es)));
      }

  pub counted : added parts label ≡ parts_of (take (i + 1) es)
  counted =
      (λ j. added (is j) (is_label j)) ∙ added_next (take i es) (get_or es i no_edge) (in_order_at es i l p) ∙ ap parts_of (sym (take_edges es i l))
