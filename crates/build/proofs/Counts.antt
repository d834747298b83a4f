-- The sizes of what a step gives.
-- Assumes nothing.
use mathlib.Core.List.{List, [], ◌∷◌, ◌++◌}
use mathlib.Core.Path.{◌≡◌, refl, ap, ◌∙◌}
use Prim.Native.Nat.{ℕ, zero, suc, ◌+◌, ◌<◌}
use native.Mathlib.Omega.{arith}
use lib.ListN.{length, length-append}
use Rattle.graph.specs.Graph.{Edge, Graph, Counts, counts, ports, edge_entries}
use Rattle.graph.specs.Build.{new_node, new_edge, new_operation, unify, add_edge_source, add_edge_target}
use Rattle.graph.specs.Lists.{changed, range}
use Rattle.graph.proofs.Laws.{joined_append}
use Rattle.graph.proofs.Lists.{length_range}
use Rattle.form.specs.Form.{counts_of}
use Rattle.form.specs.declared.Sizes.{Sizes}
use Rattle.ledger.specs.Ledger.{drawing, Sound, more}
use Rattle.ledger.proofs.Added.{drawn_counts, drawn_ports}
use Rattle.ledger.proofs.Logs.{with_source, with_target}

-- a graph has these sizes
pub record Sized (g : Graph) (z : Sizes) : Type 0 where
  pub nodes : length g.labels ≡ z.nodes
  pub edges : length g.edges ≡ z.edges
  pub ports : ports g ≡ z.ports
  pub sources : length g.sources ≡ z.sources
  pub targets : length g.targets ≡ z.targets
  pub pairs : length g.pairs ≡ z.pairs

pub counted : {g : Graph} {z : Sizes} → Sized g z → counts g ≡ counts_of z
counted s = λ k. record { nodes = s.nodes k; edges = s.edges k; sources = s.sources k; targets = s.targets k; pairs = s.pairs k }

pub drawing_sized : (W : List ℕ) (z : Sizes) → Sound W z → Sized (drawing W z) z
drawing_sized W z S =
    let c = drawn_counts W z in
    record {
      nodes = ap (λ (c : Counts). c.nodes) c;
      edges = ap (λ (c : Counts). c.edges) c;
      ports = drawn_ports W z S;
      sources = ap (λ (c : Counts). c.sources) c;
      targets = ap (λ (c : Counts). c.targets) c;
      pairs = ap (λ (c : Counts). c.pairs) c;
    }

-- ---- one more port of an edge

ports_source : (n i : ℕ) (es : List Edge) → i < length es → length (edge_entries (changed (with_source n) i es)) ≡ length (edge_entries es) + 1
ports_source n i [] h = absurd (omega arith)
ports_source n zero (e ∷ es) h = simp length-append (omega arith)
ports_source n (suc i) (e ∷ es) h = simp length-append (omega (arith, ports_source n i es (omega arith)))

ports_target : (n i : ℕ) (es : List Edge) → i < length es → length (edge_entries (changed (with_target n) i es)) ≡ length (edge_entries es) + 1
ports_target n i [] h = absurd (omega arith)
ports_target n zero (e ∷ es) h = simp length-append (omega arith)
ports_target n (suc i) (e ∷ es) h = simp length-append (omega (arith, ports_target n i es (omega arith)))

length_changed : (f : Edge → Edge) (i : ℕ) (es : List Edge) → length (changed f i es) ≡ length es
length_changed f i [] = refl
length_changed f zero (e ∷ es) = refl
length_changed f (suc i) (e ∷ es) = ap suc (length_changed f i es)

-- ---- the steps

module _ (g : Graph) (z : Sizes) (s : Sized g z) where
  pub node_sized : (label : ℕ) → Sized (new_node label g) (more z 1 0 0 0)
  unfolding new_node
  node_sized label = record {
    nodes = simp length-append (omega (arith, s.nodes));
    edges = omega (arith, s.edges);
    ports = omega (arith, s.ports);
    sources = s.sources;
    targets = s.targets;
    pairs = omega (arith, s.pairs);
  }

  entries_more : (e : Edge) → length (edge_entries (g.edges ++ (e ∷ []))) ≡ z.ports + (length e.sources + length e.targets)
  entries_more e =
      let part : Edge → List ℕ = λ e. e.sources ++ e.targets in
      ap length (joined_append part g.edges (e ∷ [])) ∙ simp length-append (omega (arith, s.ports))

  pub edge_sized : (label : ℕ) (a b : List ℕ) → Sized (new_edge label a b g) (more z 0 1 (length a + length b) 0)
  unfolding new_edge
  edge_sized label a b = record {
    nodes = omega (arith, s.nodes);
    edges = simp length-append (omega (arith, s.edges));
    ports = entries_more (record { label = label; sources = a; targets = b });
    sources = s.sources;
    targets = s.targets;
    pairs = omega (arith, s.pairs);
  }

  pub operation_sized : (label : ℕ) (a b : List ℕ) → Sized (new_operation label a b g) (more z (length a + length b) 1 (length a + length b) 0)
  unfolding new_operation new_edge
  operation_sized label a b =
      let n = length g.labels in
      let x = range n (length a) in
      let y = range (n + length a) (length b) in
      record {
        nodes = simp length-append (omega (arith, s.nodes));
        edges = simp length-append (omega (arith, s.edges));
        ports = entries_more (record { label = label; sources = x; targets = y }) ∙ (λ k. z.ports + (length_range n (length a) k + length_range (n + length a) (length b) k));
        sources = s.sources;
        targets = s.targets;
        pairs = omega (arith, s.pairs);
      }

  pub pair_sized : (v w : ℕ) → Sized (unify v w g) (more z 0 0 0 1)
  unfolding unify
  pair_sized v w = record {
    nodes = omega (arith, s.nodes);
    edges = omega (arith, s.edges);
    ports = omega (arith, s.ports);
    sources = s.sources;
    targets = s.targets;
    pairs = simp length-append (omega (arith, s.pairs));
  }

  module _ (edge label : ℕ) (h : edge < z.edges) where
    pub source_sized : Sized (add_edge_source edge label g) (more z 1 0 1 0)
    unfolding add_edge_source
    source_sized = record {
      nodes = simp length-append (omega (arith, s.nodes));
      edges = length_changed (with_source (length g.labels)) edge g.edges ∙ omega (arith, s.edges);
      ports = ports_source (length g.labels) edge g.edges (omega (arith, s.edges)) ∙ omega (arith, s.ports);
      sources = s.sources;
      targets = s.targets;
      pairs = omega (arith, s.pairs);
    }

    pub target_sized : Sized (add_edge_target edge label g) (more z 1 0 1 0)
    unfolding add_edge_target
    target_sized = record {
      nodes = simp length-append (omega (arith, s.nodes));
      edges = length_changed (with_target (length g.labels)) edge g.edges ∙ omega (arith, s.edges);
      ports = ports_target (length g.labels) edge g.edges (omega (arith, s.edges)) ∙ omega (arith, s.ports);
      sources = s.sources;
      targets = s.targets;
      pairs = omega (arith, s.pairs);
    }
