-- Bytes that were read: what stands in their rows, and at each edge of a walk.
-- Assumes nothing.
use mathlib.Core.List.{List, [], ◌++◌, map, append-nil, append_assoc}
use mathlib.Core.Logic.{inr}
use mathlib.Core.Path.{◌≡◌, refl, sym, ap, ◌∙◌, subst}
use Prim.Native.Nat.{ℕ, ◌+◌, ◌*◌, ◌≤◌, ◌<◌}
use native.Mathlib.Nat.{zero-add, add-zero}
use native.Mathlib.Omega.{arith}
use mir.Syntax.{w8}
use mir.Val.{Fits}
use lib.ListN.{length, length-map, length-append, get_or, take, drop}
use lib.Seq.{take_at, drop_at}
use Rattle.le.specs.Le.{Below, numbers}
use Rattle.le.specs.declared.Row.{Row}
use Rattle.le.specs.Rows.{place_in, entry, span}
use Rattle.le.proofs.Numbers.{below_each, below_front, below_back}
use Rattle.le.proofs.Rows.{wide_some, wide_low, holds_less, length_span, span_at, span_part}
use Rattle.graph.specs.Answer as answer
use Rattle.graph.specs.Answer.{refused, answered, reply}
use Rattle.graph.specs.Build.{empty}
use Rattle.graph.specs.Form.{encode, body, label_row, edge_row, edge_start, no_edge, header_bytes}
use Rattle.graph.specs.Graph.{Edge, Graph, form1, largest, WellFormed, Usable, Format, edge_entries}
use Rattle.graph.specs.Lists.{joined, flat}
use Rattle.graph.specs.Versions as versions
use Rattle.graph.specs.Versions.{read}
use Rattle.graph.proofs.Kept.{Parts, parts}
use Rattle.graph.proofs.Laws.{joined_at, length_encode}
use Rattle.graph.proofs.Rows.{length_label_row, length_edge_rows, length_body, labels_stored, body_stored, at_edge}
use Rattle.graph.proofs.Versions.{read_sound}
use Rattle.graph.proofs.WriteRead.{length_flat}
use Rattle.form.proofs.Answers.{refused_so, answered_so}
use Rattle.form.specs.Form.{sizes_of, reading, Low, labels_of, body_of, body_size, lists_from, edge_in}
use Rattle.form.specs.Stored.{stored_of, graph_of, format_of, Stored, Rows, EdgeThere}
use Rattle.form.specs.declared.Sizes.{Sizes}

-- ---- what reading answered

pub unread : (b : List ℕ) (r : answer.Refusal) → refused r ≡ reading (read b) → read b ≡ refused r
unread b r e = refused_so _ (read b) r e

module _ (b : List ℕ) (t : Below 256 b) where
  pub stored : (z : Sizes) → answered z ≡ reading (read b) → Stored b z
  unfolding stored_of
  stored z e =
      let s = answered_so _ (read b) z e in
      let h = read_sound b s.0 t s.1 in
      let same : s.0 ≡ stored_of b = sym (ap (reply (record { format = form1; graph = empty }) (λ (s : versions.StoredGraph). s)) s.1) in
      record {
        read_as = s.1 ∙ ap answered same;
        sizes = subst (λ (s : versions.StoredGraph). z ≡ sizes_of s.format s.graph) same s.2;
        usable = subst (λ (s : versions.StoredGraph). Usable s.format) same h.version.usable;
        formed = subst (λ (s : versions.StoredGraph). WellFormed s.format s.graph) same h.formed;
        within = subst (λ (s : versions.StoredGraph). WellFormed largest s.graph) same (h.version.grows s.0.graph h.formed);
        whole = subst (λ (s : versions.StoredGraph). encode s.format s.graph ≡ b) same h.whole;
      }

pub stored_bytes : {b : List ℕ} {z : Sizes} → answered z ≡ reading (read b) → ((i : ℕ) → Fits w8 (get_or b i 0)) → Stored b z
stored_bytes {b} {z} e known = stored b (below_each 256 b (λ i l. omega (arith, known i))) z e

-- ---- the rows

module _ (f : Format) (u : Usable f) (g : Graph) (h : WellFormed f g) where
  z : Sizes
  z = sizes_of f g

  b : List ℕ
  b = encode f g

  low : Low z
  unfolding z
  low =
      let c = h.counts in
      let most = wide_low u.width in
      record {
        width = u.width;
        narrow = (wide_some u.width).1;
        nodes = omega (arith, c.nodes, u.nodes, most);
        edges = omega (arith, c.edges, u.edges, most);
        ports = omega (arith, h.ports, u.ports, most);
        sources = omega (arith, c.sources, u.sources, most);
        targets = omega (arith, c.targets, u.targets, most);
        pairs = omega (arith, c.pairs, u.pairs, most);
      }

  many_labels : length (label_row g) ≡ z.nodes + z.edges
  unfolding z
  many_labels = length_label_row g

  many : length (body g) ≡ body_size z
  unfolding z
  many = length_body g

  all_labels : span b (labels_of z) 0 (z.nodes + z.edges) ≡ label_row g
  unfolding span z b
  all_labels =
      let start : place_in (labels_of z) 0 ≡ header_bytes f = omega arith in
      (λ i. numbers 4 (sym many_labels i) (drop (start i) b)) ∙ labels_stored f u g h

  whole_body : span b (body_of z) 0 (body_size z) ≡ body g
  unfolding span z b
  whole_body =
      let start : place_in (body_of z) 0 ≡ header_bytes f + length (label_row g) * 4 = omega (arith, many_labels) in
      (λ i. numbers f.width (sym many i) (drop (start i) b)) ∙ body_stored f u g h

  -- a part of a row that is a part of its list
  part : (r : Row) (n : ℕ) (xs : List ℕ) → span b r 0 n ≡ xs → (first mid rest : List ℕ) → xs ≡ first ++ (mid ++ rest) → (j m : ℕ)
      → length first ≡ j → length mid ≡ m → j + m ≤ n → span b r j m ≡ mid
  part r n xs e first mid rest split j m p q l =
      ap (λ (k : ℕ). span b r k m) (sym (zero-add j)) ∙ sym (span_part b r 0 n j m l) ∙ ap (λ (k : List ℕ). take m (drop j k)) (e ∙ split)
      ∙ ap (take m) (drop_at first (mid ++ rest) j p) ∙ take_at mid rest m q

  rows_of : Rows b z g
  unfolding z b
  rows_of =
      let long = length_encode f g in
      let labels = map (λ (e : Edge). e.label) g.edges in
      let edges = joined edge_row g.edges in
      let first = length_edge_rows g.edges in
      let pairs = length_flat g.pairs in
      record {
        low = low;
        labels_held = record { wide = inr refl; inside = omega arith };
        body_held = record { wide = u.width; inside = omega arith };
        all_labels = all_labels;
        labels = part (labels_of z) _ (label_row g) all_labels [] g.labels labels refl 0 _ refl refl (omega arith);
        edge_labels =
            part (labels_of z) _ (label_row g) all_labels g.labels labels [] (ap (λ (l : List ℕ). g.labels ++ l) (sym (append-nil labels))) _ _ refl
            (length-map g.edges (λ e. e.label)) (omega arith);
        body = whole_body;
        sources = part (body_of z) _ (body g) whole_body edges g.sources (g.targets ++ flat g.pairs) refl _ _ first refl (omega arith);
        targets =
            part (body_of z) _ (body g) whole_body (edges ++ g.sources) g.targets (flat g.pairs) (sym (append_assoc edges g.sources _)) _ _
            (length-append edges g.sources ∙ ap (λ (n : ℕ). n + length g.sources) first) refl (omega arith);
        pairs =
            part (body_of z) _ (body g) whole_body (edges ++ (g.sources ++ g.targets)) (flat g.pairs) []
            (ap (λ (l : List ℕ). edges ++ (g.sources ++ (g.targets ++ l))) (sym (append-nil (flat g.pairs))) ∙ simp append_assoc) _ _
            (simp length-append (omega (arith, first))) pairs (omega arith);
      }

pub stored_rows : {b : List ℕ} {z : Sizes} → Stored b z → Rows b z (graph_of b)
unfolding z b
stored_rows {b} {z} s =
    subst (λ (c : List ℕ). Rows c z (graph_of b)) s.whole
    (subst (λ (y : Sizes). Rows (encode (format_of b) (graph_of b)) y (graph_of b)) (sym s.sizes) (rows_of (format_of b) s.usable (graph_of b) s.formed))

-- the ids of the lists are below the node count
pub stored_known : {b : List ℕ} {z : Sizes} → Stored b z → Parts z.nodes (graph_of b)
stored_known {b} {z} s = rw s.sizes (parts (length (graph_of b).labels) (graph_of b) s.formed.proper.ids)

-- ---- the walk over the edges

joined_below : (n : ℕ) (es : List Edge) (i : ℕ) → i < length es → Below n (edge_entries es)
    → Below n (get_or es i no_edge).sources × Below n (get_or es i no_edge).targets
joined_below n es i l h =
    let e = get_or es i no_edge in
    let entries : Edge → List ℕ = λ d. d.sources ++ d.targets in
    let here = below_front n (entries e) _ (below_back n (joined entries (take i es)) _ (subst (Below n) (joined_at entries es i no_edge l) h)) in
    (below_front n e.sources e.targets here, below_back n e.sources e.targets here)

pub edge_there : {b : List ℕ} {z : Sizes} → Stored b z → (i k : ℕ) → i < z.edges → k ≡ edge_start (graph_of b).edges i → EdgeThere b z (graph_of b) i k
unfolding edge_in
edge_there {b} {z} s i k l e =
    let g = graph_of b in
    let es = g.edges in
    let d = get_or es i no_edge in
    let h = stored_rows s in
    let r = body_of z in
    let inside : i < length es = subst (λ (y : Sizes). i < y.edges) s.sizes l in
    let a = at_edge es (g.sources ++ (g.targets ++ flat g.pairs)) i inside in
    let rows = length_edge_rows es in
    let edges_are : length (joined edge_row es) ≡ lists_from z = rows ∙ sym (ap lists_from s.sizes) in
    let reads : (j : ℕ) → k + j < body_size z → entry b r (k + j) ≡ get_or (body g) (edge_start es i + j) 0 = λ j m.
    ap (entry b r) (sym (zero-add (k + j))) ∙ sym (span_at b r 0 (body_size z) (k + j) m) ∙ (λ x. get_or (h.body x) (e x + j) 0) in
    let first : entry b r k ≡ length d.sources =
    ap (entry b r) (sym (add-zero k)) ∙ reads 0 (omega (arith, a.next, a.inside)) ∙ ap (λ (n : ℕ). get_or (body g) n 0) (add-zero (edge_start es i)) ∙ a.sources in
    let second : entry b r (k + 1) ≡ length d.targets = reads 1 (omega (arith, a.next, a.inside)) ∙ a.targets in
    let part : (j m : ℕ) → j + m ≤ body_size z → span b r j m ≡ take m (drop j (body g)) = λ j m q.
    ap (λ (n : ℕ). span b r n m) (sym (zero-add j)) ∙ sym (span_part b r 0 (body_size z) j m q) ∙ ap (λ (xs : List ℕ). take m (drop j xs)) h.body in
    let known = joined_below (length g.labels) es i inside (parts (length g.labels) g s.formed.proper.ids).edges in
    record {
      at = e;
      held = holds_less h.body_held (k + 2) (omega (arith, a.next, a.inside));
      counts = rw (first, second, a.next, e);
      ids_held = holds_less h.body_held _ (omega (arith, a.inside));
      source_ids = part (k + 2) _ (omega (arith, a.next, a.inside)) ∙ ap (λ (n : ℕ). take (length d.sources) (drop (n + 2) (body g))) e ∙ a.source_ids;
      target_ids =
          part (k + 2 + length d.sources) _ (omega (arith, a.next, a.inside))
          ∙ ap (λ (n : ℕ). take (length d.targets) (drop (n + 2 + length d.sources) (body g))) e ∙ a.target_ids;
      sources_known = known.0;
      targets_known = known.1;
    }

-- ---- how many stand there

module _ {b : List ℕ} {z : Sizes} {g : Graph} (r : Rows b z g) where
  pub nodes_are : length g.labels ≡ z.nodes
  nodes_are = ap length (sym r.labels) ∙ length_span b (labels_of z) 0 z.nodes

  pub edges_are : length g.edges ≡ z.edges
  edges_are = sym (length-map g.edges (λ (e : Edge). e.label)) ∙ ap length (sym r.edge_labels) ∙ length_span b (labels_of z) z.nodes z.edges
