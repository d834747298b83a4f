-- A stored form as a header and two rows of numbers, all labels and then all counts and ids, and the walk over the edges in the second.
-- Assumes nothing.
use mathlib.Core.List.{List, [], ◌∷◌, ◌++◌, append_assoc, append-nil, map}
use mathlib.Core.Path.{◌≡◌, refl, sym, ap, ◌∙◌}
use Prim.Native.Nat.{ℕ, suc, ◌+◌, ◌*◌, ◌^◌, ◌<◌}
use native.Mathlib.Nat.{add-zero}
use native.Mathlib.Numerals.{add-one}
use native.Mathlib.Omega.{arith}
use lib.ListN.{length, length-map, length-append, get_or, take, drop}
use lib.Seq.{take-suc, take-length, take_at, take-append_seam, drop_at, drop-append_seam, drop-drop, get_or-drop}
use Rattle.graph.specs.Form.{header, header_bytes, edge_row, edge_bytes, encode, label_row, body, edge_start, no_edge, AtEdge}
use Rattle.graph.specs.Graph.{Edge, Graph, counts, ports, edge_entries, Format, WellFormed, Usable}
use Rattle.graph.specs.Lists.{joined, flat}
use Rattle.le.specs.Le.{Below, row, numbers}
use Rattle.le.proofs.Numbers.{below_append, below_front, below_back, row_append, numbers_row, drop_row}
use Rattle.graph.proofs.Laws.{joined_append, joined_at, joined_split}
use Rattle.graph.proofs.WriteRead.{length_flat, length_header, small}

-- ---- the two rows

edge_rows : (f : Format) (es : List Edge) → joined (edge_bytes f) es ≡ row f.width (joined edge_row es)
edge_rows f [] = refl
edge_rows f (e ∷ es) = rw (edge_rows f es) (sym (row_append f.width (edge_row e) (joined edge_row es)))

pub encode_rows : (f : Format) (g : Graph) → encode f g ≡ header f (counts g) ++ (row 4 (label_row g) ++ row f.width (body g))
unfolding encode
encode_rows f g =
    let w = f.width in
    let labels = map (λ (e : Edge). e.label) g.edges in
    rw (
      row_append 4 g.labels labels,
      append_assoc (row 4 g.labels) (row 4 labels),
      row_append w (joined edge_row g.edges),
      row_append w g.sources,
      row_append w g.targets,
      edge_rows f g.edges,
      append-nil (row w (flat g.pairs)),
    )

pub length_label_row : (g : Graph) → length (label_row g) ≡ length g.labels + length g.edges
length_label_row g = simp (length-append, length-map)

pub length_edge_rows : (es : List Edge) → length (joined edge_row es) ≡ 2 * length es + length (edge_entries es)
length_edge_rows [] = refl
length_edge_rows (e ∷ es) =
    rw (length-append (e.sources ++ e.targets) (joined edge_row es), length-append (e.sources ++ e.targets) (edge_entries es)) (omega (arith, length_edge_rows es))

pub length_body : (g : Graph) → length (body g) ≡ 2 * length g.edges + ports g + (length g.sources + (length g.targets + 2 * length g.pairs))
length_body g = simp (length-append, length_edge_rows, length_flat)

pub edge_rows_below : (n : ℕ) (es : List Edge) → length (edge_entries es) < n → Below n (edge_entries es) → Below n (joined edge_row es)
edge_rows_below n [] l h = tt
edge_rows_below n (e ∷ es) l h =
    let here = e.sources ++ e.targets in
    let k : length e.sources + length e.targets + length (edge_entries es) < n =
    rw (length-append here (edge_entries es), length-append e.sources e.targets) at l in (
      omega arith,
      (
        omega arith,
        below_append n here (joined edge_row es) (below_front n here (edge_entries es) h)
            (edge_rows_below n es (omega arith) (below_back n here (edge_entries es) h)),
      ),
    )

module _ (f : Format) (u : Usable f) (g : Graph) (h : WellFormed f g) where
  pub labels_below : Below (2 ^ 32) (label_row g)
  labels_below = below_append _ g.labels _ h.proper.node_labels h.proper.edge_labels

  pub body_below : Below (256 ^ f.width) (body g)
  body_below =
      let ids = small f u g h in
      below_append _ (joined edge_row g.edges) _ (edge_rows_below _ g.edges (omega arith) (below_front _ (edge_entries g.edges) _ ids))
      (below_back _ (edge_entries g.edges) _ ids)

  -- the rows read back at their places
  pub labels_stored : numbers 4 (length (label_row g)) (drop (header_bytes f) (encode f g)) ≡ label_row g
  labels_stored =
      let rest = row f.width (body g) in
      rw (encode_rows f g, drop_at (header f (counts g)) (row 4 (label_row g) ++ rest) (header_bytes f) (length_header f (counts g)))
      (numbers_row 4 (label_row g) rest labels_below)

  pub body_stored : numbers f.width (length (body g)) (drop (header_bytes f + length (label_row g) * 4) (encode f g)) ≡ body g
  body_stored =
      let rest = row f.width (body g) in
      rw (
        encode_rows f g,
        ← drop-drop (length (label_row g) * 4) (header_bytes f) (header f (counts g) ++ (row 4 (label_row g) ++ rest)),
        drop_at (header f (counts g)) (row 4 (label_row g) ++ rest) (header_bytes f) (length_header f (counts g)),
        drop_row 4 (label_row g) rest,
        ← append-nil rest,
      )
      (numbers_row f.width (body g) [] body_below)

-- ---- the walk over the edges

pub take_edges : (es : List Edge) (i : ℕ) → i < length es → take (i + 1) es ≡ take i es ++ (get_or es i no_edge ∷ [])
take_edges es i h = rw add-one (take-suc es i no_edge h)

pub edge_start_0 : (es : List Edge) → edge_start es 0 ≡ 0
edge_start_0 es = refl

pub edge_start_all : (es : List Edge) → edge_start es (length es) ≡ length (joined edge_row es)
edge_start_all es = rw take-length

pub at_edge : (es : List Edge) (rest : List ℕ) (i : ℕ) → i < length es → AtEdge es (joined edge_row es ++ rest) i
at_edge es rest i h =
    let e = get_or es i no_edge in
    let s = e.sources in
    let t = e.targets in
    let k = edge_start es i in
    let xs = joined edge_row es ++ rest in
    let after = joined edge_row (drop (suc i) es) ++ rest in
    let here : drop k xs ≡ edge_row e ++ after =
    rw (joined_at edge_row es i no_edge h, append_assoc (joined edge_row (take i es)), append_assoc (edge_row e))
    (drop-append_seam (joined edge_row (take i es)) (edge_row e ++ after)) in
    let lists : drop (k + 2) xs ≡ s ++ (t ++ after) = rw (← drop-drop 2 k xs, here) (append_assoc s t after) in
    let long : length (edge_row e) ≡ 2 + (length s + length t) = rw (length-append s t) (omega arith) in
    let split = simp length-append at (ap length (joined_split edge_row (i + 1) es)) in
    record {
      sources = simp add-zero at (sym (get_or-drop k xs 0 0) ∙ ap (λ (l : List ℕ). get_or l 0 0) here);
      targets = sym (get_or-drop k xs 1 0) ∙ ap (λ (l : List ℕ). get_or l 1 0) here;
      source_ids = rw lists (take-append_seam s (t ++ after));
      target_ids = rw (← drop-drop (length s) (k + 2) xs, lists, drop-append_seam s (t ++ after)) (take-append_seam t after);
      entries = rw (lists, ← append_assoc s t after) (take_at (s ++ t) after (length s + length t) (length-append s t));
      whole = rw here (take_at (edge_row e) after (2 + (length s + length t)) long);
      next = rw (take_edges es i h, joined_append edge_row (take i es) (e ∷ [])) (simp length-append (omega arith));
      inside = omega arith;
    }
