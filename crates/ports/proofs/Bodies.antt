-- The graph with a port more: its labels, its counts and ids, its sizes, and the step that makes it.
-- Assumes nothing.
use mathlib.Core.List.{List, [], ◌∷◌, ◌++◌, append_assoc, append-nil, map}
use mathlib.Core.Path.{◌≡◌, refl, sym, ap, ◌∙◌, subst}
use Prim.Native.Nat.{ℕ, zero, suc, ◌+◌, ◌-◌, ◌^◌, ◌≤◌, ◌<◌}
use native.Mathlib.Nat.{zero-add}
use native.Mathlib.Omega.{arith}
use lib.ListN.{length, get_or, set, take, drop, length-append, length-drop, length-set}
use lib.Seq.{set_split, map-set_same, take_all, take_at, drop_at, drop-drop}
use Rattle.le.specs.Rows.{span, puts}
use Rattle.le.specs.declared.Row.{Row}
use Rattle.le.proofs.Rows.{length_span, span_part}
use Rattle.graph.specs.Answer as answer
use Rattle.graph.specs.Answer.{refused, answered}
use Rattle.graph.specs.Build.{add_edge_source, add_edge_target}
use Rattle.graph.specs.Calls.{known, add_edge_source_step, add_edge_target_step}
use Rattle.graph.specs.Form.{body, edge_row, edge_start, label_row, no_edge}
use Rattle.graph.specs.Graph.{Edge, Graph, ports}
use Rattle.graph.specs.Lists.{joined, changed, flat}
use Rattle.graph.specs.Versions.{fitting}
use Rattle.graph.proofs.Laws.{joined_append, joined_at}
use Rattle.graph.proofs.Rows.{length_edge_rows, at_edge}
use Rattle.graph.proofs.Steps.{stops, goes}
use Rattle.form.specs.Form.{sizes_of, body_of, body_size, lists_from, edge_in}
use Rattle.form.specs.Stored.{Stored, graph_of}
use Rattle.form.specs.declared.EdgeAt.{EdgeAt}
use Rattle.form.specs.declared.Sizes.{Sizes}
use Rattle.form.proofs.Stored.{edge_there}
use Rattle.write.specs.Write.{counted_as, fitted, drawn, Put}
use Rattle.write.proofs.Results.{put_then, drawn_numbers}
use Rattle.write.proofs.Calls.{next}
use Rattle.ports.specs.Ports.{port_step, grown, added, port_at, ported}
use Rattle.ports.specs.declared.Port.{Port}
use Rattle.ports.specs.declared.Side.{Side}
use Rattle.ports.specs.declared.Side.TheVariants.{Source, Target}

changed_set : (f : Edge → Edge) (i : ℕ) (es : List Edge) → i < length es → changed f i es ≡ set es i (f (get_or es i no_edge))
changed_set f i [] h = absurd (omega arith)
changed_set f zero (e ∷ es) h = refl
changed_set f (suc i) (e ∷ es) h = ap (λ (l : List Edge). e ∷ l) (changed_set f i es (omega arith))

-- a row that has an edge's row in it, with another edge's there
ported_at : (front ss ts after : List ℕ) (p : Port) (id : ℕ) (xs ys : List ℕ) → ss ++ ts ≡ xs ++ ys → p.before ≡ length xs
    → front ++ (p.sources ∷ p.targets ∷ (xs ++ (id ∷ (ys ++ after)))) ≡ ported (front ++ (length ss ∷ length ts ∷ ((ss ++ ts) ++ after))) (length front) p id
ported_at front ss ts after p id xs ys e h =
    let all = front ++ (length ss ∷ length ts ∷ ((ss ++ ts) ++ after)) in
    let k = length front in
    let ids : drop (k + 2) all ≡ xs ++ (ys ++ after) =
    sym (drop-drop 2 k all) ∙ ap (drop 2) (drop_at front _ k refl) ∙ ap (λ (l : List ℕ). l ++ after) e ∙ append_assoc xs ys after in
    rw (take_at front (length ss ∷ length ts ∷ ((ss ++ ts) ++ after)) k refl, ← drop-drop p.before (k + 2) all, ids, h)
    (rw (take_at xs (ys ++ after) (length xs) refl, drop_at xs (ys ++ after) (length xs) refl))

-- what stands for the edge: its ids parted where the new one goes
row_grown : (side : Side) (id : ℕ) (e : Edge) (after : List ℕ)
    → let p = port_at side (length e.sources) (length e.targets) in
    (xs : List ℕ) × (ys : List ℕ) × (e.sources ++ e.targets ≡ xs ++ ys) × (p.before ≡ length xs)
    × (edge_row (grown side id e) ++ after ≡ p.sources ∷ p.targets ∷ (xs ++ (id ∷ (ys ++ after))))
row_grown Target id e after =
    let ss = e.sources in
    let ts = e.targets in
    (ss ++ ts, [], sym (append-nil (ss ++ ts)), sym (length-append ss ts), rw (length-append ts (id ∷ [])) (simp append_assoc))
row_grown Source id e after =
    let ss = e.sources in
    let ts = e.targets in
    (ss, ts, refl, refl, rw (length-append ss (id ∷ [])) (simp append_assoc))

one_more : (side : Side) (id : ℕ) (e : Edge) → length ((grown side id e).sources ++ (grown side id e).targets) ≡ length (e.sources ++ e.targets) + 1
one_more Target id e = simp length-append (omega arith)
one_more Source id e = simp length-append (omega arith)

label_kept : (side : Side) (id : ℕ) (e : Edge) → (grown side id e).label ≡ e.label
label_kept Target id e = refl
label_kept Source id e = refl

module _ (side : Side) (i label : ℕ) (g : Graph) (h : i < length g.edges) where
  -- the edge, and the edge that it becomes
  abbrev e : Edge
  e = get_or g.edges i no_edge

  abbrev e' : Edge
  e' = grown side (length g.labels) e

  set_edge : changed (grown side (length g.labels)) i g.edges ≡ set g.edges i e'
  set_edge = changed_set (grown side (length g.labels)) i g.edges h

  joined_new : (part : Edge → List ℕ) → joined part (added side i label g).edges ≡ joined part (take i g.edges) ++ (part e' ++ joined part (drop (suc i) g.edges))
  joined_new part = ap (joined part) (set_edge ∙ set_split g.edges i e' h) ∙ joined_append part (take i g.edges) _

  pub added_labels : label_row (added side i label g) ≡ g.labels ++ (label ∷ map (λ e. e.label) g.edges)
  added_labels =
      ap (λ (es : List Edge). (g.labels ++ (label ∷ [])) ++ map (λ (e : Edge). e.label) es) set_edge
      ∙ ap (λ (l : List ℕ). (g.labels ++ (label ∷ [])) ++ l) (map-set_same (λ e. e.label) g.edges i e' no_edge (label_kept side (length g.labels) e))
      ∙ append_assoc g.labels (label ∷ []) _

  pub added_body : body (added side i label g) ≡ ported (body g) (edge_start g.edges i) (port_at side (length e.sources) (length e.targets)) (length g.labels)
  added_body =
      let n = length g.labels in
      let lists = g.sources ++ (g.targets ++ flat g.pairs) in
      let front = joined edge_row (take i g.edges) in
      let back = joined edge_row (drop (suc i) g.edges) in
      let t = row_grown side n e (back ++ lists) in
      let p = port_at side (length e.sources) (length e.targets) in
      let new : body (added side i label g) ≡ front ++ (edge_row e' ++ (back ++ lists)) = ap (λ (l : List ℕ). l ++ lists) (joined_new edge_row) ∙ simp append_assoc in
      let old : body g ≡ front ++ (edge_row e ++ (back ++ lists)) = ap (λ (l : List ℕ). l ++ lists) (joined_at edge_row g.edges i no_edge h) ∙ simp append_assoc in
      new ∙ ap (λ (l : List ℕ). front ++ l) t.4 ∙ ported_at front e.sources e.targets (back ++ lists) p n t.0 t.1 t.2 t.3
      ∙ ap (λ (l : List ℕ). ported l (edge_start g.edges i) p n) (sym old)

  added_ports : ports (added side i label g) ≡ ports g + 1
  added_ports =
      let entries : Edge → List ℕ = λ d. d.sources ++ d.targets in
      let new = ap length (joined_new entries) in
      let old = ap length (joined_at entries g.edges i no_edge h) in
      omega (arith, simp length-append at new, simp length-append at old, simp length-append at (one_more side (length g.labels) e))

-- ---- of a stored graph

module _ {b : List ℕ} {z : Sizes} (s : Stored b z) (side : Side) (i label : ℕ) (l : i < z.edges) where
  inside : i < length (graph_of b).edges
  inside = subst (λ (y : Sizes). i < y.edges) s.sizes l

  pub added_sizes : fitted (counted_as (z.nodes + 1) z.edges z.sources z.targets z.pairs) (z.ports + 1)
      ≡ sizes_of (fitting (added side i label (graph_of b))) (added side i label (graph_of b))
  added_sizes =
      let g = graph_of b in
      rw (s.sizes, length-append g.labels, added_ports side i label g inside, set_edge side i label g inside, length-set g.edges)

  -- the edge where it was found: there is room for its ids, and its counts are low
  module _ (k : ℕ) (at : k ≡ edge_start (graph_of b).edges i) (x : EdgeAt) (is : x ≡ edge_in b (body_of z) k) where
    counts_are : (x.sources ≡ length (get_or (graph_of b).edges i no_edge).sources) × (x.targets ≡ length (get_or (graph_of b).edges i no_edge).targets)
    counts_are = let e = is ∙ (edge_there s i k l at).counts in (ap (λ (x : EdgeAt). x.sources) e, ap (λ (x : EdgeAt). x.targets) e)

    pub edge_low : (k + 2 + (x.sources + x.targets) ≤ body_size z) × (x.sources + x.targets + 1 < 2 ^ 32)
    edge_low =
        let g = graph_of b in
        let a = at_edge g.edges [] i inside in
        let z_is = ap lists_from s.sizes in
        let n = length_edge_rows g.edges in
        (omega (arith, counts_are, a.next, a.inside), omega (arith, counts_are, a.next, a.inside, s.within.counts.edges, s.within.ports))

    pub added_drawn : (old : List ℕ) (y : Sizes) (p : Port) → p ≡ port_at side x.sources x.targets
        → puts (drawn old y ((graph_of b).labels ++ (label ∷ map (λ e. e.label) (graph_of b).edges)) []) (body_of y) 0 (ported (body (graph_of b)) k p z.nodes)
        ≡ drawn old y (label_row (added side i label (graph_of b))) (body (added side i label (graph_of b)))
    added_drawn old y p e =
        let g = graph_of b in
        let nodes : z.nodes ≡ length g.labels = ap (λ (y : Sizes). y.nodes) s.sizes in
        rw (added_labels side i label g inside, added_body side i label g inside, ← at, ← nodes, ← counts_are.0, ← counts_are.1, ← e)
        (drawn_numbers old y _ [] (ported (body g) k p z.nodes) 0 refl)

-- what stands for a port more is not above what stood there, but for one
pub port_low : (side : Side) (s t : ℕ) → ((port_at side s t).before ≤ s + t) × ((port_at side s t).sources ≤ s + t + 1) × ((port_at side s t).targets ≤ s + t + 1)
port_low Target s t = (omega arith, omega arith, omega arith)
port_low Source s t = (omega arith, omega arith, omega arith)

-- ---- the step

module _ {b : List ℕ} {z : Sizes} (s : Stored b z) (edge label : ℕ) where
  id_looked_up : known (length (graph_of b).edges) edge ≡ known z.edges edge
  id_looked_up = ap (λ (y : Sizes). known y.edges edge) (sym s.sizes)

  pub port_stopped : (side : Side) {r : answer.Refusal} → known z.edges edge ≡ refused r → port_step side edge label (graph_of b) ≡ refused r
  unfolding add_edge_source_step add_edge_target_step
  port_stopped Target e = stops _ (id_looked_up ∙ e)
  port_stopped Source e = stops _ (id_looked_up ∙ e)

  pub port_next : (side : Side) {i : ℕ} → known z.edges edge ≡ answered i
      → port_step side edge label (graph_of b) ≡ answered (next (added side i label (graph_of b)) z.nodes)
  unfolding add_edge_source_step add_edge_target_step add_edge_source add_edge_target
  port_next Target e = rw (ap (λ (y : Sizes). y.nodes) s.sizes) (goes _ (id_looked_up ∙ e))
  port_next Source e = rw (ap (λ (y : Sizes). y.nodes) s.sizes) (goes _ (id_looked_up ∙ e))

-- ---- the numbers put one part after the other

-- a part of a row whose numbers are a list
part : (b : List ℕ) (r : Row) (n : ℕ) (xs : List ℕ) → span b r 0 n ≡ xs → (j m : ℕ) → j + m ≤ n → span b r j m ≡ take m (drop j xs)
part b r n xs e j m h = ap (λ (k : ℕ). span b r k m) (sym (zero-add j)) ∙ sym (span_part b r 0 n j m h) ∙ ap (λ (l : List ℕ). take m (drop j l)) e

module _ (o b : List ℕ) (to from : Row) (n : ℕ) (xs : List ℕ) (all : span b from 0 n ≡ xs) (p : Port) (k id : ℕ) (h : k + 2 + p.before ≤ n) where
  pub ported_put : puts (puts (puts (puts (puts o to 0 (span b from 0 k)) to k (p.sources ∷ p.targets ∷ [])) to (k + 2) (span b from (k + 2) p.before)) to (k + 2 + p.before) (id ∷ []))
      to (k + 2 + p.before + 1) (span b from (k + 2 + p.before) (n - (k + 2 + p.before))) ≡ puts o to 0 (ported xs k p id)
  ported_put =
      let new = k + 2 + p.before in
      let a = span b from 0 k in
      let c = span b from (k + 2) p.before in
      let d = span b from new (n - new) in
      let put : (o : List ℕ) (j : ℕ) (ns : List ℕ) (m : ℕ) → length ns ≡ m → Put o to j ns (puts o to j ns) (j + m) = λ o j ns m e. record { stored = refl; next = ap (λ (i : ℕ). j + i) (sym e) } in
      let done = put_then (put_then (put_then (put_then (put o 0 a k (length_span b from 0 k)) (put _ _ (p.sources ∷ p.targets ∷ []) 2 refl)) (put _ _ c p.before (length_span b from (k + 2) p.before)))
      (put _ _ (id ∷ []) 1 refl)) (put _ _ d (n - new) (length_span b from new (n - new))) in
      let rest : d ≡ drop new xs = part b from n xs all new (n - new) (omega arith) ∙ take_all (n - new) (drop new xs) (simp length-drop (omega (arith, length_span b from 0 n, ap length all))) in
      let same : ((((a ++ (p.sources ∷ p.targets ∷ [])) ++ c) ++ (id ∷ [])) ++ d) ≡ ported xs k p id =
      rw (part b from n xs all 0 k (omega arith), part b from n xs all (k + 2) p.before h, rest) (simp append_assoc) in
      subst (λ (j : ℕ). puts (puts (puts (puts (puts o to 0 a) to j (p.sources ∷ p.targets ∷ [])) to (j + 2) c) to (j + 2 + p.before) (id ∷ [])) to (j + 2 + p.before + 1) d ≡ puts o to 0 (ported xs k p id))
      (zero-add k) (done.stored ∙ ap (puts o to 0) same)
