-- What the building needs of a stored drawing: its sizes, its ids, and each edge as it is read.
-- Assumes nothing.
use mathlib.Core.Path.{◌≡◌, refl, sym, ap, ◌∙◌, subst}
use mathlib.Core.List.Memᴰ
use mathlib.Core.List.{List, [], ◌∷◌, ◌++◌, map}
use mathlib.Core.Logic.{⊎_elim}
use Prim.Native.Nat.{ℕ, ◌+◌, ◌-◌, ◌*◌, ◌≤◌, ◌<◌}
use native.Mathlib.Omega.{arith}
use lib.ListN.{length, get_or, take, replicate, length-append, length-replicate}
use Rattle.le.specs.Le.{Below}
use Rattle.le.specs.Rows.{Holds, span}
use Rattle.le.specs.declared.Row.{Row}
use Rattle.le.proofs.Rows.{holds_less}
use Rattle.graph.specs.Graph.{Graph, ports}
use Rattle.graph.specs.Form.{no_edge, edge_start}
use Rattle.graph.proofs.Rows.{at_edge, length_edge_rows}
use Rattle.choice.specs.Arcs.{In}
use Rattle.form.specs.Form.{Low, body_of, edge_in}
use Rattle.form.specs.Drawn.{graph_in}
use Rattle.form.specs.declared.Drawing.{Drawing}
use Rattle.form.specs.declared.Sizes.{Sizes}
use Rattle.form.specs.declared.EdgeAt.{EdgeAt}
use Rattle.form.proofs.Drawn.{stored_in}
use Rattle.form.proofs.Stored.{stored_rows, edge_there}
use Rattle.tables.specs.Tables.{most_nodes, most_vertices, most_ports, picked_at}
use Rattle.removal.specs.Room.{source, start_of, count_of, form_list, AllLow}
use Rattle.halves.specs.Halves.{times, sum_to}
use Rattle.halves.proofs.Sums.{sum_apart}
use Rattle.removal.proofs.Walks.{formed_length}
use Rattle.incidence.specs.Incidence.{source_in, neighbours, arcs_to, Known, ReadAs, Empty, appended_all, ListsFilled}
use Rattle.incidence.proofs.Laying.{room_for_all}
use Rattle.incidence.proofs.Filling.{filling_same, filling_all, all_inside, lists_grow, edge_adds}

pub record Facts (g : Graph) (z : Sizes) : Type 0 where
  pub low : Low z
  pub nodes : z.nodes ≡ length g.labels
  pub edges : z.edges ≡ length g.edges
  pub few_nodes : length g.labels ≤ most_nodes
  pub few : length g.labels + length g.edges ≤ most_vertices
  pub few_ports : ports g ≤ most_ports
  pub known : Known g

pub facts : (d : Drawing) → Facts (graph_in d) d.sizes
facts d =
    let s = stored_in d in
    let w = s.within in
    let e : d.sizes.edges ≡ length (graph_in d).edges = ap (λ (y : Sizes). y.edges) s.sizes in
    record {
      low = (stored_rows s).low;
      nodes = ap (λ (y : Sizes). y.nodes) s.sizes;
      edges = e;
      few_nodes = w.counts.nodes;
      few = omega (arith, w.counts.nodes, w.counts.edges);
      few_ports = w.ports;
      known = λ i l. let t = edge_there s i (edge_start (graph_in d).edges i) (omega (arith, e)) refl in (t.sources_known, t.targets_known);
    }

-- the ids of an edge as halves
pub all_low : (n side : ℕ) (ids : List ℕ) → side < 2 → Below n ids → AllLow n (map (λ id. 2 * id + side) ids)
all_low n side [] s b t m = absurd (Memᴰ.not-nil m)
all_low n side (x ∷ ids) s b t m = ⊎_elim (λ e. omega (arith, b.0)) (λ k. all_low n side ids s b.1 t k) (Memᴰ.cases_cons m)

-- edge i, at index k, was read as e
pub record Read (d : Drawing) (i : ℕ) (e : EdgeAt) : Type 0 where
  pub read_as : ReadAs (source_in d) (graph_in d) i e
  pub next : e.end ≡ edge_start (graph_in d).edges (i + 1)
  pub inside : e.first + e.sources + e.targets ≤ 2 * length (graph_in d).edges + most_ports

pub edge_read : (d : Drawing) (i k : ℕ) → i < d.sizes.edges → k ≡ edge_start (graph_in d).edges i → (e : EdgeAt) → e ≡ edge_in d.src.now (body_of d.sizes) k → Read d i e
unfolding form_list
edge_read d i k l q e is =
    let g = graph_in d in
    let row = body_of d.sizes in
    let t = edge_there (stored_in d) i k l q in
    let c = is ∙ t.counts in
    let f = facts d in
    let at = get_or g.edges i no_edge in
    let a = at_edge g.edges [] i (omega (arith, f.edges)) in
    let n_sources : e.sources ≡ length at.sources = ap (λ (x : EdgeAt). x.sources) c in
    let n_targets : e.targets ≡ length at.targets = ap (λ (x : EdgeAt). x.targets) c in
    let n_first : e.first ≡ k + 2 = ap (λ (x : EdgeAt). x.first) c in
    let all : k + 2 + length at.sources + length at.targets ≡ edge_start g.edges (i + 1) = omega (arith, a.next, q) in
    record {
      read_as = record {
        source_count = n_sources;
        target_count = n_targets;
        source_ids = λ side. (λ j. map (λ id. 2 * id + side) (span d.src.now row (n_first j) (n_sources j))) ∙ ap (map (λ id. 2 * id + side)) t.source_ids;
        target_ids = λ side. (λ j. map (λ id. 2 * id + side) (span d.src.now row (n_first j + n_sources j) (n_targets j))) ∙ ap (map (λ id. 2 * id + side)) t.target_ids;
        ids_held = subst (Holds d.src.now row) (sym ((λ j. n_first j + n_sources j + n_targets j) ∙ all)) t.ids_held;
      };
      next = ap (λ (x : EdgeAt). x.end) c;
      inside = omega (arith, n_first, n_sources, n_targets, all, a.inside, length_edge_rows g.edges, f.few_ports);
    }

-- no list is longer than there are ports
pub few_neighbours : (g : Graph) (z : Sizes) → Facts g z → (i : ℕ) → i ≤ length g.edges → (y : ℕ) → y < 2 * length g.labels → length (neighbours (arcs_to g i) y) ≤ most_ports
few_neighbours g z f i l y h =
    let size : ℕ → ℕ = λ u. length (neighbours (arcs_to g (length g.edges)) u) in
    let e : i + (length g.edges - i) ≡ length g.edges = omega arith in
    omega (
      arith,
      lists_grow g f.known (length g.edges - i) i (omega arith) y h,
      ap (λ (n : ℕ). length (neighbours (arcs_to g n) y)) e,
      sum_apart size y (2 * length g.labels) h,
      room_for_all g f.known,
      f.few_ports,
    )

-- ---- the lists of an edge as they are read in code: in row r

module _ (d : Drawing) (i : ℕ) (inside : i < d.sizes.edges) (e : EdgeAt) (read : Read d i e) (r : Row) (row : r ≡ body_of d.sizes) where
  pub sources_held : Holds d.src.now r (e.first + e.sources)
  sources_held = subst (λ (q : Row). Holds d.src.now q (e.first + e.sources)) (sym row) (holds_less read.read_as.ids_held _ (omega arith))

  pub targets_held : Holds d.src.now r (e.first + e.sources + e.targets)
  targets_held = subst (λ (q : Row). Holds d.src.now q (e.first + e.sources + e.targets)) (sym row) read.read_as.ids_held

  pub sources_are : (side : ℕ) → form_list (source d.src.now r) e.first e.sources side ≡ map (λ id. 2 * id + side) (get_or (graph_in d).edges i no_edge).sources
  sources_are side = ap (λ (q : Row). form_list (source d.src.now q) e.first e.sources side) row ∙ read.read_as.source_ids side

  pub targets_are : (side : ℕ) → form_list (source d.src.now r) (e.first + e.sources) e.targets side ≡ map (λ id. 2 * id + side) (get_or (graph_in d).edges i no_edge).targets
  targets_are side = ap (λ (q : Row). form_list (source d.src.now q) (e.first + e.sources) e.targets side) row ∙ read.read_as.target_ids side

  pub sources_low : (side : ℕ) → side < 2 → AllLow (length (graph_in d).labels) (form_list (source d.src.now r) e.first e.sources side)
  sources_low side s = subst (AllLow (length (graph_in d).labels)) (sym (sources_are side)) (all_low (length (graph_in d).labels) side (get_or (graph_in d).edges i no_edge).sources s ((facts d).known i (omega (arith, (facts d).edges))).0)

  pub targets_low : (side : ℕ) → side < 2 → AllLow (length (graph_in d).labels) (form_list (source d.src.now r) (e.first + e.sources) e.targets side)
  targets_low side s = subst (AllLow (length (graph_in d).labels)) (sym (targets_are side)) (all_low (length (graph_in d).labels) side (get_or (graph_in d).edges i no_edge).targets s ((facts d).known i (omega (arith, (facts d).edges))).1)

  -- ---- filling

  module _ (W X : List ℕ) (long : picked_at ≤ length W) (empty : Empty (graph_in d) W) (f : ListsFilled W X (2 * d.sizes.nodes) (neighbours (arcs_to (graph_in d) i))) (t : ℕ) (is_t : t ≡ 2 * (d.sizes.nodes + i)) where
    abbrev size : ℕ → ℕ
    size u = length (neighbours (arcs_to (graph_in d) (length (graph_in d).edges)) u)

    abbrev A : List ℕ
    A = form_list (source d.src.now r) e.first e.sources 0

    abbrev B : List ℕ
    B = form_list (source d.src.now r) (e.first + e.sources) e.targets 1

    abbrev L : ℕ → List ℕ
    L = neighbours (arcs_to (graph_in d) i)

    abbrev M : ℕ → List ℕ
    M y = L y ++ replicate (times y A) t

    n_is : d.sizes.nodes ≡ length (graph_in d).labels
    n_is = (facts d).nodes

    begin : (y : ℕ) → y < 2 * d.sizes.nodes → start_of W y ≡ sum_to size y
    begin y l = empty.start y (omega (arith, n_is))

    all : sum_to size (2 * d.sizes.nodes) ≤ most_ports
    all = omega (arith, room_for_all (graph_in d) (facts d).known, (facts d).few_ports, ap (λ (n : ℕ). sum_to size (2 * n)) n_is)

    fits : 2 * d.sizes.nodes ≤ 2 * most_vertices
    fits = omega (arith, n_is, (facts d).few_nodes)

    adds : (y : ℕ) → y < 2 * d.sizes.nodes → M y ++ replicate (times y B) (t + 1) ≡ neighbours (arcs_to (graph_in d) (i + 1)) y
    adds y l =
        let v : t ≡ 2 * (length (graph_in d).labels + i) = omega (arith, n_is) in
        (λ j. (L y ++ replicate (times y (sources_are 0 j)) (v j)) ++ replicate (times y (targets_are 1 j)) (v j + 1)) ∙ edge_adds (graph_in d) (facts d).known i (omega (arith, (facts d).edges)) y (omega (arith, n_is))

    both : (y : ℕ) → y < 2 * d.sizes.nodes → length (L y) + times y A + times y B ≤ size y
    both y l =
        let m = length (graph_in d).edges - (i + 1) in
        let q : i + 1 + m ≡ length (graph_in d).edges = omega (arith, (facts d).edges) in
        omega (
          arith,
          ap length (adds y l),
          length-append (M y) (replicate (times y B) (t + 1)),
          length-append (L y) (replicate (times y A) t),
          length-replicate (times y A) t,
          length-replicate (times y B) (t + 1),
          lists_grow (graph_in d) (facts d).known m (i + 1) (omega arith) y (omega (arith, n_is)),
          ap (λ (n : ℕ). length (neighbours (arcs_to (graph_in d) n) y)) q,
        )

    low_A : (y : ℕ) → In y A → y < 2 * d.sizes.nodes
    low_A y m = omega (arith, sources_low 0 (omega arith) y m, n_is)

    low_B : (y : ℕ) → In y B → y < 2 * d.sizes.nodes
    low_B y m = omega (arith, targets_low 1 (omega arith) y m, n_is)

    long_M : (y : ℕ) → length (M y) ≡ length (L y) + times y A
    long_M y = length-append (L y) (replicate (times y A) t) ∙ ap (λ (n : ℕ). length (L y) + n) (length-replicate (times y A) t)

    half : ListsFilled W (appended_all A t X) (2 * d.sizes.nodes) M
    half = filling_all W (2 * d.sizes.nodes) size begin all fits long A t X L f low_A (λ y l. omega (arith, both y l))

    pub sources_inside : (j : ℕ) → j < e.sources → let Q = appended_all (take j A) t X in start_of Q (get_or A j 0) + count_of Q (get_or A j 0) < most_ports
    sources_inside j l = all_inside W (2 * d.sizes.nodes) size begin all fits long A t X L f low_A (λ y l. omega (arith, both y l)) j (omega (arith, formed_length (source d.src.now r) e.first e.sources 0))

    pub targets_inside : (j : ℕ) → j < e.targets → let Q = appended_all (take j B) (t + 1) (appended_all A t X) in start_of Q (get_or B j 0) + count_of Q (get_or B j 0) < most_ports
    targets_inside j l =
        all_inside W (2 * d.sizes.nodes) size begin all fits long B (t + 1) (appended_all A t X) M half low_B (λ y l. omega (arith, both y l, long_M y)) j (omega (arith, formed_length (source d.src.now r) (e.first + e.sources) e.targets 1))

    pub edge_filled : ListsFilled W (appended_all B (t + 1) (appended_all A t X)) (2 * d.sizes.nodes) (neighbours (arcs_to (graph_in d) (i + 1)))
    edge_filled = filling_same adds (filling_all W (2 * d.sizes.nodes) size begin all fits long B (t + 1) (appended_all A t X) M half low_B (λ y l. omega (arith, both y l, long_M y)))
