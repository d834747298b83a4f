-- The ways out of reading lists and body, and what the values of code say of the answers that they stand for.
-- Assumes nothing.
use mathlib.Core.List.{List, ◌++◌}
use mathlib.Core.Path.{◌≡◌, refl, sym, ap, ap₂, ◌∙◌, subst}
use Prim.Native.Nat.{ℕ, ◌+◌, ◌*◌, ◌-◌, ◌≤◌, ◌<◌, max, min}
use native.Mathlib.Nat.{add-mul}
use native.Mathlib.Omega.{arith}
use lib.Dec.{leb}
use lib.ListN.{length, get_or, drop, length-drop}
use lib.Seq.{drop-drop}
use borrow.Author.Tests.{le-leb, lt-leb}
use Rattle.form.specs.Form.{meant, sized, counts_of, reading}
use Rattle.form.specs.declared.Format as form
use Rattle.header.specs.Header.{coded, versioned, header_read}
use Rattle.form.proofs.Answers.{refused_so, answered_so}
use Rattle.read.specs.Steps.{measured}
use Rattle.edges.specs.Steps.{edges_step}
use Rattle.lists.specs.Reach.{reach}
use Rattle.form.specs.declared.Sizes.{Sizes}
use Rattle.edges.specs.declared.Reached.{Reached}
use Rattle.graph.specs.Answer as answer
use Rattle.graph.specs.Answer.{Answer, refused, answered, ◌carrying◌, ◌>>=◌}
use Rattle.graph.specs.Form.{header_bytes, places_from, edge_places, edges_place, lists_place, id_places}
use Rattle.graph.specs.Graph.{Edge, Graph, Counts, counts, ids, edge_entries, Format}
use Rattle.graph.specs.Lists.{all_below, first_bad, flat, paired}
use Rattle.graph.specs.Read.{read_edges, assembled, list_bytes, read_lists, read_body}
use Rattle.le.specs.Le.{numbers}
use Rattle.graph.proofs.ReadWrite.{flat_paired}
use Rattle.graph.proofs.Steps.{stops, goes}
use Rattle.graph.proofs.Versions.{as_stored}
use Rattle.graph.proofs.Verdicts.{lists_5, lists_6, lists_0, labels_5, body_edges, place_of_lem}
use Rattle.le.proofs.Numbers.{length_numbers}
use Rattle.le.proofs.Rows.{numbers_append}
use Rattle.edges.specs.Walk.{StandAt, bad_place}
use Rattle.lists.proofs.Reach.{reach_append, below_reach}
use Rattle.edges.proofs.Walk.{stood, stand_end, first_place}

-- ---- after the last edge

module _ (f : Format) (b : List ℕ) (at : ℕ) (z : Sizes) (ports bound : ℕ) (body : List ℕ) (edges : List Edge)
    (is_edges : length edges ≡ z.edges) (is_ports : length (edge_entries edges) ≡ ports) (is_bound : reach (edge_entries edges) ≡ bound) where
  pub other_length : (length b - at ≡ (z.sources + (z.targets + 2 * z.pairs)) * f.width → ⊥) → at ≤ length b
      → (place : ℕ) → place ≡ min (length b) (at + list_bytes f (counts_of z))
      → refused (5 carrying place) ≡ measured f.width (read_lists f (length b) (counts_of z) body edges (drop at b))
  other_length h inside place e =
      ap (λ (p : ℕ). refused (5 carrying p)) (e ∙ ap (λ (p : ℕ). min (length b) (p + list_bytes f (counts_of z))) (sym (place_of_lem b at inside)))
      ∙ ap (measured f.width) (sym (lists_5 f (length b) (counts_of z) body edges (drop at b) (λ e. h (sym (length-drop at b) ∙ e))))

  module _ (long : length b - at ≡ (z.sources + (z.targets + 2 * z.pairs)) * f.width) (most : ℕ)
      (is_most : most ≡ max bound (reach (numbers f.width (z.sources + (z.targets + 2 * z.pairs)) (drop at b)))) where
    there : length (drop at b) ≡ (z.sources + (z.targets + 2 * z.pairs)) * f.width
    there = length-drop at b ∙ long

    pair_row : List ℕ
    pair_row = numbers f.width (2 * z.pairs) (drop ((z.sources + z.targets) * f.width) (drop at b))

    pairs_are : (flat (paired pair_row) ≡ pair_row) × (length (paired pair_row) ≡ z.pairs)
    unfolding pair_row
    pairs_are = flat_paired z.pairs pair_row (length_numbers f.width (2 * z.pairs) (drop ((z.sources + z.targets) * f.width) (drop at b)))

    graph : Graph
    graph = assembled f (counts_of z) body edges (drop at b)

    -- the three lists are one row of ids
    list_row : graph.sources ++ (graph.targets ++ flat graph.pairs) ≡ numbers f.width (z.sources + (z.targets + 2 * z.pairs)) (drop at b)
    unfolding pair_row graph
    list_row =
        rw (
          pairs_are.0,
          numbers_append f.width z.sources (z.targets + 2 * z.pairs) (drop at b),
          numbers_append f.width z.targets (2 * z.pairs) (drop (z.sources * f.width) (drop at b)),
          add-mul z.sources z.targets f.width,
          drop-drop (z.targets * f.width) (z.sources * f.width) (drop at b),
        )

    one_row : ids (assembled f (counts_of z) body edges (drop at b)) ≡ edge_entries edges ++ numbers f.width (z.sources + (z.targets + 2 * z.pairs)) (drop at b)
    unfolding graph
    one_row = ap (λ (l : List ℕ). edge_entries edges ++ l) list_row

    decided : all_below z.nodes (ids (assembled f (counts_of z) body edges (drop at b))) ≡ leb most z.nodes
    decided =
        let row = numbers f.width (z.sources + (z.targets + 2 * z.pairs)) (drop at b) in
        let same : reach (edge_entries edges ++ row) ≡ most = omega (arith, reach_append (edge_entries edges) row, is_bound, is_most) in
        ap (all_below z.nodes) one_row ∙ below_reach z.nodes (edge_entries edges ++ row) ∙ ap (λ (m : ℕ). leb m z.nodes) same

    module _ (stand : StandAt f.width b (edges_place f (counts_of z)) edges at) where
      -- the ids stand after the edges' counts, and in one row after the edges
      places_are : id_places f (assembled f (counts_of z) body edges (drop at b))
          ≡ edge_places f.width (edges_place f (counts_of z)) edges ++ places_from f.width at (z.sources + (z.targets + 2 * z.pairs))
      unfolding id_places graph
      places_are =
          let w = f.width in
          let start : edges_place f (counts graph) ≡ edges_place f (counts_of z) =
          ap₂ (λ (n e : ℕ). header_bytes f + (n + e) * 4) (length_numbers 4 z.nodes body) is_edges in
          let lists : lists_place f graph ≡ at =
          ap (λ (p : ℕ). p + (2 * length edges + length (edge_entries edges)) * w) start ∙ sym (stand_end w b at (edges_place f (counts_of z)) edges stand) in
          let long : length (graph.sources ++ (graph.targets ++ flat graph.pairs)) ≡ z.sources + (z.targets + 2 * z.pairs) =
          ap length list_row ∙ length_numbers w (z.sources + (z.targets + 2 * z.pairs)) (drop at b) in
          ap₂ (λ (p q : ℕ). edge_places w p edges ++ places_from w q (length (graph.sources ++ (graph.targets ++ flat graph.pairs)))) start lists
          ∙ ap (λ (n : ℕ). edge_places w (edges_place f (counts_of z)) edges ++ places_from w at n) long

      pub foreign_id : z.nodes < most → (place : ℕ) → place ≡ bad_place f.width z.nodes b (edges_place f (counts_of z)) z.edges (z.sources + (z.targets + 2 * z.pairs))
          → refused (6 carrying place) ≡ measured f.width (read_lists f (length b) (counts_of z) body edges (drop at b))
      foreign_id h place e =
          let w = f.width in
          let n = z.sources + (z.targets + 2 * z.pairs) in
          let bad = decided ∙ lt-leb most z.nodes h in
          let found = first_place w b at z.nodes n (edges_place f (counts_of z)) edges stand (ap (all_below z.nodes) (sym one_row) ∙ bad) in
          let is : place ≡ get_or (id_places f (assembled f (counts_of z) body edges (drop at b))) (first_bad z.nodes (ids (assembled f (counts_of z) body edges (drop at b)))) 0 =
          e ∙ ap (λ (m : ℕ). bad_place w z.nodes b (edges_place f (counts_of z)) m n) (sym is_edges) ∙ found
          ∙ ap₂ (λ (ps xs : List ℕ). get_or ps (first_bad z.nodes xs) 0) (sym places_are) (sym one_row) in
          ap (λ (p : ℕ). refused (6 carrying p)) is ∙ ap (measured w) (sym (lists_6 f (length b) (counts_of z) body edges (drop at b) there bad))

    pub all_read : most ≤ z.nodes → answered (sized f.width (counts_of z) ports) ≡ measured f.width (read_lists f (length b) (counts_of z) body edges (drop at b))
    unfolding pair_row
    all_read h =
        let e = ap (measured f.width) (lists_0 f (length b) (counts_of z) body edges (drop at b) there (decided ∙ le-leb most z.nodes h)) in
        rw (e, length_numbers, length_numbers, length_numbers, is_edges, is_ports, pairs_are.1)

abbrev Parsed : Type 0
Parsed = List Edge × List ℕ

-- a version that code answers
pub version_read : (m : Answer Format) (f : form.Format) → answered f ≡ versioned m → m ≡ answered (meant f)
version_read m f e = let t = answered_so coded m f e in t.1 ∙ ap (λ (k : form.Format). answered (meant k)) (sym t.2)

-- a header that code answers
pub head_read : (w : ℕ) (m : Answer Counts) (z : Sizes) → answered z ≡ header_read w m → m ≡ answered (counts_of z)
head_read w m z e = let t = answered_so _ m z e in t.1 ∙ ap (λ (y : Sizes). answered (counts_of y)) (sym t.2)

-- a graph read in a version is measured in its width
pub measured_in : (f : Format) (m : Answer Graph) → measured f.width m ≡ reading (m >>= as_stored f)
unfolding ◌>>=◌
measured_in f (refused r) = refl
measured_in f (answered g) = refl

-- ---- after the header

module _ (f : Format) (b : List ℕ) (z : Sizes) where
  pub no_labels : length b - header_bytes f < (z.nodes + z.edges) * 4 → refused (5 carrying length b) ≡ measured f.width (read_body f (length b) (counts_of z) (drop (header_bytes f) b))
  no_labels h = ap (measured f.width) (sym (labels_5 f (length b) (counts_of z) (drop (header_bytes f) b) (rw length-drop h)))

  module _ (fits : (z.nodes + z.edges) * 4 ≤ length b - header_bytes f) (whole : header_bytes f ≤ length b) (r : Answer Reached)
      (k : (labels : List ℕ) → length labels ≡ z.edges → r ≡ edges_step (length b) (read_edges f (length b) 0 labels (drop (header_bytes f + (z.nodes + z.edges) * 4) b))) where
    labels : List ℕ
    labels = numbers 4 z.edges (drop (z.nodes * 4) (drop (header_bytes f) b))

    parsed : Answer Parsed
    parsed = read_edges f (length b) 0 labels (drop (header_bytes f + (z.nodes + z.edges) * 4) b)

    is_parsed : r ≡ edges_step (length b) parsed
    unfolding labels parsed
    is_parsed = k labels (length_numbers 4 z.edges (drop (z.nodes * 4) (drop (header_bytes f) b)))

    is_body : read_body f (length b) (counts_of z) (drop (header_bytes f) b) ≡ (parsed >>= λ (x : Parsed). read_lists f (length b) (counts_of z) (drop (header_bytes f) b) x.0 x.1)
    unfolding labels parsed
    is_body =
        body_edges f (length b) (counts_of z) (drop (header_bytes f) b) (rw length-drop fits)
        ∙ ap (λ (l : List ℕ). read_edges f (length b) 0 labels l >>= λ (x : Parsed). read_lists f (length b) (counts_of z) (drop (header_bytes f) b) x.0 x.1)
        (drop-drop ((z.nodes + z.edges) * 4) (header_bytes f) b)

    -- the refusal that is meant
    pub edge_refused : (x : answer.Refusal) → r ≡ refused x → refused x ≡ measured f.width (read_body f (length b) (counts_of z) (drop (header_bytes f) b))
    edge_refused x e = sym (ap (measured f.width) (is_body ∙ stops _ (refused_so _ parsed x (sym e ∙ is_parsed))))

    -- what the edges left to the lists
    pub record Went (ports at bound : ℕ) : Type 0 where
      pub edges : List Edge
      pub is_edges : length edges ≡ z.edges
      pub is_ports : length (edge_entries edges) ≡ ports
      pub is_bound : reach (edge_entries edges) ≡ bound
      pub inside : at ≤ length b
      pub stand : StandAt f.width b (edges_place f (counts_of z)) edges at
      pub onward : read_body f (length b) (counts_of z) (drop (header_bytes f) b) ≡ read_lists f (length b) (counts_of z) (drop (header_bytes f) b) edges (drop at b)

    pub went : (x : Reached) → r ≡ answered x → Went x.ports x.at x.bound
    unfolding labels parsed
    went x e =
        let y = answered_so _ parsed x (sym e ∙ is_parsed) in
        let at = x.at in
        let start = header_bytes f + (z.nodes + z.edges) * 4 in
        let h = stood f (length b) 0 labels b start y.0.0 y.0.1 (omega arith) y.1 in
        let long : length y.0.1 ≡ length b - h.to = ap length h.is ∙ length-drop h.to b in
        let at_place : at ≡ h.to = omega (arith, h.inside, ap (λ (k : Reached). k.at) y.2) in
        record {
          edges = y.0.0;
          is_edges = h.many ∙ length_numbers 4 z.edges (drop (z.nodes * 4) (drop (header_bytes f) b));
          is_ports = sym (ap (λ (k : Reached). k.ports) y.2);
          is_bound = sym (ap (λ (k : Reached). k.bound) y.2);
          inside = omega (arith, h.inside);
          stand = subst (λ (p : ℕ). StandAt f.width b start y.0.0 p) (sym at_place) h.stand;
          onward = is_body ∙ goes _ y.1 ∙ ap (read_lists f (length b) (counts_of z) (drop (header_bytes f) b) y.0.0) (h.is ∙ ap (λ (n : ℕ). drop n b) (sym at_place));
        }
