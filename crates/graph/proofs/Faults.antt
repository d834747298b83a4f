-- T-06: each refusal of a read, and each 7 of a list, says what `Fault` and `ListFault` say of its place.
-- The walk is that of the definitions: at each test, what the refusal means if the test fails.
-- Assumes nothing.
use mathlib.Core.Bool.{Bool, true, false, cond, false≢true}
use mathlib.Core.List.{List, [], ◌∷◌, ◌++◌, append_assoc, append-nil}
use mathlib.Core.Logic.{◌⊎◌, inl, inr, ◌≢◌}
use mathlib.Core.Path.{◌≡◌, refl, sym, ap, ap₂, ◌∙◌, subst}
use Prim.Native.Nat.{ℕ, zero, suc, ◌+◌, ◌*◌, ◌-◌, ◌%◌, ◌/◌, ◌^◌, ◌≤◌, ◌<◌, min}
use native.Mathlib.Nat.{add-zero, not-suc-le-zero}
use native.Mathlib.Omega.{arith}
use lib.Dec.{leb, ltb, eqb}
use lib.ListN.{length, get_or, take, drop, length-append, length-drop}
use lib.Seq.{drop-drop}
use borrow.Author.Tests.{ltb-true, ltb-false, leb-true, leb-false, eqb-true, eqb-false}
use Rattle.le.specs.Le.{Below, numbers, number_at}
use Rattle.le.proofs.Numbers.{below_drop, length_numbers}
use Rattle.le.proofs.Places.{number_drop, get_d_numbers}
use Rattle.le.proofs.Rows.{wide_some}
use Rattle.graph.specs.Answer.{Refusal, refused, answered, ◌carrying◌, ◌>>=◌}
use Rattle.graph.specs.Calls.{id_list}
use Rattle.graph.specs.Faults.{limits, count_at, EdgesAt, FirstBad, Fault, cut_header, cut_labels, cut_counts, cut_ids, cut_lists, extra, above, with_sources, with_targets, bad_id, ReadFault, few, unmarked, neither, form, fits_one, ListFault, broken_end, bad_entry}
use Rattle.graph.specs.Form.{mark, header_bytes, edge_bytes, encode, form_bytes, edges_place, id_places}
use Rattle.graph.specs.Graph.{Edge, Graph, Counts, Format, form1, form2, edge_entries, ids, within_limits, WellFormed, Usable}
use Rattle.graph.specs.Lists.{joined, same, all_below, first_bad}
use Rattle.graph.specs.Read.{counts_at, read_version, read_counts, place_of, read_edge, read_edges, assembled, list_bytes, read_lists, read_body, read_in}
use Rattle.graph.proofs.IdPlaces.{id_at, id_before}
use Rattle.graph.proofs.Laws.{joined_append, length_edges}
use Rattle.graph.proofs.Lists.{first_bad_lem}
use Rattle.graph.proofs.ReadWrite.{GraphRead, in_sound, counts_passed, version_read, HeaderRead, header_read_lem, edge_read, EdgesRead, edges_read, whole_form, ids_small}
use Rattle.graph.proofs.Reading.{edge_rest, edges_rest}
use Rattle.graph.proofs.Refuses.{Refuses, answer_by, test_when, step_when}
use Rattle.graph.proofs.Steps.{same_refusal}
use Rattle.graph.proofs.Versions.{Version, version_known, limits_formed, formed_limits}
use Rattle.graph.specs.Versions.{format_numbered, fitting_sizes, fitting, in_version, read_fitting, read}

-- ---- the counts

module _ (f : Format) (b : List ℕ) where
  -- the counts before number k are within their limits
  Fit : ℕ → Type 0
  Fit k = (j : ℕ) → j < k → count_at f b j ≤ get_or (limits f) j 0

  none_yet : Fit 0
  unfolding Fit
  none_yet j l = absurd (not-suc-le-zero l)

  one_more : (k : ℕ) → Fit k → count_at f b k ≤ get_or (limits f) k 0 → Fit (suc k)
  unfolding Fit
  one_more k h l j m = go (leb k j) refl
    where
      go : (c : Bool) → leb k j ≡ c → count_at f b j ≤ get_or (limits f) j 0
      go true e =
          let s : k ≡ j = omega (arith, leb-true k j e) in
          subst (λ i. count_at f b i ≤ get_or (limits f) i 0) s l
      go false e = h j (leb-false k j e)

  -- a count with its place written otherwise
  over : (k place : ℕ) → place ≡ 5 + k * f.width → k < 5 → header_bytes f ≤ length b → Fit k → get_or (limits f) k 0 < number_at f.width b place
      → Fault f b (4 carrying place)
  unfolding Fit
  over k place e l whole h n =
      subst (λ p. Fault f b (4 carrying p)) (sym e)
      (above k l h (subst (λ p. get_or (limits f) k 0 < number_at f.width b p) e n) (places k l))
    where
      places : (k : ℕ) → k < 5 → 5 + k * f.width + f.width ≤ length b
      places zero l = omega arith
      places (suc zero) l = omega arith
      places (suc (suc zero)) l = omega arith
      places (suc (suc (suc zero))) l = omega arith
      places (suc (suc (suc (suc zero)))) l = omega arith
      places (suc (suc (suc (suc (suc k))))) l = absurd (omega arith)

  under : (k place : ℕ) → place ≡ 5 + k * f.width → number_at f.width b place ≤ get_or (limits f) k 0 → count_at f b k ≤ get_or (limits f) k 0
  under k place e h = subst (λ p. number_at f.width b p ≤ get_or (limits f) k 0) e h

  counts_fault : Refuses (Fault f b) (read_counts f b)
  unfolding read_counts
  counts_fault =
      let w = f.width in
      let e₀ : 5 ≡ 5 + 0 * w = omega arith in
      let e₁ : 5 + w ≡ 5 + 1 * w = omega arith in
      test_when (leb (header_bytes f) (length b)) _ _ (λ e. cut_header (leb-false _ _ e)) λ q.
      let whole = leb-true (header_bytes f) (length b) q in
      test_when _ _ _ (λ e. over 0 5 e₀ (omega arith) whole none_yet (leb-false _ _ e)) λ q₀.
      let h₁ = one_more 0 none_yet (under 0 5 e₀ (leb-true _ _ q₀)) in
      test_when _ _ _ (λ e. over 1 (5 + w) e₁ (omega arith) whole h₁ (leb-false _ _ e)) λ q₁.
      let h₂ = one_more 1 h₁ (under 1 (5 + w) e₁ (leb-true _ _ q₁)) in
      test_when _ _ _ (λ e. over 2 (5 + 2 * w) refl (omega arith) whole h₂ (leb-false _ _ e)) λ q₂.
      let h₃ = one_more 2 h₂ (leb-true _ _ q₂) in
      test_when _ _ _ (λ e. over 3 (5 + 3 * w) refl (omega arith) whole h₃ (leb-false _ _ e)) λ q₃.
      let h₄ = one_more 3 h₃ (leb-true _ _ q₃) in
      test_when _ _ _ (λ e. over 4 (5 + 4 * w) refl (omega arith) whole h₄ (leb-false _ _ e)) λ q₄.
      answer_by _

-- ---- the edges

module _ (f : Format) (b : List ℕ) (clean : Below 256 b) where
  -- the bytes from a place within them on begin there
  place_back : (at : ℕ) → at ≤ length b → place_of (length b) (drop at b) ≡ at
  place_back at h = rw (length-drop at b) (omega arith)

  -- an edge after edges that stand before it
  edge_fault : (label : ℕ) (es : List Edge) (at : ℕ) → EdgesAt f b (edges_place f (counts_at f b)) at es → length (edge_entries es) ≤ f.most_ports
      → Refuses (Fault f b) (read_edge f (length b) (length (edge_entries es)) label (drop at b))
  unfolding read_edge
  edge_fault label es at h fits =
      let w = f.width in
      let sum = length (edge_entries es) in
      let back = place_back at h.inside in
      let s₀ : number_at w (drop at b) 0 ≡ number_at w b at = number_drop w b at 0 ∙ ap (number_at w b) (add-zero at) in
      let t₀ : number_at w (drop at b) w ≡ number_at w b (at + w) = number_drop w b at w in
      test_when (leb (2 * w) (length (drop at b))) _ _
      (λ e.
      let less : length b - at < 2 * w = rw length-drop at (leb-false (2 * w) (length (drop at b)) e) in
      cut_counts es at h (omega (arith, h.inside)))
      λ q.
      let two : 2 * w ≤ length b - at = rw length-drop at (leb-true (2 * w) (length (drop at b)) q) in
      test_when (leb (sum + number_at w (drop at b) 0) f.most_ports) _ _
      (λ e.
      let over : f.most_ports < sum + number_at w b at = subst (λ k. f.most_ports < sum + k) s₀ (leb-false _ _ e) in
      subst (λ p. Fault f b (4 carrying p)) (sym back) (with_sources es at h fits over (omega (arith, h.inside))))
      λ q₁.
      test_when (leb (sum + (number_at w (drop at b) 0 + number_at w (drop at b) w)) f.most_ports) _ _
      (λ e.
      let under : sum + number_at w b at ≤ f.most_ports = subst (λ k. sum + k ≤ f.most_ports) s₀ (leb-true _ _ q₁) in
      let over : f.most_ports < sum + (number_at w b at + number_at w b (at + w)) =
      subst (λ k. f.most_ports < sum + (k + number_at w b (at + w))) s₀
      (subst (λ k. f.most_ports < sum + (number_at w (drop at b) 0 + k)) t₀ (leb-false _ _ e)) in
      subst (λ p. Fault f b (4 carrying p + w)) (sym back) (with_targets es at h under over (omega (arith, h.inside))))
      λ q₂.
      let s = number_at w (drop at b) 0 in
      let t = number_at w (drop at b) w in
      test_when (leb ((s + t) * w) (length (drop (2 * w) (drop at b)))) _ _
      (λ e.
      let less : length b - at - 2 * w < (s + t) * w = rw (length-drop (2 * w) (drop at b), length-drop at b) at (leb-false ((s + t) * w) (length (drop (2 * w) (drop at b))) e) in
      let all : length b < at + (2 + (s + t)) * w = omega (arith, h.inside) in
      cut_ids es at h (subst (λ n. length b < at + (2 + n) * w) (ap₂ (λ (m n : ℕ). m + n) s₀ t₀) all))
      λ q₃.
      answer_by _

  -- one edge more stands
  edges_more : (es : List Edge) (at : ℕ) → EdgesAt f b (edges_place f (counts_at f b)) at es → (sum label : ℕ) (e : Edge) (rest : List ℕ)
      → read_edge f (length b) sum label (drop at b) ≡ answered (e, rest)
      → (to : ℕ) × (rest ≡ drop to b) × EdgesAt f b (edges_place f (counts_at f b)) to (es ++ (e ∷ [])) × (sum + (length e.sources + length e.targets) ≤ f.most_ports)
  edges_more es at h sum label e rest p =
      let from = edges_place f (counts_at f b) in
      let r = edge_rest f (length b) sum label (drop at b) e rest p in
      let k = edge_read f (length b) sum label (drop at b) e rest (below_drop 256 at b clean) p in
      let to = at + r.place in
      let is : rest ≡ drop to b = r.is ∙ drop-drop r.place at b in
      let long = length-drop at b in
      let more : joined (edge_bytes f) (es ++ (e ∷ [])) ≡ joined (edge_bytes f) es ++ edge_bytes f e =
      joined_append (edge_bytes f) es (e ∷ []) ∙ ap (λ (l : List ℕ). joined (edge_bytes f) es ++ l) (append-nil (edge_bytes f e)) in
      let stand : drop from b ≡ joined (edge_bytes f) (es ++ (e ∷ [])) ++ drop to b =
      h.stand
      ∙ ap (λ (l : List ℕ). joined (edge_bytes f) es ++ l) (sym k.whole ∙ ap (λ (l : List ℕ). edge_bytes f e ++ l) is)
      ∙ sym (append_assoc (joined (edge_bytes f) es) (edge_bytes f e) (drop to b))
      ∙ ap (λ (l : List ℕ). l ++ drop to b) (sym more) in
      (to, is, record { stand = stand; inside = omega (arith, r.inside, h.inside) }, r.fits)

  -- the port sum with it
  sum_more : (es : List Edge) (e : Edge) → length (edge_entries es) + (length e.sources + length e.targets) ≡ length (edge_entries (es ++ (e ∷ [])))
  sum_more es e =
      let all = joined_append (λ (e : Edge). e.sources ++ e.targets) es (e ∷ []) in
      rw all (simp length-append (omega arith))

  edges_fault : (labels : List ℕ) (es : List Edge) (at : ℕ) → EdgesAt f b (edges_place f (counts_at f b)) at es → length (edge_entries es) ≤ f.most_ports
      → Refuses (Fault f b) (read_edges f (length b) (length (edge_entries es)) labels (drop at b))
  edges_fault [] es at h fits = answer_by _
  edges_fault (label ∷ labels) es at h fits =
      step_when (read_edge f (length b) (length (edge_entries es)) label (drop at b)) _ (edge_fault label es at h fits) λ x p.
      step_when (read_edges f (length b) (length (edge_entries es) + (length x.0.sources + length x.0.targets)) labels x.1) _
      (onward x.0 x.1 p (λ to k fits. edges_fault labels (es ++ (x.0 ∷ [])) to k fits)) λ y q.
      answer_by _
    where
      onward : (e : Edge) (rest : List ℕ) → read_edge f (length b) (length (edge_entries es)) label (drop at b) ≡ answered (e, rest)
          → ((to : ℕ) → EdgesAt f b (edges_place f (counts_at f b)) to (es ++ (e ∷ [])) → length (edge_entries (es ++ (e ∷ []))) ≤ f.most_ports
          → Refuses (Fault f b) (read_edges f (length b) (length (edge_entries (es ++ (e ∷ [])))) labels (drop to b)))
          → Refuses (Fault f b) (read_edges f (length b) (length (edge_entries es) + (length e.sources + length e.targets)) labels rest)
      onward e rest p ih =
          let m = edges_more es at h (length (edge_entries es)) label e rest p in
          let k = ih m.0 m.2 (subst (λ n. n ≤ f.most_ports) (sum_more es e) m.3) in
          subst (λ n. Refuses (Fault f b) (read_edges f (length b) n labels rest)) (sym (sum_more es e))
          (subst (λ (l : List ℕ). Refuses (Fault f b) (read_edges f (length b) (length (edge_entries (es ++ (e ∷ [])))) labels l)) (sym m.1) k)

-- ---- after the edges

module _ (f : Format) (u : Usable f) (b : List ℕ) (clean : Below 256 b) (front : HeaderRead f b (counts_at f b)) (whole : header_bytes f ≤ length b)
    (labels : ((counts_at f b).nodes + (counts_at f b).edges) * 4 ≤ length (drop (header_bytes f) b)) where
  module _ (es : List Edge) (rest : List ℕ) (to : ℕ) (is : rest ≡ drop to b) (inside : to ≤ length b)
      (e : EdgesRead f 0 (numbers 4 (counts_at f b).edges (drop ((counts_at f b).nodes * 4) (drop (header_bytes f) b)))
      (drop (((counts_at f b).nodes + (counts_at f b).edges) * 4) (drop (header_bytes f) b)) es rest)
      (many : length es ≡ (counts_at f b).edges) where
    -- where the edges stand
    all_stand : EdgesAt f b (edges_place f (counts_at f b)) to es
    all_stand = record {
      inside = inside;
      stand =
          sym (drop-drop (((counts_at f b).nodes + (counts_at f b).edges) * 4) (header_bytes f) b) ∙ sym e.whole
          ∙ ap (λ (l : List ℕ). joined (edge_bytes f) es ++ l) is;
    }

    -- the lists begin where the edges end
    lists_begin : to + list_bytes f (counts_at f b) ≡ form_bytes f (counts_at f b) (length (edge_entries es))
    lists_begin =
        let c = counts_at f b in
        let label_bytes = (c.nodes + c.edges) * 4 in
        let l₁ : length (joined (edge_bytes f) es ++ rest) ≡ length (drop label_bytes (drop (header_bytes f) b)) = ap length e.whole in
        let l₂ : length (joined (edge_bytes f) es) + length rest ≡ length b - header_bytes f - label_bytes =
        sym (length-append (joined (edge_bytes f) es) rest) ∙ l₁ ∙ length-drop label_bytes (drop (header_bytes f) b) ∙ ap (λ k. k - label_bytes) (length-drop (header_bytes f) b) in
        let l₃ : length rest ≡ length b - to = ap length is ∙ length-drop to b in
        let l₄ : label_bytes ≤ length b - header_bytes f = rw (length-drop (header_bytes f) b) at labels in
        let l₅ : length (joined (edge_bytes f) es) ≡ (2 * c.edges + length (edge_entries es)) * f.width =
        length_edges f es ∙ ap (λ k. (2 * k + length (edge_entries es)) * f.width) many in
        omega arith

    lists_fault : Refuses (Fault f b) (read_lists f (length b) (counts_at f b) (drop (header_bytes f) b) es rest)
    unfolding read_lists
    lists_fault =
        let c = counts_at f b in
        let body = drop (header_bytes f) b in
        let W = list_bytes f c in
        let g = assembled f c body es rest in
        let w = f.width in
        test_when (eqb (length rest) W) _ _ (λ q. five (ltb (length rest) W) refl (eqb-false _ _ q)) λ q.
        let r = eqb-true (length rest) W q in
        test_when (all_below c.nodes (ids g)) _ _
        (λ q.
        let bad = first_bad_lem c.nodes (ids g) q in
        let is_b : encode f g ≡ b = whole_form f b body c front.whole front.within (below_drop 256 (header_bytes f) b clean) es rest labels e r in
        let small = ids_small f b body c front.whole front.within (below_drop 256 (header_bytes f) b clean) es rest labels e r in
        let nodes : length g.labels ≡ c.nodes = length_numbers 4 c.nodes body in
        six g (first_bad c.nodes (ids g)) is_b small (subst (λ n. FirstBad n (ids g) (first_bad c.nodes (ids g))) (sym nodes) bad))
        λ q.
        answer_by _
      where
        five : (t : Bool) → ltb (length rest) (list_bytes f (counts_at f b)) ≡ t → length rest ≢ list_bytes f (counts_at f b)
            → Fault f b (5 carrying min (length b) (place_of (length b) rest + list_bytes f (counts_at f b)))
        five true q ne =
            let l = ltb-true (length rest) (list_bytes f (counts_at f b)) q in
            let l₃ : length rest ≡ length b - to = ap length is ∙ length-drop to b in
            let k : length b ≡ min (length b) (place_of (length b) rest + list_bytes f (counts_at f b)) = omega arith in
            subst (λ p. Fault f b (5 carrying p)) k (cut_lists es many to all_stand (omega (arith, lists_begin)))
        five false q ne =
            let l = ltb-false (length rest) (list_bytes f (counts_at f b)) q in
            let l₃ : length rest ≡ length b - to = ap length is ∙ length-drop to b in
            let k : form_bytes f (counts_at f b) (length (edge_entries es)) ≡ min (length b) (place_of (length b) rest + list_bytes f (counts_at f b)) =
            omega (arith, lists_begin) in
            let less : form_bytes f (counts_at f b) (length (edge_entries es)) < length b = omega (arith, lists_begin) in
            subst (λ p. Fault f b (5 carrying p)) k (extra es many to all_stand less)

        six : (g : Graph) (k : ℕ) → encode f g ≡ b → Below (256 ^ f.width) (ids g) → FirstBad (length g.labels) (ids g) k
            → Fault f b (6 carrying get_or (id_places f g) k 0)
        six g k is_b small bad =
            let at : (j : ℕ) → j < length (ids g) → (get_or (id_places f g) j 0 + f.width ≤ length b) × (number_at f.width b (get_or (id_places f g) j 0) ≡ get_or (ids g) j 0) =
            λ j l. subst (λ (b : List ℕ). (get_or (id_places f g) j 0 + f.width ≤ length b) × (number_at f.width b (get_or (id_places f g) j 0) ≡ get_or (ids g) j 0)) is_b
            (id_at f (wide_some u.width).0 g small j l) in
            let here = at k bad.inside in
            bad_id g k is_b bad.inside
            (λ j l. subst (λ n. n < length g.labels) (sym (at j (omega (arith, bad.inside))).1) (bad.before j l))
            (subst (λ n. length g.labels ≤ n) (sym here.1) bad.bad) here.0

  after_labels : Refuses (Fault f b)
      (read_edges f (length b) 0 (numbers 4 (counts_at f b).edges (drop ((counts_at f b).nodes * 4) (drop (header_bytes f) b)))
      (drop (((counts_at f b).nodes + (counts_at f b).edges) * 4) (drop (header_bytes f) b))
      >>= λ (x : List Edge × List ℕ). read_lists f (length b) (counts_at f b) (drop (header_bytes f) b) x.0 x.1)
  after_labels =
      let c = counts_at f b in
      let body = drop (header_bytes f) b in
      let label_bytes = (c.nodes + c.edges) * 4 in
      let named = numbers 4 c.edges (drop (c.nodes * 4) body) in
      let is_start : drop (edges_place f c) b ≡ drop label_bytes body = sym (drop-drop label_bytes (header_bytes f) b) in
      let l : label_bytes ≤ length b - header_bytes f = rw (length-drop (header_bytes f) b) at labels in
      let start : EdgesAt f b (edges_place f c) (edges_place f c) [] = record { stand = refl; inside = omega arith } in
      let first : Refuses (Fault f b) (read_edges f (length b) 0 named (drop label_bytes body)) =
      subst (λ (d : List ℕ). Refuses (Fault f b) (read_edges f (length b) 0 named d)) is_start (edges_fault f b clean named [] (edges_place f c) start (omega arith)) in
      step_when (read_edges f (length b) 0 named (drop label_bytes body)) _ first λ x p.
      let k = edges_read f (length b) 0 named (drop label_bytes body) x.0 x.1 (omega arith) (below_drop 256 label_bytes body (below_drop 256 (header_bytes f) b clean)) p in
      let r = edges_rest f (length b) 0 named (drop label_bytes body) x.0 x.1 p in
      let is : x.1 ≡ drop (edges_place f c + r.place) b = r.is ∙ ap (drop r.place) (sym is_start) ∙ drop-drop r.place (edges_place f c) b in
      let long : length (drop label_bytes body) ≡ length b - edges_place f c = ap length (sym is_start) ∙ length-drop (edges_place f c) b in
      lists_fault x.0 x.1 (edges_place f c + r.place) is (omega (arith, r.inside)) k (r.many ∙ length_numbers 4 c.edges (drop (c.nodes * 4) body))

body_fault : (f : Format) → Usable f → (b : List ℕ) → Below 256 b → HeaderRead f b (counts_at f b) → header_bytes f ≤ length b
    → Refuses (Fault f b) (read_body f (length b) (counts_at f b) (drop (header_bytes f) b))
unfolding read_body
body_fault f u b clean front whole =
    test_when (leb (((counts_at f b).nodes + (counts_at f b).edges) * 4) (length (drop (header_bytes f) b))) _ _
    (λ q.
    let less : length b - header_bytes f < ((counts_at f b).nodes + (counts_at f b).edges) * 4 = rw (length-drop (header_bytes f) b) at (leb-false (((counts_at f b).nodes + (counts_at f b).edges) * 4) (length (drop (header_bytes f) b)) q) in
    cut_labels (omega arith))
    (λ q. after_labels f u b clean front whole (leb-true _ _ q))

-- ---- the whole of a version

pub in_fault : (f : Format) → Usable f → (b : List ℕ) → Below 256 b → read_version b ≡ answered f.version → (r : Refusal) → read_in f b ≡ refused r → Fault f b r
unfolding read_in
in_fault f u b clean v =
    (step_when (read_counts f b) _ (counts_fault f b) (λ c p.
    let k = counts_passed f b c p in
    let h = header_read_lem f b c clean (version_read b f.version v) p in
    subst (λ (c : Counts). Refuses (Fault f b) (read_body f (length b) c (drop (header_bytes f) b))) (sym k.2)
    (body_fault f u b clean (subst (HeaderRead f b) k.2 h) k.0))
    ).each

-- ---- where the place lies

-- within the bytes for 4 and 6, with all of the number that stands there; for 5 at the first byte too many or at the end
pub record Inside (f : Format) (b : List ℕ) (r : Refusal) : Type 0 where
  pub number : (r.no ≡ 5 → ⊥) → r.place + f.width ≤ length b
  pub length : r.no ≡ 5 → r.place ≤ length b

pub fault_inside : (f : Format) (b : List ℕ) (r : Refusal) → Fault f b r → Inside f b r
fault_inside f b r (cut_header l) = record { number = λ ne. absurd (ne refl); length = λ e. omega arith }
fault_inside f b r (cut_labels l) = record { number = λ ne. absurd (ne refl); length = λ e. omega arith }
fault_inside f b r (cut_counts es to h l) = record { number = λ ne. absurd (ne refl); length = λ e. omega arith }
fault_inside f b r (cut_ids es to h l) = record { number = λ ne. absurd (ne refl); length = λ e. omega arith }
fault_inside f b r (cut_lists es many to h l) = record { number = λ ne. absurd (ne refl); length = λ e. omega arith }
fault_inside f b r (extra es many to h l) = record { number = λ ne. absurd (ne refl); length = λ e. omega arith }
fault_inside f b r (above k l h n i) = record { number = λ ne. i; length = λ e. omega arith }
fault_inside f b r (with_sources es to h l n i) = record { number = λ ne. i; length = λ e. omega arith }
fault_inside f b r (with_targets es to h l n i) = record { number = λ ne. i; length = λ e. omega arith }
fault_inside f b r (bad_id g k is l h n i) = record { number = λ ne. i; length = λ e. omega arith }

-- ---- any bytes

version_fault : (b : List ℕ) → Refuses (ReadFault b) (read_version b)
unfolding read_version
version_fault b =
    test_when (leb 15 (length b)) _ _ (λ q. few (leb-false 15 (length b) q)) λ q.
    test_when (same (take 3 b) mark) _ _ (λ p. unmarked (leb-true 15 (length b) q) (λ e. false≢true (sym p ∙ ap (λ (l : List ℕ). same l mark) e))) λ p.
    answer_by _

format_fault : (b : List ℕ) → 15 ≤ length b → Refuses (ReadFault b) (format_numbered (number_at 2 b 3))
unfolding format_numbered
format_fault b long = one (eqb (number_at 2 b 3) 1) refl
  where
    two : (number_at 2 b 3 ≡ 1 → ⊥) → (c : Bool) → eqb (number_at 2 b 3) 2 ≡ c → Refuses (ReadFault b) (cond c (answered form2) (refused (3 carrying 3)))
    two n true q = answer_by form2
    two n false q = record { each = λ r e. subst (ReadFault b) (same_refusal e) (neither long n (eqb-false _ _ q)) }

    one : (c : Bool) → eqb (number_at 2 b 3) 1 ≡ c → Refuses (ReadFault b) (cond c (answered form1) (cond (eqb (number_at 2 b 3) 2) (answered form2) (refused (3 carrying 3))))
    one true q = answer_by form1
    one false q = two (eqb-false _ _ q) (eqb (number_at 2 b 3) 2) refl

-- 13: of the two versions it is the second that was read, and the first that fits
small_fault : (b : List ℕ) (f : Format) → Version f → (g : Graph) → GraphRead f b g → 15 ≤ length b → ((fitting g).version ≡ f.version → ⊥) → ReadFault b (13 carrying 0)
unfolding fitting_sizes
small_fault b f v g h long = go (within_limits form1 g) refl v.one
  where
    go : (c : Bool) → within_limits form1 g ≡ c → (f ≡ form1) ⊎ (f ≡ form2) → ((cond c form1 form2).version ≡ f.version → ⊥) → ReadFault b (13 carrying 0)
    go true e (inl is) n = absurd (n (ap (λ (k : Format). k.version) (sym is)))
    go true e (inr is) n = fits_one g (limits_formed form1 g h.formed.proper e) (ap (λ (k : Format). encode k g) (sym is) ∙ h.whole) long
    go false e (inl is) n = absurd (false≢true (sym e ∙ formed_limits form1 g (subst (λ (k : Format). WellFormed k g) is h.formed)))
    go false e (inr is) n = absurd (n (ap (λ (k : Format). k.version) (sym is)))

fitting_fault : (b : List ℕ) → Below 256 b → (f : Format) → Version f → 15 ≤ length b → format_numbered (number_at 2 b 3) ≡ answered f
    → read_version b ≡ answered f.version → Refuses (ReadFault b) (read_fitting f b)
unfolding read_fitting in_version
fitting_fault b clean f v long numbered is =
    step_when (read_in f b) _ (record { each = λ r e. form f numbered long r (in_fault f v.usable b clean is r e) }) λ g z.
    test_when (eqb (fitting g).version f.version) _ _ (λ e. small_fault b f v g (in_sound f b g clean is z) long (eqb-false _ _ e)) λ e.
    answer_by g

-- whatever a read refuses, it is for the fault that its number and its place say
pub read_fault : (b : List ℕ) → Below 256 b → (r : Refusal) → read b ≡ refused r → ReadFault b r
unfolding read
read_fault b clean =
    (step_when (read_version b) _ (version_fault b) (λ v p.
    let k = version_read b v p in
    step_when (format_numbered v) _ (subst (λ v. Refuses (ReadFault b) (format_numbered v)) k.version (format_fault b k.long)) λ f q.
    let known = version_known v f q in
    let is_f : read_version b ≡ answered f.version = p ∙ ap answered (sym known.1) in
    step_when (read_fitting f b) _ (fitting_fault b clean f known.0 k.long (ap format_numbered k.version ∙ q) is_f) λ g z.
    answer_by _)
    ).each

-- the place lies within the bytes; in 1 it is their length, in 5 at most that
pub record PlaceInside (b : List ℕ) (r : Refusal) : Type 0 where
  pub most : r.place ≤ length b
  pub less : (r.no ≡ 1 → ⊥) → (r.no ≡ 5 → ⊥) → r.place < length b

read_inside : (b : List ℕ) (r : Refusal) → ReadFault b r → PlaceInside b r
read_inside b r (few l) = record { most = omega arith; less = λ n m. absurd (n refl) }
read_inside b r (unmarked l e) = record { most = omega arith; less = λ n m. omega arith }
read_inside b r (neither l e k) = record { most = omega arith; less = λ n m. omega arith }
read_inside b r (form f e l q x) =
    let h = fault_inside f b r x in
    let u = (wide_some (version_known _ f e).0.usable.width).0 in
    record { most = go (eqb r.no 5) refl h u; less = λ n m. omega (arith, h.number m) }
  where
    go : (c : Bool) → eqb r.no 5 ≡ c → Inside f b r → 2 ≤ f.width → r.place ≤ length b
    go true q h u = h.length (eqb-true _ _ q)
    go false q h u = omega (arith, h.number (eqb-false _ _ q))
read_inside b r (fits_one g h e l) = record { most = omega arith; less = λ n m. omega arith }

pub place_inside : (b : List ℕ) → Below 256 b → (r : Refusal) → read b ≡ refused r → PlaceInside b r
place_inside b clean r e = read_inside b r (read_fault b clean r e)

-- ---- in document 02's words

-- "for 6 the first bad id": each id that stands before the place is below the node count, and the one at the place is not
pub record FirstBadId (f : Format) (b : List ℕ) (place : ℕ) : Type 0 where
  pub drawing : Graph
  pub bytes : encode f drawing ≡ b
  pub before : (j : ℕ) → j < length (ids drawing) → get_or (id_places f drawing) j 0 < place → number_at f.width b (get_or (id_places f drawing) j 0) < length drawing.labels
  pub bad : length drawing.labels ≤ number_at f.width b place

pub six_means : (f : Format) → Usable f → (b : List ℕ) (r : Refusal) → Fault f b r → r.no ≡ 6 → FirstBadId f b r.place
six_means f u b r (bad_id g k is l h n i) e = record {
  drawing = g;
  bytes = is;
  bad = n;
  before = λ j m p. h j (id_before f g (omega (arith, wide_some u.width)) j k m l p);
}
six_means f u b r (cut_header l) e = absurd (omega arith)
six_means f u b r (cut_labels l) e = absurd (omega arith)
six_means f u b r (cut_counts es to h l) e = absurd (omega arith)
six_means f u b r (cut_ids es to h l) e = absurd (omega arith)
six_means f u b r (cut_lists es many to h l) e = absurd (omega arith)
six_means f u b r (extra es many to h l) e = absurd (omega arith)
six_means f u b r (above k l h n i) e = absurd (omega arith)
six_means f u b r (with_sources es to h l n i) e = absurd (omega arith)
six_means f u b r (with_targets es to h l n i) e = absurd (omega arith)

-- "for 4 the count that broke the limit": a header count above its limit; or the running sum up to a port count is within the limit, and
-- passes it with that count
pub record SumPasses (f : Format) (b : List ℕ) (place : ℕ) : Type 0 where
  pub edges : List Edge
  pub to : ℕ
  pub stand : EdgesAt f b (edges_place f (counts_at f b)) to edges
  pub up_to : ℕ
  pub is : ((place ≡ to) × (up_to ≡ length (edge_entries edges))) ⊎ ((place ≡ to + f.width) × (up_to ≡ length (edge_entries edges) + number_at f.width b to))
  pub within : up_to ≤ f.most_ports
  pub passes : f.most_ports < up_to + number_at f.width b place

pub four_means : (f : Format) (b : List ℕ) (r : Refusal) → Fault f b r → r.no ≡ 4
    → ((k : ℕ) × (k < 5) × (r.place ≡ 5 + k * f.width) × (get_or (limits f) k 0 < count_at f b k)) ⊎ SumPasses f b r.place
four_means f b r (above k l h n i) e = inl (k, l, refl, n)
four_means f b r (with_sources es to h l n i) e = inr (record { edges = es; to = to; stand = h; up_to = length (edge_entries es); is = inl (refl, refl); within = l; passes = n })
four_means f b r (with_targets es to h l n i) e = inr (record { edges = es; to = to; stand = h; up_to = length (edge_entries es) + number_at f.width b to; is = inr (refl, refl); within = l; passes = omega arith })
four_means f b r (cut_header l) e = absurd (omega arith)
four_means f b r (cut_labels l) e = absurd (omega arith)
four_means f b r (cut_counts es to h l) e = absurd (omega arith)
four_means f b r (cut_ids es to h l) e = absurd (omega arith)
four_means f b r (cut_lists es many to h l) e = absurd (omega arith)
four_means f b r (extra es many to h l) e = absurd (omega arith)
four_means f b r (bad_id g k is l h n i) e = absurd (omega arith)

-- "for 5 the length if too short, else the first byte too many"
pub five_means : (f : Format) (b : List ℕ) (r : Refusal) → Fault f b r → r.no ≡ 5
    → (r.place ≡ length b) ⊎ ((es : List Edge) × (length es ≡ (counts_at f b).edges) × (r.place ≡ form_bytes f (counts_at f b) (length (edge_entries es))) × (r.place < length b))
five_means f b r (cut_header l) e = inl refl
five_means f b r (cut_labels l) e = inl refl
five_means f b r (cut_counts es to h l) e = inl refl
five_means f b r (cut_ids es to h l) e = inl refl
five_means f b r (cut_lists es many to h l) e = inl refl
five_means f b r (extra es many to h l) e = inr (es, many, refl, l)
five_means f b r (above k l h n i) e = absurd (omega arith)
five_means f b r (with_sources es to h l n i) e = absurd (omega arith)
five_means f b r (with_targets es to h l n i) e = absurd (omega arith)
five_means f b r (bad_id g k is l h n i) e = absurd (omega arith)

-- ---- 7

pub list_fault : (f : Format) (count : ℕ) (b : List ℕ) (r : Refusal) → id_list f count b ≡ refused r → ListFault f count b r
unfolding id_list
list_fault f count b =
    let w = f.width in
    let n = length b / w in
    let is = numbers w n b in
    (test_when (eqb (length b % w) 0) (7 carrying n) _ (λ q. broken_end (eqb-false _ _ q)) (λ q.
    test_when (all_below count is) (7 carrying first_bad count is) _
    (λ p. entry (first_bad count is) (eqb-true _ _ q) (first_bad_lem count is p)) λ p.
    answer_by is)
    ).each
  where
    entry : (k : ℕ) → length b % f.width ≡ 0 → FirstBad count (numbers f.width (length b / f.width) b) k → ListFault f count b (7 carrying k)
    entry k whole h =
        let w = f.width in
        let n = length b / w in
        let inside : k < n = subst (λ m. k < m) (length_numbers w n b) h.inside in
        bad_entry k whole inside
        (λ j l. subst (λ x. x < count) (get_d_numbers w n b j (omega arith)) (h.before j l))
        (subst (λ x. count ≤ x) (get_d_numbers w n b k inside) h.bad)
