-- Where the ids of a stored form stand: at `id_places`, one after the other, each wholly within the form.
-- Assumes nothing.
use mathlib.Core.Bool.{Bool, true, false}
use mathlib.Core.List.{List, [], ◌∷◌, ◌++◌, append_assoc}
use mathlib.Core.Path.{◌≡◌, refl, sym, ap, ◌∙◌, subst}
use Prim.Native.Nat.{ℕ, zero, suc, ◌+◌, ◌*◌, ◌^◌, ◌≤◌, ◌<◌}
use native.Mathlib.Nat.{not-suc-le-zero, le_of_suc-le-suc, suc-mul}
use native.Mathlib.Omega.{arith}
use lib.Dec.{ltb}
use lib.ListN.{length, get_or, take, drop, length-append, length-drop, length-map}
use lib.Seq.{drop-drop}
use borrow.Author.Tests.{ltb-true, ltb-false}
use Rattle.le.specs.Le.{Below, bytes, row, number_at}
use Rattle.le.proofs.Numbers.{below_front, below_back, length_bytes, number_take, drop_bytes, length_row, row_append, drop_row}
use Rattle.graph.specs.Form.{header_bytes, edge_bytes, sections, encode, places_from, edge_places, edges_place, lists_place, id_places}
use Rattle.graph.specs.Graph.{Edge, Graph, counts, ids, edge_entries, Format}
use Rattle.graph.specs.Lists.{joined, flat}
use Rattle.graph.proofs.Laws.{length_edges, section_at}

-- the numbers stand at the places, each wholly within the bytes
abbrev pub Stand : ℕ → List ℕ → List ℕ → List ℕ → Type 0
Stand w b [] [] = Unit {0}
Stand w b [] (x ∷ xs) = ⊥
Stand w b (p ∷ ps) [] = ⊥
Stand w b (p ∷ ps) (x ∷ xs) = (p + w ≤ length b) × (number_at w b p ≡ x) × Stand w b ps xs

module _ (w : ℕ) (b : List ℕ) where
  stand_append : (ps xs qs ys : List ℕ) → Stand w b ps xs → Stand w b qs ys → Stand w b (ps ++ qs) (xs ++ ys)
  stand_append [] [] qs ys h k = k
  stand_append [] (x ∷ xs) qs ys h k = absurd h
  stand_append (p ∷ ps) [] qs ys h k = absurd h
  stand_append (p ∷ ps) (x ∷ xs) qs ys h k = (h.0, h.1, stand_append ps xs qs ys h.2 k)

  pub stand_at : (ps xs : List ℕ) → Stand w b ps xs → (k : ℕ) → k < length xs
      → (get_or ps k 0 + w ≤ length b) × (number_at w b (get_or ps k 0) ≡ get_or xs k 0)
  stand_at [] [] h k l = absurd (not-suc-le-zero l)
  stand_at [] (x ∷ xs) h k l = absurd h
  stand_at (p ∷ ps) [] h k l = absurd h
  stand_at (p ∷ ps) (x ∷ xs) h zero l = (h.0, h.1)
  stand_at (p ∷ ps) (x ∷ xs) h (suc k) l = stand_at ps xs h.2 k (le_of_suc-le-suc l)

  module _ (wide : 2 ≤ w) where
    -- a row of numbers
    row_stands : (xs rest : List ℕ) (place : ℕ) → Below (256 ^ w) xs → drop place b ≡ row w xs ++ rest → Stand w b (places_from w place (length xs)) xs
    row_stands [] rest place h e = tt
    row_stands (x ∷ xs) rest place h e =
        let e₁ : drop place b ≡ bytes w x ++ (row w xs ++ rest) = e ∙ append_assoc (bytes w x) (row w xs) rest in
        let long : length (drop place b) ≡ w + length (row w xs ++ rest) = ap length e₁ ∙ simp (length-append, length_bytes) in
        let next : drop (place + w) b ≡ row w xs ++ rest = sym (drop-drop w place b) ∙ ap (drop w) e₁ ∙ drop_bytes w x (row w xs ++ rest) in (
          omega (arith, length-drop place b),
          ap (λ (l : List ℕ). Rattle.le.specs.Le.number (take w l)) e₁ ∙ number_take w x (row w xs ++ rest) h.0,
          row_stands xs rest (place + w) h.1 next,
        )

    -- the ids of edges: each edge's stand after its two counts
    edges_stand : (f : Format) → f.width ≡ w → (es : List Edge) (rest : List ℕ) (place : ℕ) → Below (256 ^ w) (edge_entries es)
        → drop place b ≡ joined (edge_bytes f) es ++ rest → Stand w b (edge_places w place es) (edge_entries es)
    edges_stand f is [] rest place h e = tt
    edges_stand f is (d ∷ es) rest place h e =
        let here = d.sources ++ d.targets in
        let after = joined (edge_bytes f) es ++ rest in
        let front : List ℕ = length d.sources ∷ length d.targets ∷ [] in
        let whole : edge_bytes f d ≡ row w front ++ row w here = subst (λ k. edge_bytes f d ≡ row k front ++ row k here) is (row_append f.width front here) in
        let e₁ : drop place b ≡ row w front ++ (row w here ++ after) =
        e ∙ append_assoc (edge_bytes f d) (joined (edge_bytes f) es) rest ∙ ap (λ (l : List ℕ). l ++ after) whole ∙ append_assoc (row w front) (row w here) after in
        let e₂ : drop (place + 2 * w) b ≡ row w here ++ after = sym (drop-drop (2 * w) place b) ∙ ap (drop (2 * w)) e₁ ∙ drop_row w front (row w here ++ after) in
        let far : place + 2 * w + length here * w ≡ place + (2 + length here) * w = omega arith in
        let e₃ : drop (place + (2 + length here) * w) b ≡ after =
        ap (λ k. drop k b) (sym far) ∙ sym (drop-drop (length here * w) (place + 2 * w) b) ∙ ap (drop (length here * w)) e₂ ∙ drop_row w here after in
        stand_append (places_from w (place + 2 * w) (length here)) here (edge_places w (place + (2 + length here) * w) es) (edge_entries es)
        (row_stands here after (place + 2 * w) (below_front (256 ^ w) here (edge_entries es) h) e₂)
        (edges_stand f is es rest (place + (2 + length here) * w) (below_back (256 ^ w) here (edge_entries es) h) e₃)

-- the ids of a form
module _ (f : Format) (wide : 2 ≤ f.width) (g : Graph) (small : Below (256 ^ f.width) (ids g)) where
  pub ids_stand : Stand f.width (encode f g) (id_places f g) (ids g)
  unfolding id_places
  ids_stand =
      let w = f.width in
      let lists = g.sources ++ (g.targets ++ flat g.pairs) in
      let rest = row w g.sources ++ (row w g.targets ++ (row w (flat g.pairs) ++ [])) in
      let many = length-map g.edges (λ e. e.label) in
      let at₂ : header_bytes f + length (joined (λ (s : List ℕ). s) (take 2 (sections f g))) ≡ edges_place f (counts g) =
      simp (length-append, length_row) (omega (arith, many)) in
      let at₃ : header_bytes f + length (joined (λ (s : List ℕ). s) (take 3 (sections f g))) ≡ lists_place f g =
      simp (length-append, length_row, length_edges) (omega (arith, many)) in
      let e₂ : drop (edges_place f (counts g)) (encode f g) ≡ joined (edge_bytes f) g.edges ++ rest =
      subst (λ k. drop k (encode f g) ≡ joined (edge_bytes f) g.edges ++ rest) at₂ (section_at f g 2) in
      let e₃ : drop (lists_place f g) (encode f g) ≡ rest = subst (λ k. drop k (encode f g) ≡ rest) at₃ (section_at f g 3) in
      let all : rest ≡ row w lists ++ [] = rw (row_append, append_assoc, row_append, append_assoc) in
      stand_append w (encode f g) (edge_places w (edges_place f (counts g)) g.edges) (edge_entries g.edges) (places_from w (lists_place f g) (length lists)) lists
      (edges_stand w (encode f g) wide f refl g.edges rest (edges_place f (counts g)) (below_front (256 ^ w) (edge_entries g.edges) lists small) e₂)
      (row_stands w (encode f g) wide lists [] (lists_place f g) (below_back (256 ^ w) (edge_entries g.edges) lists small) (e₃ ∙ all))

  -- id number k stands at place number k
  pub id_at : (k : ℕ) → k < length (ids g)
      → (get_or (id_places f g) k 0 + f.width ≤ length (encode f g)) × (number_at f.width (encode f g) (get_or (id_places f g) k 0) ≡ get_or (ids g) k 0)
  id_at k l = stand_at f.width (encode f g) (id_places f g) (ids g) ids_stand k l

-- ---- the places by number

pub length_places : (w place n : ℕ) → length (places_from w place n) ≡ n
length_places w place zero = refl
length_places w place (suc n) = ap suc (length_places w (place + w) n)

pub length_edge_places : (w place : ℕ) (es : List Edge) → length (edge_places w place es) ≡ length (edge_entries es)
length_edge_places w place [] = refl
length_edge_places w place (e ∷ es) =
    let here = e.sources ++ e.targets in
    length-append (places_from w (place + 2 * w) (length here)) (edge_places w (place + (2 + length here) * w) es)
    ∙ rw (length_places w (place + 2 * w) (length here), length_edge_places w (place + (2 + length here) * w) es) (sym (length-append here (edge_entries es)))

-- number k of a row
pub place_at : (w place n k : ℕ) → k < n → get_or (places_from w place n) k 0 ≡ place + k * w
place_at w place zero k l = absurd (not-suc-le-zero l)
place_at w place (suc n) zero l = omega arith
place_at w place (suc n) (suc k) l = place_at w (place + w) n k (le_of_suc-le-suc l) ∙ omega arith

-- ---- the places rise, each by a width at least: so the ids before a place are those of lower number

abbrev Rise : ℕ → ℕ → ℕ → List ℕ → Type 0
Rise w low high [] = low ≤ high
Rise w low high (p ∷ ps) = (low ≤ p) × Rise w (p + w) high ps

module _ (w : ℕ) where
  rise_lower : (low low' high : ℕ) (ps : List ℕ) → low ≤ low' → Rise w low' high ps → Rise w low high ps
  rise_lower low low' high [] l h = omega arith
  rise_lower low low' high (p ∷ ps) l h = (omega (arith, h.0), h.1)

  rise_append : (low mid high : ℕ) (ps qs : List ℕ) → Rise w low mid ps → Rise w mid high qs → Rise w low high (ps ++ qs)
  rise_append low mid high [] qs h k = rise_lower low mid high qs h k
  rise_append low mid high (p ∷ ps) qs h k = (h.0, rise_append (p + w) mid high ps qs h.1 k)

  places_rise : (place n : ℕ) → Rise w place (place + n * w) (places_from w place n)
  places_rise place zero = omega arith
  places_rise place (suc n) =
      let e : place + w + n * w ≡ place + suc n * w = omega (arith, suc-mul n w) in
      (omega arith, subst (λ h. Rise w (place + w) h (places_from w (place + w) n)) e (places_rise (place + w) n))

  edges_rise : (place : ℕ) (es : List Edge) → Rise w place (place + (2 * length es + length (edge_entries es)) * w) (edge_places w place es)
  edges_rise place [] = omega arith
  edges_rise place (e ∷ es) =
      let here = e.sources ++ e.targets in
      let next = place + (2 + length here) * w in
      let sum : length (edge_entries (e ∷ es)) ≡ length here + length (edge_entries es) = length-append here (edge_entries es) in
      let to : place + 2 * w + length here * w ≡ next = omega arith in
      let end : next + (2 * length es + length (edge_entries es)) * w ≡ place + (2 * length (e ∷ es) + length (edge_entries (e ∷ es))) * w = rw sum (omega arith) in
      rise_append place next _ (places_from w (place + 2 * w) (length here)) (edge_places w next es)
      (rise_lower place (place + 2 * w) next (places_from w (place + 2 * w) (length here)) (omega arith)
      (subst (λ h. Rise w (place + 2 * w) h (places_from w (place + 2 * w) (length here))) to (places_rise (place + 2 * w) (length here))))
      (subst (λ h. Rise w next h (edge_places w next es)) end (edges_rise next es))

  rise_over : (low high : ℕ) (ps : List ℕ) → Rise w low high ps → (k : ℕ) → k < length ps → low ≤ get_or ps k 0
  rise_over low high [] h k l = absurd (not-suc-le-zero l)
  rise_over low high (p ∷ ps) h zero l = h.0
  rise_over low high (p ∷ ps) h (suc k) l = omega (arith, h.0, rise_over (p + w) high ps h.1 k (le_of_suc-le-suc l))

  rise_at : (low high : ℕ) (ps : List ℕ) → Rise w low high ps → (j k : ℕ) → j < k → k < length ps → get_or ps j 0 + w ≤ get_or ps k 0
  rise_at low high [] h j k i l = absurd (not-suc-le-zero l)
  rise_at low high (p ∷ ps) h zero zero i l = absurd (not-suc-le-zero i)
  rise_at low high (p ∷ ps) h zero (suc k) i l = rise_over (p + w) high ps h.1 k (le_of_suc-le-suc l)
  rise_at low high (p ∷ ps) h (suc j) zero i l = absurd (not-suc-le-zero i)
  rise_at low high (p ∷ ps) h (suc j) (suc k) i l = rise_at (p + w) high ps h.1 j k (le_of_suc-le-suc i) (le_of_suc-le-suc l)

module _ (f : Format) (g : Graph) where
  ids_rise : Rise f.width (edges_place f (counts g)) (lists_place f g + length (g.sources ++ (g.targets ++ flat g.pairs)) * f.width) (id_places f g)
  unfolding id_places
  ids_rise = rise_append f.width _ (lists_place f g) _ (edge_places f.width (edges_place f (counts g)) g.edges)
      (places_from f.width (lists_place f g) (length (g.sources ++ (g.targets ++ flat g.pairs))))
      (edges_rise f.width (edges_place f (counts g)) g.edges) (places_rise f.width (lists_place f g) (length (g.sources ++ (g.targets ++ flat g.pairs))))

  pub length_id_places : length (id_places f g) ≡ length (ids g)
  unfolding id_places
  length_id_places =
      let w = f.width in
      let n = length (g.sources ++ (g.targets ++ flat g.pairs)) in
      length-append (edge_places w (edges_place f (counts g)) g.edges) (places_from w (lists_place f g) n)
      ∙ rw (length_edge_places w (edges_place f (counts g)) g.edges, length_places w (lists_place f g) n)
      (sym (length-append (edge_entries g.edges) (g.sources ++ (g.targets ++ flat g.pairs))))

  -- an id that stands before another has a lower number
  pub id_before : 1 ≤ f.width → (j k : ℕ) → j < length (ids g) → k < length (ids g) → get_or (id_places f g) j 0 < get_or (id_places f g) k 0 → j < k
  id_before u j k lj lk l = go (ltb k j) refl (ltb j k) refl
    where
      go : (c : Bool) → ltb k j ≡ c → (d : Bool) → ltb j k ≡ d → j < k
      go c e true q = ltb-true j k q
      go true e false q =
          let far = rise_at f.width _ _ (id_places f g) ids_rise k j (ltb-true k j e) (rw length_id_places lj) in
          absurd (omega arith)
      go false e false q =
          let k≡j : k ≡ j = omega (arith, ltb-false k j e, ltb-false j k q) in
          let same : get_or (id_places f g) k 0 ≡ get_or (id_places f g) j 0 = ap (λ n. get_or (id_places f g) n 0) k≡j in
          absurd (omega arith)
