-- The walk that looks for the first bad id: where edges that were read stand, and that the place which it finds is the one of the definitions.
-- Assumes nothing.
use mathlib.Core.Bool.{Bool, true, false}
use mathlib.Core.List.{List, [], ◌∷◌, ◌++◌, append_assoc}
use mathlib.Core.Path.{◌≡◌, refl, sym, ap, ap₂, ◌∙◌, subst}
use Prim.Native.Nat.{ℕ, suc, ◌+◌, ◌*◌, ◌-◌, ◌≤◌, ◌<◌}
use native.Mathlib.Omega.{arith}
use lib.Dec.{leb}
use lib.ListN.{length, get_or, take, drop, length-append, length-drop, get_or-append}
use lib.Seq.{drop-drop, get_or-append-add}
use borrow.Author.Tests.{lt-ltb, le-ltb, leb-true}
use Rattle.graph.specs.Answer.{answered}
use Rattle.graph.specs.Form.{places_from, edge_places}
use Rattle.graph.specs.Graph.{Edge, Format, edge_entries}
use Rattle.graph.specs.Lists.{all_below, first_bad}
use Rattle.graph.specs.Read.{read_edge, read_edges}
use Rattle.graph.proofs.IdPlaces.{length_places, place_at}
use Rattle.graph.proofs.Lists.{first_bad_lem, first_bad_none, first_bad_front, first_bad_append, below_append}
use Rattle.graph.proofs.Steps.{same_answer, passed, came}
use Rattle.le.specs.Le.{number, number_at, numbers}
use Rattle.le.proofs.Numbers.{length_numbers}
use Rattle.le.proofs.Rows.{numbers_append}
use Rattle.edges.specs.Walk.{ports_at, edge_end, Spans, StandAt, bad_place}

-- ---- edges, one after the other

module _ (w : ℕ) (b : List ℕ) (at to n i : ℕ) (l : i < n) where
  one_less : n - i ≡ suc (n - (i + 1))
  one_less = omega arith

  -- the next edge is whole, and the others follow it
  pub spans_next : Spans w b at (n - i) to → (edge_end w b at ≤ length b) × Spans w b (edge_end w b at) (n - (i + 1)) to
  spans_next h = subst (λ (m : ℕ). Spans w b at m to) one_less h

  module _ (bound ids k : ℕ) (is_k : k ≡ first_bad bound (numbers w (ports_at w b at) (drop (at + 2 * w) b))) where
    pub edge_bad : k < ports_at w b at → bad_place w bound b at (n - i) ids ≡ at + 2 * w + k * w
    edge_bad h = rw (one_less, ← is_k, lt-ltb k (ports_at w b at) h)

    pub edge_good : ports_at w b at ≤ k → bad_place w bound b at (n - i) ids ≡ bad_place w bound b (edge_end w b at) (n - (i + 1)) ids
    edge_good h = rw (one_less, ← is_k, le-ltb k (ports_at w b at) h)

-- ---- where edges that are read stand

record EdgeStood (f : Format) (b : List ℕ) (at : ℕ) (e : Edge) (rest : List ℕ) : Type 0 where
  whole : edge_end f.width b at ≤ length b
  entries : e.sources ++ e.targets ≡ numbers f.width (ports_at f.width b at) (drop (at + 2 * f.width) b)
  is : rest ≡ drop (edge_end f.width b at) b

edge_stood : (f : Format) (long sum label : ℕ) (b : List ℕ) (at : ℕ) (e : Edge) (rest : List ℕ) → at ≤ length b
    → read_edge f long sum label (drop at b) ≡ answered (e, rest) → EdgeStood f b at e rest
unfolding read_edge
edge_stood f long sum label b at e rest l p =
    let w = f.width in
    let s = number_at w b at in
    let t = number_at w (drop at b) w in
    let after = drop (2 * w) (drop at b) in
    let p₁ = passed (leb (2 * w) (length (drop at b))) _ _ p in
    let p₃ = passed (leb ((s + t) * w) (length after)) _ _ (passed _ _ _ (passed _ _ _ p₁.1).1).1 in
    let l₁ : 2 * w ≤ length b - at = rw length-drop at (leb-true (2 * w) (length (drop at b)) p₁.0) in
    let l₃ : (s + t) * w ≤ length b - at - 2 * w = rw (length-drop, length-drop) at (leb-true ((s + t) * w) (length after) p₃.0) in
    let both : s + t ≡ ports_at w b at = ap (λ (r : List ℕ). s + number (take w r)) (drop-drop w at b) in
    let is_after : after ≡ drop (at + 2 * w) b = drop-drop (2 * w) at b in
    let end : at + 2 * w + (s + t) * w ≡ edge_end w b at = omega (arith, ap (λ (n : ℕ). n * w) both) in
    subst (λ (r : Edge × List ℕ). EdgeStood f b at r.0 r.1) (same_answer p₃.1)
    (record {
      whole = omega (arith, end);
      entries = sym (numbers_append w s t after) ∙ ap (λ (n : ℕ). numbers w n after) both ∙ ap (numbers w (ports_at w b at)) is_after;
      is = ap (drop ((s + t) * w)) is_after ∙ drop-drop ((s + t) * w) (at + 2 * w) b ∙ ap (λ (p : ℕ). drop p b) end;
    })

-- edges, one for each label, and what follows them
pub record Stood (f : Format) (b : List ℕ) (at : ℕ) (labels : List ℕ) (es : List Edge) (rest : List ℕ) : Type 0 where
  pub to : ℕ
  pub is : rest ≡ drop to b
  pub inside : to ≤ length b
  pub many : length es ≡ length labels
  pub stand : StandAt f.width b at es to

pub stood : (f : Format) (long sum : ℕ) (labels b : List ℕ) (at : ℕ) (es : List Edge) (rest : List ℕ) → at ≤ length b
    → read_edges f long sum labels (drop at b) ≡ answered (es, rest) → Stood f b at labels es rest
stood f long sum [] b at es rest l p =
    subst (λ (r : List Edge × List ℕ). Stood f b at [] r.0 r.1) (same_answer p) (record { to = at; is = refl; inside = l; many = refl; stand = refl })
stood f long sum (label ∷ labels) b at es rest l p =
    let p₁ = came (read_edge f long sum label (drop at b)) _ p in
    let e = p₁.0.0 in
    let h = edge_stood f long sum label b at e p₁.0.1 l p₁.1 in
    let end = edge_end f.width b at in
    let next = sum + (length e.sources + length e.targets) in
    let p₂ = came (read_edges f long next labels p₁.0.1) _ p₁.2 in
    let k = stood f long next labels b end p₂.0.0 p₂.0.1 h.whole (ap (read_edges f long next labels) (sym h.is) ∙ p₂.1) in
    subst (λ (r : List Edge × List ℕ). Stood f b at (label ∷ labels) r.0 r.1) (same_answer p₂.2)
    (record { to = k.to; is = k.is; inside = k.inside; many = ap suc k.many; stand = (h.whole, h.entries, k.stand) })

module _ (w : ℕ) (b : List ℕ) (to : ℕ) where
  pub stand_spans : (at : ℕ) (es : List Edge) → StandAt w b at es to → Spans w b at (length es) to
  stand_spans at [] h = h
  stand_spans at (e ∷ es) h = (h.0, stand_spans (edge_end w b at) es h.2)

  -- as many ports as the counts say
  ports_stand : (at : ℕ) (e : Edge) (es : List Edge) → StandAt w b at (e ∷ es) to → ports_at w b at ≡ length (e.sources ++ e.targets)
  ports_stand at e es h = sym (ap length h.1 ∙ length_numbers w (ports_at w b at) (drop (at + 2 * w) b))

  -- where they end
  pub stand_end : (at : ℕ) (es : List Edge) → StandAt w b at es to → to ≡ at + (2 * length es + length (edge_entries es)) * w
  stand_end at [] h = omega (arith, h)
  stand_end at (e ∷ es) h =
      let here = e.sources ++ e.targets in
      let many = length-append here (edge_entries es) in
      let end : edge_end w b at ≡ at + (2 + length here) * w = ap (λ (n : ℕ). at + (2 + n) * w) (ports_stand at e es h) in
      stand_end (edge_end w b at) es h.2 ∙ rw (end, many) (omega arith)

  -- ---- the walk finds the place of the first bad id

  module _ (bound ids : ℕ) where
    -- the ids after the edges, and their places
    abbrev row : List ℕ
    row = numbers w ids (drop to b)

    abbrev row_places : List ℕ
    row_places = places_from w to ids

    in_row : (at : ℕ) → at ≡ to → all_below bound row ≡ false → bad_place w bound b at 0 ids ≡ get_or row_places (first_bad bound row) 0
    in_row at e bad =
        let inside : first_bad bound row < ids = subst (λ (n : ℕ). first_bad bound row < n) (length_numbers w ids (drop to b)) (first_bad_lem bound row bad).inside in
        ap (λ (p : ℕ). bad_place w bound b p 0 ids) e ∙ sym (place_at w to ids (first_bad bound row) inside)

    -- an edge, and the others after it
    module _ (at : ℕ) (e : Edge) (es : List Edge) (h : StandAt w b at (e ∷ es) to) where
      abbrev here : List ℕ
      here = e.sources ++ e.targets

      abbrev others : List ℕ
      others = edge_entries es ++ row

      abbrev places : List ℕ
      places = places_from w (at + 2 * w) (length here)

      abbrev more : List ℕ
      more = edge_places w (edge_end w b at) es ++ row_places

      abbrev k : ℕ
      k = first_bad bound (numbers w (ports_at w b at) (drop (at + 2 * w) b))

      ids_are : edge_entries (e ∷ es) ++ row ≡ here ++ others
      ids_are = append_assoc here (edge_entries es) row

      places_are : edge_places w at (e ∷ es) ++ row_places ≡ places ++ more
      places_are =
          ap (λ (n : ℕ). (places ++ edge_places w (at + (2 + n) * w) es) ++ row_places) (sym (ports_stand at e es h))
          ∙ append_assoc places (edge_places w (edge_end w b at) es) row_places

      is_k : k ≡ first_bad bound here
      is_k = ap (first_bad bound) (sym h.1)

      one_place : all_below bound (edge_entries (e ∷ es) ++ row) ≡ false
          → (all_below bound others ≡ false → bad_place w bound b (edge_end w b at) (length es) ids ≡ get_or more (first_bad bound others) 0)
          → bad_place w bound b at (suc (length es)) ids ≡ get_or (edge_places w at (e ∷ es) ++ row_places) (first_bad bound (edge_entries (e ∷ es) ++ row)) 0
      one_place bad on = go (all_below bound here) refl ∙ ap₂ (λ (ps xs : List ℕ). get_or ps (first_bad bound xs) 0) (sym places_are) (sym ids_are)
        where
          go : (c : Bool) → all_below bound here ≡ c → bad_place w bound b at (suc (length es)) ids ≡ get_or (places ++ more) (first_bad bound (here ++ others)) 0
          go false q =
              let inside : first_bad bound here < length here = (first_bad_lem bound here q).inside in
              let less : k < ports_at w b at = omega (arith, is_k, ports_stand at e es h) in
              let front : first_bad bound here < length places = rw (length_places w (at + 2 * w) (length here)) inside in
              rw (lt-ltb k (ports_at w b at) less, first_bad_front bound here others q)
              (sym (get_or-append places more 0 (first_bad bound here) front ∙ place_at w (at + 2 * w) (length here) (first_bad bound here) inside
              ∙ ap (λ (n : ℕ). at + 2 * w + n * w) (sym is_k)))
          go true q =
              let all : k ≡ length here = is_k ∙ first_bad_none bound here q in
              let none : ports_at w b at ≤ k = omega (arith, all, ports_stand at e es h) in
              let left : all_below bound others ≡ false = sym (below_append bound here others q) ∙ ap (all_below bound) (sym ids_are) ∙ bad in
              let long : length places ≡ length here = length_places w (at + 2 * w) (length here) in
              rw (le-ltb k (ports_at w b at) none, first_bad_append bound here others q)
              (on left ∙ sym (get_or-append-add places more (first_bad bound others) 0) ∙ ap (λ (n : ℕ). get_or (places ++ more) (n + first_bad bound others) 0) long)

    pub first_place : (at : ℕ) (es : List Edge) → StandAt w b at es to → all_below bound (edge_entries es ++ numbers w ids (drop to b)) ≡ false
        → bad_place w bound b at (length es) ids ≡ get_or (edge_places w at es ++ places_from w to ids) (first_bad bound (edge_entries es ++ numbers w ids (drop to b))) 0
    first_place at [] h bad = in_row at h bad
    first_place at (e ∷ es) h bad = one_place at e es h bad (first_place (edge_end w b at) es h.2)
