-- The ways out of reading an edge at a place of the whole bytes, and edges one after the other.
-- Assumes nothing.
use mathlib.Core.Bool.{Bool, true, false, cond}
use mathlib.Core.List.{List, [], ◌∷◌, ◌++◌, append-nil}
use mathlib.Core.Path.{◌≡◌, refl, sym, ap, ◌∙◌}
use Prim.Native.Nat.{ℕ, suc, ◌+◌, ◌*◌, ◌-◌, ◌≤◌, ◌<◌, max}
use native.Mathlib.Omega.{arith}
use lib.Dec.{ltb}
use lib.ListN.{length, get_or, take, drop, length-drop, length-append}
use lib.Seq.{drop-drop, split_at, length-take-le, take_all, take-suc}
use borrow.Author.Tests.{ltb-true, ltb-false}
use Rattle.std.specs.Prelude.{Err}
use Rattle.form.proofs.Answers.{refused_so}
use Rattle.edges.specs.Steps.{edge_step, edges_step, settled}
use Rattle.lists.specs.Reach.{reach}
use Rattle.edges.specs.declared.Reached.{Reached}
use Rattle.edges.specs.declared.Stop.TheVariants.{Over}
use Rattle.graph.specs.Answer as answer
use Rattle.graph.specs.Answer.{Answer, refused, answered, ◌carrying◌}
use Rattle.graph.specs.Graph.{Edge, edge_entries, Format}
use Rattle.graph.specs.Read.{read_edge, read_edges}
use Rattle.le.specs.Le.{number, number_at, numbers}
use Rattle.graph.proofs.Laws.{joined_append}
use Rattle.graph.proofs.Steps.{same_answer}
use Rattle.graph.proofs.Reading.{edges_next, edges_stop, edge_rest}
use Rattle.graph.proofs.Verdicts.{edge_cut, sources_over, targets_over, edge_short, place_of_lem}
use Rattle.graph.proofs.WriteRead.{edge_step_lem}
use Rattle.le.proofs.Numbers.{length_numbers}
use Rattle.le.proofs.Rows.{numbers_append}
use Rattle.lists.proofs.Reach.{reach_append}

module _ (f : Format) (b : List ℕ) (at sum bound : ℕ) (inside : at ≤ length b) (label : ℕ) where
  pub cut : length b - at < 2 * f.width → refused (5 carrying length b) ≡ edge_step (length b) sum bound (read_edge f (length b) sum label (drop at b))
  cut h = ap (edge_step (length b) sum bound) (sym (edge_cut f (length b) sum label (drop at b) (rw length-drop h)))

  module _ (n : ℕ) (is_n : n ≡ number_at f.width b at + number_at f.width b (at + f.width)) (counted : 2 * f.width ≤ length b - at) where
    there : 2 * f.width ≤ length (drop at b)
    there = rw length-drop counted

    both : number_at f.width (drop at b) 0 + number_at f.width (drop at b) f.width ≡ n
    both = ap (λ (l : List ℕ). number_at f.width b at + number (take f.width l)) (drop-drop f.width at b) ∙ sym is_n

    -- the source count passes the limit, or the target count does
    over_sources : f.most_ports < sum + number_at f.width b at
        → refused (4 carrying at) ≡ edge_step (length b) sum bound (read_edge f (length b) sum label (drop at b))
    over_sources h =
        ap (λ (p : ℕ). refused (4 carrying p)) (sym (place_of_lem b at inside))
        ∙ ap (edge_step (length b) sum bound) (sym (sources_over f (length b) sum label (drop at b) there h))

    over_targets : sum + number_at f.width b at ≤ f.most_ports → f.most_ports < sum + n
        → refused (4 carrying at + f.width) ≡ edge_step (length b) sum bound (read_edge f (length b) sum label (drop at b))
    over_targets k h =
        ap (λ (p : ℕ). refused (4 carrying p + f.width)) (sym (place_of_lem b at inside))
        ∙ ap (edge_step (length b) sum bound) (sym (targets_over f (length b) sum label (drop at b) there k (rw both h)))

    pub over : f.most_ports < sum + n → settled f b (Err (Over at (sum + n))) ≡ edge_step (length b) sum bound (read_edge f (length b) sum label (drop at b))
    over h = go (ltb (f.most_ports + number_at f.width b (at + f.width)) (sum + n)) refl
      where
        go : (c : Bool) → ltb (f.most_ports + number_at f.width b (at + f.width)) (sum + n) ≡ c
            → refused (4 carrying cond c at (at + f.width)) ≡ edge_step (length b) sum bound (read_edge f (length b) sum label (drop at b))
        go true q = over_sources (omega (arith, ltb-true (f.most_ports + number_at f.width b (at + f.width)) (sum + n) q, is_n))
        go false q = over_targets (omega (arith, ltb-false (f.most_ports + number_at f.width b (at + f.width)) (sum + n) q, is_n)) h

    module _ (fits : sum + n ≤ f.most_ports) where
      pub short : length b - at - 2 * f.width < n * f.width → refused (5 carrying length b) ≡ edge_step (length b) sum bound (read_edge f (length b) sum label (drop at b))
      short h = ap (edge_step (length b) sum bound) (sym (edge_short f (length b) sum label (drop at b) there (rw both fits) (rw (both, length-drop, length-drop) h)))

      pub whole : n * f.width ≤ length b - at - 2 * f.width → (most : ℕ) → most ≡ max bound (reach (numbers f.width n (drop (at + 2 * f.width) b)))
          → answered (record { ports = sum + n; at = at + 2 * f.width + n * f.width; bound = most }) ≡ edge_step (length b) sum bound (read_edge f (length b) sum label (drop at b))
      whole h most e =
          let w = f.width in
          let x = number_at w b at in
          let y = number_at w (drop at b) w in
          let after = drop (2 * w) (drop at b) in
          let p = edge_step_lem f (length b) sum label x y (drop at b) after there refl refl refl (rw both fits) (rw (both, length-drop, length-drop) h) in
          let q : length b - length (drop (n * w) after) ≡ at + 2 * w + n * w = simp length-drop (omega arith) in
          let ids : numbers w x after ++ numbers w y (drop (x * w) after) ≡ numbers w n (drop (at + 2 * w) b) =
          sym (numbers_append w x y after) ∙ ap (λ (k : ℕ). numbers w k after) both ∙ ap (numbers w n) (drop-drop (2 * w) at b) in
          rw (p, length_numbers, length_numbers, both, q, ids, ← e)

-- ---- edges, one after the other

-- what is known when i edges are read, whatever their labels
pub record Sofar (f : Format) (b : List ℕ) (start at ports bound i : ℕ) : Type 0 where
  pub inside : at ≤ length b
  pub fits : ports ≤ f.most_ports
  pub read : (labels : List ℕ) → length labels ≡ i
      → (es : List Edge) × (read_edges f (length b) 0 labels (drop start b) ≡ answered (es, drop at b)) × (length (edge_entries es) ≡ ports) × (reach (edge_entries es) ≡ bound)

-- an edge that the step went past
record Past (f : Format) (b : List ℕ) (at ports bound label p a q : ℕ) : Type 0 where
  edge : Edge
  read : read_edge f (length b) ports label (drop at b) ≡ answered (edge, drop a b)
  sum : p ≡ ports + (length edge.sources + length edge.targets)
  most : q ≡ max bound (reach (edge.sources ++ edge.targets))
  inside : a ≤ length b
  fits : p ≤ f.most_ports

past : (f : Format) (b : List ℕ) (at ports bound label p a q : ℕ) → at ≤ length b → (m : Answer (Edge × List ℕ)) → read_edge f (length b) ports label (drop at b) ≡ m
    → answered (record { ports = p; at = a; bound = q }) ≡ edge_step (length b) ports bound m → Past f b at ports bound label p a q
past f b at ports bound label p a q l (refused k) e r = let z : ◌≡◌ {A = ℕ} 0 1 = cc in absurd (omega arith)
past f b at ports bound label p a q l (answered x) e r =
    let h = edge_rest f (length b) ports label (drop at b) x.0 x.1 e in
    let m = h.place in
    let is : x.1 ≡ drop (at + m) b = h.is ∙ drop-drop m at b in
    let long : length (drop at b) ≡ length b - at = length-drop at b in
    let rest : length x.1 ≡ length b - (at + m) = ap length is ∙ length-drop (at + m) b in
    let reached = same_answer r in
    let p_is : p ≡ ports + (length x.0.sources + length x.0.targets) = ap (λ (k : Reached). k.ports) reached in
    let q_is : q ≡ max bound (reach (x.0.sources ++ x.0.targets)) = ap (λ (k : Reached). k.bound) reached in
    let a_is : a ≡ length b - length x.1 = ap (λ (k : Reached). k.at) reached in
    let a_at : a ≡ at + m = omega (arith, h.inside) in
    record {
      edge = x.0;
      read = rw a_at (e ∙ ap (λ (r : List ℕ). answered (x.0, r)) is);
      sum = p_is;
      most = q_is;
      inside = omega (arith, h.inside);
      fits = omega (arith, h.fits);
    }

module _ (f : Format) (b : List ℕ) (start at ports bound i : ℕ) (sofar : Sofar f b start at ports bound i) where
  module _ (x : Reached) (k : (label : ℕ) → answered x ≡ edge_step (length b) ports bound (read_edge f (length b) ports label (drop at b))) where
    stepped : (label : ℕ) → Past f b at ports bound label x.ports x.at x.bound
    stepped label = past f b at ports bound label x.ports x.at x.bound sofar.inside (read_edge f (length b) ports label (drop at b)) refl (k label)

    pub one_more : Sofar f b start x.at x.ports x.bound (i + 1)
    one_more = record {
      inside = (stepped 0).inside;
      fits = (stepped 0).fits;
      read = λ labels n.
          let label = get_or labels i 0 in
          let front : length (take i labels) ≡ i = length-take-le i labels (omega arith) in
          let s = sofar.read (take i labels) front in
          let h = stepped label in
          let split : labels ≡ take i labels ++ (label ∷ []) = sym (take_all (suc i) labels (omega arith)) ∙ take-suc labels i 0 (omega arith) in
          let next = edges_next f (length b) (take i labels) (drop start b) label s.0 (drop at b) h.edge (drop x.at b) s.1 (rw s.2 h.read) in
          let here = h.edge.sources ++ h.edge.targets in
          let entries : edge_entries (s.0 ++ (h.edge ∷ [])) ≡ edge_entries s.0 ++ here =
          joined_append (λ (e : Edge). e.sources ++ e.targets) s.0 (h.edge ∷ []) ∙ ap (λ (l : List ℕ). edge_entries s.0 ++ l) (append-nil here) in (
            s.0 ++ (h.edge ∷ []),
            ap (λ (ls : List ℕ). read_edges f (length b) 0 ls (drop start b)) split ∙ next,
            rw entries (omega (arith, length-append (edge_entries s.0) here, length-append h.edge.sources h.edge.targets, s.2, h.sum)),
            rw entries (omega (arith, reach_append (edge_entries s.0) here, s.3, h.most)),
          );
    }

  -- it did not go past: it is refused
  pub stopped : (r : answer.Refusal) → ((label : ℕ) → refused r ≡ edge_step (length b) ports bound (read_edge f (length b) ports label (drop at b)))
      → (labels : List ℕ) → i < length labels → refused r ≡ edges_step (length b) (read_edges f (length b) 0 labels (drop start b))
  stopped r k labels less =
      let label = get_or labels i 0 in
      let q = refused_so _ (read_edge f (length b) ports label (drop at b)) r (k label) in
      let s = sofar.read (take i labels) (length-take-le i labels (omega arith)) in
      let split : labels ≡ take i labels ++ (label ∷ drop (suc i) labels) = split_at labels i 0 less in
      let all = edges_stop f (length b) (take i labels) (drop (suc i) labels) (drop start b) label s.0 (drop at b) r s.1 (rw s.2 q) in
      ap (edges_step (length b)) (sym (ap (λ (ls : List ℕ). read_edges f (length b) 0 ls (drop start b)) split ∙ all))

-- at the end
pub ended : (f : Format) (b : List ℕ) (start at ports bound edges : ℕ) → Sofar f b start at ports bound edges → (labels : List ℕ) → length labels ≡ edges
    → answered (record { ports = ports; at = at; bound = bound }) ≡ edges_step (length b) (read_edges f (length b) 0 labels (drop start b))
ended f b start at ports bound edges sofar labels n =
    let s = sofar.read labels n in
    let l = sofar.inside in
    let q : length b - length (drop at b) ≡ at = rw length-drop (omega arith) in
    rw (s.1, s.2, s.3, q)

-- at the start
pub begun : (f : Format) (b : List ℕ) (start : ℕ) → start ≤ length b → Sofar f b start start 0 0 0
begun f b start l = record { inside = l; fits = omega arith; read = none }
  where
    none : (labels : List ℕ) → length labels ≡ 0
        → (es : List Edge) × (read_edges f (length b) 0 labels (drop start b) ≡ answered (es, drop start b)) × (length (edge_entries es) ≡ 0) × (reach (edge_entries es) ≡ 0)
    none [] n = ([], refl, refl, refl)
    none (x ∷ labels) n = absurd (omega arith)
