-- Ids renamed by the words of the room: one more, an edge, all edges; and that the words are the map.
-- Assumes nothing.
use mathlib.Core.List.{List, [], ◌∷◌, ◌++◌, map, map-append}
use mathlib.Core.Path.{◌≡◌, refl, sym, ap, ◌∙◌}
use Prim.Native.Nat.{ℕ, ◌+◌}
use native.Mathlib.Omega.{arith}
use lib.ListN.{length, length-map, get_or, take}
use Rattle.le.specs.Le.{Below}
use Rattle.le.specs.Rows.{entry, span, puts}
use Rattle.le.specs.declared.Row.{Row}
use Rattle.le.proofs.Numbers.{below_front, below_back}
use Rattle.le.proofs.Rows.{length_span, span_next}
use Rattle.graph.specs.Form.{edge_row, no_edge}
use Rattle.graph.specs.Graph.{Edge, edge_entries}
use Rattle.graph.specs.Lists.{joined}
use Rattle.graph.specs.Merge.{looked, looked_edge}
use Rattle.form.specs.declared.EdgeAt.{EdgeAt}
use Rattle.form.specs.declared.Sizes.{Sizes}
use Rattle.write.specs.Write.{Put}
use Rattle.write.proofs.Results.{put_then}
use Rattle.classes.specs.Forest.{Tabled}
use Rattle.write.proofs.Grows.{Grows, each_grow}
use Rattle.write.proofs.Edges.{edge_no, Met}

pub looked_grow : (W b : List ℕ) (r : Row) (k n : ℕ) → Grows (λ i. looked W (span b r k i)) (λ i. get_or W (entry b r (k + i)) 0 ∷ []) n
looked_grow W b r k n = record { more = λ i l. ap (looked W) (span_next b r k i) ∙ map-append (λ (id : ℕ). get_or W id 0) (span b r k i) (entry b r (k + i) ∷ []) }

pub edges_grow : (W : List ℕ) (es : List Edge)
    → Grows (λ i. joined edge_row (map (looked_edge W) (take i es))) (λ i. edge_row (looked_edge W (get_or es i no_edge))) (length es)
edges_grow W = each_grow (looked_edge W) edge_row

-- an edge written as it is met: its counts, and its ids renamed
module _ {b : List ℕ} {r : Row} {z : Sizes} {i k : ℕ} {e : EdgeAt} (m : Met b r z i k e) (W : List ℕ) where
  counted : (n j : ℕ) {xs : List ℕ} → span b r j n ≡ xs → n ≡ length (looked W xs)
  counted n j {xs} is = sym (length_span b r j n) ∙ ap length is ∙ sym (length-map xs (λ (id : ℕ). get_or W id 0))

  pub edge_renamed : e.sources ∷ e.targets ∷ looked W (span b r e.first (e.sources + e.targets)) ≡ edge_row (looked_edge W (edge_no b i))
  edge_renamed =
      λ q. counted e.sources e.first m.sources q ∷ counted e.targets (e.first + e.sources) m.targets q ∷ (ap (looked W) m.ids ∙ map-append (λ (id : ℕ). get_or W id 0) (edge_no b i).sources (edge_no b i).targets) q

  pub edge_put : {out mid new : List ℕ} {to : Row} → mid ≡ puts out to k (e.sources ∷ e.targets ∷ [])
      → Put mid to e.first (looked W (span b r e.first (e.sources + e.targets))) new (e.first + (e.sources + e.targets))
      → Put out to k (edge_row (looked_edge W (edge_no b i))) new e.end
  edge_put {out} {mid} {new} {to} h p =
      let end : e.first + (e.sources + e.targets) ≡ e.end = omega (arith, m.first, m.past) in
      let counts : Put out to k (e.sources ∷ e.targets ∷ []) mid e.first = record { stored = h; next = m.first } in
      coe 0 1 (q. Put out to k (edge_renamed q) new (end q)) (put_then counts p)

-- ---- the words are the map

module _ (n : ℕ) (ids W : List ℕ) (t : Tabled n ids W) where
  pub same_looked : (xs : List ℕ) → Below n xs → looked W xs ≡ looked ids xs
  same_looked [] h = refl
  same_looked (x ∷ xs) h = λ i. t.is x h.0 i ∷ same_looked xs h.1 i

  pub same_edges : (es : List Edge) → Below n (edge_entries es) → map (looked_edge W) es ≡ map (looked_edge ids) es
  same_edges [] h = refl
  same_edges (e ∷ es) h =
      let here = below_front n (e.sources ++ e.targets) (edge_entries es) h in
      let sources = same_looked e.sources (below_front n e.sources e.targets here) in
      let targets = same_looked e.targets (below_back n e.sources e.targets here) in
      λ i. record { label = e.label; sources = sources i; targets = targets i } ∷ same_edges es (below_back n (e.sources ++ e.targets) (edge_entries es) h) i
