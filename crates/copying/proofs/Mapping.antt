-- Entries looked up in the map of merging: one more, and that each is a class.
-- Assumes nothing.
use mathlib.Core.List.{List, [], ◌∷◌, ◌++◌, map-append}
use mathlib.Core.Path.{◌≡◌, sym, ap, ◌∙◌, subst}
use Prim.Native.Nat.{ℕ, ◌+◌, ◌-◌, ◌≤◌, ◌<◌}
use native.Mathlib.Omega.{arith}
use lib.ListN.{length, get_or, take, drop, length-append}
use Rattle.graph.specs.Graph.{Edge, edge_entries}
use Rattle.graph.specs.Merge.{looked}
use Rattle.graph.proofs.Laws.{joined_split}
use Rattle.le.specs.Le.{Below}
use Rattle.le.specs.Rows.{entry, span}
use Rattle.le.specs.declared.Row.{Row}
use Rattle.le.proofs.Numbers.{below_front, below_back}
use Rattle.le.proofs.Rows.{span_append, span_next}

pub looked_append : (W xs ys : List ℕ) → looked W (xs ++ ys) ≡ looked W xs ++ looked W ys
looked_append W xs ys = map-append (λ (id : ℕ). get_or W id 0) xs ys

module _ (W b : List ℕ) (r : Row) (j : ℕ) where
  pub looked_next : (i : ℕ) → looked W (span b r j (i + 1)) ≡ looked W (span b r j i) ++ (get_or W (entry b r (j + i)) 0 ∷ [])
  looked_next i = ap (looked W) (span_next b r j i) ∙ looked_append W (span b r j i) (entry b r (j + i) ∷ [])

  pub class_below : (n nodes : ℕ) → Below nodes (looked W (span b r j n)) → (i : ℕ) → i < n → get_or W (entry b r (j + i)) 0 < nodes
  class_below n nodes h i l =
      let e : n ≡ i + 1 + (n - (i + 1)) = omega arith in
      let rest = span b r (j + (i + 1)) (n - (i + 1)) in
      let split : looked W (span b r j n) ≡ (looked W (span b r j i) ++ (get_or W (entry b r (j + i)) 0 ∷ [])) ++ looked W rest =
      ap (λ (m : ℕ). looked W (span b r j m)) e ∙ ap (looked W) (span_append b r j (i + 1) (n - (i + 1))) ∙ looked_append W (span b r j (i + 1)) rest ∙ ap (λ (xs : List ℕ). xs ++ looked W rest) (looked_next i) in
      (below_back nodes (looked W (span b r j i)) _ (below_front nodes (looked W (span b r j i) ++ (get_or W (entry b r (j + i)) 0 ∷ [])) _ (subst (Below nodes) split h))).0

-- ---- the entries of the first edges

entries_split : (es : List Edge) (i : ℕ) → edge_entries es ≡ edge_entries (take i es) ++ edge_entries (drop i es)
entries_split es i = sym (joined_split (λ (e : Edge). e.sources ++ e.targets) i es)

pub entries_within : (es : List Edge) (i : ℕ) → length (edge_entries (take i es)) ≤ length (edge_entries es)
entries_within es i = omega (arith, ap length (entries_split es i) ∙ length-append (edge_entries (take i es)) (edge_entries (drop i es)))
