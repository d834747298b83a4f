-- Room in an answer buffer: that of a buffer as long, and of fewer numbers of a row; and the parts of a stored graph that are copied whole.
-- Assumes nothing.
use mathlib.Core.List.{List, ◌++◌}
use mathlib.Core.Path.{◌≡◌, sym, ap, ◌∙◌, subst}
use Prim.Native.Nat.{ℕ, ◌+◌, ◌*◌, ◌-◌, ◌≤◌}
use native.Mathlib.Omega.{arith}
use lib.ListN.{length, length-append, take}
use lib.Seq.{take_at}
use Rattle.le.specs.Rows.{Holds, span}
use Rattle.le.specs.declared.Row.{Row}
use Rattle.le.proofs.Rows.{holds_less, holds_same, length_span, span_append, span_part}
use Rattle.graph.specs.Form.{edge_row, body}
use Rattle.graph.specs.Graph.{Graph}
use Rattle.graph.specs.Lists.{joined, flat}
use Rattle.form.specs.Form.{body_of, body_size, lists_from}
use Rattle.form.specs.Stored.{Rows}
use Rattle.form.specs.declared.Sizes.{Sizes}

-- room for no more numbers, of a row said to be this one, in a buffer as long
pub held : {b : List ℕ} {r : Row} {n : ℕ} → Holds b r n → (q : Row) → q ≡ r → (c : List ℕ) → length c ≡ length b → (m : ℕ) → m ≤ n → Holds c q m
held h q is c e m l = subst (λ (k : Row). Holds c k m) (sym is) (holds_less (holds_same h c e) m l)

-- ---- a stored graph

module _ {b : List ℕ} {z : Sizes} {g : Graph} (r : Rows b z g) where
  pub body_is : length (body g) ≡ body_size z
  body_is = ap length (sym r.body) ∙ length_span b (body_of z) 0 (body_size z)

  pub all_body : span b (body_of z) 0 (body_size z - 0) ≡ body g
  all_body =
      let n : body_size z - 0 ≡ body_size z = omega arith in
      rw n r.body

  -- the global lists and the pairs
  pub lists : span b (body_of z) (lists_from z) (body_size z - lists_from z) ≡ g.sources ++ (g.targets ++ flat g.pairs)
  lists =
      let n : body_size z - lists_from z ≡ z.sources + (z.targets + 2 * z.pairs) = omega arith in
      rw (n, span_append b (body_of z) (lists_from z), span_append b (body_of z) (lists_from z + z.sources), r.sources, r.targets, r.pairs)

  pub edge_rows_are : length (joined edge_row g.edges) ≡ lists_from z
  edge_rows_are =
      let n = ap length (sym lists) ∙ length_span b (body_of z) (lists_from z) (body_size z - lists_from z) in
      omega (arith, length-append (joined edge_row g.edges) (g.sources ++ (g.targets ++ flat g.pairs)), body_is)

  -- the edges
  pub edge_rows : span b (body_of z) 0 (lists_from z) ≡ joined edge_row g.edges
  edge_rows =
      sym (span_part b (body_of z) 0 (body_size z) 0 (lists_from z) (omega arith)) ∙ ap (take (lists_from z)) r.body
      ∙ take_at (joined edge_row g.edges) (g.sources ++ (g.targets ++ flat g.pairs)) (lists_from z) edge_rows_are
