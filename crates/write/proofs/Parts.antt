-- The parts of a result: where they are copied from, the room that they have, and the form that they make.
-- Assumes nothing.
use mathlib.Core.List.{List, [], ◌∷◌, ◌++◌, map}
use mathlib.Core.Path.{◌≡◌, refl, sym, ap, ◌∙◌, subst}
use Prim.Native.Nat.{ℕ, suc, ◌+◌, ◌*◌, ◌≤◌}
use native.Mathlib.Omega.{arith}
use lib.ListN.{length, set, length-append}
use lib.Seq.{sets}
use Rattle.le.specs.Le.{Below, row}
use Rattle.le.specs.Rows.{Holds, place_in, span, puts}
use Rattle.le.specs.declared.Row.{Row}
use Rattle.graph.specs.Form.{edge_row}
use Rattle.graph.specs.Graph.{Edge, Graph, Format}
use Rattle.graph.specs.Lists.{joined, flat}
use Rattle.form.specs.Form.{sizes_of, labels_of, body_of, body_size, lists_from}
use Rattle.form.specs.Stored.{graph_of, Stored}
use Rattle.form.specs.declared.Sizes.{Sizes}
use Rattle.write.specs.Write.{headed, drawn, Put, Room}
use Rattle.graph.proofs.Rows.{length_label_row, length_body}
use Rattle.form.proofs.Stored.{stored_rows}
use Rattle.le.proofs.Numbers.{below_widen, length_row}
use Rattle.le.proofs.Rows.{length_span, span_append, puts_append}
use Rattle.le.proofs.Tables.{set_sets_before}

-- a part copied, of which it is known what it holds
pub copied : (b : List ℕ) (j n : ℕ) {out new : List ℕ} {to into from row : Row} {k next : ℕ} {xs : List ℕ} → new ≡ puts out to k (span b from j n) → to ≡ into → from ≡ row
    → span b row j n ≡ xs → next ≡ k + n → Put out into k xs new next
copied b j n {out} {into = into} {row = row} {k = k} h to from is past = record {
  stored = h ∙ (λ i. puts out (to i) k (span b (from i) j n)) ∙ ap (puts out into k) is;
  next = past ∙ ap (λ (m : ℕ). k + m) (sym (length_span b row j n) ∙ ap length is);
}

-- numbers put before others, though after them
sets_before : (d : List ℕ) (at : ℕ) (later : List ℕ) (i : ℕ) (vs : List ℕ) → i + length vs ≤ at → sets (sets d at later) i vs ≡ sets (sets d i vs) at later
sets_before d at later i [] h = refl
sets_before d at later i (v ∷ vs) h =
    ap (λ (l : List ℕ). sets l (suc i) vs) (set_sets_before d at later i v (omega arith)) ∙ sets_before (set d i v) at later (suc i) vs (omega arith)

pub counts_last : (out : List ℕ) (r : Row) (j a b : ℕ) (xs : List ℕ) → puts (puts out r (j + 2) xs) r j (a ∷ b ∷ []) ≡ puts out r j (a ∷ b ∷ xs)
unfolding puts
counts_last out r j a b xs =
    sets_before out (place_in r (j + 2)) (row r.width xs) (place_in r j) (row r.width (a ∷ b ∷ [])) (omega (arith, length_row r.width (a ∷ b ∷ [])))
    ∙ puts_append out r j (a ∷ b ∷ []) xs

-- the header, all labels, and all counts and ids
pub drawn_by : (old : List ℕ) (y : Sizes) {mid new : List ℕ} {q : Row} {ls ns : List ℕ} {j i : ℕ} → q ≡ body_of y → Put (headed old y) (labels_of y) 0 ls mid j
    → Put mid q 0 ns new i → new ≡ drawn old y ls ns
unfolding drawn
drawn_by old y {ns = ns} e p q = q.stored ∙ λ i. puts (p.stored i) (e i) 0 ns

module _ {out : List ℕ} {y : Sizes} (room : Room out y) (f : Format) (h : Graph) (is : y ≡ sizes_of f h) where
  pub labels_room : Holds out (labels_of y) (length h.labels + length (map (λ (e : Edge). e.label) h.edges))
  labels_room =
      subst (Holds out (labels_of y)) (ap (λ (y : Sizes). y.nodes + y.edges) is ∙ sym (length_label_row h) ∙ length-append h.labels _) room.labels

  pub body_room : Holds out (body_of y) (length (joined edge_row h.edges) + length (h.sources ++ (h.targets ++ flat h.pairs)))
  body_room = subst (Holds out (body_of y)) (ap body_size is ∙ sym (length_body h) ∙ length-append (joined edge_row h.edges) _) room.body

-- ---- parts of what was read

module _ {b : List ℕ} {z : Sizes} (s : Stored b z) where
  pub ids_there : span b (body_of z) (lists_from z) (z.sources + z.targets) ≡ (graph_of b).sources ++ (graph_of b).targets
  ids_there =
      let h = stored_rows s in
      span_append b (body_of z) (lists_from z) z.sources z.targets ∙ (λ i. h.sources i ++ h.targets i)

  pub lists_there : span b (body_of z) (lists_from z) (z.sources + (z.targets + 2 * z.pairs)) ≡ (graph_of b).sources ++ ((graph_of b).targets ++ flat (graph_of b).pairs)
  lists_there =
      let h = stored_rows s in
      let row = body_of z in
      span_append b row (lists_from z) z.sources (z.targets + 2 * z.pairs)
      ∙ (λ i. h.sources i ++ (span_append b row (lists_from z + z.sources) z.targets (2 * z.pairs) ∙ λ i. h.targets i ++ h.pairs i) i)

pub span_known : (b : List ℕ) (r : Row) (k n : ℕ) {xs : List ℕ} {low high : ℕ} → span b r k n ≡ xs → Below low xs → low ≤ high → Below high (span b r k n)
span_known b r k n {xs} {high = high} is h l = subst (Below high) (sym is) (below_widen xs l h)
