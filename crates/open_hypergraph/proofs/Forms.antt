-- The two graphs as they are written: labels, and the numbers after them; their sizes, and the steps that make them.
-- Assumes nothing.
use mathlib.Core.List.{List, [], ◌∷◌, ◌++◌, append-nil}
use mathlib.Core.Path.{◌≡◌, refl, sym, ap, ◌∙◌}
use Prim.Native.Nat.{ℕ, ◌+◌}
use native.Mathlib.Nat.{zero-add}
use native.Mathlib.Omega.{arith}
use lib.ListN.{length, length-append}
use Rattle.le.specs.Rows.{row_at, puts}
use Rattle.le.proofs.Rows.{length_span}
use Rattle.graph.specs.Answer as answer
use Rattle.graph.specs.Answer.{refused, answered}
use Rattle.graph.specs.Build.{identity, singleton, new_operation, new_edge}
use Rattle.graph.specs.Calls.{label_list, identity_step, singleton_step}
use Rattle.graph.specs.Form.{label_row, body}
use Rattle.graph.specs.Lists.{range}
use Rattle.graph.specs.Versions.{fitting}
use Rattle.graph.proofs.Lists.{length_range, range_add}
use Rattle.graph.proofs.Steps.{stops, goes}
use Rattle.form.specs.Form.{sizes_of, labels_of, body_of}
use Rattle.form.specs.declared.Sizes.{Sizes}
use Rattle.write.specs.Write.{counted_as, fitted, drawn}
use Rattle.write.proofs.Results.{drawn_labels, drawn_numbers}
use Rattle.write.proofs.Calls.{next}
use Rattle.pieces.specs.Lent.{lent}

module _ (old : List ℕ) (y : Sizes) where
  pub identity_drawn : (n : ℕ) (ls : List ℕ) → length ls ≡ n
      → puts (puts (drawn old y ls []) (body_of y) 0 (range 0 n)) (body_of y) n (range 0 n) ≡ drawn old y (label_row (identity ls)) (body (identity ls))
  unfolding identity
  identity_drawn n ls e =
      rw (drawn_numbers old y ls [] (range 0 n) 0 refl, drawn_numbers old y ls (range 0 n) (range 0 n) n (sym (length_range 0 n)), e, append-nil ls, append-nil (range 0 n))

  pub singleton_drawn : (label s t : ℕ) (ss ts : List ℕ) → length ss ≡ s → length ts ≡ t
      → puts (puts (puts (puts (puts (drawn old y ss []) (labels_of y) s ts) (labels_of y) (s + t) (label ∷ [])) (body_of y) 0 (s ∷ t ∷ [])) (body_of y) 2 (range 0 (s + t)))
      (body_of y) (2 + (s + t)) (range 0 (s + t)) ≡ drawn old y (label_row (singleton label ss ts)) (body (singleton label ss ts))
  unfolding singleton new_operation new_edge
  singleton_drawn label s t ss ts e f =
      let ls = (ss ++ ts) ++ (label ∷ []) in
      let ids = range 0 (s + t) in
      let many : s + t ≡ length (ss ++ ts) = simp length-append (omega arith) in
      let numbers : 2 + (s + t) ≡ length (s ∷ t ∷ ids) = omega (arith, length_range 0 (s + t)) in
      let same : (s ∷ t ∷ ids) ++ ids ≡ body (singleton label ss ts) =
      rw (e, f, length_range 0 s, length_range (0 + s) t, range_add 0 s t, zero-add s, append-nil (range 0 s ++ range s t), append-nil (range s t)) in
      rw (
        drawn_labels old y ss ts s (sym e),
        drawn_labels old y (ss ++ ts) (label ∷ []) (s + t) many,
        drawn_numbers old y ls [] (s ∷ t ∷ []) 0 refl,
        drawn_numbers old y ls (s ∷ t ∷ []) ids 2 refl,
        drawn_numbers old y ls (s ∷ t ∷ ids) ids (2 + (s + t)) numbers,
      ) (ap (drawn old y ls) same)

-- ---- the calls

module _ (b : List ℕ) where
  pub identity_stopped : {r : answer.Refusal} → label_list b ≡ refused r → identity_step b ≡ refused r
  unfolding identity_step
  identity_stopped e = stops _ e

  pub identity_next : {l : List ℕ} → label_list b ≡ answered l → identity_step b ≡ answered (next (identity l) 0)
  unfolding identity_step
  identity_next e = goes _ e

pub identity_sizes : (b : List ℕ) (n : ℕ) → fitted (counted_as n 0 n n 0) 0 ≡ sizes_of (fitting (identity (lent b 4 n))) (identity (lent b 4 n))
unfolding identity
identity_sizes b n = rw (length_span b (row_at 0 4) 0 n, length_range 0 n)

module _ (label : ℕ) (a b : List ℕ) where
  pub singleton_sources : {r : answer.Refusal} → label_list a ≡ refused r → singleton_step label a b ≡ refused r
  unfolding singleton_step
  singleton_sources e = stops _ e

  pub singleton_targets : {l : List ℕ} → label_list a ≡ answered l → {r : answer.Refusal} → label_list b ≡ refused r → singleton_step label a b ≡ refused r
  unfolding singleton_step
  singleton_targets e f = goes _ e ∙ stops _ f

  pub singleton_next : {l m : List ℕ} → label_list a ≡ answered l → label_list b ≡ answered m → singleton_step label a b ≡ answered (next (singleton label l m) 0)
  unfolding singleton_step
  singleton_next e f = goes _ e ∙ goes _ f

  pub singleton_sizes : (s t : ℕ) → fitted (counted_as (s + t) 1 s t 0) (s + t)
      ≡ sizes_of (fitting (singleton label (lent a 4 s) (lent b 4 t))) (singleton label (lent a 4 s) (lent b 4 t))
  unfolding singleton new_operation new_edge
  singleton_sizes s t =
      let n : length (lent a 4 s ++ lent b 4 t) ≡ s + t = length-append (lent a 4 s) (lent b 4 t) ∙ rw (length_span a (row_at 0 4) 0 s, length_span b (row_at 0 4) 0 t) in
      let p : length ((range 0 s ++ range s t) ++ []) ≡ s + t = simp (length-append, length_range) (omega arith) in
      rw (length_span a (row_at 0 4) 0 s, length_span b (row_at 0 4) 0 t, zero-add s, n, p, length_range 0 s, length_range s t)
