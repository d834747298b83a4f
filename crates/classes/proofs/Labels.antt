-- The labels of each class, compared with its least member's.
-- Assumes nothing.
use mathlib.Core.Bool.{Bool, true, false}
use mathlib.Core.List.{List}
use mathlib.Core.Path.{◌≡◌, refl, sym, ap, ◌∙◌}
use Prim.Native.Nat.{ℕ, ◌<◌}
use native.Mathlib.Nat.{zero-add}
use native.Mathlib.Omega.{arith}
use lib.Dec.{eqb}
use lib.ListN.{length, length-map, get_or}
use lib.Seq.{ext_get_or}
use borrow.Author.Tests.{eqb-true, eqb-false}
use Rattle.le.specs.Rows.{entry, span}
use Rattle.le.specs.declared.Row.{Row}
use Rattle.le.proofs.Rows.{length_span, span_at}
use Rattle.graph.specs.Lists.{same}
use Rattle.graph.specs.Merge.{looked}
use Rattle.graph.proofs.Lists.{get_d_map}
use Rattle.graph.proofs.Merged.{same_self}
use Rattle.graph.proofs.ReadWrite.{same_true}
use Rattle.classes.specs.Forest.{Names}

module _ (n : ℕ) (W s : List ℕ) (r : Row) where
  abbrev labels : List ℕ
  labels = span s r 0 n

  -- the test of one node
  abbrev pub same_at : ℕ → Bool
  same_at v = eqb (entry s r (get_or W v 0)) (entry s r v)

  label_at : (v : ℕ) → v < n → get_or labels v 0 ≡ entry s r v
  label_at v h = span_at s r 0 n v h ∙ ap (entry s r) (zero-add v)

  module _ (table : List ℕ) (t : Names n table W) where
    leader_at : (v : ℕ) → v < n → get_or (looked labels table) v 0 ≡ entry s r (get_or W v 0)
    leader_at v h =
        get_d_map (λ id. get_or labels id 0) table v (omega (arith, t.tabled.long)) ∙ label_at (get_or table v 0) (omega (arith, t.low v h))
        ∙ ap (entry s r) (sym (t.tabled.is v h))

    pub all_agree : ((v : ℕ) → v < n → same_at v ≡ true) → true ≡ same (looked labels table) labels
    all_agree k =
        let long : length (looked labels table) ≡ n = length-map table _ ∙ t.tabled.long in
        let e : looked labels table ≡ labels =
        ext_get_or 0 (looked labels table) labels (long ∙ sym (length_span s r 0 n))
        (λ i h. let l : i < n = omega arith in leader_at i l ∙ eqb-true _ _ (k i l) ∙ sym (label_at i l)) in
        sym (ap (λ (xs : List ℕ). same xs labels) e ∙ same_self labels)

    pub one_differs : (v : ℕ) → v < n → same_at v ≡ false → false ≡ same (looked labels table) labels
    one_differs v h e = go (same (looked labels table) labels) refl
      where
        go : (c : Bool) → same (looked labels table) labels ≡ c → false ≡ c
        go true q =
            absurd (eqb-false _ _ e (sym (leader_at v h) ∙ ap (λ (xs : List ℕ). get_or xs v 0) (same_true (looked labels table) labels q) ∙ label_at v h))
        go false q = refl
