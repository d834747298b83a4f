-- The pairs that stand in a row, joined one after the other from the last one on.
-- Assumes nothing.
use mathlib.Core.List.{List, [], ◌∷◌}
use mathlib.Core.Path.{◌≡◌, sym, ap, ◌∙◌, subst}
use Prim.Native.Nat.{ℕ, suc, ◌+◌, ◌*◌, ◌<◌}
use native.Mathlib.Omega.{arith}
use lib.ListN.{get_or, drop}
use lib.Seq.{drop-cons, drop-length}
use Rattle.le.specs.Le.{Below}
use Rattle.le.specs.Rows.{entry, span}
use Rattle.le.specs.declared.Row.{Row}
use Rattle.le.proofs.Numbers.{below_at}
use Rattle.le.proofs.Rows.{length_span, span_at}
use Rattle.graph.specs.Lists.{paired, range}
use Rattle.graph.specs.Merge.{leaders}
use Rattle.classes.specs.Forest.{Forest, Joins}

module _ (b : List ℕ) (r : Row) (k m : ℕ) where
  -- the ids of the pairs
  abbrev pub pair_ids : List ℕ
  pair_ids = span b r k (2 * m)

  -- the words have the classes of the pairs from the i-th on
  abbrev pub JoinedFrom : ℕ → ℕ → List ℕ → Type 0
  JoinedFrom n i W = Forest n (leaders n (paired (drop (2 * i) pair_ids))) W

  module _ (i : ℕ) (h : i < m) where
    -- the ids from pair i on are its two and those from the next on
    pair_next : drop (2 * i) pair_ids ≡ entry b r (k + 2 * i) ∷ entry b r (k + 2 * i + 1) ∷ drop (2 * (i + 1)) pair_ids
    pair_next =
        let long = length_span b r k (2 * m) in
        let next : suc (suc (2 * i)) ≡ 2 * (i + 1) = omega arith in
        let place : k + suc (2 * i) ≡ k + 2 * i + 1 = omega arith in
        drop-cons pair_ids (2 * i) 0 (omega arith)
        ∙ ap (λ (l : List ℕ). get_or pair_ids (2 * i) 0 ∷ l) (drop-cons pair_ids (suc (2 * i)) 0 (omega arith))
        ∙ (λ j. span_at b r k (2 * m) (2 * i) (omega arith) j ∷ (span_at b r k (2 * m) (suc (2 * i)) (omega arith) ∙ ap (entry b r) place) j ∷ drop (next j) pair_ids)

    pub pair_ends : (n : ℕ) → Below n pair_ids → (entry b r (k + 2 * i) < n) × (entry b r (k + 2 * i + 1) < n)
    pair_ends n below =
        let long = length_span b r k (2 * m) in
        let place : k + suc (2 * i) ≡ k + 2 * i + 1 = omega arith in (
          subst (λ (x : ℕ). x < n) (span_at b r k (2 * m) (2 * i) (omega arith)) (below_at n pair_ids (2 * i) below (omega arith)),
          subst (λ (x : ℕ). x < n) (span_at b r k (2 * m) (suc (2 * i)) (omega arith) ∙ ap (entry b r) place) (below_at n pair_ids (suc (2 * i)) below (omega arith)),
        )

    pub pairs_turn : (n : ℕ) (X Y : List ℕ) (v w : ℕ) → v ≡ entry b r (k + 2 * i) → w ≡ entry b r (k + 2 * i + 1)
        → JoinedFrom n (i + 1) X → Joins n X Y v w → JoinedFrom n i Y
    pairs_turn n X Y v w ev ew f j =
        let e : v ∷ w ∷ drop (2 * (i + 1)) pair_ids ≡ drop (2 * i) pair_ids = (λ q. ev q ∷ ew q ∷ drop (2 * (i + 1)) pair_ids) ∙ sym pair_next in
        subst (λ (l : List ℕ). Forest n (leaders n (paired l)) Y) e (j.unites _ f)

  pub pairs_start : (n : ℕ) (W : List ℕ) → Forest n (range 0 n) W → JoinedFrom n m W
  pairs_start n W f =
      let none : drop (2 * m) pair_ids ≡ [] = ap (λ (j : ℕ). drop j pair_ids) (sym (length_span b r k (2 * m))) ∙ drop-length pair_ids in
      subst (λ (l : List ℕ). Forest n (leaders n (paired l)) W) (sym none) f
