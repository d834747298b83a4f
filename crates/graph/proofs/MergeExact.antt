-- 02, T-01: merging answers exactly what the document's sentences say, and they leave no choice.
-- Assumes nothing.
use mathlib.Core.Bool.{Bool, true, false}
use mathlib.Core.List.{List, map}
use mathlib.Core.Logic.{◌↔◌}
use mathlib.Core.Path.{◌≡◌, refl, sym, ap, ◌∙◌, subst}
use Prim.Native.Nat.{ℕ, zero, suc, ◌≤◌, ◌<◌}
use native.Mathlib.Nat.{le_antisymm}
use native.Mathlib.Omega.{arith}
use lib.Dec.{ltb}
use lib.ListN.{length, get_or}
use lib.Seq.{ext_get_or}
use borrow.Author.Tests.{ltb-true, ltb-false}
use Rattle.graph.specs.Answer.{answered}
use Rattle.graph.specs.Graph.{Graph, Proper}
use Rattle.graph.specs.Lists.{flat}
use Rattle.graph.specs.Merge.{Joined, Least, Merged, classes, looked, looked_edge, merged, quotient}
use Rattle.le.specs.Le.{Below}
use Rattle.graph.proofs.Classes.{tells_least, leaders_tell, tells_joined}
use Rattle.graph.proofs.Kept.{parts}
use Rattle.graph.proofs.Merged.{Merges, merged_merges, merged_label, quotient_answer, quotient_0}

-- all of T-01 in one: the classes, their order, the entries, and that a class has its members' label
pub record MergeOf (g : Graph) (m : Merged) : Type 0 where
  pub merges : Merges g m
  pub label : (v : ℕ) → v < length g.labels → get_or m.graph.labels (get_or m.ids v 0) 0 ≡ get_or g.labels v 0

module _ (g : Graph) (below : Below (length g.labels) (flat g.pairs)) where
  -- the least member of a node's class
  leader : ℕ → ℕ
  leader v = get_or (classes g) v 0

  least : (v : ℕ) → v < length g.labels → Least g.pairs v (leader v)
  unfolding leader
  least v h = tells_least (length g.labels) g.pairs (classes g) (leaders_tell (length g.labels) g.pairs below) v h below

  -- a class with a lesser number has a lesser least member
  falls : (m : Merged) → Merges g m → (v w : ℕ) → v < length g.labels → w < length g.labels → get_or m.ids v 0 < get_or m.ids w 0 → leader v < leader w
  unfolding leader
  falls m s v w hv hw l = go (ltb (leader v) (leader w)) (ltb (leader w) (leader v)) refl refl
    where
      go : (c d : Bool) → ltb (leader v) (leader w) ≡ c → ltb (leader w) (leader v) ≡ d → leader v < leader w
      go true d e k = ltb-true _ _ e
      go false true e k = absurd (omega (arith, s.order w v _ _ hw hv (least w hw) (least v hv) (ltb-true _ _ k)))
      go false false e k =
          let same : leader v ≡ leader w = le_antisymm (ltb-false _ _ k) (ltb-false _ _ e) in
          let j = (tells_joined (length g.labels) g.pairs (classes g) (leaders_tell (length g.labels) g.pairs below) v w hv hw).0 same in
          absurd (omega (arith, (s.class v w hv hw).1 j))

  -- no number is higher than it must be
  lower : (m k : Merged) → Merges g m → Merges g k → (i : ℕ) (v : ℕ) → v < length g.labels → get_or m.ids v 0 ≡ i → i ≤ get_or k.ids v 0
  lower m k s t zero v h e = omega arith
  lower m k s t (suc i) v h e =
      let u = s.all i (omega (arith, s.below v h)) in
      let less = t.order u.0 v _ _ u.1 h (least u.0 u.1) (least v h) (falls m s u.0 v u.1 h (omega (arith, u.2))) in
      omega (arith, lower m k s t i u.0 u.1 u.2)

  module _ (m k : Merged) (s : Merges g m) (t : Merges g k) where
    same_id : (v : ℕ) → v < length g.labels → get_or m.ids v 0 ≡ get_or k.ids v 0
    same_id v h = le_antisymm (lower m k s t _ v h refl) (lower k m t s _ v h refl)

    same_ids : m.ids ≡ k.ids
    same_ids = ext_get_or 0 m.ids k.ids (s.long ∙ sym t.long) (λ i h. same_id i (omega (arith, s.long)))

    no_more : length m.graph.labels ≤ length k.graph.labels
    no_more = go (length m.graph.labels) refl
      where
        go : (c : ℕ) → length m.graph.labels ≡ c → c ≤ length k.graph.labels
        go zero e = omega arith
        go (suc c) e = let u = s.all c (omega arith) in omega (arith, same_id u.0 u.1, u.2, t.below u.0 u.1)

  -- two results that the sentences allow are equal
  pub quotient_unique : (m k : Merged) → MergeOf g m → MergeOf g k → m ≡ k
  quotient_unique m k s t =
      let a = s.merges in
      let b = t.merges in
      let ids = same_ids m k a b in
      let labels : m.graph.labels ≡ k.graph.labels =
      ext_get_or 0 m.graph.labels k.graph.labels (le_antisymm (no_more m k a b) (no_more k m b a)) (λ i h.
      let u = a.all i h in
      ap (λ (j : ℕ). get_or m.graph.labels j 0) (sym u.2) ∙ s.label u.0 u.1 ∙ sym (t.label u.0 u.1)
      ∙ ap (λ (j : ℕ). get_or k.graph.labels j 0) (sym (same_id m k a b u.0 u.1) ∙ u.2)) in
      let edges : m.graph.edges ≡ k.graph.edges = a.edges ∙ ap (λ (l : List ℕ). map (looked_edge l) g.edges) ids ∙ sym b.edges in
      let sources : m.graph.sources ≡ k.graph.sources = a.sources ∙ ap (λ (l : List ℕ). looked l g.sources) ids ∙ sym b.sources in
      let targets : m.graph.targets ≡ k.graph.targets = a.targets ∙ ap (λ (l : List ℕ). looked l g.targets) ids ∙ sym b.targets in
      let pairs : m.graph.pairs ≡ k.graph.pairs = a.pairs ∙ sym b.pairs in
      (λ i. record { graph = record { labels = labels i; edges = edges i; sources = sources i; targets = targets i; pairs = pairs i }; ids = ids i })

-- merging answers m exactly when m is what the sentences say
pub quotient_exact : (g : Graph) → Proper g → (m : Merged) → (quotient g ≡ answered m) ↔ MergeOf g m
quotient_exact g p m = (
  (λ e. let a = quotient_answer g m e in subst (MergeOf g) a.1 (record { merges = merged_merges g below; label = merged_label g below a.0 })),
  (λ s.
      let agree : (v w : ℕ) → v < length g.labels → w < length g.labels → Joined g.pairs v w → get_or g.labels v 0 ≡ get_or g.labels w 0 =
      λ v w hv hw j. sym (s.label v hv) ∙ ap (λ (i : ℕ). get_or m.graph.labels i 0) ((s.merges.class v w hv hw).1 j) ∙ s.label w hw in
      let e = quotient_0 g below agree in
      let a = quotient_answer g (merged g) e in
      e ∙ ap answered (quotient_unique g below (merged g) m (record { merges = merged_merges g below; label = merged_label g below a.0 }) s)),
)
  where
    below : Below (length g.labels) (flat g.pairs)
    below = (parts (length g.labels) g p.ids).pairs
