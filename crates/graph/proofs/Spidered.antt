-- 02, T-01: spiderizing merges first and maps its id list. What its calls answer, in the order of the refusals.
-- Assumes nothing.
use mathlib.Core.Bool.{Bool, true, false}
use mathlib.Core.List.{List}
use mathlib.Core.Path.{◌≡◌, refl, sym, ap, ◌∙◌}
use Prim.Native.Nat.{ℕ, ◌<◌}
use native.Mathlib.Omega.{arith}
use lib.Dec.{ltb}
use lib.ListN.{length, get_or}
use borrow.Author.Tests.{ltb-true, ltb-false}
use Rattle.graph.specs.Answer.{Refusal, Answer, refused, answered}
use Rattle.graph.specs.Calls.{id_list, spiderize_step, spiderize_all_step}
use Rattle.graph.specs.Graph.{Graph, Format, Proper}
use Rattle.graph.specs.Lists.{range, among}
use Rattle.graph.specs.Merge.{Merged, looked, quotient}
use Rattle.graph.specs.Spider.{spiderize}
use Rattle.le.proofs.Numbers.{below_each}
use Rattle.graph.proofs.Answers.{ids_below}
use Rattle.graph.proofs.Kept.{below_range}
use Rattle.graph.proofs.Lists.{among_at, not_among, length_range, get_d_range}
use Rattle.graph.proofs.Merged.{looked_all, looked_range, quotient_merges, quotient_unpaired}
use Rattle.graph.proofs.Sentences.{spiderize_same}
use Rattle.graph.proofs.Steps.{stops, goes}

-- ---- 7 before 11

module _ (f : Format) (listed : List ℕ) (g : Graph) where
  pub spiderize_7 : (r : Refusal) → id_list f (length g.labels) listed ≡ refused r → spiderize_step f listed g ≡ refused r
  unfolding spiderize_step
  spiderize_7 r e = stops _ e

  module _ (is : List ℕ) (e : id_list f (length g.labels) listed ≡ answered is) where
    pub spiderize_11 : (r : Refusal) → quotient g ≡ refused r → spiderize_step f listed g ≡ refused r
    unfolding spiderize_step
    spiderize_11 r k = goes _ e ∙ stops _ k

    pub spiderize_0 : (m : Merged) → quotient g ≡ answered m → spiderize_step f listed g ≡ answered (record { graph = spiderize (looked m.ids is) m.graph; id = 0 })
    unfolding spiderize_step
    spiderize_0 m k = goes _ e ∙ goes _ k

    -- without pairs the list and the graph stay as they are
    pub spiderize_unpaired : Proper g → length g.pairs ≡ 0 → spiderize_step f listed g ≡ answered (record { graph = spiderize is g; id = 0 })
    spiderize_unpaired p q =
        spiderize_0 (record { graph = g; ids = range 0 (length g.labels) }) (quotient_unpaired g p q)
        ∙ ap (λ (l : List ℕ). answered (record { graph = spiderize l g; id = 0 })) (looked_all (length g.labels) is (ids_below f (length g.labels) listed is e))

-- ---- spiderizing all

module _ (g : Graph) where
  pub spiderize_all_11 : (r : Refusal) → quotient g ≡ refused r → spiderize_all_step g ≡ refused r
  unfolding spiderize_all_step
  spiderize_all_11 r e = stops _ e

  pub spiderize_all_0 : (m : Merged) → quotient g ≡ answered m → spiderize_all_step g ≡ answered (record { graph = spiderize (range 0 (length m.graph.labels)) m.graph; id = 0 })
  unfolding spiderize_all_step
  spiderize_all_0 m e = goes _ e

  pub spiderize_all_unpaired : Proper g → length g.pairs ≡ 0 → spiderize_all_step g ≡ answered (record { graph = spiderize (range 0 (length g.labels)) g; id = 0 })
  spiderize_all_unpaired p q = spiderize_all_0 (record { graph = g; ids = range 0 (length g.labels) }) (quotient_unpaired g p q)

-- ---- it is spiderizing the list of all old nodes, as the Rust's is

pub listed_all : (n v : ℕ) → v < n → among (range 0 n) v ≡ true
listed_all n v h =
    let e : get_or (range 0 n) v 0 ≡ v = omega (arith, get_d_range 0 n v h) in
    ap (among (range 0 n)) (sym e) ∙ among_at (range 0 n) v (omega (arith, length_range 0 n))

module _ (g : Graph) (p : Proper g) (m : Merged) (e : quotient g ≡ answered m) where
  -- the ids of the map are the new nodes
  pub map_is_all : (v : ℕ) → among m.ids v ≡ among (range 0 (length m.graph.labels)) v
  map_is_all v = go (ltb v (length m.graph.labels)) refl
    where
      go : (c : Bool) → ltb v (length m.graph.labels) ≡ c → among m.ids v ≡ among (range 0 (length m.graph.labels)) v
      go true q =
          let is = quotient_merges g p m e in
          let l = ltb-true v _ q in
          let x = is.all v l in
          ap (among m.ids) (sym x.2) ∙ among_at m.ids x.0 (omega (arith, is.long, x.1)) ∙ sym (listed_all (length m.graph.labels) v l)
      go false q =
          let is = quotient_merges g p m e in
          let l = ltb-false v _ q in
          let n = length m.graph.labels in
          not_among n m.ids v (below_each n m.ids (λ i h. is.below i (omega (arith, is.long)))) l
          ∙ sym (not_among n (range 0 n) v (below_range n 0 n (omega arith)) l)

pub spiderize_all_listed_all : (f : Format) (listed : List ℕ) (g : Graph) → Proper g
    → id_list f (length g.labels) listed ≡ answered (range 0 (length g.labels)) → spiderize_step f listed g ≡ spiderize_all_step g
spiderize_all_listed_all f listed g p e = go (quotient g) refl
  where
    go : (a : Answer Merged) → quotient g ≡ a → spiderize_step f listed g ≡ spiderize_all_step g
    go (refused r) k = spiderize_11 f listed g (range 0 (length g.labels)) e r k ∙ sym (spiderize_all_11 g r k)
    go (answered m) k =
        spiderize_0 f listed g (range 0 (length g.labels)) e m k
        ∙ ap (λ (l : List ℕ). answered (record { graph = spiderize l m.graph; id = 0 })) (looked_range m.ids (length g.labels) (quotient_merges g p m k).long)
        ∙ ap (λ (h : Graph). answered (record { graph = h; id = 0 })) (spiderize_same m.ids (range 0 (length m.graph.labels)) (map_is_all g p m k) m.graph)
        ∙ sym (spiderize_all_0 g m k)
