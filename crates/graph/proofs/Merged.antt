-- 02, T-01: what merging promises. Its refusals are in `quotient_11` and `quotient_0`; laws of calls that merge are in MergeCall, Spidered, Answers and Refusals.
-- Assumes nothing.
use mathlib.Core.Bool.{Bool, true, false, cond, ◌&&◌}
use mathlib.Core.List.{List, [], ◌∷◌, ◌++◌, map, Memᴰ}
use mathlib.Core.Logic.{◌↔◌}
use mathlib.Core.Path.{◌≡◌, refl, sym, ap, ◌∙◌, subst}
use Prim.Native.Nat.{ℕ, zero, suc, ◌+◌, ◌^◌, ◌≤◌, ◌<◌}
use native.Mathlib.Nat.{add-zero, zero-add}
use native.Mathlib.Omega.{arith}
use lib.Dec.{eqb, ltb}
use lib.ListN.{length, length-map, get_or, length-append}
use lib.Seq.{ext_get_or}
use borrow.Author.Tests.{eqb-true, eqb-false, eq-eqb, not-false, ltb-true, ltb-false}
use Rattle.graph.specs.Answer.{refused, answered, refusal, ◌else◌, ◌>>◌}
use Rattle.graph.specs.Build.{with_pairs}
use Rattle.graph.specs.Delete.{new_id, remaining}
use Rattle.graph.specs.Graph.{Edge, Graph, Format, counts, ports, edge_entries, Proper, WellFormed}
use Rattle.graph.specs.Lists.{range, flat, same}
use Rattle.graph.specs.Merge.{Joined, Least, Merged, leaders, classes, absorbed, numbered, looked, looked_edge, merged, agreeing, quotient}
use Rattle.le.specs.Le.{Below}
use Rattle.le.proofs.Numbers.{below_append, below_front, below_back}
use Rattle.graph.proofs.Classes.{joined_by, Tells, tells_least, tells_joined, tells_leader, tells_unique, leaders_tell}
use Rattle.graph.proofs.Kept.{parts, whole, remaining_below, new_id_le, new_id_below, length_remaining}
use Rattle.graph.proofs.Lists.{get_d_map, get_d_range, length_range}
use Rattle.graph.proofs.ReadWrite.{same_true}
use Rattle.graph.proofs.Steps.{same_answer, passed}

-- ---- the nodes that stay, and their new ids

module _ (goes : ℕ → Bool) where
  -- two nodes that stay have two ids
  new_id_one : (i j : ℕ) → goes i ≡ false → goes j ≡ false → new_id goes i ≡ new_id goes j → i ≡ j
  new_id_one i j e f q = go (ltb i j) (ltb j i) refl refl
    where
      go : (c d : Bool) → ltb i j ≡ c → ltb j i ≡ d → i ≡ j
      go true d l m = absurd (omega (arith, new_id_below goes i j (ltb-true i j l) e))
      go false true l m = absurd (omega (arith, new_id_below goes j i (ltb-true j i m) f))
      go false false l m = omega (arith, ltb-false i j l, ltb-false j i m)

  -- every number below the count is the id of one that stays
  new_id_all : (n k : ℕ) → k < new_id goes n → (l : ℕ) × (l < n) × (goes l ≡ false) × (new_id goes l ≡ k)
  new_id_all zero k h = absurd (omega arith)
  new_id_all (suc n) k h = go (goes n) refl (ltb k (new_id goes n)) refl h (new_id_all n k)
    where
      go : (c : Bool) → goes n ≡ c → (d : Bool) → ltb k (new_id goes n) ≡ d → k < new_id goes n + cond c 0 1
          → (k < new_id goes n → (l : ℕ) × (l < n) × (goes l ≡ false) × (new_id goes l ≡ k)) → (l : ℕ) × (l < suc n) × (goes l ≡ false) × (new_id goes l ≡ k)
      go c e true q h r = let x = r (ltb-true k _ q) in (x.0, omega (arith, x.1), x.2, x.3)
      go true e false q h r = absurd (omega (arith, ltb-false k _ q))
      go false e false q h r = (n, omega arith, e, omega (arith, ltb-false k _ q))

  -- one that stays keeps its entry, at its new id
  remaining_at : (id : ℕ) (xs : List ℕ) (i j : ℕ) → i < length xs → goes (id + i) ≡ false → new_id goes id + j ≡ new_id goes (id + i) → get_or (remaining goes id xs) j 0 ≡ get_or xs i 0
  remaining_at id [] i j h e q = absurd (omega arith)
  remaining_at id (x ∷ xs) zero j h e q =
      let here : goes id ≡ false = subst (λ (k : ℕ). goes k ≡ false) (add-zero id) e in
      let first : j ≡ 0 = omega (arith, ap (new_id goes) (add-zero id)) in
      rw (here, first)
  remaining_at id (x ∷ xs) (suc i) j h e q = go (goes id) refl (λ k r. remaining_at (suc id) xs i k (omega arith) (subst (λ (m : ℕ). goes m ≡ false) next e) (r ∙ ap (new_id goes) next))
    where
      next : id + suc i ≡ suc id + i
      next = omega arith

      go : (c : Bool) → goes id ≡ c → ((k : ℕ) → new_id goes (suc id) + k ≡ new_id goes (id + suc i) → get_or (remaining goes (suc id) xs) k 0 ≡ get_or xs i 0)
          → get_or (cond c (remaining goes (suc id) xs) (x ∷ remaining goes (suc id) xs)) j 0 ≡ get_or xs i 0
      go true c r = r j (rw c (omega arith))
      go false c r = later j (λ k w. r k (rw c (omega arith))) (omega (arith, more))
        where
          one : new_id goes (suc id) ≡ new_id goes id + 1
          one = rw c

          more : new_id goes id < new_id goes (id + suc i)
          more = new_id_below goes id (id + suc i) (omega arith) c

          later : (j : ℕ) → ((k : ℕ) → suc k ≡ j → get_or (remaining goes (suc id) xs) k 0 ≡ get_or xs i 0) → 0 < j → get_or (x ∷ remaining goes (suc id) xs) j 0 ≡ get_or xs i 0
          later zero r l = absurd (omega arith)
          later (suc k) r l = r k refl

-- ---- lists

pub same_self : (xs : List ℕ) → same xs xs ≡ true
same_self [] = refl
same_self (x ∷ xs) = rw (eq-eqb x x refl) (same_self xs)

same_false : (xs ys : List ℕ) → length xs ≡ length ys → same xs ys ≡ false → (i : ℕ) × (i < length xs) × (get_or xs i 0 ≡ get_or ys i 0 → ⊥)
same_false [] [] l e = let z : ◌≡◌ {A = ℕ} 0 1 = cc in absurd (omega arith)
same_false [] (y ∷ ys) l e = absurd (omega arith)
same_false (x ∷ xs) [] l e = absurd (omega arith)
same_false (x ∷ xs) (y ∷ ys) l e = go (eqb x y) refl e (same_false xs ys (omega arith))
  where
    go : (c : Bool) → eqb x y ≡ c → (c && same xs ys) ≡ false → (same xs ys ≡ false → (i : ℕ) × (i < length xs) × (get_or xs i 0 ≡ get_or ys i 0 → ⊥))
        → (i : ℕ) × (i < suc (length xs)) × (get_or (x ∷ xs) i 0 ≡ get_or (y ∷ ys) i 0 → ⊥)
    go true q e r = let k = r e in (suc k.0, omega (arith, k.1), k.2)
    go false q e r = (0, omega arith, eqb-false x y q)

pub looked_below : (n : ℕ) (new xs : List ℕ) (m : ℕ) → ((v : ℕ) → v < n → get_or new v 0 < m) → Below n xs → Below m (looked new xs)
looked_below n new [] m k h = tt
looked_below n new (x ∷ xs) m k h = (k x h.0, looked_below n new xs m k h.1)

looked_edges : (n : ℕ) (new : List ℕ) (es : List Edge) (m : ℕ) → ((v : ℕ) → v < n → get_or new v 0 < m) → Below n (edge_entries es) → Below m (edge_entries (map (looked_edge new) es))
looked_edges n new [] m k h = tt
looked_edges n new (e ∷ es) m k h =
    let here = below_front n (e.sources ++ e.targets) (edge_entries es) h in
    below_append m (looked new e.sources ++ looked new e.targets) _
    (below_append m (looked new e.sources) _ (looked_below n new e.sources m k (below_front n e.sources e.targets here)) (looked_below n new e.targets m k (below_back n e.sources e.targets here)))
    (looked_edges n new es m k (below_back n (e.sources ++ e.targets) (edge_entries es) h))

pub looked_labels : (new : List ℕ) (es : List Edge) → map (λ e. e.label) (map (looked_edge new) es) ≡ map (λ e. e.label) es
looked_labels new [] = refl
looked_labels new (e ∷ es) = ap (λ (r : List ℕ). e.label ∷ r) (looked_labels new es)

looked_ports : (new : List ℕ) (es : List Edge) → length (edge_entries (map (looked_edge new) es)) ≡ length (edge_entries es)
looked_ports new [] = refl
looked_ports new (e ∷ es) = simp (length-append, length-map, looked_ports new es)

pub looked_all : (n : ℕ) (xs : List ℕ) → Below n xs → looked (range 0 n) xs ≡ xs
looked_all n [] h = refl
looked_all n (x ∷ xs) h = let e : get_or (range 0 n) x 0 ≡ x = omega (arith, get_d_range 0 n x h.0) in (λ i. e i ∷ looked_all n xs h.1 i)

-- a list looked up at each of its places
pub looked_range : (xs : List ℕ) (n : ℕ) → length xs ≡ n → looked xs (range 0 n) ≡ xs
looked_range xs n e =
    let long : length (looked xs (range 0 n)) ≡ n = length-map (range 0 n) _ ∙ length_range 0 n in
    ext_get_or 0 (looked xs (range 0 n)) xs (long ∙ sym e) (λ i h. at i (omega arith))
  where
    at : (i : ℕ) → i < n → get_or (looked xs (range 0 n)) i 0 ≡ get_or xs i 0
    at i h =
        let own : get_or (range 0 n) i 0 ≡ i = omega (arith, get_d_range 0 n i h) in
        get_d_map (λ id. get_or xs id 0) (range 0 n) i (omega (arith, length_range 0 n)) ∙ ap (λ (k : ℕ). get_or xs k 0) own

looked_all_edges : (n : ℕ) (es : List Edge) → Below n (edge_entries es) → map (looked_edge (range 0 n)) es ≡ es
looked_all_edges n [] h = refl
looked_all_edges n (e ∷ es) h =
    let here = below_front n (e.sources ++ e.targets) (edge_entries es) h in
    rw (
      looked_all n e.sources (below_front n e.sources e.targets here),
      looked_all n e.targets (below_back n e.sources e.targets here),
      looked_all_edges n es (below_back n (e.sources ++ e.targets) (edge_entries es) h),
    )

-- ---- the map and the graph, by any table that tells the classes

-- what T-01 says of the new graph and the map
pub record Merges (g : Graph) (m : Merged) : Type 0 where
  -- "a map .. for each old node"
  pub long : length m.ids ≡ length g.labels
  -- "classes of nodes joined by pairs become one node each"
  pub class : (v w : ℕ) → v < length g.labels → w < length g.labels → (get_or m.ids v 0 ≡ get_or m.ids w 0) ↔ Joined g.pairs v w
  -- "numbered in order of their least member"
  pub order : (v w l k : ℕ) → v < length g.labels → w < length g.labels → Least g.pairs v l → Least g.pairs w k → l < k → get_or m.ids v 0 < get_or m.ids w 0
  -- from 0 on, without a gap
  pub below : (v : ℕ) → v < length g.labels → get_or m.ids v 0 < length m.graph.labels
  pub all : (k : ℕ) → k < length m.graph.labels → (v : ℕ) × (v < length g.labels) × (get_or m.ids v 0 ≡ k)
  -- "all entries renamed, no pairs left"
  pub edges : m.graph.edges ≡ map (looked_edge m.ids) g.edges
  pub sources : m.graph.sources ≡ looked m.ids g.sources
  pub targets : m.graph.targets ≡ looked m.ids g.targets
  pub pairs : m.graph.pairs ≡ []
  -- never larger
  pub fewer : length m.graph.labels ≤ length g.labels

-- the least member of a class is one
pub least_unique : (pairs : List (ℕ × ℕ)) (v l k : ℕ) → Least pairs v l → Least pairs v k → l ≡ k
least_unique pairs v l k a b = omega (arith, a.lowest k b.inside, b.lowest l a.inside)

module _ (g : Graph) (h : Below (length g.labels) (flat g.pairs)) where
  told : Tells (length g.labels) g.pairs (classes g)
  told = leaders_tell (length g.labels) g.pairs h

  leader_stays : (v : ℕ) → v < length g.labels → absorbed (classes g) (get_or (classes g) v 0) ≡ false
  leader_stays v l = rw (eq-eqb _ _ (tells_leader _ _ (classes g) told v l))

  leader_below : (v : ℕ) → v < length g.labels → get_or (classes g) v 0 < length g.labels
  leader_below v l = omega (arith, told.low v l)

  id_at : (v : ℕ) → v < length g.labels → get_or (numbered (classes g)) v 0 ≡ new_id (absorbed (classes g)) (get_or (classes g) v 0)
  id_at v l = get_d_map (new_id (absorbed (classes g))) (classes g) v (omega (arith, told.long))

  pub merged_count : length (remaining (absorbed (classes g)) 0 g.labels) ≡ new_id (absorbed (classes g)) (length g.labels)
  merged_count = sym (zero-add _) ∙ length_remaining (absorbed (classes g)) 0 g.labels ∙ ap (new_id (absorbed (classes g))) (zero-add (length g.labels))

  -- the one that stays is its own least member
  stays_leader : (l : ℕ) → absorbed (classes g) l ≡ false → get_or (classes g) l 0 ≡ l
  stays_leader l e = eqb-true _ _ (not-false _ e)

  pub merged_merges : Merges g (merged g)
  merged_merges = record {
    long = length-map (classes g) _ ∙ told.long;
    class = λ v w a b. (
      (λ e. (tells_joined _ _ (classes g) told v w a b).0
          (new_id_one goes _ _ (leader_stays v a) (leader_stays w b) (sym (id_at v a) ∙ e ∙ id_at w b))),
      (λ j. id_at v a ∙ ap (new_id goes) (told.one j) ∙ sym (id_at w b)),
    );
    order = λ v w l k a b c d q.
        let e : get_or (classes g) v 0 ≡ l = least_unique g.pairs v _ l (tells_least _ _ (classes g) told v a h) c in
        let f : get_or (classes g) w 0 ≡ k = least_unique g.pairs w _ k (tells_least _ _ (classes g) told w b h) d in
        omega (arith, id_at v a, id_at w b, new_id_below goes (get_or (classes g) v 0) (get_or (classes g) w 0) (omega arith) (leader_stays v a));
    below = λ v a. omega (arith, id_at v a, merged_count, new_id_below goes (get_or (classes g) v 0) (length g.labels) (leader_below v a) (leader_stays v a));
    all = λ k a.
        let x = new_id_all goes (length g.labels) k (omega (arith, merged_count)) in
        (x.0, x.1, id_at x.0 x.1 ∙ ap (new_id goes) (stays_leader x.0 x.2) ∙ x.3);
    edges = refl;
    sources = refl;
    targets = refl;
    pairs = refl;
    fewer = omega (arith, merged_count, new_id_le goes (length g.labels));
  }
    where
      goes : ℕ → Bool
      goes = absorbed (classes g)

  -- ---- labels: 11

  label_of : (v : ℕ) → v < length g.labels → get_or (looked g.labels (classes g)) v 0 ≡ get_or g.labels (get_or (classes g) v 0) 0
  label_of v l = get_d_map (λ id. get_or g.labels id 0) (classes g) v (omega (arith, told.long))

  pub agree_labels : agreeing g ≡ true → (v w : ℕ) → v < length g.labels → w < length g.labels → Joined g.pairs v w → get_or g.labels v 0 ≡ get_or g.labels w 0
  agree_labels e v w a b j =
      let of : (v : ℕ) → v < length g.labels → get_or g.labels (get_or (classes g) v 0) 0 ≡ get_or g.labels v 0 =
      λ v l. sym (label_of v l) ∙ ap (λ (xs : List ℕ). get_or xs v 0) (same_true (looked g.labels (classes g)) g.labels e) in
      sym (of v a) ∙ ap (λ (k : ℕ). get_or g.labels k 0) (told.one j) ∙ of w b

  -- where they don't agree, a node and its class's least member show it
  pub differ_labels : agreeing g ≡ false
      → (v w : ℕ) × (v < length g.labels) × (w < length g.labels) × Joined g.pairs v w × (get_or g.labels v 0 ≡ get_or g.labels w 0 → ⊥)
  differ_labels e =
      let long : length (looked g.labels (classes g)) ≡ length g.labels = length-map (classes g) _ ∙ told.long in
      let x = same_false (looked g.labels (classes g)) g.labels long e in
      let l : x.0 < length g.labels = subst (λ (k : ℕ). x.0 < k) long x.1 in
      (x.0, get_or (classes g) x.0 0, l, leader_below x.0 l, told.joins x.0 l, λ q. x.2 (label_of x.0 l ∙ sym q))

  -- "11, two nodes of one class have different labels": then, and only then
  pub quotient_11 : (v w : ℕ) → v < length g.labels → w < length g.labels → Joined g.pairs v w → (get_or g.labels v 0 ≡ get_or g.labels w 0 → ⊥) → quotient g ≡ refused (refusal 11)
  unfolding quotient ◌else◌ ◌>>◌
  quotient_11 v w a b j d = go (agreeing g) refl
    where
      go : (c : Bool) → agreeing g ≡ c → quotient g ≡ refused (refusal 11)
      go true e = absurd (d (agree_labels e v w a b j))
      go false e = rw e

  pub quotient_0 : ((v w : ℕ) → v < length g.labels → w < length g.labels → Joined g.pairs v w → get_or g.labels v 0 ≡ get_or g.labels w 0) → quotient g ≡ answered (merged g)
  unfolding quotient ◌else◌ ◌>>◌
  quotient_0 k = go (agreeing g) refl
    where
      go : (c : Bool) → agreeing g ≡ c → quotient g ≡ answered (merged g)
      go true e = rw e
      go false e = let x = differ_labels e in absurd (x.5 (k x.0 x.1 x.2 x.3 x.4))

  -- the label of a class is its members' label
  pub merged_label : agreeing g ≡ true → (v : ℕ) → v < length g.labels → get_or (merged g).graph.labels (get_or (merged g).ids v 0) 0 ≡ get_or g.labels v 0
  merged_label e v a =
      let goes = absorbed (classes g) in
      let l = get_or (classes g) v 0 in
      remaining_at goes 0 g.labels l (get_or (merged g).ids v 0) (leader_below v a) (subst (λ (k : ℕ). goes k ≡ false) (sym (zero-add l)) (leader_stays v a))
      (zero-add _ ∙ id_at v a ∙ ap (new_id goes) (sym (zero-add l)))
      ∙ agree_labels e l v (leader_below v a) a (Joined.turned (told.joins v a))

-- an answer of merging is the merged graph, of labels that agree
pub quotient_answer : (g : Graph) (m : Merged) → quotient g ≡ answered m → (agreeing g ≡ true) × (merged g ≡ m)
unfolding quotient
quotient_answer g m e = let p = passed (agreeing g) (refusal 11) (answered (merged g)) e in (p.0, same_answer p.1)

-- so it is what T-01 says
pub quotient_merges : (g : Graph) → Proper g → (m : Merged) → quotient g ≡ answered m → Merges g m
quotient_merges g p m e = subst (λ (k : Merged). Merges g k) (quotient_answer g m e).1 (merged_merges g (parts (length g.labels) g p.ids).pairs)

-- ---- the result is proper and never larger

pub merged_proper : (g : Graph) → Proper g → Proper (merged g).graph
merged_proper g p =
    let old = parts (length g.labels) g p.ids in
    let m = merged_merges g old.pairs in
    let count = length (merged g).graph.labels in
    record {
      ids = whole count (merged g).graph (record {
        edges = looked_edges (length g.labels) (merged g).ids g.edges count m.below old.edges;
        sources = looked_below (length g.labels) (merged g).ids g.sources count m.below old.sources;
        targets = looked_below (length g.labels) (merged g).ids g.targets count m.below old.targets;
        pairs = tt;
      });
      node_labels = remaining_below (absorbed (classes g)) (2 ^ 32) 0 g.labels p.node_labels;
      edge_labels = rw (looked_labels (merged g).ids g.edges) p.edge_labels;
    }

-- the sizes of what merging gives: fewer nodes, and no pairs
pub record Shrunk (g h : Graph) : Type 0 where
  pub nodes : length h.labels ≤ length g.labels
  pub edges : length h.edges ≡ length g.edges
  pub sources : length h.sources ≡ length g.sources
  pub targets : length h.targets ≡ length g.targets
  pub pairs : length h.pairs ≡ 0
  pub ports : ports h ≡ ports g

pub merged_sizes : (g : Graph) → Proper g → Shrunk g (merged g).graph
merged_sizes g p =
    let new = (merged g).ids in
    record {
      nodes = (merged_merges g (parts (length g.labels) g p.ids).pairs).fewer;
      edges = length-map g.edges (looked_edge new);
      sources = length-map g.sources (λ id. get_or new id 0);
      targets = length-map g.targets (λ id. get_or new id 0);
      pairs = refl;
      ports = looked_ports new g.edges;
    }

pub quotient_sizes : (g : Graph) (m : Merged) → Proper g → quotient g ≡ answered m → Shrunk g m.graph
quotient_sizes g m p e = subst (λ (k : Merged). Shrunk g k.graph) (quotient_answer g m e).1 (merged_sizes g p)

pub quotient_proper : (g : Graph) (m : Merged) → Proper g → quotient g ≡ answered m → Proper m.graph
quotient_proper g m p e = subst (λ (k : Merged). Proper k.graph) (quotient_answer g m e).1 (merged_proper g p)

pub quotient_formed : (f : Format) (g : Graph) (m : Merged) → WellFormed f g → quotient g ≡ answered m → WellFormed f m.graph
quotient_formed f g m w e =
    let c = w.counts in
    let z = quotient_sizes g m w.proper e in
    record {
      proper = quotient_proper g m w.proper e;
      counts = record {
        nodes = omega (arith, z.nodes, c.nodes);
        edges = omega (arith, z.edges, c.edges);
        sources = omega (arith, z.sources, c.sources);
        targets = omega (arith, z.targets, c.targets);
        pairs = omega (arith, z.pairs);
      };
      ports = omega (arith, z.ports, w.ports);
    }

-- ---- without pairs: the graph and the identity map

module _ (n : ℕ) where
  none_absorbed : (v : ℕ) → v < n → absorbed (range 0 n) v ≡ false
  none_absorbed v h = rw (eq-eqb (get_or (range 0 n) v 0) v (omega (arith, get_d_range 0 n v h)))

  own_id : (v : ℕ) → v ≤ n → new_id (absorbed (range 0 n)) v ≡ v
  own_id zero h = refl
  own_id (suc v) h = ap (λ (c : Bool). new_id (absorbed (range 0 n)) v + cond c 0 1) (none_absorbed v h) ∙ omega (arith, own_id v (omega arith))

  all_stay : (id : ℕ) (xs : List ℕ) → id + length xs ≤ n → remaining (absorbed (range 0 n)) id xs ≡ xs
  all_stay id [] h = refl
  all_stay id (x ∷ xs) h =
      let rest = remaining (absorbed (range 0 n)) (suc id) xs in
      ap (λ (c : Bool). cond c rest (x ∷ rest)) (none_absorbed id (omega arith)) ∙ ap (λ (r : List ℕ). x ∷ r) (all_stay (suc id) xs (omega arith))

  own_ids : (from k : ℕ) → from + k ≤ n → map (new_id (absorbed (range 0 n))) (range from k) ≡ range from k
  own_ids from zero h = refl
  own_ids from (suc k) h = (λ i. own_id from (omega arith) i ∷ own_ids (suc from) k (omega arith) i)

no_pairs : (ps : List (ℕ × ℕ)) → length ps ≡ 0 → ps ≡ []
no_pairs [] e = refl
no_pairs (p ∷ ps) e = absurd (omega arith)

pub quotient_unpaired : (g : Graph) → Proper g → length g.pairs ≡ 0 → quotient g ≡ answered (record { graph = g; ids = range 0 (length g.labels) })
unfolding quotient ◌else◌ ◌>>◌
quotient_unpaired g p z =
    let e = no_pairs g.pairs z in
    let n = length g.labels in
    let old = parts n g p.ids in
    let table : classes g ≡ range 0 n = ap (leaders n) e in
    let agree = looked_range g.labels n refl in
    let new : numbered (range 0 n) ≡ range 0 n = own_ids n 0 n (omega arith) in
    rw (table, agree, same_self g.labels, new, all_stay n 0 g.labels (omega arith), looked_all_edges n g.edges old.edges, looked_all n g.sources old.sources, looked_all n g.targets old.targets, ← e)

-- so merging a merged graph changes nothing
pub quotient_merged : (g : Graph) (m : Merged) → Proper g → quotient g ≡ answered m → quotient m.graph ≡ answered (record { graph = m.graph; ids = range 0 (length m.graph.labels) })
quotient_merged g m p e =
    let q = (quotient_answer g m e).1 in
    quotient_unpaired m.graph (subst (λ (k : Merged). Proper k.graph) q (merged_proper g p)) (ap (λ (k : Merged). length k.graph.pairs) (sym q))

-- ---- only what the pairs join counts: neither their order, nor repeats, nor which end comes first

pub quotient_same : (g : Graph) (ps qs : List (ℕ × ℕ)) → Below (length g.labels) (flat ps) → Below (length g.labels) (flat qs)
    → ((v w : ℕ) → Memᴰ (v, w) ps → Joined qs v w) → ((v w : ℕ) → Memᴰ (v, w) qs → Joined ps v w)
    → quotient (with_pairs ps g) ≡ quotient (with_pairs qs g)
unfolding quotient
quotient_same g ps qs a b k l =
    let n = length g.labels in
    let e : leaders n ps ≡ leaders n qs = tells_unique n ps qs _ _ (leaders_tell n ps a) (leaders_tell n qs b) (λ v w. ((λ j. joined_by k j), (λ j. joined_by l j))) in
    rw e

-- so the same pairs in another order, or repeated
pub quotient_listed_same : (g : Graph) (ps qs : List (ℕ × ℕ)) → Below (length g.labels) (flat ps) → Below (length g.labels) (flat qs)
    → ((p : ℕ × ℕ) → Memᴰ p ps ↔ Memᴰ p qs) → quotient (with_pairs ps g) ≡ quotient (with_pairs qs g)
quotient_listed_same g ps qs a b k = quotient_same g ps qs a b (λ v w m. Joined.paired ((k (v, w)).0 m)) (λ v w m. Joined.paired ((k (v, w)).1 m))
