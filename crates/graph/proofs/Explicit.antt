-- 02, T-11, of graphs: once every node is spiderized, each node of the result is fed once and used once, and its sizes are told from those before.
-- Every entry's place has a fresh node of its own, and each stands once more, in the spider of the node whose entry it was.
-- Assumes nothing.
use mathlib.Core.Bool.{Bool, true, false, cond}
use mathlib.Core.List.{List, [], ◌∷◌, ◌++◌}
use mathlib.Core.Path.{◌≡◌, refl, sym, ap, ◌∙◌}
use Prim.Native.Nat.{ℕ, zero, suc, ◌+◌, ◌*◌, ◌≤◌, ◌<◌}
use native.Mathlib.Nat.{zero-add}
use native.Mathlib.Omega.{arith}
use lib.Dec.{eqb}
use lib.ListN.{length, length-append}
use borrow.Author.Tests.{eqb-true, eqb-false, ne_eqb}
use Rattle.graph.specs.Checks.{feeds, uses, monogamous}
use Rattle.graph.specs.Explicit.{all_counts, all_ports}
use Rattle.graph.specs.Graph.{Edge, Graph, counts, ports, edge_entries, edge_sources, edge_targets, Proper}
use Rattle.graph.specs.Lists.{joined, keep, range, occurrences, among}
use Rattle.graph.specs.Spider.{freshened, after, freshened_edges, entries, opened, entries_of, left_spider, right_spider, spiderized_at, spiderize}
use Rattle.le.specs.Le.{Below}
use Rattle.le.proofs.Numbers.{below_append, below_front, below_back}
use Rattle.graph.proofs.Kept.{parts, below_range}
use Rattle.graph.proofs.Laws.{joined_append}
use Rattle.graph.proofs.Lists.{length_range, range_add}
use Rattle.graph.proofs.Monogamous.{monogamous_iff, occurrences_append}
use Rattle.graph.proofs.Sizes.{total, total_add, total_zero, met, once_met, length_freshened, length_sources, length_targets, spiderized_sizes}
use Rattle.graph.proofs.Spidered.{listed_all}
use Rattle.graph.proofs.Spiders.{sources_below, targets_below}

-- ---- every entry is of a listed node: the fresh nodes are numbered without a gap

module _ (listed : ℕ → Bool) (n : ℕ) (every : (v : ℕ) → v < n → listed v ≡ true) where
  keep_all : (xs : List ℕ) → Below n xs → keep listed xs ≡ xs
  keep_all [] h = refl
  keep_all (x ∷ xs) h = rw (every x h.0, keep_all xs h.1)

  fresh_all : (next : ℕ) (xs : List ℕ) → Below n xs → freshened listed next xs ≡ range next (length xs)
  fresh_all next [] h = refl
  fresh_all next (x ∷ xs) h = rw (every x h.0, fresh_all (suc next) xs h.1)

  after_all : (next : ℕ) (xs : List ℕ) → Below n xs → after listed next xs ≡ next + length xs
  after_all next xs h = ap (λ (l : List ℕ). next + length l) (keep_all xs h)

  fresh_edges : (next : ℕ) (es : List Edge) → Below n (edge_entries es) → edge_entries (freshened_edges listed next es) ≡ range next (length (edge_entries es))
  fresh_edges next [] h = refl
  fresh_edges next (e ∷ es) h =
      let s = e.sources in
      let t = e.targets in
      let here = below_front n (s ++ t) (edge_entries es) h in
      let hs = below_front n s t here in
      let ht = below_back n s t here in
      let two : length ((s ++ t) ++ edge_entries es) ≡ length s + length t + length (edge_entries es) = simp length-append in
      let both : next + length (s ++ t) ≡ next + (length s + length t) = ap (λ k. next + k) (length-append s t) in
      rw (
        after_all next s hs,
        after_all next (s ++ t) here,
        fresh_all next s hs,
        fresh_all (next + length s) t ht,
        fresh_edges (next + length (s ++ t)) es (below_back n (s ++ t) (edge_entries es) h),
        both,
        two,
        range_add next (length s + length t) (length (edge_entries es)),
        range_add next (length s) (length t),
      )

  -- each place belongs to one node: what stands at the places of all nodes is what stands in the list
  places : (v : ℕ) (old new : List ℕ) → Below n old → length old ≡ length new
      → total (λ id. occurrences v (entries_of id old new)) (keep listed (range 0 n)) ≡ occurrences v new
  unfolding met
  places v [] [] h l = total_zero (keep listed (range 0 n))
  places v [] (y ∷ new) h l = absurd (omega arith)
  places v (x ∷ old) [] h l = absurd (omega arith)
  places v (x ∷ old) (y ∷ new) h l =
      let c : ℕ = cond (eqb v y) 1 0 in
      let here : met listed c x 0 n ≡ c = once_met listed c x 0 n (omega arith) (omega (arith, h.0)) ∙ ap (λ (d : Bool). cond d c 0) (every x h.0) in
      (λ i. total (λ id. split id (eqb id x) i) (keep listed (range 0 n)))
      ∙ total_add (λ id. cond (eqb id x) c 0) (λ id. occurrences v (entries_of id old new)) (keep listed (range 0 n))
      ∙ omega (arith, here, places v old new h.1 (omega arith))
    where
      split : (id : ℕ) (d : Bool) → occurrences v (cond d (y ∷ entries_of id old new) (entries_of id old new)) ≡ cond d (cond (eqb v y) 1 0) 0 + occurrences v (entries_of id old new)
      split id true = refl
      split id false = sym (zero-add _)

-- ---- how often a node stands in a range, and in the spiders

module _ (v : ℕ) where
  not_in_range : (from k : ℕ) → v < from → occurrences v (range from k) ≡ 0
  not_in_range from zero h = refl
  not_in_range from (suc k) h = rw (ne_eqb v from (λ e. omega arith)) (omega (arith, not_in_range (suc from) k (omega arith)))

  once_in_range : (from k : ℕ) → from ≤ v → v < from + k → occurrences v (range from k) ≡ 1
  once_in_range from zero l h = absurd (omega arith)
  once_in_range from (suc k) l h = go (eqb v from) refl (λ q. once_in_range (suc from) k q (omega arith))
    where
      go : (c : Bool) → eqb v from ≡ c → (suc from ≤ v → occurrences v (range (suc from) k) ≡ 1) → cond c 1 0 + occurrences v (range (suc from) k) ≡ 1
      go true e r = let q : v ≡ from = eqb-true v from e in omega (arith, not_in_range (suc from) k (omega arith))
      go false e r = let q : v ≡ from → ⊥ = eqb-false v from e in omega (arith, r (omega arith))

  module _ (g h : Graph) where
    spider_targets : (is : List ℕ) → occurrences v (edge_targets (joined (λ id. left_spider g h id ∷ right_spider g h id ∷ []) is))
        ≡ occurrences v is + (total (λ id. occurrences v (entries_of id (edge_sources g.edges) (edge_sources h.edges))) is + total (λ id. occurrences v (entries_of id g.targets h.targets)) is)
    unfolding total
    spider_targets [] = refl
    spider_targets (id ∷ is) =
        let from_edges = entries_of id (edge_sources g.edges) (edge_sources h.edges) in
        let to_global = entries_of id g.targets h.targets in
        let rest = edge_targets (joined (λ id. left_spider g h id ∷ right_spider g h id ∷ []) is) in
        omega (arith, occurrences_append v from_edges (to_global ++ rest), occurrences_append v to_global rest, spider_targets is)

    spider_sources : (is : List ℕ) → occurrences v (edge_sources (joined (λ id. left_spider g h id ∷ right_spider g h id ∷ []) is))
        ≡ occurrences v is + (total (λ id. occurrences v (entries_of id g.sources h.sources)) is + total (λ id. occurrences v (entries_of id (edge_targets g.edges) (edge_targets h.edges))) is)
    unfolding total
    spider_sources [] = refl
    spider_sources (id ∷ is) =
        let from_global = entries_of id g.sources h.sources in
        let to_edges = entries_of id (edge_targets g.edges) (edge_targets h.edges) in
        let rest = edge_sources (joined (λ id. left_spider g h id ∷ right_spider g h id ∷ []) is) in
        omega (arith, occurrences_append v from_global ((id ∷ to_edges) ++ rest), occurrences_append v to_edges rest, spider_sources is)

  both_sides : (es : List Edge) → occurrences v (edge_sources es) + occurrences v (edge_targets es) ≡ occurrences v (edge_entries es)
  both_sides [] = refl
  both_sides (e ∷ es) = simp (occurrences_append v) (omega (arith, both_sides es))

-- ---- the whole

module _ (listed : ℕ → Bool) (g : Graph) (p : Proper g) (every : (v : ℕ) → v < length g.labels → listed v ≡ true) where
  abbrev n : ℕ
  n = length g.labels

  abbrev h : Graph
  h = opened listed g

  abbrev spiders : List Edge
  spiders = joined (λ id. left_spider g h id ∷ right_spider g h id ∷ []) (keep listed (range 0 n))

  all_listed : keep listed (range 0 n) ≡ range 0 n
  all_listed = keep_all listed n every (range 0 n) (below_range n 0 n (omega arith))

  all_entries : keep listed (entries g) ≡ entries g
  all_entries =
      let k = parts n g p.ids in
      keep_all listed n every (entries g) (below_append n (edge_entries g.edges) _ k.edges (below_append n g.sources _ k.sources k.targets))

  -- the entries, in the order of their fresh nodes
  fresh_are : edge_entries h.edges ++ (h.sources ++ h.targets) ≡ range n (length (entries g))
  fresh_are =
      let k = parts n g p.ids in
      let es = edge_entries g.edges in
      let a₁ : after listed n es ≡ n + length es = after_all listed n every n es k.edges in
      let a₂ : after listed (n + length es) g.sources ≡ n + length es + length g.sources = after_all listed n every (n + length es) g.sources k.sources in
      let sum : length (es ++ (g.sources ++ g.targets)) ≡ length es + (length g.sources + length g.targets) = simp length-append in
      rw (
        a₁,
        a₂,
        fresh_edges listed n every n g.edges k.edges,
        fresh_all listed n every (n + length es) g.sources k.sources,
        fresh_all listed n every (n + length es + length g.sources) g.targets k.targets,
        sum,
        range_add n (length es) (length g.sources + length g.targets),
        range_add (n + length es) (length g.sources) (length g.targets),
      )

  module _ (v : ℕ) (l : v < length (spiderized_at listed g).labels) where
    -- v is an old node or a fresh one
    there : occurrences v (keep listed (range 0 n)) + (occurrences v (edge_entries h.edges) + (occurrences v h.sources + occurrences v h.targets)) ≡ 1
    there =
        let k = length (entries g) in
        let nodes : length (spiderized_at listed g).labels ≡ n + k = (spiderized_sizes listed g p.ids).nodes ∙ ap (λ (l : List ℕ). n + length l) all_entries in
        let all : occurrences v (range 0 (n + k)) ≡ 1 = once_in_range v 0 (n + k) (omega arith) (omega arith) in
        let parts : occurrences v (range 0 (n + k)) ≡ occurrences v (range 0 n) + occurrences v (range n k) =
        ap (occurrences v) (range_add 0 n k ∙ ap (λ (m : ℕ). range 0 n ++ range m k) (zero-add n)) ∙ occurrences_append v (range 0 n) (range n k) in
        let fresh : occurrences v (range n k) ≡ occurrences v (edge_entries h.edges) + (occurrences v h.sources + occurrences v h.targets) =
        ap (occurrences v) (sym fresh_are) ∙ occurrences_append v (edge_entries h.edges) (h.sources ++ h.targets) ∙ ap (λ (m : ℕ). occurrences v (edge_entries h.edges) + m) (occurrences_append v h.sources h.targets) in
        omega (arith, ap (occurrences v) all_listed)

    fed_once_lem : occurrences v (feeds (spiderized_at listed g)) ≡ 1
    fed_once_lem =
        let k = parts n g p.ids in
        occurrences_append v (edge_targets (h.edges ++ spiders)) h.sources
        ∙ ap (λ (xs : List ℕ). occurrences v xs + occurrences v h.sources) (joined_append (λ (e : Edge). e.targets) h.edges spiders)
        ∙ omega (
          arith,
          there,
          occurrences_append v (edge_targets h.edges) (edge_targets spiders),
          spider_targets v g h (keep listed (range 0 n)),
          places listed n every v (edge_sources g.edges) (edge_sources h.edges) (sources_below n g.edges k.edges) (length_sources listed n g.edges),
          places listed n every v g.targets h.targets k.targets (sym (length_freshened listed _ g.targets)),
          both_sides v h.edges,
        )

    used_once : occurrences v (uses (spiderized_at listed g)) ≡ 1
    used_once =
        let k = parts n g p.ids in
        occurrences_append v (edge_sources (h.edges ++ spiders)) h.targets
        ∙ ap (λ (xs : List ℕ). occurrences v xs + occurrences v h.targets) (joined_append (λ (e : Edge). e.sources) h.edges spiders)
        ∙ omega (
          arith,
          there,
          occurrences_append v (edge_sources h.edges) (edge_sources spiders),
          spider_sources v g h (keep listed (range 0 n)),
          places listed n every v (edge_targets g.edges) (edge_targets h.edges) (targets_below n g.edges k.edges) (length_targets listed n g.edges),
          places listed n every v g.sources h.sources k.sources (sym (length_freshened listed _ g.sources)),
          both_sides v h.edges,
        )

  -- how many there are
  many_listed : length (keep listed (range 0 n)) ≡ n
  many_listed = ap length all_listed ∙ length_range 0 n

  many_entries : length (keep listed (entries g)) ≡ ports g + (length g.sources + length g.targets)
  many_entries = ap length all_entries ∙ simp length-append

  all_counts_lem : counts (spiderized_at listed g) ≡ all_counts (counts g) (ports g)
  all_counts_lem =
      let z = spiderized_sizes listed g p.ids in
      let a : length (spiderized_at listed g).labels ≡ n + (ports g + (length g.sources + length g.targets)) = omega (arith, z.nodes, many_entries) in
      let b : length (spiderized_at listed g).edges ≡ length g.edges + 2 * n = omega (arith, z.edges, many_listed) in
      λ i. record { nodes = a i; edges = b i; sources = z.sources i; targets = z.targets i; pairs = length g.pairs }

  all_ports_lem : ports (spiderized_at listed g) ≡ all_ports (counts g) (ports g)
  all_ports_lem = omega (arith, (spiderized_sizes listed g p.ids).ports, many_listed, many_entries)

module _ (g : Graph) (p : Proper g) where
  -- each node of the result is fed exactly once and used exactly once
  pub spiderized_all_once_fed : monogamous (spiderize (range 0 (length g.labels)) g) ≡ true
  unfolding spiderize
  spiderized_all_once_fed =
      let every = listed_all (length g.labels) in
      let listed = among (range 0 (length g.labels)) in
      (monogamous_iff (spiderized_at listed g)).1 (λ v l. (fed_once_lem listed g p every v l, used_once listed g p every v l))

  -- its nodes and edges, and the lengths of its lists
  pub spiderized_all_sizes : counts (spiderize (range 0 (length g.labels)) g) ≡ all_counts (counts g) (ports g)
  unfolding spiderize
  spiderized_all_sizes = all_counts_lem (among (range 0 (length g.labels))) g p (listed_all (length g.labels))

  -- its ports: the old ports, two for each node, and one for each edge and global entry
  pub spiderized_all_ports : ports (spiderize (range 0 (length g.labels)) g)
      ≡ ports g + 2 * length g.labels + (ports g + (length g.sources + length g.targets))
  unfolding spiderize
  spiderized_all_ports = all_ports_lem (among (range 0 (length g.labels))) g p (listed_all (length g.labels))
