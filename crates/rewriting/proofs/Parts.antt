-- The spiderized graph in parts: its labels, its counts and ids, its sizes, and the parts written.
-- Assumes nothing.
use mathlib.Core.Bool.{Bool, true, false, and-eq-true_iff}
use mathlib.Core.List.{List, [], ◌∷◌, ◌++◌, map, map-append, append_assoc, append-nil}
use mathlib.Core.Path.{◌≡◌, refl, sym, ap, ◌∙◌, subst}
use Prim.Native.Nat.{ℕ, suc, ◌+◌, ◌*◌, ◌^◌, ◌≤◌, ◌<◌}
use native.Mathlib.Nat.{mul-le-mul_right}
use native.Mathlib.Omega.{arith}
use borrow.Author.Tests.{leb-true}
use lib.Dec.{leb}
use lib.ListN.{length, get_or, take, length-append, replicate}
use Rattle.form.specs.Form.{sizes_of, counts_of, Low, labels_of, body_of, body_size, lists_from, edge_in}
use Rattle.form.specs.Stored.{graph_of, Stored}
use Rattle.form.specs.declared.EdgeAt.{EdgeAt}
use Rattle.form.specs.declared.Sizes.{Sizes}
use Rattle.form.proofs.Stored.{stored_rows, stored_known}
use Rattle.graph.specs.Form.{edge_row, label_row, body, edge_start, no_edge}
use Rattle.graph.specs.Graph.{Edge, Graph, Format, Proper, spider, edge_entries, ports, form1, counts_fit, sizes_fit}
use Rattle.graph.specs.Lists.{keep, joined, flat, range, among}
use Rattle.graph.specs.Spider.{freshened, after, freshened_edges, entries, entries_of, opened, left_spider, right_spider, spiderized_at, spiderize}
use Rattle.graph.specs.Versions.{fitting}
use Rattle.le.specs.Le.{Below}
use Rattle.le.specs.Rows.{Holds, span, puts}
use Rattle.le.specs.declared.Row.{Row}
use Rattle.links.specs.Links.{cells, is_listed, Linked, spider_row, both_rows, spiders}
use Rattle.write.specs.Write.{counted_as, fitted, headed, drawn, Put, Room}
use Rattle.rewriting.specs.Rewriting.{ids_at, labels_in, Ids, labelled, Fresh, more, more_two, more_edges, Pass, Rewrites, EdgesPassed, Prepared, spidered, fronted, Plan, Copied, Laid}
use Rattle.graph.proofs.Kept.{parts}
use Rattle.graph.proofs.Laws.{joined_append}
use Rattle.graph.proofs.ReadWrite.{fits_within}
use Rattle.graph.proofs.Versions.{fitting_first, fitting_second}
use Rattle.graph.proofs.Rows.{length_edge_rows, length_body, edge_rows_below, take_edges}
use Rattle.graph.proofs.Spiders.{after_append}
use Rattle.graph.proofs.Sizes.{Spiderized, spiderize_sizes}
use Rattle.le.proofs.Numbers.{below_append, below_widen}
use Rattle.le.proofs.Rows.{holds_less, holds_same, length_puts, puts_append, length_span}
use Rattle.links.proofs.Cells.{keep_more}
use Rattle.links.proofs.Chains.{puts_before, puts_swap}
use Rattle.write.proofs.Results.{room_same, length_headed}
use Rattle.le.proofs.InPlace.{span_ahead, span_puts, puts_there, puts_over}
use Rattle.rewriting.proofs.Lists.{ids_next, EdgeRead, edge_row_lem, edge_held, edge_read, all_edges, keep_few, freshened_append, length_labelled, two_whole, rows_long, more_sources, more_targets, more_others}
use Rattle.rewriting.proofs.Passes.{linked_same, labels_on, pass_none, numbered_part, later, pass_edge, labels_kept, rest_kept, pass_same}

-- ---- the parts

-- the fresh nodes of all entries, numbered on from n
abbrev pub all_fresh : (ℕ → Bool) → Graph → ℕ → Fresh
all_fresh m g n =
    more 3 m (after m (after m n (edge_entries g.edges)) g.sources) g.targets
    (more 0 m (after m n (edge_entries g.edges)) g.sources (more_edges m n g.edges (λ k x. [])))

-- the rows of the edges and of the spiders
abbrev rows_of : (ℕ → Bool) → Graph → ℕ → List ℕ
rows_of m g n = joined edge_row (freshened_edges m n g.edges) ++ joined (both_rows (all_fresh m g n)) (keep m (range 0 n))

-- the global lists
abbrev lists_of : (ℕ → Bool) → Graph → ℕ → List ℕ
lists_of m g n = freshened m (after m n (edge_entries g.edges)) (g.sources ++ g.targets)

abbrev two : Graph → Graph → ℕ → List Edge
two g h id = left_spider g h id ∷ right_spider g h id ∷ []

module _ (m : ℕ → Bool) (g : Graph) where
  spider_rows : (is : List ℕ) → joined (both_rows (all_fresh m g (length g.labels))) is ≡ joined edge_row (joined (two g (opened m g)) is)
  spider_rows [] = refl
  spider_rows (id ∷ is) =
      let n = length g.labels in
      let h = opened m g in
      let others = more_others m n g.edges (λ k x. []) id in
      let A = entries_of id g.sources h.sources in
      let B = entries_of id g.targets h.targets in
      (λ i. (spider_row false id (others.0 i ++ A) (more_sources m n g.edges (λ k x. []) id i) ++ spider_row true id (more_targets m n g.edges (λ k x. []) id i) (others.1 i ++ B)) ++ spider_rows is i)
      ∙ append_assoc (edge_row (left_spider g h id)) (edge_row (right_spider g h id)) (joined edge_row (joined (two g h) is))

  rows_are : joined edge_row (spiderized_at m g).edges ≡ rows_of m g (length g.labels)
  rows_are =
      let n = length g.labels in
      joined_append edge_row (freshened_edges m n g.edges) _ ∙ ap (λ (l : List ℕ). joined edge_row (freshened_edges m n g.edges) ++ l) (sym (spider_rows (keep m (range 0 n))))

  body_is : flat g.pairs ≡ [] → body (spiderized_at m g) ≡ rows_of m g (length g.labels) ++ lists_of m g (length g.labels)
  body_is e =
      let h = opened m g in
      (λ i. rows_are i ++ (h.sources ++ (h.targets ++ e i)))
      ∙ ap (λ (l : List ℕ). rows_of m g (length g.labels) ++ l) (ap (λ (l : List ℕ). h.sources ++ l) (append-nil h.targets) ∙ sym (freshened_append m _ g.sources g.targets))

  -- the labels
  fresh_labels : (next : ℕ) (es : List Edge) → map (λ e. e.label) (freshened_edges m next es) ≡ map (λ e. e.label) es
  fresh_labels next [] = refl
  fresh_labels next (e ∷ es) = ap (λ (r : List ℕ). e.label ∷ r) (fresh_labels (after m next (e.sources ++ e.targets)) es)

  spider_labels : (is : List ℕ) → map (λ e. e.label) (joined (two g (opened m g)) is) ≡ replicate (2 * length is) spider
  spider_labels [] = refl
  spider_labels (id ∷ is) =
      let e : suc (suc (2 * length is)) ≡ 2 * suc (length is) = omega arith in
      ap (λ (r : List ℕ). spider ∷ spider ∷ r) (spider_labels is) ∙ ap (λ (n : ℕ). replicate n spider) e

  pub edge_labels_lem : map (λ e. e.label) (spiderized_at m g).edges ≡ map (λ e. e.label) g.edges ++ replicate (2 * length (keep m (range 0 (length g.labels)))) spider
  edge_labels_lem =
      let n = length g.labels in
      let is = keep m (range 0 n) in
      map-append (λ (e : Edge). e.label) (freshened_edges m n g.edges) (joined (two g (opened m g)) is) ∙ (λ i. fresh_labels n g.edges i ++ spider_labels is i)

-- ---- sizes

pub spidered_sizes : (g : Graph) → Proper g → (nodes : ℕ) (W ids : List ℕ) → is_listed nodes W ≡ among ids → Spiderized (is_listed nodes W) g (spidered g nodes W)
unfolding spiderize
spidered_sizes g p nodes W ids e = subst (λ (t : ℕ → Bool). Spiderized t g (spiderized_at t g)) (sym e) (spiderize_sizes ids g p)

-- the sizes as they are counted
pub sizes_are : (f : Format) (z : Sizes) (g : Graph) → z ≡ sizes_of f g → Proper g → (W ids : List ℕ) → is_listed z.nodes W ≡ among ids → (c d spiders : ℕ)
    → c ≡ length (keep (is_listed z.nodes W) (edge_entries g.edges)) → d ≡ length (keep (is_listed z.nodes W) (g.sources ++ g.targets))
    → spiders ≡ 2 * length (keep (is_listed z.nodes W) (range 0 z.nodes))
    → fitted (counted_as (z.nodes + (c + d)) (z.edges + spiders) z.sources z.targets z.pairs) (z.ports + (spiders + (c + d))) ≡ sizes_of (fitting (spidered g z.nodes W)) (spidered g z.nodes W)
sizes_are f z g zs proper W ids e c d spiders ec ed es =
    let m = is_listed z.nodes W in
    let h = spidered g z.nodes W in
    let s = spidered_sizes g proper z.nodes W ids e in
    let labels : z.nodes ≡ length g.labels = ap (λ (x : Sizes). x.nodes) zs in
    let listed : length (keep m (range 0 z.nodes)) ≡ length (keep m (range 0 (length g.labels))) = ap (λ (n : ℕ). length (keep m (range 0 n))) labels in
    let all = keep_more m (edge_entries g.edges) (g.sources ++ g.targets) in
    let n : z.nodes + (c + d) ≡ length h.labels = omega (arith, s.nodes) in
    let k : z.edges + spiders ≡ length h.edges = omega (arith, s.edges, ap (λ (x : Sizes). x.edges) zs) in
    let p : z.ports + (spiders + (c + d)) ≡ ports h = omega (arith, s.ports, ap (λ (x : Sizes). x.ports) zs) in
    let a : z.sources ≡ length h.sources = ap (λ (x : Sizes). x.sources) zs ∙ sym s.sources in
    let t : z.targets ≡ length h.targets = ap (λ (x : Sizes). x.targets) zs ∙ sym s.targets in
    let q : z.pairs ≡ length h.pairs = ap (λ (x : Sizes). x.pairs) zs ∙ sym (ap length s.pairs) in
    (λ i. fitted (counted_as (n i) (k i) (a i) (t i) (q i)) (p i))

-- ---- the global lists of a stored graph

module _ {b : List ℕ} {z : Sizes} (s : Stored b z) where
  pub lists_are : ids_at b z (lists_from z) (z.sources + z.targets) ≡ (graph_of b).sources ++ (graph_of b).targets
  lists_are = let rows = stored_rows s in ids_next b z (lists_from z) z.sources z.targets ∙ (λ i. rows.sources i ++ rows.targets i)

  pub lists_read : Ids b z z.nodes (lists_from z) (z.sources + z.targets)
  lists_read = record {
    low = (stored_rows s).low;
    held = holds_less (stored_rows s).body_held _ (omega arith);
    known = rw lists_are (below_append _ (graph_of b).sources _ (stored_known s).sources (stored_known s).targets);
  }

-- ---- the plan's sizes

pub record Planned (g : Graph) (nodes : ℕ) (y : Sizes) (m : ℕ → Bool) : Type 0 where
  pub all : y.nodes ≡ after m nodes (entries g)
  pub edges : y.edges ≡ length g.edges + 2 * length (keep m (range 0 (length g.labels)))
  pub rows : lists_from y ≡ length (joined edge_row g.edges) + length (joined (both_rows (all_fresh m g nodes)) (keep m (range 0 nodes)))
  pub ports : ports g ≤ y.ports
  pub sources : y.sources ≡ length g.sources
  pub targets : y.targets ≡ length g.targets

pub planned : {g : Graph} {nodes : ℕ} {y : Sizes} {room : List ℕ} → Plan g nodes y room → Planned g nodes y (is_listed nodes (cells room))
planned {g} {nodes} {y} {room} p =
    let m = is_listed nodes (cells room) in
    let h = spiderized_at m g in
    let s = spidered_sizes g p.proper nodes (cells room) p.ids p.listed in
    let E = joined edge_row (freshened_edges m nodes g.edges) in
    let all = ap length (rows_are m g ∙ ap (rows_of m g) (sym p.count)) ∙ length-append E (joined (both_rows (all_fresh m g nodes)) (keep m (range 0 nodes))) in
    record {
      all = omega (arith, ap (λ (x : Sizes). x.nodes) p.sizes, s.nodes, p.count);
      edges = omega (arith, ap (λ (x : Sizes). x.edges) p.sizes, s.edges);
      rows = ap lists_from p.sizes ∙ omega (arith, length_edge_rows h.edges, all, rows_long m nodes g.edges);
      ports = omega (arith, ap (λ (x : Sizes). x.ports) p.sizes, s.ports);
      sources = ap (λ (x : Sizes). x.sources) p.sizes ∙ s.sources;
      targets = ap (λ (x : Sizes). x.targets) p.sizes ∙ s.targets;
    }

-- what a later pass needs, after one over the first entries
module _ {g : Graph} {nodes : ℕ} {y : Sizes} {room old : List ℕ} (p : Plan g nodes y room) (buffer : Room old y) where
  pub plan_ready : {k n : ℕ} (xs : List ℕ) {ns labels room' out : List ℕ} {step : Fresh → Fresh} {next : ℕ} → Pass (is_listed nodes (cells room)) nodes nodes (cells room) old labels y 0 xs ns step (cells room') out next
      → (new : List ℕ) → Ids new y nodes k n → length (keep (is_listed nodes (cells room)) xs) + length (keep (is_listed nodes (cells room)) (ids_at new y k n)) ≤ length (keep (is_listed nodes (cells room)) (entries g))
      → length room' ≡ length room → length new ≡ length old → Prepared y nodes k n next room' new
  plan_ready {k} {n} xs {room' = room'} pass new ids few e d = record {
    ids = ids;
    numbered = numbered_part xs (ids_at new y k n) pass p.numbered (omega (arith, (planned p).all)) room' e;
    buffer = room_same buffer new d;
  }

-- ---- the walk over the edges, in place

module _ {g : Graph} {nodes n : ℕ} {y : Sizes} {room₀ out₀ : List ℕ} (h : Laid g nodes n y room₀ out₀) (buffer : Room out₀ y) where
  pub walk_start : EdgesPassed g nodes y [] room₀ out₀ room₀ out₀ nodes
  walk_start = pass_none _ (λ F k x. refl) refl (omega (arith, (planned h.plan).all))

  edges_known : Below nodes (edge_entries g.edges)
  edges_known = subst (λ (n : ℕ). Below n (edge_entries g.edges)) (sym h.plan.count) (parts (length g.labels) g h.plan.proper.ids).edges

  module _ (room : List ℕ) {i k : ℕ} {out : List ℕ} {next : ℕ} (l : i < n) (at : k ≡ edge_start g.edges i) (p : EdgesPassed g nodes y (take i g.edges) room₀ out₀ room out next) (same : length out ≡ length out₀) where
    inside : i < length g.edges
    inside = omega (arith, h.count)

    -- the rows of the edges that are left stand where they stood
    stands : ids_at out y (edge_start g.edges i) (2 + (length (get_or g.edges i no_edge).sources + length (get_or g.edges i no_edge).targets)) ≡ edge_row (get_or g.edges i no_edge)
    stands = rest_kept p (edge_start g.edges i) _ (omega (arith, rows_long (is_listed nodes (cells room₀)) nodes (take i g.edges))) ∙ edge_row_lem out₀ y g.edges i inside h.copied.rows

    held : Holds out (body_of y) (length (joined edge_row g.edges))
    held = holds_same (holds_less buffer.body _ (omega (arith, (planned h.plan).rows))) out same

    pub walk_held : (r : Row) → r ≡ body_of y → Holds out r (k + 2)
    walk_held r is = edge_held y g.edges i k inside at held r is

    pub walk_met : (r : Row) → r ≡ body_of y → (e : EdgeAt) → e ≡ edge_in out r k → EdgeRead out y nodes g.edges i k e
    walk_met r is e met = edge_read y g.edges i k inside at held r is stands buffer.low nodes edges_known e met

    module _ {e : EdgeAt} (m : EdgeRead out y nodes g.edges i k e) where
      pub walk_ready : length room ≡ length room₀ → Prepared y nodes e.first (e.sources + e.targets) next room out
      walk_ready d =
          let t = is_listed nodes (cells room₀) in
          plan_ready h.plan buffer (edge_entries (take i g.edges)) p out m.ids (omega (arith, m.within t, keep_more t (edge_entries g.edges) (g.sources ++ g.targets))) d same

      pub walk_more : Below 256 out → (room' : List ℕ) {out' : List ℕ} {next' : ℕ} → Rewrites y nodes e.first (e.sources + e.targets) (more_two e.sources 1 2) next room out room' out' next'
          → EdgesPassed g nodes y (take (i + 1) g.edges) room₀ out₀ room' out' next'
      walk_more bytes room' {out'} {next'} q =
          let es = g.edges in
          let two : out ≡ puts out (body_of y) k (e.sources ∷ e.targets ∷ []) = sym (ap (puts out (body_of y) k) (sym m.counts) ∙ puts_there out (body_of y) k 2 bytes (walk_held (body_of y) refl)) in
          subst (λ (t : List Edge). EdgesPassed g nodes y t room₀ out₀ room' out' next') (sym (take_edges es i inside))
          (pass_edge (take i es) (get_or es i no_edge) p m.are m.sources m.targets at two m.first (pass_same (more_two e.sources 1 2) (labels_kept p (omega arith) ∙ h.copied.labels) refl q))

  pub walk_done : (room : List ℕ) {i : ℕ} {out : List ℕ} {next : ℕ} → i ≡ n → EdgesPassed g nodes y (take i g.edges) room₀ out₀ room out next → EdgesPassed g nodes y g.edges room₀ out₀ room out next
  walk_done room {i} {out} {next} e p = subst (λ (t : List Edge). EdgesPassed g nodes y t room₀ out₀ room out next) (all_edges g.edges i (e ∙ h.count)) p

-- ---- all lists rewritten

no_pairs : (ps : List (ℕ × ℕ)) → length ps ≡ 0 → flat ps ≡ []
no_pairs [] e = refl
no_pairs (p ∷ ps) e = absurd (omega arith)

-- what the passes over the edges and over the global lists leave
pub record AllRewritten (g : Graph) (nodes : ℕ) (y : Sizes) (m : ℕ → Bool) (old X out : List ℕ) (end : ℕ) : Type 0 where
  pub same : is_listed nodes X ≡ m
  pub linked : Linked nodes X end (all_fresh m g nodes)
  pub number : end ≡ y.nodes
  pub done : {at : ℕ} → at ≡ length (joined edge_row g.edges) → {r : Row} {new : List ℕ} {next : ℕ} → r ≡ body_of y → Put out r at (spiders nodes X (all_fresh m g nodes) nodes) new next
      → new ≡ puts (puts old (labels_of y) nodes (labelled g.labels m (entries g))) (body_of y) 0 (body (spiderized_at m g))

pub all_rewritten : {g : Graph} {nodes : ℕ} {y : Sizes} {room old o₁ o₂ X₁ X₂ ids : List ℕ} {next end : ℕ} (p : Plan g nodes y room)
    → Pass (is_listed nodes (cells room)) nodes nodes (cells room) old g.labels y 0 (edge_entries g.edges) (joined edge_row (freshened_edges (is_listed nodes (cells room)) nodes g.edges))
    (more_edges (is_listed nodes (cells room)) nodes g.edges) X₁ o₁ next
    → Pass (is_listed nodes X₁) nodes next X₁ o₁ g.labels y (lists_from y) ids (freshened (is_listed nodes X₁) next ids) (more_two y.sources 0 3 (is_listed nodes X₁) next ids) X₂ o₂ end
    → ids ≡ g.sources ++ g.targets → AllRewritten g nodes y (is_listed nodes (cells room)) old X₂ o₂ end
all_rewritten {g} {nodes} {y} {room} {old} {o₁} {o₂} {X₁} {X₂} {ids} {next} {end} p first second is =
    let m = is_listed nodes (cells room) in
    let n = nodes in
    let l = labels_of y in
    let r = body_of y in
    let es = edge_entries g.edges in
    let lists = g.sources ++ g.targets in
    let N = after m n es in
    let plan = planned p in
    let q = later (more_two y.sources 0 3) first.same second in
    let fits : after m next lists ≤ y.nodes = subst (λ (xs : List ℕ). after m next xs ≤ y.nodes) is (omega (arith, q.number, q.within)) in
    let E = joined edge_row (freshened_edges m n g.edges) in
    let R = joined (both_rows (all_fresh m g n)) (keep m (range 0 n)) in
    let A = puts old l n (labelled g.labels m (entries g)) in
    let J = length (joined edge_row g.edges) in
    let start : J ≡ 0 + length E = omega (arith, rows_long m n g.edges) in
    let pairs : flat g.pairs ≡ [] = no_pairs g.pairs p.unpaired in
    record {
      same = q.same;
      linked = linked_same n X₂ end end _ (all_fresh m g n) (omega arith)
          (λ x c t. (λ i. more_two y.sources 0 3 m (first.number i) (is i) (more_edges m n g.edges (λ k x. [])) c x) ∙ two_whole m y.sources 0 3 N g.sources g.targets plan.sources (more_edges m n g.edges (λ k x. [])) c x)
          (q.chains _ (first.chains _ p.empty));
      number = q.number ∙ (λ i. after m (first.number i) (is i)) ∙ sym (after_append m n es lists) ∙ sym plan.all;
      done = λ is_at is_r put.
          put.stored ∙ (λ i. puts o₂ (is_r i) (is_at i) (joined (both_rows (all_fresh m g n)) (keep (q.same i) (range 0 n))))
          ∙ ap (λ (o : List ℕ). puts o r J R)
          (q.stored ∙ (λ i. puts (puts (first.stored i) l next (labelled g.labels m (is i))) r (lists_from y) (freshened m (first.number i) (is i)))
          ∙ ap (λ (o : List ℕ). puts o r (lists_from y) (lists_of m g n)) (labels_on m g.labels y old n 0 next es lists E first.number fits))
          ∙ puts_before (puts A r 0 E) r J (lists_from y) R (lists_of m g n) (sym plan.rows) ∙ ap (λ (i : ℕ). puts (puts A r 0 E) r i (R ++ lists_of m g n)) start
          ∙ puts_append A r 0 E (R ++ lists_of m g n) ∙ ap (puts A r 0) (sym (append_assoc E R (lists_of m g n)) ∙ ap (λ (i : ℕ). rows_of m g i ++ lists_of m g i) p.count ∙ sym (body_is m g pairs));
    }

module _ {g : Graph} {nodes n : ℕ} {y : Sizes} {room₀ out₀ : List ℕ} (h : Laid g nodes n y room₀ out₀) (buffer : Room out₀ y) where
  -- after the edges the global lists stand where they stood
  lists_stand : (room : List ℕ) {out : List ℕ} {next : ℕ} → EdgesPassed g nodes y g.edges room₀ out₀ room out next → ids_at out y (lists_from y) (y.sources + y.targets) ≡ g.sources ++ g.targets
  lists_stand room p = rest_kept p (lists_from y) _ (omega (arith, rows_long (is_listed nodes (cells room₀)) nodes g.edges, (planned h.plan).rows)) ∙ h.copied.lists

  pub lists_ready : {room out : List ℕ} {next : ℕ} → EdgesPassed g nodes y g.edges room₀ out₀ room out next → length room ≡ length room₀ → length out ≡ length out₀
      → Prepared y nodes (lists_from y) (y.sources + y.targets) next room out
  lists_ready {room} {out} p e d =
      let m = is_listed nodes (cells room₀) in
      let all = parts (length g.labels) g h.plan.proper.ids in
      let few = keep_more m (edge_entries g.edges) (g.sources ++ g.targets) in
      let is = lists_stand room p in
      let same = ap (λ (xs : List ℕ). length (keep m xs)) is in
      plan_ready h.plan buffer (edge_entries g.edges) p out
      (record {
        low = buffer.low;
        held = holds_same (holds_less buffer.body _ (omega arith)) out d;
        known = rw (is, h.plan.count) (below_append _ g.sources _ all.sources all.targets);
      })
      (omega arith) e d

  pub lists_passed : (room room' : List ℕ) {out out' : List ℕ} {next next' : ℕ} → EdgesPassed g nodes y g.edges room₀ out₀ room out next
      → Rewrites y nodes (lists_from y) (y.sources + y.targets) (more_two y.sources 0 3) next room out room' out' next' → AllRewritten g nodes y (is_listed nodes (cells room₀)) out₀ (cells room') out' next'
  lists_passed room room' p q = all_rewritten h.plan p (pass_same (more_two y.sources 0 3) (labels_kept p (omega arith) ∙ h.copied.labels) refl q) (lists_stand room p)

-- ---- all that was written

-- the header and labels, with the labels of the fresh nodes between them, and all counts and ids
pub drawn_done : {g : Graph} {nodes : ℕ} {y : Sizes} {room : List ℕ} (p : Plan g nodes y room) (old : List ℕ)
    → puts (puts (fronted old y g (spidered g nodes (cells room))) (labels_of y) nodes (labelled g.labels (is_listed nodes (cells room)) (entries g))) (body_of y) 0 (body (spidered g nodes (cells room)))
    ≡ drawn old y (label_row (spidered g nodes (cells room))) (body (spidered g nodes (cells room)))
unfolding fronted drawn
drawn_done {g} {nodes} {y} {room} p old =
    let m = is_listed nodes (cells room) in
    let h = spidered g nodes (cells room) in
    let l = labels_of y in
    let F = labelled g.labels m (entries g) in
    let C = map (λ (e : Edge). e.label) h.edges in
    let front = puts (headed old y) l 0 g.labels in
    let end : nodes + length F ≡ y.nodes = omega (arith, (planned p).all, length_labelled g.labels m (entries g)) in
    let start : nodes ≡ 0 + length g.labels = omega (arith, p.count) in
    ap (λ (o : List ℕ). puts o (body_of y) 0 (body h))
    (puts_before front l nodes y.nodes F C end ∙ ap (λ (i : ℕ). puts front l i (F ++ C)) start ∙ puts_append (headed old y) l 0 g.labels (F ++ C) ∙ ap (puts (headed old y) l 0) (sym (append_assoc g.labels F C)))

-- ---- what was copied

length_fronted : (old : List ℕ) (y : Sizes) (g h : Graph) → length (fronted old y g h) ≡ length old
unfolding fronted
length_fronted old y g h = length_puts (puts (headed old y) (labels_of y) 0 g.labels) (labels_of y) y.nodes (map (λ (e : Edge). e.label) h.edges) ∙ length_puts (headed old y) (labels_of y) 0 g.labels ∙ length_headed old y

-- the numbers of a result have room in its width
small_sizes : (y : Sizes) → y ≡ fitted (counts_of y) y.ports → Low y → (y.nodes < 256 ^ y.width) × (y.ports < 256 ^ y.width)
small_sizes y is low = go (sizes_fit form1 (counts_of y) y.ports) refl
  where
    go : (c : Bool) → sizes_fit form1 (counts_of y) y.ports ≡ c → (y.nodes < 256 ^ y.width) × (y.ports < 256 ^ y.width)
    go true e =
        let w : 2 ≡ y.width = sym (ap (λ (z : Sizes). z.width) is ∙ ap (λ (f : Format). f.width) (fitting_first (counts_of y) y.ports e)) in
        let l = (and-eq-true_iff (counts_fit form1 (counts_of y)) (leb y.ports form1.most_ports)).0 e in
        let c = fits_within form1 (counts_of y) l.0 in
        let p = leb-true y.ports form1.most_ports l.1 in
        subst (λ (w : ℕ). (y.nodes < 256 ^ w) × (y.ports < 256 ^ w)) w (omega (arith, c.nodes), omega arith)
    go false e =
        let w : 4 ≡ y.width = sym (ap (λ (z : Sizes). z.width) is ∙ ap (λ (f : Format). f.width) (fitting_second (counts_of y) y.ports e)) in
        subst (λ (w : ℕ). (y.nodes < 256 ^ w) × (y.ports < 256 ^ w)) w (omega (arith, low.nodes), omega (arith, low.ports))

module _ {g : Graph} {nodes : ℕ} {y : Sizes} {room : List ℕ} (p : Plan g nodes y room) (old : List ℕ) (buffer : Room old y) where
  -- the labels, the rows of the edges and the global lists, where they were put
  pub copied_done : {o₁ o₂ : List ℕ} → o₁ ≡ fronted old y g (spidered g nodes (cells room)) → o₂ ≡ puts (puts o₁ (body_of y) 0 (joined edge_row g.edges)) (body_of y) (lists_from y) (g.sources ++ g.targets)
      → Copied g nodes y o₂
  unfolding fronted
  copied_done {o₁} {o₂} e₁ e₂ =
      let q = planned p in
      let h = spidered g nodes (cells room) in
      let r = body_of y in
      let l = labels_of y in
      let J = joined edge_row g.edges in
      let L = g.sources ++ g.targets in
      let A = puts (headed old y) l 0 g.labels in
      let C = map (λ (e : Edge). e.label) h.edges in
      let few = small_sizes y buffer.fits buffer.low in
      let many : length L ≡ y.sources + y.targets = length-append g.sources g.targets ∙ omega (arith, q.sources, q.targets) in
      let below : length J ≤ lists_from y = omega (arith, q.rows) in
      let all = parts (length g.labels) g p.proper.ids in
      let widen : (xs : List ℕ) → Below (length g.labels) xs → Below (256 ^ y.width) xs = λ xs. below_widen xs (omega (arith, p.count, q.all, few.0)) in
      let long : length o₁ ≡ length old = ap length e₁ ∙ length_fronted old y g h in
      let first : labels_in o₁ y nodes ≡ g.labels =
      ap (λ (o : List ℕ). labels_in o y nodes) e₁ ∙ span_ahead A l l y.nodes 0 nodes C (omega (arith, q.all))
      ∙ ap (λ (n : ℕ). span A l 0 n) p.count
      ∙ span_puts (headed old y) l 0 g.labels p.proper.node_labels (holds_same (holds_less buffer.labels _ (omega (arith, p.count, q.all))) (headed old y) (length_headed old y)) in
      record {
        labels = ap (λ (o : List ℕ). labels_in o y nodes) e₂ ∙ span_ahead (puts o₁ r 0 J) r l (lists_from y) 0 nodes L (omega (arith, q.all)) ∙ span_ahead o₁ r l 0 0 nodes J (omega (arith, q.all)) ∙ first;
        rows = ap (λ (o : List ℕ). ids_at o y 0 (length J)) e₂ ∙ span_ahead (puts o₁ r 0 J) r r (lists_from y) 0 (length J) L (omega (arith, mul-le-mul_right y.width below))
            ∙ span_puts o₁ r 0 J (edge_rows_below _ g.edges (omega (arith, q.ports, few.1)) (widen (edge_entries g.edges) all.edges)) (holds_same (holds_less buffer.body _ (omega (arith, q.rows))) o₁ long);
        lists = ap (λ (o : List ℕ). ids_at o y (lists_from y) (y.sources + y.targets)) e₂ ∙ ap (ids_at (puts (puts o₁ r 0 J) r (lists_from y) L) y (lists_from y)) (sym many)
            ∙ span_puts (puts o₁ r 0 J) r (lists_from y) L (below_append _ g.sources _ (widen g.sources all.sources) (widen g.targets all.targets))
            (holds_same (holds_less buffer.body _ (omega (arith, many))) (puts o₁ r 0 J) (length_puts o₁ r 0 J ∙ long));
      }

  -- what was copied is written over: the result is as if it had not been put
  pub copied_over : (o₁ o₂ F B : List ℕ) → length o₁ ≡ length old → o₂ ≡ puts (puts o₁ (body_of y) 0 (joined edge_row g.edges)) (body_of y) (lists_from y) (g.sources ++ g.targets) → nodes + length F ≡ y.nodes
      → length B ≡ body_size y → puts (puts o₂ (labels_of y) nodes F) (body_of y) 0 B ≡ puts (puts o₁ (labels_of y) nodes F) (body_of y) 0 B
  copied_over o₁ o₂ F B long e₂ end size =
      let q = planned p in
      let r = body_of y in
      let l = labels_of y in
      let J = joined edge_row g.edges in
      let L = g.sources ++ g.targets in
      let many : length L ≡ y.sources + y.targets = length-append g.sources g.targets ∙ omega (arith, q.sources, q.targets) in
      let D = puts o₁ l nodes F in
      let whole : (o : List ℕ) → length o ≡ length old → Holds o r (0 + length B) = λ o e. holds_same (holds_less buffer.body _ (omega arith)) o e in
      ap (λ (o : List ℕ). puts (puts o l nodes F) r 0 B) e₂
      ∙ ap (λ (o : List ℕ). puts o r 0 B) (puts_swap (puts o₁ r 0 J) l r nodes (lists_from y) F L (omega arith) ∙ ap (λ (o : List ℕ). puts o r (lists_from y) L) (puts_swap o₁ l r nodes 0 F J (omega arith)))
      ∙ puts_over (puts D r 0 J) r (lists_from y) 0 L B (omega arith) (omega (arith, many)) (whole (puts D r 0 J) (length_puts D r 0 J ∙ length_puts o₁ l nodes F ∙ long))
      ∙ puts_over D r 0 0 J B (omega arith) (omega (arith, q.rows)) (whole D (length_puts o₁ l nodes F ∙ long))

  -- the labels of the fresh nodes, and all counts and ids, put over what was copied: the whole form
  pub written_done : {o₁ o₂ : List ℕ} → o₁ ≡ fronted old y g (spidered g nodes (cells room)) → o₂ ≡ puts (puts o₁ (body_of y) 0 (joined edge_row g.edges)) (body_of y) (lists_from y) (g.sources ++ g.targets)
      → puts (puts o₂ (labels_of y) nodes (labelled g.labels (is_listed nodes (cells room)) (entries g))) (body_of y) 0 (body (spidered g nodes (cells room)))
      ≡ drawn old y (label_row (spidered g nodes (cells room))) (body (spidered g nodes (cells room)))
  written_done {o₁} {o₂} e₁ e₂ =
      let m = is_listed nodes (cells room) in
      let h = spidered g nodes (cells room) in
      let F = labelled g.labels m (entries g) in
      copied_over o₁ o₂ F (body h) (ap length e₁ ∙ length_fronted old y g h) e₂ (omega (arith, (planned p).all, length_labelled g.labels m (entries g))) (length_body h ∙ sym (ap body_size p.sizes))
      ∙ ap (λ (o : List ℕ). puts (puts o (labels_of y) nodes F) (body_of y) 0 (body h)) e₁ ∙ drawn_done p old

-- ---- how many fresh nodes

-- there are no more fresh nodes than entries
pub fresh_few : {b : List ℕ} {z : Sizes} → Stored b z → (m : ℕ → Bool)
    → (length (keep m (edge_entries (graph_of b).edges)) ≤ z.ports) × (length (keep m (ids_at b z (lists_from z) (z.sources + z.targets))) ≤ z.sources + z.targets)
fresh_few {b} {z} s m = (
  omega (arith, keep_few m (edge_entries (graph_of b).edges), ap (λ (y : Sizes). y.ports) s.sizes),
  omega (arith, keep_few m (ids_at b z (lists_from z) (z.sources + z.targets)), length_span b (body_of z) (lists_from z) (z.sources + z.targets)),
)
