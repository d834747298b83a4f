-- Entries in the row of a stored graph, and lists rewritten one part after the other: fresh nodes, the entries of a node, the rows of the edges.
-- Assumes nothing.
use mathlib.Core.Bool.{Bool, true, false, cond}
use mathlib.Core.List.{List, [], ◌∷◌, ◌++◌, append-nil, append_assoc, map, map-append}
use mathlib.Core.Path.{◌≡◌, refl, sym, ap, ◌∙◌, subst}
use Prim.Native.Nat.{ℕ, suc, ◌+◌, ◌-◌, ◌≤◌, ◌<◌}
use native.Mathlib.Nat.{add-zero, zero-add}
use native.Mathlib.Omega.{arith}
use lib.Dec.{eqb, ltb}
use lib.ListN.{length, get_or, take, drop, length-append, length-map, take-append-drop, drop_of_length-le}
use lib.Seq.{take-length, take_all, take-append-le, take-append_seam, drop-append-le, take_at, drop_at}
use borrow.Author.Tests.{ltb-true, ltb-false}
use Rattle.form.specs.Form.{Low, body_of, body_size, lists_from, edge_in}
use Rattle.form.specs.Stored.{graph_of, Stored}
use Rattle.form.specs.declared.EdgeAt.{EdgeAt}
use Rattle.form.specs.declared.Sizes.{Sizes}
use Rattle.form.proofs.Stored.{stored_rows}
use Rattle.graph.specs.Form.{edge_row, edge_start, no_edge}
use Rattle.graph.specs.Graph.{Edge, edge_entries, edge_sources, edge_targets}
use Rattle.graph.specs.Lists.{keep, joined}
use Rattle.graph.specs.Spider.{freshened, after, freshened_edges, entries_of}
use Rattle.le.specs.Le.{Below}
use Rattle.le.specs.Rows.{Holds, entry}
use Rattle.le.specs.declared.Row.{Row}
use Rattle.rewriting.specs.Rewriting.{ids_at, Ids, labelled, Fresh, more, kind_at, more_two, more_edges}
use Rattle.graph.proofs.Laws.{joined_append, joined_at, joined_split}
use Rattle.graph.proofs.Rows.{length_edge_rows, take_edges, at_edge}
use Rattle.graph.proofs.Spiders.{keep_append, after_append}
use Rattle.le.proofs.Numbers.{below_front, below_back}
use Rattle.le.proofs.Rows.{holds_less, length_span, span_append, span_one, span_at, span_part}
use Rattle.links.proofs.Cells.{keep_more}

-- ---- entries in the row

module _ (b : List ℕ) (z : Sizes) (j : ℕ) where
  pub ids_next : (i k : ℕ) → ids_at b z j (i + k) ≡ ids_at b z j i ++ ids_at b z (j + i) k
  ids_next i k = span_append b (body_of z) j i k

  module _ (n i k : ℕ) (l : i + k ≤ n) where
    split : ids_at b z j n ≡ (ids_at b z j i ++ ids_at b z (j + i) k) ++ ids_at b z (j + (i + k)) (n - (i + k))
    split =
        let e : n ≡ i + k + (n - (i + k)) = omega arith in
        ap (ids_at b z j) e ∙ ids_next (i + k) (n - (i + k)) ∙ ap (λ (xs : List ℕ). xs ++ ids_at b z (j + (i + k)) (n - (i + k))) (ids_next i k)

    pub ids_part : {nodes : ℕ} → Ids b z nodes j n → Ids b z nodes (j + i) k
    ids_part {nodes} h = record {
      low = h.low;
      held = holds_less h.held _ (omega arith);
      known = below_back _ (ids_at b z j i) _ (below_front _ (ids_at b z j i ++ ids_at b z (j + i) k) _ (subst (Below nodes) split h.known));
    }

    pub kept_within : (m : ℕ → Bool) → length (keep m (ids_at b z j i)) + length (keep m (ids_at b z (j + i) k)) ≤ length (keep m (ids_at b z j n))
    kept_within m =
        omega (
          arith,
          ap (λ (xs : List ℕ). length (keep m xs)) split ∙ keep_more m (ids_at b z j i ++ ids_at b z (j + i) k) (ids_at b z (j + (i + k)) (n - (i + k))),
          keep_more m (ids_at b z j i) (ids_at b z (j + i) k),
        )

-- an entry that was read
module _ (b : List ℕ) (z : Sizes) (j : ℕ) (r : Row) (is : r ≡ body_of z) (id : ℕ) (e : id ≡ entry b r j) where
  pub entry_is : ids_at b z j 1 ≡ id ∷ []
  entry_is = span_one b (body_of z) j ∙ ap (λ (x : ℕ). x ∷ []) (sym (e ∙ ap (λ (r : Row). entry b r j) is))

  pub entry_known : {nodes : ℕ} → Ids b z nodes j 1 → id < nodes
  entry_known {nodes} h = (subst (Below nodes) entry_is h.known).0

-- labels after labels
module _ (labels : List ℕ) (m : ℕ → Bool) where
  pub length_labelled : (xs : List ℕ) → length (labelled labels m xs) ≡ length (keep m xs)
  length_labelled xs = length-map (keep m xs) (λ (id : ℕ). get_or labels id 0)

  pub labelled_append : (xs ys : List ℕ) → labelled labels m (xs ++ ys) ≡ labelled labels m xs ++ labelled labels m ys
  labelled_append xs ys = ap (map (λ (id : ℕ). get_or labels id 0)) (keep_append m xs ys) ∙ map-append (λ (id : ℕ). get_or labels id 0) (keep m xs) (keep m ys)

-- ---- the walk over edges

-- an edge that was met on the walk: where its ids stand, and that they are its own
pub record EdgeRead (b : List ℕ) (z : Sizes) (nodes : ℕ) (es : List Edge) (i k : ℕ) (e : EdgeAt) : Type 0 where
  pub sources : e.sources ≡ length (get_or es i no_edge).sources
  pub targets : e.targets ≡ length (get_or es i no_edge).targets
  pub first : e.first ≡ k + 2
  pub end : e.end ≡ edge_start es (i + 1)
  pub next : e.end ≡ e.first + (e.sources + e.targets)
  pub ids : Ids b z nodes e.first (e.sources + e.targets)
  pub counts : ids_at b z k 2 ≡ e.sources ∷ e.targets ∷ []
  pub are : ids_at b z e.first (e.sources + e.targets) ≡ (get_or es i no_edge).sources ++ (get_or es i no_edge).targets
  pub inside : e.end ≤ length (joined edge_row es)
  pub few : e.sources + e.targets ≤ length (edge_entries es)
  pub sofar : edge_entries (take (i + 1) es) ≡ edge_entries (take i es) ++ ids_at b z e.first (e.sources + e.targets)
  pub within : (m : ℕ → Bool) → length (keep m (edge_entries (take i es))) + length (keep m (ids_at b z e.first (e.sources + e.targets))) ≤ length (keep m (edge_entries es))

-- the row of an edge among the rows of edges
pub edge_row_lem : (b : List ℕ) (z : Sizes) (es : List Edge) (i : ℕ) → i < length es → ids_at b z 0 (length (joined edge_row es)) ≡ joined edge_row es
    → ids_at b z (edge_start es i) (2 + (length (get_or es i no_edge).sources + length (get_or es i no_edge).targets)) ≡ edge_row (get_or es i no_edge)
edge_row_lem b z es i l rows =
    let d = get_or es i no_edge in
    let n = 2 + (length d.sources + length d.targets) in
    let a = at_edge es [] i l in
    ap (λ (j : ℕ). ids_at b z j n) (sym (zero-add (edge_start es i))) ∙ sym (span_part b (body_of z) 0 (length (joined edge_row es)) (edge_start es i) n (omega (arith, a.next, a.inside)))
    ∙ ap (λ (xs : List ℕ). take n (drop (edge_start es i) xs)) (rows ∙ sym (append-nil (joined edge_row es))) ∙ a.whole

module _ {b : List ℕ} (z : Sizes) (es : List Edge) (i k : ℕ) (l : i < length es) (at : k ≡ edge_start es i) (held : Holds b (body_of z) (length (joined edge_row es)))
    (r : Row) (is : r ≡ body_of z) where
  pub edge_held : Holds b r (k + 2)
  edge_held = let a = at_edge es [] i l in rw is (holds_less held (k + 2) (omega (arith, a.next, a.inside)))

  pub edge_read : ids_at b z (edge_start es i) (2 + (length (get_or es i no_edge).sources + length (get_or es i no_edge).targets)) ≡ edge_row (get_or es i no_edge)
      → Low z → (nodes : ℕ) → Below nodes (edge_entries es) → (e : EdgeAt) → e ≡ edge_in b r k → EdgeRead b z nodes es i k e
  unfolding edge_in
  edge_read stands low nodes known e met =
      let d = get_or es i no_edge in
      let a = at_edge es [] i l in
      let entries : Edge → List ℕ = λ d. d.sources ++ d.targets in
      let m = length d.sources + length d.targets in
      let row : ids_at b z k (2 + m) ≡ edge_row d = ap (λ (j : ℕ). ids_at b z j (2 + m)) at ∙ stands in
      let c : e ≡ edge_in b (body_of z) k = met ∙ ap (λ (r : Row). edge_in b r k) is in
      let sources : e.sources ≡ length d.sources = ap (λ (d : EdgeAt). d.sources) c ∙ ap (entry b (body_of z)) (sym (add-zero k)) ∙ sym (span_at b (body_of z) k (2 + m) 0 (omega arith)) ∙ ap (λ (xs : List ℕ). get_or xs 0 0) row in
      let targets : e.targets ≡ length d.targets = ap (λ (d : EdgeAt). d.targets) c ∙ sym (span_at b (body_of z) k (2 + m) 1 (omega arith)) ∙ ap (λ (xs : List ℕ). get_or xs 1 0) row in
      let first : e.first ≡ k + 2 = ap (λ (d : EdgeAt). d.first) c in
      let next : e.end ≡ e.first + (e.sources + e.targets) = rw met (omega arith) in
      let end : e.end ≡ edge_start es (i + 1) = omega (arith, a.next) in
      let n = e.sources + e.targets in
      let many : n ≡ m = omega arith in
      let both : ids_at b z e.first n ≡ entries d = (λ x. ids_at b z (first x) (many x)) ∙ sym (span_part b (body_of z) k (2 + m) 2 m (omega arith)) ∙ ap (λ (xs : List ℕ). take m (drop 2 xs)) row
      ∙ take_all m (entries d) (omega (arith, length-append d.sources d.targets)) in
      let counts : ids_at b z k 2 ≡ e.sources ∷ e.targets ∷ [] = ap (λ (j : ℕ). ids_at b z j 2) (sym (add-zero k)) ∙ sym (span_part b (body_of z) k (2 + m) 0 2 (omega arith)) ∙ ap (λ (xs : List ℕ). take 2 (drop 0 xs)) row
      ∙ sym (λ x. sources x ∷ targets x ∷ []) in
      let here : Below nodes (entries d) = below_front nodes (entries d) _ (below_back nodes (edge_entries (take i es)) _ (subst (Below nodes) (joined_at entries es i no_edge l) known)) in
      let sofar : edge_entries (take (i + 1) es) ≡ edge_entries (take i es) ++ ids_at b z e.first n =
      ap edge_entries (take_edges es i l) ∙ joined_append entries (take i es) (d ∷ []) ∙ ap (λ (xs : List ℕ). edge_entries (take i es) ++ xs) (append-nil (entries d) ∙ sym both) in
      record {
        sources = sources;
        targets = targets;
        first = first;
        end = end;
        next = next;
        ids = record { low = low; held = holds_less held _ (omega (arith, a.inside)); known = rw both here };
        counts = counts;
        are = both;
        inside = omega (arith, a.inside);
        few =
            omega (
              arith,
              ap length sofar ∙ length-append (edge_entries (take i es)) (ids_at b z e.first n),
              length_span b (body_of z) e.first n,
              ap length (sym (joined_split entries (i + 1) es)) ∙ length-append (edge_entries (take (i + 1) es)) (edge_entries (drop (i + 1) es)),
            );
        sofar = sofar;
        within = λ m.
            omega (
              arith,
              sym (keep_more m (edge_entries (take i es)) (ids_at b z e.first n)) ∙ ap (λ (xs : List ℕ). length (keep m xs)) (sym sofar),
              ap (λ (xs : List ℕ). length (keep m xs)) (sym (joined_split entries (i + 1) es)) ∙ keep_more m (edge_entries (take (i + 1) es)) (edge_entries (drop (i + 1) es)),
            );
      }

-- ---- the rows of a stored graph

module _ {b : List ℕ} {z : Sizes} (s : Stored b z) where
  pub rows_size : length (joined edge_row (graph_of b).edges) ≡ lists_from z
  rows_size = length_edge_rows (graph_of b).edges ∙ sym (ap lists_from s.sizes)

  pub rows_stored : ids_at b z 0 (length (joined edge_row (graph_of b).edges)) ≡ joined edge_row (graph_of b).edges
  rows_stored =
      let n = length (joined edge_row (graph_of b).edges) in
      sym (span_part b (body_of z) 0 (body_size z) 0 n (omega (arith, rows_size))) ∙ ap (λ (xs : List ℕ). take n (drop 0 xs)) (stored_rows s).body
      ∙ take-append_seam (joined edge_row (graph_of b).edges) _

  pub rows_held : Holds b (body_of z) (length (joined edge_row (graph_of b).edges))
  rows_held = holds_less (stored_rows s).body_held _ (omega (arith, rows_size))

  pub edges_counted : length (graph_of b).edges ≡ z.edges
  edges_counted = sym (ap (λ (y : Sizes). y.edges) s.sizes)

-- all edges were met
pub all_edges : (es : List Edge) (i : ℕ) → i ≡ length es → take i es ≡ es
all_edges es i e = ap (λ (n : ℕ). take n es) e ∙ take-length es

-- ---- fresh nodes, one part after the other

module _ (m : ℕ → Bool) where
  pub length_freshened : (next : ℕ) (xs : List ℕ) → length (freshened m next xs) ≡ length xs
  length_freshened next [] = refl
  length_freshened next (x ∷ xs) = pick (m x) (λ k. length_freshened k xs)
    where
      pick : (c : Bool) → ((k : ℕ) → length (freshened m k xs) ≡ length xs)
          → length (cond c (next ∷ freshened m (suc next) xs) (x ∷ freshened m next xs)) ≡ suc (length xs)
      pick true ih = ap suc (ih (suc next))
      pick false ih = ap suc (ih next)

  pub freshened_append : (next : ℕ) (xs ys : List ℕ) → freshened m next (xs ++ ys) ≡ freshened m next xs ++ freshened m (after m next xs) ys
  freshened_append next [] ys = rw (add-zero next)
  freshened_append next (x ∷ xs) ys = pick (m x) (λ k. freshened_append k xs ys)
    where
      pick : (c : Bool) → ((k : ℕ) → freshened m k (xs ++ ys) ≡ freshened m k xs ++ freshened m (after m k xs) ys)
          → cond c (next ∷ freshened m (suc next) (xs ++ ys)) (x ∷ freshened m next (xs ++ ys))
          ≡ cond c (next ∷ freshened m (suc next) xs) (x ∷ freshened m next xs) ++ freshened m (next + length (cond c (x ∷ keep m xs) (keep m xs))) ys
      pick true ih =
          let e : suc next + length (keep m xs) ≡ next + suc (length (keep m xs)) = omega arith in
          ap (λ (r : List ℕ). next ∷ r) (ih (suc next) ∙ ap (λ (k : ℕ). freshened m (suc next) xs ++ freshened m k ys) e)
      pick false ih = ap (λ (r : List ℕ). x ∷ r) (ih next)

  pub keep_few : (xs : List ℕ) → length (keep m xs) ≤ length xs
  keep_few [] = omega arith
  keep_few (x ∷ xs) = pick (m x) (keep_few xs)
    where
      pick : (c : Bool) → length (keep m xs) ≤ length xs → length (cond c (x ∷ keep m xs) (keep m xs)) ≤ suc (length xs)
      pick true h = omega arith
      pick false h = omega arith

entries_append : (x : ℕ) (old old' new new' : List ℕ) → length old ≡ length new → entries_of x (old ++ old') (new ++ new') ≡ entries_of x old new ++ entries_of x old' new'
entries_append x [] old' [] new' e = refl
entries_append x [] old' (y ∷ new) new' e = absurd (omega arith)
entries_append x (o ∷ old) old' [] new' e = absurd (omega arith)
entries_append x (o ∷ old) old' (y ∷ new) new' e = pick (eqb x o) (entries_append x old old' new new' (omega arith))
  where
    pick : (c : Bool) → entries_of x (old ++ old') (new ++ new') ≡ entries_of x old new ++ entries_of x old' new'
        → cond c (y ∷ entries_of x (old ++ old') (new ++ new')) (entries_of x (old ++ old') (new ++ new')) ≡ cond c (y ∷ entries_of x old new) (entries_of x old new) ++ entries_of x old' new'
    pick true ih = ap (λ (r : List ℕ). y ∷ r) ih
    pick false ih = ih

-- no entries
none_more : (m : ℕ → Bool) (kind next : ℕ) (F : Fresh) (k x : ℕ) → F k x ≡ more kind m next [] F k x
none_more m kind next F k x = go (eqb k kind)
  where
    go : (c : Bool) → F k x ≡ cond c (F k x ++ []) (F k x)
    go true = sym (append-nil (F k x))
    go false = refl

module _ (m : ℕ → Bool) where
  -- entries after entries of the same kind
  pub more_append : (kind next : ℕ) (xs ys : List ℕ) (F : Fresh) (k x : ℕ) → more kind m (after m next xs) ys (more kind m next xs F) k x ≡ more kind m next (xs ++ ys) F k x
  more_append kind next xs ys F k x = go (eqb k kind)
    where
      A : List ℕ
      A = entries_of x xs (freshened m next xs)

      B : List ℕ
      B = entries_of x ys (freshened m (after m next xs) ys)

      go : (c : Bool) → cond c (cond c (F k x ++ A) (F k x) ++ B) (cond c (F k x ++ A) (F k x)) ≡ cond c (F k x ++ entries_of x (xs ++ ys) (freshened m next (xs ++ ys))) (F k x)
      go true =
          append_assoc (F k x) A B
          ∙ ap (λ (r : List ℕ). F k x ++ r) (sym (ap (entries_of x (xs ++ ys)) (freshened_append m next xs ys) ∙ entries_append x xs ys (freshened m next xs) (freshened m (after m next xs) ys) (sym (length_freshened m next xs))))
      go false = refl

  -- one entry more of two lists: it is of the first kind while the first list is not passed
  pub two_more : (first a b next : ℕ) (xs ys : List ℕ) → length ys ≡ 1 → (F : Fresh) (k x : ℕ)
      → more (kind_at first a b (length xs)) m (after m next xs) ys (more_two first a b m next xs F) k x ≡ more_two first a b m next (xs ++ ys) F k x
  two_more first a b next xs ys one F k x = go (ltb (length xs) first) refl
    where
      N : ℕ
      N = after m next (take first xs)

      G : Fresh
      G = more a m next (take first xs) F

      go : (c : Bool) → ltb (length xs) first ≡ c → more (cond c a b) m (after m next xs) ys (more_two first a b m next xs F) k x ≡ more_two first a b m next (xs ++ ys) F k x
      go true e =
          let l = ltb-true (length xs) first e in
          let n = length-append xs ys in
          let t : take first xs ≡ xs = take_all first xs (omega arith) in
          let d : drop first xs ≡ [] = drop_of_length-le xs {i = first} (omega arith) in
          let t' : take first (xs ++ ys) ≡ xs ++ ys = take_all first (xs ++ ys) (omega arith) in
          let d' : drop first (xs ++ ys) ≡ [] = drop_of_length-le (xs ++ ys) {i = first} (omega arith) in
          (λ i. more a m (after m next xs) ys (more b m (after m next (t i)) (d i) (more a m next (t i) F)) k x)
          ∙ (λ i. more a m (after m next xs) ys (λ k x. sym (none_more m b (after m next xs) (more a m next xs F) k x) i) k x) ∙ more_append a next xs ys F k x
          ∙ none_more m b (after m next (xs ++ ys)) (more a m next (xs ++ ys) F) k x ∙ sym (λ i. more b m (after m next (t' i)) (d' i) (more a m next (t' i) F) k x)
      go false e =
          let l = ltb-false (length xs) first e in
          let t : take first (xs ++ ys) ≡ take first xs = take-append-le first xs ys l in
          let d : drop first (xs ++ ys) ≡ drop first xs ++ ys = drop-append-le first xs ys l in
          let n : after m next xs ≡ after m N (drop first xs) = ap (after m next) (sym (take-append-drop first xs)) ∙ after_append m next (take first xs) (drop first xs) in
          ap (λ (n : ℕ). more b m n ys (more b m N (drop first xs) G) k x) n ∙ more_append b N (drop first xs) ys G k x ∙ sym (λ i. more b m (after m next (t i)) (d i) (more a m next (t i) F) k x)

  -- nothing passed yet
  pub two_none : (first a b next : ℕ) (F : Fresh) (k x : ℕ) → F k x ≡ more_two first a b m next [] F k x
  two_none first a b next F k x =
      let t : ◌≡◌ {A = List ℕ} [] (take first []) = sym (take_all first [] (omega arith)) in
      let d : ◌≡◌ {A = List ℕ} [] (drop first []) = sym (drop_of_length-le [] {i = first} (omega arith)) in
      none_more m a next F k x ∙ none_more m b (after m next []) (more a m next [] F) k x ∙ (λ i. more b m (after m next (t i)) (d i) (more a m next (t i) F) k x)

  -- both lists passed
  pub two_whole : (first a b next : ℕ) (xs ys : List ℕ) → first ≡ length xs → (F : Fresh) (k x : ℕ)
      → more_two first a b m next (xs ++ ys) F k x ≡ more b m (after m next xs) ys (more a m next xs F) k x
  two_whole first a b next xs ys e F k x =
      let t : take first (xs ++ ys) ≡ xs = take_at xs ys first (sym e) in
      let d : drop first (xs ++ ys) ≡ ys = drop_at xs ys first (sym e) in
      λ i. more b m (after m next (t i)) (d i) (more a m next (t i) F) k x

  -- one edge more
  pub edges_more : (next : ℕ) (es : List Edge) (e : Edge) → freshened_edges m next (es ++ (e ∷ [])) ≡ freshened_edges m next es ++ freshened_edges m (after m next (edge_entries es)) (e ∷ [])
  edges_more next [] e = rw (add-zero next)
  edges_more next (d ∷ es) e = rw (after_append m next (d.sources ++ d.targets) (edge_entries es)) (ap (λ (r : List Edge). freshened_edges m next (d ∷ []) ++ r) (edges_more (after m next (d.sources ++ d.targets)) es e))

  pub more_edges_more : (next : ℕ) (es : List Edge) (e : Edge) (F : Fresh) → more_edges m next (es ++ (e ∷ [])) F ≡ more_edges m (after m next (edge_entries es)) (e ∷ []) (more_edges m next es F)
  more_edges_more next [] e F = rw (add-zero next)
  more_edges_more next (d ∷ es) e F = rw (after_append m next (d.sources ++ d.targets) (edge_entries es)) (more_edges_more (after m next (d.sources ++ d.targets)) es e _)

  -- the rows are as long as they were
  pub rows_long : (next : ℕ) (es : List Edge) → length (joined edge_row (freshened_edges m next es)) ≡ length (joined edge_row es)
  rows_long next [] = refl
  rows_long next (e ∷ es) =
      let s = freshened m next e.sources in
      let t = freshened m (after m next e.sources) e.targets in
      let r = freshened_edges m (after m next (e.sources ++ e.targets)) es in
      rw (length-append (s ++ t) (joined edge_row r), length-append s t, length-append (e.sources ++ e.targets) (joined edge_row es), length-append e.sources e.targets)
      (omega (arith, length_freshened m next e.sources, length_freshened m (after m next e.sources) e.targets, rows_long (after m next (e.sources ++ e.targets)) es))

  -- what edges add to each kind: nothing to global entries
  pub more_sources : (next : ℕ) (es : List Edge) (F : Fresh) (x : ℕ) → more_edges m next es F 1 x ≡ F 1 x ++ entries_of x (edge_sources es) (edge_sources (freshened_edges m next es))
  more_sources next [] F x = sym (append-nil (F 1 x))
  more_sources next (e ∷ es) F x =
      let s = e.sources in
      more_sources (after m next (s ++ e.targets)) es _ x ∙ append_assoc (F 1 x) (entries_of x s (freshened m next s)) _
      ∙ ap (λ (r : List ℕ). F 1 x ++ r) (sym (entries_append x s (edge_sources es) (freshened m next s) _ (sym (length_freshened m next s))))

  pub more_targets : (next : ℕ) (es : List Edge) (F : Fresh) (x : ℕ) → more_edges m next es F 2 x ≡ F 2 x ++ entries_of x (edge_targets es) (edge_targets (freshened_edges m next es))
  more_targets next [] F x = sym (append-nil (F 2 x))
  more_targets next (e ∷ es) F x =
      let t = e.targets in
      let n = after m next e.sources in
      more_targets (after m next (e.sources ++ t)) es _ x ∙ append_assoc (F 2 x) (entries_of x t (freshened m n t)) _
      ∙ ap (λ (r : List ℕ). F 2 x ++ r) (sym (entries_append x t (edge_targets es) (freshened m n t) _ (sym (length_freshened m n t))))

  pub more_others : (next : ℕ) (es : List Edge) (F : Fresh) (x : ℕ) → (more_edges m next es F 0 x ≡ F 0 x) × (more_edges m next es F 3 x ≡ F 3 x)
  more_others next [] F x = (refl, refl)
  more_others next (e ∷ es) F x = more_others (after m next (e.sources ++ e.targets)) es _ x
