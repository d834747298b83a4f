-- Passes over entries: one entry, entries after entries, an edge after edges.
-- Assumes nothing.
use mathlib.Core.Bool.{Bool, true, false, cond, ◌&&◌}
use mathlib.Core.List.{List, [], ◌∷◌, ◌++◌, append_assoc, append-nil}
use mathlib.Core.Path.{◌≡◌, refl, sym, ap, ◌∙◌, subst}
use Prim.Native.Nat.{ℕ, ◌+◌, ◌*◌, ◌≤◌, ◌<◌}
use native.Mathlib.Nat.{add-zero, le_antisymm, mul-le-mul_right}
use native.Mathlib.Omega.{arith}
use lib.Dec.{eqb}
use lib.ListN.{length, get_or, length-append}
use borrow.Author.Tests.{eqb-true}
use Rattle.form.specs.Form.{labels_of, body_of}
use Rattle.form.specs.declared.Sizes.{Sizes}
use Rattle.graph.specs.Form.{edge_row}
use Rattle.graph.specs.Graph.{Edge, edge_entries}
use Rattle.graph.specs.Lists.{keep, joined}
use Rattle.graph.specs.Spider.{freshened, after, freshened_edges, entries_of}
use Rattle.le.specs.Rows.{span, puts}
use Rattle.links.specs.declared.Kind.{Kind}
use Rattle.links.specs.declared.Kind.TheVariants.{GlobalSource, EdgeSource, EdgeTarget, GlobalTarget}
use Rattle.links.specs.Links.{cell_of, cells, unlisted, is_listed, Linked, linked_to}
use Rattle.rewriting.specs.Rewriting.{ids_at, labels_in, labelled, Fresh, more, kind_at, more_two, more_edges, Pass, Rewrites, Numbered, Prepared}
use Rattle.graph.proofs.Laws.{joined_append}
use Rattle.graph.proofs.Spiders.{after_append}
use Rattle.le.proofs.Rows.{holds_same, length_span, puts_none, puts_append}
use Rattle.links.proofs.Chains.{puts_swap, links_widen, still_listed, linked_more}
use Rattle.write.proofs.Results.{room_same}
use Rattle.le.proofs.InPlace.{span_behind, span_ahead}
use Rattle.rewriting.proofs.Lists.{ids_next, ids_part, kept_within, length_labelled, labelled_append, length_freshened, freshened_append, two_none, two_more, two_whole, edges_more, more_edges_more, rows_long}

-- the same fresh nodes, named otherwise
pub linked_same : (nodes : ℕ) (W : List ℕ) (next later : ℕ) (E F : Fresh) → next ≤ later → ((x k : ℕ) → is_listed nodes W x ≡ true → E k x ≡ F k x)
    → Linked nodes W next E → Linked nodes W later F
linked_same nodes W next later E F l e h = record {
  chains = λ x k p q m.
      let c = h.chains x k p q m in
      (c.0, links_widen nodes W next later (get_or W (x * 4 + k) 0) c.0 l c.1, c.2 ∙ e x k m);
}

-- labels after labels: they stand before all ids, so that it does not matter which ids were put between
pub labels_on : (m : ℕ → Bool) (g : List ℕ) (y : Sizes) (old : List ℕ) (start k n : ℕ) (xs ys cs : List ℕ) → n ≡ after m start xs → after m n ys ≤ y.nodes
    → puts (puts (puts old (labels_of y) start (labelled g m xs)) (body_of y) k cs) (labels_of y) n (labelled g m ys) ≡ puts (puts old (labels_of y) start (labelled g m (xs ++ ys))) (body_of y) k cs
labels_on m g y old start k n xs ys cs e within =
    let A = labelled g m xs in
    let B = labelled g m ys in
    let l = labels_of y in
    let a = length_labelled g m xs in
    let b = length_labelled g m ys in
    let at : n ≡ start + length A = omega arith in
    ap (λ (i : ℕ). puts (puts (puts old l start A) (body_of y) k cs) l i B) at ∙ puts_swap (puts old l start A) l (body_of y) (start + length A) k B cs (omega arith)
    ∙ ap (λ (o : List ℕ). puts o (body_of y) k cs) (puts_append old l start A B ∙ ap (puts old l start) (sym (labelled_append g m xs ys)))

module _ {m : ℕ → Bool} {nodes start : ℕ} {W old : List ℕ} {g : List ℕ} {y : Sizes} {k : ℕ} where
  -- nothing is passed
  pub pass_none : (step : Fresh → Fresh) → ((F : Fresh) (k x : ℕ) → F k x ≡ step F k x) → is_listed nodes W ≡ m → start ≤ y.nodes → Pass m nodes start W old g y k [] [] step W old start
  pass_none step e is within = record {
    number = sym (add-zero start);
    within = within;
    stored = sym (puts_none _ (body_of y) k ∙ puts_none old (labels_of y) start);
    same = is;
    chains = λ F h. linked_same nodes W start start F (step F) (omega arith) (λ x k t. e F k x) h;
  }

  pub pass_then : {xs cs X mid ys bs Y new : List ℕ} {f h : Fresh → Fresh} {n j l : ℕ} → Pass m nodes start W old g y k xs cs f X mid n → Pass m nodes n X mid g y j ys bs h Y new l → j ≡ k + length cs
      → Pass m nodes start W old g y k (xs ++ ys) (cs ++ bs) (λ F. h (f F)) Y new l
  pass_then {xs} {cs} {X} {mid} {ys} {bs} {f = f} {n = n} p q e = record {
    number = q.number ∙ ap (λ (i : ℕ). after m i ys) p.number ∙ sym (after_append m start xs ys);
    within = q.within;
    stored =
        q.stored ∙ (λ i. puts (puts (p.stored i) (labels_of y) n (labelled g m ys)) (body_of y) (e i) bs)
        ∙ ap (λ (o : List ℕ). puts o (body_of y) (k + length cs) bs) (labels_on m g y old start k n xs ys cs p.number (omega (arith, q.number, q.within))) ∙ puts_append _ (body_of y) k cs bs;
    same = q.same;
    chains = λ F h. q.chains (f F) (p.chains F h);
  }

  -- the same pass, its parts named otherwise
  pub pass_named : {xs cs X new ys bs : List ℕ} {f : Fresh → Fresh} {n : ℕ} (h : Fresh → Fresh) → Pass m nodes start W old g y k xs cs f X new n → xs ≡ ys → cs ≡ bs → ((F : Fresh) (k x : ℕ) → f F k x ≡ h F k x)
      → Pass m nodes start W old g y k ys bs h X new n
  pass_named {X = X} {f = f} {n = n} h p e d same = record {
    number = p.number ∙ ap (after m start) e;
    within = p.within;
    stored = p.stored ∙ (λ i. puts (puts old (labels_of y) start (labelled g m (e i))) (body_of y) k (d i));
    same = p.same;
    chains = λ F l. linked_same nodes X n n (f F) (h F) (omega arith) (λ x k t. same F k x) (p.chains F l);
  }

-- room for the fresh nodes of entries that come after others
pub numbered_part : {m : ℕ → Bool} {nodes start : ℕ} {W old room X out : List ℕ} {g : List ℕ} {y : Sizes} {k next end : ℕ} (xs ys : List ℕ) {ns : List ℕ} {step : Fresh → Fresh}
    → Pass m nodes start W old g y k xs ns step X out next → Numbered nodes y.nodes start end room → start + (length (keep m xs) + length (keep m ys)) ≤ end
    → (new : List ℕ) → length new ≡ length room → Numbered nodes y.nodes next (after (is_listed nodes X) next ys) new
numbered_part {m} {nodes} {start} {next = next} xs ys p h l new e =
    let n = p.number in
    let same : after (is_listed nodes _) next ys ≡ after m next ys = ap (λ (t : ℕ → Bool). after t next ys) p.same in
    record {
      from = omega (arith, h.from);
      labels = omega (arith, h.labels);
      few = omega (arith, h.few);
      heads = omega (arith, h.heads);
      links = omega (arith, h.links);
    }

-- ---- one entry

module _ (nodes kind next x : ℕ) (W : List ℕ) (g : List ℕ) (y : Sizes) (within : next ≤ y.nodes) (old new : List ℕ) (k : ℕ) where
  -- of a node that is not listed: the table stays as it is
  pub pass_plain : is_listed nodes W x ≡ false → new ≡ puts old (body_of y) k (x ∷ [])
      → Pass (is_listed nodes W) nodes next W old g y k (x ∷ []) (freshened (is_listed nodes W) next (x ∷ [])) (more kind (is_listed nodes W) next (x ∷ [])) W new next
  pass_plain e is = record {
    number = rw e (sym (add-zero next));
    within = within;
    stored = rw e (is ∙ ap (λ (o : List ℕ). puts o (body_of y) k (x ∷ [])) (sym (puts_none old (labels_of y) next)));
    same = refl;
    chains = λ F h. linked_same nodes W next next F (more kind (is_listed nodes W) next (x ∷ []) F) (omega arith) (λ v k t. sym (go (F k v) v t (eqb k kind) (eqb v x) refl)) h;
  }
    where
      none : (v : ℕ) → is_listed nodes W v ≡ true → (d : Bool) → eqb v x ≡ d → entries_of v (x ∷ []) (freshened (is_listed nodes W) next (x ∷ [])) ≡ []
      none v t true q = absurd (let z : true ≡ false = sym t ∙ ap (is_listed nodes W) (eqb-true v x q) ∙ e in (let o : ◌≡◌ {A = ℕ} 0 1 = cc in omega arith))
      none v t false q = rw (e, q)

      go : (l : List ℕ) (v : ℕ) → is_listed nodes W v ≡ true → (c d : Bool) → eqb v x ≡ d → cond c (l ++ entries_of v (x ∷ []) (freshened (is_listed nodes W) next (x ∷ []))) l ≡ l
      go l v t true d q = ap (λ (r : List ℕ). l ++ r) (none v t d q) ∙ append-nil l
      go l v t false d q = refl

  -- of a listed node: its fresh node is linked and has its label
  pub pass_fresh : is_listed nodes W x ≡ true → x < nodes → kind < 4 → nodes ≤ next → next < unlisted → nodes * 3 + next < length W → next < y.nodes → (W' : List ℕ) → W' ≡ linked_to nodes x kind next W
      → new ≡ puts (puts old (labels_of y) next (get_or g x 0 ∷ [])) (body_of y) k (next ∷ [])
      → Pass (is_listed nodes W) nodes next W old g y k (x ∷ []) (freshened (is_listed nodes W) next (x ∷ [])) (more kind (is_listed nodes W) next (x ∷ [])) W' new (next + 1)
  pass_fresh e known is_kind high small inside room W' is_W is = record {
    number = rw e;
    within = omega arith;
    stored = rw e is;
    same = ap (is_listed nodes) is_W ∙ (λ i v. still_listed nodes W x kind next known is_kind high small inside e v i);
    chains = λ F h. rw is_W
        (linked_same nodes (linked_to nodes x kind next W) (next + 1) (next + 1) (λ k v. F k v ++ cond (eqb k kind && eqb v x) (next ∷ []) []) (more kind (is_listed nodes W) next (x ∷ []) F) (omega arith)
        (λ v k t. go (F k v) v (eqb k kind)) (linked_more nodes W x kind next known is_kind high small inside e F h));
  }
    where
      go : (l : List ℕ) (v : ℕ) (c : Bool) → l ++ cond (c && eqb v x) (next ∷ []) [] ≡ cond c (l ++ entries_of v (x ∷ []) (freshened (is_listed nodes W) next (x ∷ []))) l
      go l v true = rw e
      go l v false = append-nil l

-- ---- entries after entries

-- a later pass, over a table that lists the same nodes
pub later : {m : ℕ → Bool} {nodes : ℕ} {g : List ℕ} {y : Sizes} {X mid Y new ys : List ℕ} {n l j : ℕ} (step : (ℕ → Bool) → ℕ → List ℕ → Fresh → Fresh) → is_listed nodes X ≡ m
    → Pass (is_listed nodes X) nodes n X mid g y j ys (freshened (is_listed nodes X) n ys) (step (is_listed nodes X) n ys) Y new l → Pass m nodes n X mid g y j ys (freshened m n ys) (step m n ys) Y new l
later {m} {nodes} {g} {y} {X} {mid} {Y} {new} {ys} {n} {l} {j} step e q = subst (λ (t : ℕ → Bool). Pass t nodes n X mid g y j ys (freshened t n ys) (step t n ys) Y new l) e q

module _ {m : ℕ → Bool} {nodes start : ℕ} {W old : List ℕ} {g : List ℕ} {y : Sizes} {k : ℕ} where
  -- one entry more of two lists
  pub pass_more : {xs X mid ys Y new : List ℕ} {n l j kind : ℕ} (first a b : ℕ) → Pass m nodes start W old g y k xs (freshened m start xs) (more_two first a b m start xs) X mid n
      → Pass (is_listed nodes X) nodes n X mid g y j ys (freshened (is_listed nodes X) n ys) (more kind (is_listed nodes X) n ys) Y new l → kind ≡ kind_at first a b (length xs) → length ys ≡ 1 → j ≡ k + length xs
      → Pass m nodes start W old g y k (xs ++ ys) (freshened m start (xs ++ ys)) (more_two first a b m start (xs ++ ys)) Y new l
  pass_more {xs} {X} {mid} {ys} {Y} {new} {n} {l} {j} {kind} first a b p q is one e =
      pass_named (more_two first a b m start (xs ++ ys)) (pass_then p (later (more kind) p.same q) (e ∙ ap (λ (i : ℕ). k + i) (sym (length_freshened m start xs)))) refl
      (ap (λ (i : ℕ). freshened m start xs ++ freshened m i ys) p.number ∙ sym (freshened_append m start xs ys))
      (λ F c x. (λ i. more (is i) m (p.number i) ys (more_two first a b m start xs F) c x) ∙ two_more m first a b start xs ys one F c x)

  -- an edge after edges: its two counts, its sources and targets
  pub pass_edge : (es : List Edge) (e : Edge) {X out mid Z new ids : List ℕ} {n l i c d : ℕ}
      → Pass m nodes start W old g y 0 (edge_entries es) (joined edge_row (freshened_edges m start es)) (more_edges m start es) X out n
      → ids ≡ e.sources ++ e.targets → c ≡ length e.sources → d ≡ length e.targets → k ≡ length (joined edge_row es) → mid ≡ puts out (body_of y) k (c ∷ d ∷ []) → i ≡ k + 2
      → Pass (is_listed nodes X) nodes n X mid g y i ids (freshened (is_listed nodes X) n ids) (more_two c 1 2 (is_listed nodes X) n ids) Z new l
      → Pass m nodes start W old g y 0 (edge_entries (es ++ (e ∷ []))) (joined edge_row (freshened_edges m start (es ++ (e ∷ [])))) (more_edges m start (es ++ (e ∷ []))) Z new l
  pass_edge es e {X} {out} {mid} {Z} {new} {ids} {n} {l} {i} {c} {d} p is ec ed at two ei q =
      let N = after m start (edge_entries es) in
      let E = joined edge_row (freshened_edges m start es) in
      let long = rows_long m start es in
      let S = freshened m N e.sources in
      let T = freshened m (after m N e.sources) e.targets in
      let l_s = length_freshened m N e.sources in
      let l_t = length_freshened m (after m N e.sources) e.targets in
      let counts : Pass m nodes n X out g y k [] (c ∷ d ∷ []) (λ F. F) X mid n = record {
        number = sym (add-zero n);
        within = p.within;
        stored = two ∙ ap (λ (o : List ℕ). puts o (body_of y) k (c ∷ d ∷ [])) (sym (puts_none out (labels_of y) n));
        same = p.same;
        chains = λ F h. h;
      } in
      pass_named (more_edges m start (es ++ (e ∷ [])))
      (pass_then (pass_then p counts (omega arith)) (later (more_two c 1 2) p.same q) (rw (length-append E (c ∷ d ∷ [])) (omega arith)))
      (ap (λ (xs : List ℕ). xs ++ ids) (append-nil (edge_entries es)) ∙ ap (λ (xs : List ℕ). edge_entries es ++ xs) (is ∙ sym (append-nil (e.sources ++ e.targets)))
      ∙ sym (joined_append (λ (d : Edge). d.sources ++ d.targets) es (e ∷ [])))
      ((λ x. (E ++ ((ec ∙ sym l_s) x ∷ (ed ∙ sym l_t) x ∷ [])) ++ freshened m (p.number x) (is x)) ∙ ap (λ (xs : List ℕ). (E ++ (length S ∷ length T ∷ [])) ++ xs) (freshened_append m N e.sources e.targets)
      ∙ append_assoc E (length S ∷ length T ∷ []) (S ++ T)
      ∙ ap (λ (xs : List ℕ). E ++ xs) (sym (append-nil (length S ∷ length T ∷ (S ++ T)))) ∙ sym (ap (joined edge_row) (edges_more m start es e) ∙ joined_append edge_row (freshened_edges m start es) _))
      (λ F kk x. (λ v. more_two c 1 2 m (p.number v) (is v) (more_edges m start es F) kk x) ∙ two_whole m c 1 2 N e.sources e.targets ec (more_edges m start es F) kk x
      ∙ sym (ap (λ (G : Fresh). G kk x) (more_edges_more m start es e F)))

-- ---- what a pass leaves as it was

module _ {m : ℕ → Bool} {nodes start : ℕ} {W old g : List ℕ} {y : Sizes} {k : ℕ} {xs cs : List ℕ} {f : Fresh → Fresh} {X new : List ℕ} {n : ℕ} (p : Pass m nodes start W old g y k xs cs f X new n) where
  -- the labels of the nodes, before those of the fresh nodes
  pub labels_kept : nodes ≤ start → labels_in new y nodes ≡ labels_in old y nodes
  labels_kept l =
      let q = p.number in
      let w = p.within in
      ap (λ (o : List ℕ). labels_in o y nodes) p.stored ∙ span_ahead (puts old (labels_of y) start (labelled g m xs)) (body_of y) (labels_of y) k 0 nodes cs (omega arith)
      ∙ span_ahead old (labels_of y) (labels_of y) start 0 nodes (labelled g m xs) (omega arith)

  -- the counts and ids behind those that it put
  pub rest_kept : (j i : ℕ) → k + length cs ≤ j → ids_at new y j i ≡ ids_at old y j i
  rest_kept j i l =
      let q = p.number in
      let w = p.within in
      let long = length_labelled g m xs in
      ap (λ (o : List ℕ). ids_at o y j i) p.stored ∙ span_behind (puts old (labels_of y) start (labelled g m xs)) (body_of y) (body_of y) k j i cs (omega (arith, mul-le-mul_right y.width l))
      ∙ span_behind old (labels_of y) (body_of y) start j i (labelled g m xs) (omega arith)

-- the same pass over ids and labels that are the same
pub pass_same : {m : ℕ → Bool} {nodes start : ℕ} {W old g h : List ℕ} {y : Sizes} {k : ℕ} {xs ys X new : List ℕ} {n : ℕ} (step : (ℕ → Bool) → ℕ → List ℕ → Fresh → Fresh) → g ≡ h → xs ≡ ys
    → Pass m nodes start W old g y k xs (freshened m start xs) (step m start xs) X new n → Pass m nodes start W old h y k ys (freshened m start ys) (step m start ys) X new n
pass_same {m} {nodes} {start} {W} {old} {g} {h} {y} {k} {xs} {ys} {X} {new} {n} step e d p =
    subst (λ (t : List ℕ). Pass m nodes start W old h y k t (freshened m start t) (step m start t) X new n) d
    (subst (λ (t : List ℕ). Pass m nodes start W old t y k xs (freshened m start xs) (step m start xs) X new n) e p)

-- ---- a loop over two lists that stand one after the other

-- what it has passed
pub record Passed (y : Sizes) (nodes k n first a c start : ℕ) (room₀ out₀ : List ℕ) (i : ℕ) (room out : List ℕ) (next : ℕ) : Type 0 where
  pub few : i ≤ n
  pub same_room : length room ≡ length room₀
  pub same_out : length out ≡ length out₀
  pub pass : Pass (is_listed nodes (cells room₀)) nodes start (cells room₀) out₀ (labels_in out₀ y nodes) y k (ids_at out₀ y k i)
      (freshened (is_listed nodes (cells room₀)) start (ids_at out₀ y k i)) (more_two first a c (is_listed nodes (cells room₀)) start (ids_at out₀ y k i)) (cells room) out next

pub kind_low : (kind : Kind) → cell_of kind < 4
kind_low GlobalSource = omega arith
kind_low EdgeSource = omega arith
kind_low EdgeTarget = omega arith
kind_low GlobalTarget = omega arith

module _ {y : Sizes} {nodes k n start : ℕ} {room₀ out₀ : List ℕ} (h : Prepared y nodes k n start room₀ out₀) (first a c : ℕ) where
  pub passed_none : Passed y nodes k n first a c start room₀ out₀ 0 room₀ out₀ start
  unfolding span
  passed_none = record {
    few = omega arith;
    same_room = refl;
    same_out = refl;
    pass = pass_none _ (two_none (is_listed nodes (cells room₀)) first a c start) refl (omega (arith, h.numbered.labels));
  }

  module _ {i : ℕ} {room out : List ℕ} {next : ℕ} (p : Passed y nodes k n first a c start room₀ out₀ i room out next) where
    long : i ≡ length (ids_at out₀ y k i)
    long = sym (length_span out₀ (body_of y) k i)

    -- the entries that are left stand where they stood
    left : (j : ℕ) → ids_at out y (k + i) j ≡ ids_at out₀ y (k + i) j
    left j = rest_kept p.pass (k + i) j (omega (arith, length_freshened (is_listed nodes (cells room₀)) start (ids_at out₀ y k i), length_span out₀ (body_of y) k i))

    pub passed_ready : i < n → Prepared y nodes (k + i) 1 next room out
    passed_ready l =
        let part = ids_part out₀ y k n i 1 (omega arith) h.ids in
        record {
          ids = record { low = part.low; held = holds_same part.held out p.same_out; known = rw (left 1) part.known };
          numbered = rw (left 1) (numbered_part (ids_at out₀ y k i) (ids_at out₀ y (k + i) 1) p.pass h.numbered (omega (arith, kept_within out₀ y k n i 1 (omega arith) (is_listed nodes (cells room₀)))) room p.same_room);
          buffer = room_same h.buffer out p.same_out;
        }

    pub passed_more : i < n → {kind : ℕ} → kind ≡ kind_at first a c i → {room' out' : List ℕ} {next' : ℕ} → Rewrites y nodes (k + i) 1 (more kind) next room out room' out' next' → length room' ≡ length room
        → length out' ≡ length out → Passed y nodes k n first a c start room₀ out₀ (i + 1) room' out' next'
    passed_more l {kind} is q e d = record {
      few = omega arith;
      same_room = e ∙ p.same_room;
      same_out = d ∙ p.same_out;
      pass = rw (ids_next out₀ y k i 1)
          (pass_more first a c p.pass (pass_same (more kind) (labels_kept p.pass h.numbered.from) (left 1) q) (is ∙ ap (kind_at first a c) long) (length_span out₀ (body_of y) (k + i) 1) (ap (λ (x : ℕ). k + x) long));
    }

    pub passed_all : n ≤ i → Rewrites y nodes k n (more_two first a c) start room₀ out₀ room out next
    passed_all l =
        let m = is_listed nodes (cells room₀) in
        subst (λ (x : ℕ). Pass m nodes start (cells room₀) out₀ (labels_in out₀ y nodes) y k (ids_at out₀ y k x) (freshened m start (ids_at out₀ y k x)) (more_two first a c m start (ids_at out₀ y k x)) (cells room) out next)
        (le_antisymm p.few l) p.pass
