-- 02, T-02: a call with steps gives what the single calls one after the other give.
-- Assumes nothing.
use mathlib.Core.Bool.{Bool, true, false}
use mathlib.Core.List.{List, [], ◌∷◌, ◌++◌, map, append-nil}
use mathlib.Core.Path.{◌≡◌, refl, sym, ap, ◌∙◌, subst}
use Prim.Native.Nat.{ℕ, suc, ◌+◌, ◌*◌, ◌^◌, ◌%◌, ◌/◌, ◌≤◌, ◌<◌}
use native.Mathlib.Nat.{div-eq_of_eq-mul_left, mul-le-mul, mul-mod_left, add-zero}
use native.Mathlib.Omega.{arith}
use lib.Dec.{leb, ltb, lit<}
use lib.ListN.{length, length-map}
use borrow.Author.Tests.{le-leb, eq-eqb, ltb-true, ltb-false, lt-ltb, le-ltb}
use Rattle.le.specs.Le.{Below, row, numbers}
use Rattle.le.proofs.Numbers.{below_front, below_back, length_row, numbers_row}
use Rattle.le.proofs.Rows.{wide_some}
use Rattle.graph.specs.Answer.{Refusal, Answer, refused, answered, refusal, reply, Result, writing, ◌else◌, ◌>>=◌, ◌>>◌}
use Rattle.graph.specs.Build.{new_node, new_edge, new_operation, unify, add_edge_source, add_edge_target}
use Rattle.graph.specs.Calls.{Next, known, label_list, id_list, fit, in_work_room, made, on_graph, new_node_step, new_edge_step, new_operation_step, unify_step, add_edge_source_step, add_edge_target_step, room_delete_edges, delete_edges_step, room_delete_nodes, nodes_deleted}
use Rattle.graph.specs.Delete.{delete_edges, delete_nodes, where_to, node_map}
use Rattle.graph.specs.Form.{encode}
use Rattle.graph.specs.Graph.{Graph, Format, largest, within_limits, Proper, WellFormed, Usable}
use Rattle.graph.specs.Lists.{all_below, first_bad, among, range}
use Rattle.graph.specs.Versions.{StoredGraph, fitting, read, store}
use Rattle.graph.proofs.Answers.{known_below}
use Rattle.graph.proofs.Kept.{new_node_proper, new_edge_proper, new_operation_proper, unify_proper, add_source_proper, add_target_proper, delete_edges_proper, delete_nodes_proper}
use Rattle.graph.proofs.Lists.{below_true, length_range}
use Rattle.graph.proofs.Steps.{same_answer, never, passed, came}
use Rattle.graph.proofs.Versions.{fitting_version, fitting_formed, limits_formed, read_sound, read_encode, store_formed, longest}
use Rattle.steps.specs.Steps.{Step, node_step, edge_step, operation_step, pair_step, source_step, target_step, without_edges_step, without_nodes_step, steps_in}
use Rattle.steps.specs.Calls.{known_all, stepped, limited, turn, Built, stopped, built, ◌at_step◌, ◌then◌, turns, on_steps}
use Rattle.steps.specs.Singly.{enough, enough_map, width_of, sent_id, sent, single, single_of, singly, lastly, StopsAt, Writable, AllWritable}
use Rattle.steps.proofs.Endings.{never_built, same_built, came_built, at_built, then_assoc, then_built}
use Rattle.steps.proofs.LaidDown.{all_writable}

-- ---- a step and its call

-- ids that pass are as they were, and below their count
pub known_all_same : (count : ℕ) (ids is : List ℕ) → known_all count ids ≡ answered is → is ≡ ids
unfolding known_all
known_all_same count ids is e = sym (same_answer (passed _ _ _ e).1)

pub known_all_below : (count : ℕ) (ids is : List ℕ) → known_all count ids ≡ answered is → Below count ids
unfolding known_all
known_all_below count ids is e = below_true count ids (passed _ _ _ e).0

known_all_ids : (count : ℕ) (ids is : List ℕ) → known_all count ids ≡ answered is → Below count is
known_all_ids count ids is e = subst (λ (k : List ℕ). Below count k) (sym (known_all_same count ids is e)) (known_all_below count ids is e)

-- whole entries alone: what is left of a list's check is that of its ids
pub id_list_row : (f : Format) → 2 ≤ f.width → (n : ℕ) (ids : List ℕ) → Below (256 ^ f.width) ids → id_list f n (row f.width ids) ≡ known_all n ids
unfolding id_list known_all ◌else◌ ◌>>◌
id_list_row f u n ids h =
    let w = f.width in
    let long : length (row w ids) ≡ length ids * w = length_row w ids in
    let many : length (row w ids) / w ≡ length ids = div-eq_of_eq-mul_left (omega (arith, u)) long in
    let whole : length (row w ids) % w ≡ 0 = rw long (mul-mod_left (length ids) w) in
    let back : numbers w (length ids) (row w ids) ≡ ids = subst (λ (l : List ℕ). numbers w (length ids) l ≡ ids) (append-nil (row w ids)) (numbers_row w ids [] h) in
    rw (eq-eqb (length (row w ids) % w) 0 whole, many, back)

pub label_list_row : (labels : List ℕ) → Below (256 ^ 4) labels → label_list (row 4 labels) ≡ answered labels
unfolding label_list ◌else◌ ◌>>◌
label_list_row labels h =
    let long : length (row 4 labels) ≡ length labels * 4 = length_row 4 labels in
    let many : length (row 4 labels) / 4 ≡ length labels = div-eq_of_eq-mul_left (lit< tt) long in
    let whole : length (row 4 labels) % 4 ≡ 0 = omega (arith, long) in
    let back : numbers 4 (length labels) (row 4 labels) ≡ labels = subst (λ (l : List ℕ). numbers 4 (length labels) l ≡ labels) (append-nil (row 4 labels)) (numbers_row 4 labels [] h) in
    rw (eq-eqb (length (row 4 labels) % 4) 0 whole, many, back)

-- an id that has no room in its bytes is sent as one that is not below the count either
module _ (w n : ℕ) (l : n < 256 ^ w) where
  sent_test : (x : ℕ) → ltb (sent_id w x) n ≡ ltb x n
  sent_test x = go (ltb x n) refl
    where
      go : (c : Bool) → ltb x n ≡ c → ltb (sent_id w x) n ≡ c
      go true e = lt-ltb (sent_id w x) n (omega (arith, ltb-true x n e))
      go false e = le-ltb (sent_id w x) n (omega (arith, ltb-false x n e))

  sent_all : (ids : List ℕ) → all_below n (map (sent_id w) ids) ≡ all_below n ids
  sent_all [] = refl
  sent_all (x ∷ ids) = rw (sent_test x, sent_all ids)

  sent_first : (ids : List ℕ) → first_bad n (map (sent_id w) ids) ≡ first_bad n ids
  sent_first [] = refl
  sent_first (x ∷ ids) = rw (sent_test x, sent_first ids)

  sent_same : (ids : List ℕ) → Below n ids → map (sent_id w) ids ≡ ids
  sent_same [] h = refl
  sent_same (x ∷ ids) h =
      let e : sent_id w x ≡ x = omega (arith, h.0) in
      λ i. e i ∷ sent_same ids h.1 i

  sent_below : (ids : List ℕ) → Below (256 ^ w) (map (sent_id w) ids)
  sent_below [] = tt
  sent_below (x ∷ ids) = (omega arith, sent_below ids)

  sent_known : (ids : List ℕ) → known_all n (map (sent_id w) ids) ≡ known_all n ids
  unfolding known_all ◌else◌ ◌>>◌
  sent_known ids = go (all_below n ids) refl
    where
      go : (c : Bool) → all_below n ids ≡ c → known_all n (map (sent_id w) ids) ≡ known_all n ids
      go true e = ap (known_all n) (sent_same ids (below_true n ids e))
      go false e = rw (sent_all ids, sent_first ids, e)

-- so a call's check of a list is the step's
id_list_sent : (f : Format) → 2 ≤ f.width → (n : ℕ) → n < 256 ^ f.width → (ids : List ℕ) → id_list f n (sent f.width ids) ≡ known_all n ids
id_list_sent f u n l ids = id_list_row f u n (map (sent_id f.width) ids) (sent_below f.width n l ids) ∙ sent_known f.width n l ids

-- a step makes a proper graph of a proper one
pub step_proper : (step : Step) → Writable step → (g h : Graph) → Proper g → stepped step g ≡ answered h → Proper h
unfolding stepped
step_proper (node_step label) k g h p e = subst (λ (x : Graph). Proper x) (same_answer e) (new_node_proper label g k.head.0 p)
step_proper (edge_step label s t) k g h p e =
    let n = length g.labels in
    let e₁ = came (known_all n s) _ e in
    let e₂ = came (known_all n t) _ e₁.2 in
    subst (λ (x : Graph). Proper x) (same_answer e₂.2)
    (new_edge_proper label e₁.0 e₂.0 g k.head.0 (known_all_ids n s e₁.0 e₁.1) (known_all_ids n t e₂.0 e₂.1) p)
step_proper (operation_step label s t) k g h p e =
    subst (λ (x : Graph). Proper x) (same_answer e)
    (new_operation_proper label s t g k.head.0 (below_front (256 ^ 4) s t k.lists) (below_back (256 ^ 4) s t k.lists) p)
step_proper (pair_step v w) k g h p e =
    let n = length g.labels in
    let e₁ = came (known n v) _ e in
    let e₂ = came (known n w) _ e₁.2 in
    subst (λ (x : Graph). Proper x) (same_answer e₂.2) (unify_proper e₁.0 e₂.0 g (known_below n v e₁.0 e₁.1) (known_below n w e₂.0 e₂.1) p)
step_proper (source_step edge label) k g h p e =
    let e₁ = came (known (length g.edges) edge) _ e in
    subst (λ (x : Graph). Proper x) (same_answer e₁.2) (add_source_proper e₁.0 label g k.head.1.0 p)
step_proper (target_step edge label) k g h p e =
    let e₁ = came (known (length g.edges) edge) _ e in
    subst (λ (x : Graph). Proper x) (same_answer e₁.2) (add_target_proper e₁.0 label g k.head.1.0 p)
step_proper (without_edges_step ids) k g h p e =
    let e₁ = came (known_all (length g.edges) ids) _ e in
    subst (λ (x : Graph). Proper x) (same_answer e₁.2) (delete_edges_proper e₁.0 g p)
step_proper (without_nodes_step ids) k g h p e =
    let e₁ = came (known_all (length g.labels) ids) _ e in
    subst (λ (x : Graph). Proper x) (same_answer e₁.2) (delete_nodes_proper e₁.0 g p)

-- ---- a call with steps, and the single calls

-- bytes that are read as a graph of version 2's limits, in the version that it fits: what a read accepts, and what a call answers
pub record At (b : List ℕ) (g : Graph) : Type 0 where
  pub formed : WellFormed largest g
  pub is : read b ≡ answered (record { format = fitting g; graph = g })
  pub bytes : encode (fitting g) g ≡ b

pub read_at : (b : List ℕ) (s : StoredGraph) → Below 256 b → read b ≡ answered s → At b s.graph
read_at b s t p =
    let r = read_sound b s t p in
    record {
      formed = r.version.grows s.graph r.formed;
      is = p ∙ ap (λ (f : Format). answered (record { format = f; graph = s.graph })) (sym r.fits);
      bytes = ap (λ (f : Format). encode f s.graph) r.fits ∙ r.whole;
    }

stored_at : (g : Graph) → WellFormed largest g → At (encode (fitting g) g) g
stored_at g h = record { formed = h; is = read_encode g h; bytes = refl }

-- the largest form
within_enough : (g : Graph) → WellFormed largest g → length (encode (fitting g) g) ≤ enough
within_enough g h = longest g h

-- the graph of a call's step
abbrev graphs : Answer Next → Answer Graph
graphs m = m >>= λ x. answered x.graph

-- work room as the call asks for
in_room : {A : Type 0} (n : ℕ) (a : Answer A) → in_work_room n n a ≡ a
unfolding in_work_room ◌else◌ ◌>>◌
in_room n a = rw (le-leb n n (omega arith))

module _ (b : List ℕ) (g : Graph) (at : At b g) where
  usable : Usable (fitting g)
  usable = (fitting_version g).usable

  few_nodes : length g.labels < 256 ^ (fitting g).width
  few_nodes = omega (arith, (fitting_formed g at.formed).counts.nodes, usable.nodes)

  few_edges : length g.edges < 256 ^ (fitting g).width
  few_edges = omega (arith, (fitting_formed g at.formed).counts.edges, usable.edges)

  -- a list of a call on these bytes
  list_at : (n : ℕ) → n < 256 ^ (fitting g).width → (ids : List ℕ) → id_list (fitting g) n (sent (width_of b) ids) ≡ known_all n ids
  unfolding width_of
  list_at n l ids =
      let wide : width_of b ≡ (fitting g).width = ap (reply 2 (λ (s : StoredGraph). s.format.width)) at.is in
      ap (λ (w : ℕ). id_list (fitting g) n (sent w ids)) wide ∙ id_list_sent (fitting g) (wide_some usable.width).0 n l ids

  -- a call gives the form of its step's graph
  on_graph_gives : (step : Format → Graph → Answer Next) (n : Answer Graph) → graphs (step (fitting g) g) ≡ n
      → (on_graph b enough step >>= λ m. answered m.bytes) ≡ (n >>= λ h. store h >>= fit enough)
  unfolding on_graph made ◌>>=◌
  on_graph_gives step n e = rw at.is (lift (step (fitting g) g) n e)
    where
      form : (x : Next) (m : Answer (List ℕ)) → ((m >>= λ l. fit enough l >>= λ l. answered (writing l x.id)) >>= λ (m : Result). answered m.bytes) ≡ (m >>= fit enough)
      form x (refused r) = refl
      form x (answered l) = fits (fit enough l)
        where
          fits : (m : Answer (List ℕ)) → ((m >>= λ l. answered (writing l x.id)) >>= λ (m : Result). answered m.bytes) ≡ m
          fits (refused r) = refl
          fits (answered l) = refl

      lift : (m : Answer Next) (n : Answer Graph) → graphs m ≡ n
          → ((m >>= λ x. store x.graph >>= λ l. fit enough l >>= λ l. answered (writing l x.id)) >>= λ (m : Result). answered m.bytes)
          ≡ (n >>= λ h. store h >>= fit enough)
      lift (refused r) n e = subst (λ (n : Answer Graph). refused r ≡ (n >>= λ h. store h >>= fit enough)) e refl
      lift (answered x) n e = form x (store x.graph) ∙ subst (λ (n : Answer Graph). (store x.graph >>= fit enough) ≡ (n >>= λ h. store h >>= fit enough)) e refl

  -- the map has room
  map_room : (gone : List ℕ) → fit enough_map (row (fitting g).width (node_map (fitting g) gone g)) ≡ answered (row (fitting g).width (node_map (fitting g) gone g))
  unfolding fit node_map ◌else◌ ◌>>◌
  map_room gone =
      let w = (fitting g).width in
      let n = length g.labels in
      let ids = map (where_to (fitting g) (among gone)) (range 0 n) in
      let long : length (row w ids) ≡ n * w = length_row w ids ∙ ap (λ k. k * w) (length-map (range 0 n) (where_to (fitting g) (among gone)) ∙ length_range 0 n) in
      let most : n * w ≤ largest.most.nodes * largest.width = mul-le-mul at.formed.counts.nodes (wide_some usable.width).1 in
      rw (le-leb (length (row w ids)) enough_map (omega (arith, long, most)))

  -- deleting nodes answers a map as well
  nodes_deleted_gives : (ids : List ℕ) → (nodes_deleted b (sent (width_of b) ids) enough enough_map >>= λ m. answered m.bytes)
      ≡ ((known_all (length g.labels) ids >>= λ gone. answered (delete_nodes gone g)) >>= λ h. store h >>= fit enough)
  unfolding nodes_deleted ◌>>=◌
  nodes_deleted_gives ids = rw (at.is, list_at (length g.labels) few_nodes ids) (go (known_all (length g.labels) ids))
    where
      maps : (gone form : List ℕ) (m : Answer (List ℕ)) → m ≡ answered (row (fitting g).width (node_map (fitting g) gone g))
          → ((m >>= λ map. answered (record { a = length form; b = length g.labels; bytes = form; map = map })) >>= λ (m : Result). answered m.bytes) ≡ answered form
      maps gone form m e = rw e

      forms : (gone : List ℕ) (m : Answer (List ℕ))
          → ((m >>= λ form. fit enough_map (row (fitting g).width (node_map (fitting g) gone g)) >>= λ map. answered (record { a = length form; b = length g.labels; bytes = form; map = map }))
          >>= λ (m : Result). answered m.bytes) ≡ m
      forms gone (refused r) = refl
      forms gone (answered form) = maps gone form (fit enough_map (row (fitting g).width (node_map (fitting g) gone g))) (map_room gone)

      stores : (gone : List ℕ) (m : Answer (List ℕ))
          → ((m >>= λ form. fit enough form >>= λ form. fit enough_map (row (fitting g).width (node_map (fitting g) gone g))
          >>= λ map. answered (record { a = length form; b = length g.labels; bytes = form; map = map })) >>= λ (m : Result). answered m.bytes) ≡ (m >>= fit enough)
      stores gone (refused r) = refl
      stores gone (answered form) = forms gone (fit enough form)

      go : (m : Answer (List ℕ))
          → ((m >>= λ gone. store (delete_nodes gone g) >>= λ form. fit enough form >>= λ form. fit enough_map (row (fitting g).width (node_map (fitting g) gone g))
          >>= λ map. answered (record { a = length form; b = length g.labels; bytes = form; map = map })) >>= λ (m : Result). answered m.bytes)
          ≡ ((m >>= λ gone. answered (delete_nodes gone g)) >>= λ h. store h >>= fit enough)
      go (refused r) = refl
      go (answered gone) = stores gone (store (delete_nodes gone g))

  -- a step's call gives the form of the step's graph
  single_gives : (step : Step) → Writable step → single step b ≡ (stepped step g >>= λ h. store h >>= fit enough)
  unfolding single stepped new_node_step new_edge_step new_operation_step unify_step add_edge_source_step add_edge_target_step delete_edges_step ◌>>=◌
  single_gives (node_step label) h = on_graph_gives (λ f. new_node_step label) (answered (new_node label g)) refl
  single_gives (edge_step label s t) h =
      let n = length g.labels in
      on_graph_gives (λ f. new_edge_step f label (sent (width_of b) s) (sent (width_of b) t)) (known_all n s >>= λ s. known_all n t >>= λ t. answered (new_edge label s t g))
      (rw (list_at n few_nodes s, list_at n few_nodes t) (go (known_all n s) (known_all n t)))
    where
      go : (a b : Answer (List ℕ))
          → graphs (a >>= λ s. b >>= λ t. answered (record { graph = new_edge label s t g; id = length g.edges })) ≡ (a >>= λ s. b >>= λ t. answered (new_edge label s t g))
      go (refused r) b = refl
      go (answered s) (refused r) = refl
      go (answered s) (answered t) = refl
  single_gives (operation_step label s t) h =
      on_graph_gives (λ f. new_operation_step label (row 4 s) (row 4 t)) (answered (new_operation label s t g))
      (rw (label_list_row s (below_front (256 ^ 4) s t h.lists), label_list_row t (below_back (256 ^ 4) s t h.lists)))
  single_gives (pair_step v w) h =
      let n = length g.labels in
      on_graph_gives (λ f. unify_step v w) (known n v >>= λ v. known n w >>= λ w. answered (unify v w g)) (go (known n v) (known n w))
    where
      go : (a b : Answer ℕ) → graphs (a >>= λ v. b >>= λ w. answered (record { graph = unify v w g; id = 0 })) ≡ (a >>= λ v. b >>= λ w. answered (unify v w g))
      go (refused r) b = refl
      go (answered s) (refused r) = refl
      go (answered s) (answered t) = refl
  single_gives (source_step edge label) h =
      on_graph_gives (λ f. add_edge_source_step edge label) (known (length g.edges) edge >>= λ e. answered (add_edge_source e label g)) (go (known (length g.edges) edge))
    where
      go : (a : Answer ℕ) → graphs (a >>= λ e. answered (record { graph = add_edge_source e label g; id = length g.labels })) ≡ (a >>= λ e. answered (add_edge_source e label g))
      go (refused r) = refl
      go (answered s) = refl
  single_gives (target_step edge label) h =
      on_graph_gives (λ f. add_edge_target_step edge label) (known (length g.edges) edge >>= λ e. answered (add_edge_target e label g)) (go (known (length g.edges) edge))
    where
      go : (a : Answer ℕ) → graphs (a >>= λ e. answered (record { graph = add_edge_target e label g; id = length g.labels })) ≡ (a >>= λ e. answered (add_edge_target e label g))
      go (refused r) = refl
      go (answered s) = refl
  single_gives (without_edges_step ids) h =
      let call = on_graph b enough (λ f. delete_edges_step f (sent (width_of b) ids)) in
      ap (λ (a : Answer Result). a >>= λ m. answered m.bytes) (in_room room_delete_edges call)
      ∙ on_graph_gives (λ f. delete_edges_step f (sent (width_of b) ids)) (known_all (length g.edges) ids >>= λ gone. answered (delete_edges gone g))
      (rw (list_at (length g.edges) few_edges ids) (go (known_all (length g.edges) ids)))
    where
      go : (a : Answer (List ℕ)) → graphs (a >>= λ gone. answered (record { graph = delete_edges gone g; id = 0 })) ≡ (a >>= λ gone. answered (delete_edges gone g))
      go (refused r) = refl
      go (answered s) = refl
  single_gives (without_nodes_step ids) h =
      let call = nodes_deleted b (sent (width_of b) ids) enough enough_map in
      ap (λ (a : Answer Result). a >>= λ m. answered m.bytes) (in_room room_delete_nodes call) ∙ nodes_deleted_gives ids

-- 9 at every step, and 10 never with room enough: what is made of a step's graph goes on to the next step, or stops there
onward : (k : ℕ) (h : Graph) → Proper h → {B : Type 0} (next : Graph → Built B) (after : List ℕ → Built B)
    → ((WellFormed largest h) → after (encode (fitting h) h) ≡ next h) → (((store h >>= fit enough) at_step k) then after) ≡ ((limited h at_step k) then next)
unfolding store fit limited ◌else◌ ◌>>◌ ◌>>=◌ ◌at_step◌ ◌then◌
onward k h p next after same = go (within_limits largest h) refl
  where
    fits : WellFormed largest h
        → (((((leb (length (encode (fitting h) h)) enough) else refusal 10) >> answered (encode (fitting h) h)) at_step k) then after) ≡ next h
    fits w = rw (le-leb (length (encode (fitting h) h)) enough (within_enough h w)) (same w)

    go : (c : Bool) → within_limits largest h ≡ c
        → ((((((c else refusal 9) >> answered (encode (fitting h) h)) >>= λ l. ((leb (length l) enough) else refusal 10) >> answered l)) at_step k) then after)
        ≡ ((((c else refusal 9) >> answered h) at_step k) then next)
    go true e = fits (limits_formed largest h p e)
    go false e = refl

-- one step, whatever follows it
turn_single : (k : ℕ) (x : Step) → Writable x → (b : List ℕ) (g : Graph) → At b g → {B : Type 0} (next : Graph → Built B) (after : List ℕ → Built B)
    → ((h : Graph) → WellFormed largest h → after (encode (fitting h) h) ≡ next h) → ((single x b at_step k) then after) ≡ ((turn (answered x) g at_step k) then next)
unfolding turn ◌>>=◌
turn_single k x w b g at next after same = rw (single_gives b g at x w) (go (stepped x g) refl)
  where
    go : (m : Answer Graph) → stepped x g ≡ m → (((m >>= λ h. store h >>= fit enough) at_step k) then after) ≡ (((m >>= limited) at_step k) then next)
    go (refused r) e = unfold ◌at_step◌ ◌then◌ in refl
    go (answered h) e = onward k h (step_proper x w g h at.formed.proper e) next after (same h)

-- the single calls one after the other, on a form, and the steps one after the other, on its graph
turns_singly : {B : Type 0} (next : Graph → Built B) (after : List ℕ → Built B) → ((h : Graph) → WellFormed largest h → after (encode (fitting h) h) ≡ next h)
    → (k : ℕ) (steps : List (Answer Step)) → AllWritable steps → (b : List ℕ) (g : Graph) → At b g → (singly k steps b then after) ≡ (turns k steps g then next)
unfolding ◌then◌ ◌>>=◌ turn
turns_singly next after same k [] h b g at = ap after (sym at.bytes) ∙ same g at.formed
turns_singly next after same k (refused r ∷ steps) h b g at = unfold ◌at_step◌ in refl
turns_singly next after same k (answered x ∷ steps) h b g at =
    then_assoc (single x b at_step k) (λ form. singly (suc k) steps form) after
    ∙ turn_single k x h.0 b g at (λ h. turns (suc k) steps h then next) (λ form. singly (suc k) steps form then after)
    (λ z w. turns_singly next after same (suc k) steps h.1 (encode (fitting z) z) z (stored_at z w))
    ∙ sym (then_assoc (turn (answered x) g at_step k) (λ h. turns (suc k) steps h) next)

-- the single calls answer the form of the last graph, or are refused as the steps are
pub singly_turns : (k : ℕ) (steps : List (Answer Step)) → AllWritable steps → (b : List ℕ) (g : Graph) → At b g
    → singly k steps b ≡ (turns k steps g then λ h. built (encode (fitting h) h))
singly_turns k steps h b g at = sym (then_built (singly k steps b)) ∙ turns_singly (λ h. built (encode (fitting h) h)) built (λ h w. refl) k steps h b g at

-- the last graph is within the limits
pub turns_formed : (k : ℕ) (steps : List (Answer Step)) → AllWritable steps → (g h : Graph) → WellFormed largest g → turns k steps g ≡ built h → WellFormed largest h
unfolding turn limited ◌>>=◌
turns_formed k [] w g h f e = subst (WellFormed largest) (same_built e) f
turns_formed k (refused r ∷ steps) w g h f e = absurd (never (at_built (refused r) k (came_built (turn (refused r) g at_step k) _ e).1))
turns_formed k (answered x ∷ steps) w g h f e =
    let p = came_built (turn (answered x) g at_step k) _ e in
    let q = came (stepped x g) limited (at_built (turn (answered x) g) k p.1) in
    let l = passed (within_limits largest q.0) _ (answered q.0) q.2 in
    let y : WellFormed largest p.0 = subst (WellFormed largest) (same_answer l.1) (limits_formed largest q.0 (step_proper x w.0 g q.0 f.proper q.1) l.0) in
    turns_formed (suc k) steps w.1 p.0 h y p.2

-- "give the graph that the steps one by one would give with room enough at each": on an accepted form, the call with steps answers what the
-- single calls answer, each given the bytes that the one before it answered; the first that refuses ends it, with its index
pub build_singly : (b steps : List ℕ) (room : ℕ) (s : StoredGraph) → Below 256 b → Below 256 steps → read b ≡ answered s
    → on_steps b steps room ≡ (singly 0 (steps_in steps) b then lastly room)
unfolding on_steps
build_singly b steps room s t u p =
    rw p
    (unfold ◌at_step◌ ◌then◌ in sym (turns_singly (λ g. made room (record { graph = g; id = 0 }) at_step 0) (lastly room) last 0 (steps_in steps) (all_writable steps u) b s.graph
    (read_at b s t p)))
  where
    last : (h : Graph) → WellFormed largest h → lastly room (encode (fitting h) h) ≡ (made room (record { graph = h; id = 0 }) at_step 0)
    last h w = unfold lastly made ◌>>=◌ in rw (store_formed h w)

-- a list of steps that is refused: the first call that refuses, with its index and its own refusal
pub singly_stops : (k : ℕ) (steps : List (Answer Step)) (b : List ℕ) (index : ℕ) (r : Refusal) → singly k steps b ≡ stopped index r → StopsAt k steps b index r
singly_stops k [] b index r e = absurd (never_built e)
singly_stops k (x ∷ xs) b index r e = go (single_of x b) refl e (λ form. singly_stops (suc k) xs form index r)
  where
    go : (m : Answer (List ℕ)) → single_of x b ≡ m → ((m at_step k) then λ form. singly (suc k) xs form) ≡ stopped index r
        → ((form : List ℕ) → singly (suc k) xs form ≡ stopped index r → StopsAt (suc k) xs form index r) → StopsAt k (x ∷ xs) b index r
    go (refused q) m e others = unfold ◌at_step◌ ◌then◌ in
        let same : q ≡ r = cc in
        let first : k ≡ index = cc in
        record {
          before = [];
          step = x;
          after = xs;
          form = b;
          split = refl;
          counted = omega (arith, first);
          given = refl;
          refuses = m ∙ ap refused same;
        }
    go (answered form) m e others = unfold ◌at_step◌ ◌then◌ in
        let h = others form e in
        record {
          before = x ∷ h.before;
          step = h.step;
          after = h.after;
          form = h.form;
          split = ap (λ (l : List (Answer Step)). x ∷ l) h.split;
          counted = omega (arith, h.counted);
          given = rw m h.given;
          refuses = h.refuses;
        }

-- a refusal of the graph read carries index zero
pub build_unread : (b steps : List ℕ) (room : ℕ) (r : Refusal) → read b ≡ refused r → on_steps b steps room ≡ stopped 0 r
unfolding on_steps ◌at_step◌ ◌then◌
build_unread b steps room r p = rw p

-- "No steps at all give the graph back"
pub build_nothing : (b : List ℕ) (room : ℕ) (s : StoredGraph) → Below 256 b → read b ≡ answered s → on_steps b [] room ≡ lastly room b
unfolding ◌then◌
build_nothing b room s t p = build_singly b [] room s t tt p

-- over graphs: steps in two parts
pub turns_append : (k : ℕ) (xs ys : List (Answer Step)) (g : Graph) → turns k (xs ++ ys) g ≡ (turns k xs g then λ h. turns (k + length xs) ys h)
unfolding ◌then◌
turns_append k [] ys g = ap (λ n. turns n ys g) (sym (add-zero k))
turns_append k (x ∷ xs) ys g = go (turn x g at_step k) (λ h. turns_append (suc k) xs ys h)
  where
    far : suc k + length xs ≡ k + suc (length xs)
    far = omega arith

    go : (m : Built Graph) → ((h : Graph) → turns (suc k) (xs ++ ys) h ≡ (turns (suc k) xs h then λ h. turns (suc k + length xs) ys h))
        → (m then λ h. turns (suc k) (xs ++ ys) h) ≡ ((m then λ h. turns (suc k) xs h) then λ h. turns (k + suc (length xs)) ys h)
    go (stopped j r) ih = refl
    go (built h) ih = ih h ∙ ap (λ n. turns (suc k) xs h then λ h. turns n ys h) far
