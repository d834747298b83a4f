-- Deleting and merging never pass a limit: what is left is no larger than what was there, so none of these calls gives 9.
-- Assumes nothing.
use mathlib.Core.Bool.{Bool, true, false, false≢true, not, cond, ◌&&◌}
use mathlib.Core.List.{List, [], ◌∷◌, ◌++◌, map}
use mathlib.Core.Path.{◌≡◌, sym, ap, ◌∙◌, subst}
use Prim.Native.Nat.{ℕ, suc, ◌≤◌}
use native.Mathlib.Omega.{arith}
use lib.ListN.{length, length-map, length-append}
use Rattle.le.specs.Le.{Below}
use Rattle.graph.specs.Answer.{Answer, answered}
use Rattle.graph.specs.Calls.{Next, id_list, fit, made, on_graph, in_work_room, delete_edges_step, delete_edges_call, nodes_deleted, delete_nodes_call, nodes_merged, quotient_call}
use Rattle.graph.specs.Delete.{remaining, new_id, renamed, renamed_edge, delete_edges, delete_nodes}
use Rattle.graph.specs.Graph.{Edge, Graph, edge_entries, largest, WellFormed}
use Rattle.graph.specs.Lists.{joined, keep, member, among}
use Rattle.graph.specs.Merge.{quotient}
use Rattle.graph.specs.Versions.{StoredGraph, read, store}
use Rattle.graph.proofs.Kept.{delete_edges_proper, delete_nodes_proper}
use Rattle.graph.proofs.Merged.{quotient_formed}
use Rattle.graph.proofs.Reading.{read_refusals}
use Rattle.graph.proofs.Refuses.{Refuses, answer_by, test_by, step_when}
use Rattle.graph.proofs.Steps.{same_answer, came}
use Rattle.graph.proofs.Versions.{read_sound, read_by, store_formed}

-- ---- what is left is no more

keep_fewer : {A : Type 0} (test : A → Bool) (xs : List A) → length (keep test xs) ≤ length xs
keep_fewer test [] = omega arith
keep_fewer test (x ∷ xs) = pick (test x) (keep_fewer test xs)
  where
    pick : (c : Bool) → length (keep test xs) ≤ length xs → length (cond c (x ∷ keep test xs) (keep test xs)) ≤ length (x ∷ xs)
    pick true k = omega arith
    pick false k = omega arith

module _ (goes : ℕ → Bool) where
  -- entries that stay, and what they stand for
  remaining_fewer : {A B : Type 0} (part : A → List B) (id : ℕ) (xs : List A)
      → (length (remaining goes id xs) ≤ length xs) × (length (joined part (remaining goes id xs)) ≤ length (joined part xs))
  remaining_fewer part id [] = (omega arith, omega arith)
  remaining_fewer part id (x ∷ xs) = pick (goes id) (remaining_fewer part (suc id) xs)
    where
      pick : (c : Bool) → (length (remaining goes (suc id) xs) ≤ length xs) × (length (joined part (remaining goes (suc id) xs)) ≤ length (joined part xs))
          → (length (cond c (remaining goes (suc id) xs) (x ∷ remaining goes (suc id) xs)) ≤ length (x ∷ xs))
          × (length (joined part (cond c (remaining goes (suc id) xs) (x ∷ remaining goes (suc id) xs))) ≤ length (part x ++ joined part xs))
      pick true k = (omega arith, omega (arith, k.1, length-append (part x) (joined part xs)))
      pick false k =
          (omega arith, omega (arith, k.1, length-append (part x) (joined part xs), length-append (part x) (joined part (remaining goes (suc id) xs))))

  pub renamed_fewer : (xs : List ℕ) → length (renamed goes xs) ≤ length xs
  renamed_fewer xs = omega (arith, length-map (keep (λ id. not (goes id)) xs) (new_id goes), keep_fewer (λ (id : ℕ). not (goes id)) xs)

  ports_fewer : (es : List Edge) → length (edge_entries (map (renamed_edge goes) es)) ≤ length (edge_entries es)
  ports_fewer [] = omega arith
  ports_fewer (e ∷ es) =
      omega (
        arith,
        length-append (e.sources ++ e.targets) (edge_entries es),
        length-append e.sources e.targets,
        length-append (renamed goes e.sources ++ renamed goes e.targets) (edge_entries (map (renamed_edge goes) es)),
        length-append (renamed goes e.sources) (renamed goes e.targets),
        renamed_fewer e.sources,
        renamed_fewer e.targets,
        ports_fewer es,
      )

pub delete_edges_formed : (list : List ℕ) (g : Graph) → WellFormed largest g → WellFormed largest (delete_edges list g)
unfolding delete_edges
delete_edges_formed list g h =
    let c = h.counts in
    let left = remaining_fewer (among list) (λ (e : Edge). e.sources ++ e.targets) 0 g.edges in
    record {
      proper = delete_edges_proper list g h.proper;
      counts = record { nodes = c.nodes; edges = omega (arith, c.edges, left.0); sources = c.sources; targets = c.targets; pairs = c.pairs };
      ports = omega (arith, h.ports, left.1);
    }

pub delete_nodes_formed : (list : List ℕ) (g : Graph) → WellFormed largest g → WellFormed largest (delete_nodes list g)
unfolding delete_nodes
delete_nodes_formed list g h =
    let c = h.counts in
    let goes = among list in
    let stays : ℕ × ℕ → Bool = λ p. not (goes p.0) && not (goes p.1) in
    record {
      proper = delete_nodes_proper list g h.proper;
      counts = record {
        nodes = omega (arith, c.nodes, (remaining_fewer goes (λ (n : ℕ). n ∷ []) 0 g.labels).0);
        edges = omega (arith, c.edges, length-map g.edges (renamed_edge goes));
        sources = omega (arith, c.sources, renamed_fewer goes g.sources);
        targets = omega (arith, c.targets, renamed_fewer goes g.targets);
        pairs = omega (arith, c.pairs, length-map {B = ℕ × ℕ} (keep stays g.pairs) (λ p. (new_id goes p.0, new_id goes p.1)), keep_fewer stays g.pairs);
      };
      ports = omega (arith, h.ports, ports_fewer goes g.edges);
    }

-- ---- the calls

-- no refusal is 9
abbrev pub NotNine : {A : Type 0} → Answer A → Type 0
NotNine a = Refuses (λ r. r.no ≡ 9 → ⊥) a

reads : (b : List ℕ) → NotNine (read b)
reads b = record {
  each = λ r e n.
      let h : false ≡ true = ap (λ k. member k read_refusals) (sym n) ∙ (read_by b).each r e in
      false≢true h;
}

lists : (s : StoredGraph) (count : ℕ) (b : List ℕ) → NotNine (id_list s.format count b)
unfolding id_list
lists s count b = test_by _ _ _ (λ e. omega arith) (test_by _ _ _ (λ e. omega arith) (answer_by _))

fits : (room : ℕ) (bytes : List ℕ) → NotNine (fit room bytes)
unfolding fit
fits room bytes = test_by _ _ _ (λ e. omega arith) (answer_by _)

merges : (g : Graph) → NotNine (quotient g)
unfolding quotient
merges g = test_by _ _ _ (λ e. omega arith) (answer_by _)

forms : (g : Graph) → WellFormed largest g → NotNine (store g)
forms g h = rw (store_formed g h) (answer_by _)

makes : (room : ℕ) (x : Next) → WellFormed largest x.graph → NotNine (made room x)
unfolding made
makes room x h = step_when _ _ (forms x.graph h) (λ form p. step_when _ _ (fits room form) (λ form q. answer_by _))

-- whatever it is given, none of these calls gives 9
module _ (b : List ℕ) (t : Below 256 b) where
  within : (s : StoredGraph) → read b ≡ answered s → WellFormed largest s.graph
  within s p = let h = read_sound b s t p in h.version.grows s.graph h.formed

  pub quotient_no_9 : (room map_room work_room : ℕ) → NotNine (quotient_call b room map_room work_room)
  unfolding in_work_room nodes_merged
  quotient_no_9 room map_room work_room =
      test_by _ _ _ (λ e. omega arith)
      (step_when _ _ (reads b) (λ s p. step_when _ _ (merges s.graph)
      (λ m q. step_when _ _ (forms m.graph (quotient_formed largest s.graph m (within s p) q))
      (λ form r. step_when _ _ (fits room form) (λ form k. step_when _ _ (fits map_room _) (λ map u. answer_by _))))))

module _ (b list : List ℕ) (t : Below 256 b) (room work_room : ℕ) where
  pub delete_edges_no_9 : NotNine (delete_edges_call b list room work_room)
  unfolding in_work_room on_graph delete_edges_step
  delete_edges_no_9 =
      test_by _ _ _ (λ e. omega arith)
      (step_when _ _ (reads b) (λ s p. step_when _ _ (step_when _ _ (lists s (length s.graph.edges) list) (λ gone q. answer_by _))
      (λ x q.
      let gone = came (id_list s.format (length s.graph.edges) list) _ q in
      makes room x (subst (λ (k : Next). WellFormed largest k.graph) (same_answer gone.2) (delete_edges_formed gone.0 s.graph (within b t s p))))))

  pub delete_nodes_no_9 : (map_room : ℕ) → NotNine (delete_nodes_call b list room map_room work_room)
  unfolding in_work_room nodes_deleted
  delete_nodes_no_9 map_room =
      test_by _ _ _ (λ e. omega arith)
      (step_when _ _ (reads b) (λ s p. step_when _ _ (lists s (length s.graph.labels) list)
      (λ gone q. step_when _ _ (forms (delete_nodes gone s.graph) (delete_nodes_formed gone s.graph (within b t s p)))
      (λ form r. step_when _ _ (fits room form) (λ form k. step_when _ _ (fits map_room _) (λ map u. answer_by _))))))
