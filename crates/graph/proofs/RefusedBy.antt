-- Which refusals each call can give, whatever it is given: one theorem for each row of the table of functions.
-- Assumes nothing.
use mathlib.Core.Bool.{Bool, true, false, ◌||◌}
use mathlib.Core.List.{List, ◌∷◌}
use mathlib.Core.Path.{◌≡◌, refl, ap, subst}
use Prim.Native.Nat.{ℕ}
use native.Mathlib.Omega.{arith}
use lib.Dec.{eqb}
use lib.ListN.{length}
use borrow.Author.Tests.{eqb-true}
use Rattle.le.specs.Le.{Below}
use Rattle.graph.specs.Answer.{Answer}
use Rattle.graph.specs.Build.{empty}
use Rattle.graph.specs.Calls.{Next, known, label_list, id_list, unpaired, fit, in_work_room, made, on_nothing, on_graph, rewrite_step, empty_step, discrete_step, identity_step, singleton_step, new_node_step, new_edge_step, new_operation_step, unify_step, add_edge_source_step, add_edge_target_step, delete_edges_step, spiderize_step, spiderize_all_step, nodes_deleted, nodes_merged, fed_once, read_call, rewrite_call, empty_call, discrete_call, identity_call, singleton_call, new_node_call, new_edge_call, new_operation_call, unify_call, add_edge_source_call, add_edge_target_call, delete_edges_call, delete_nodes_call, quotient_call, spiderize_call, spiderize_nodes_call, once_fed_call}
use Rattle.graph.specs.Graph.{Graph, Format, WellFormed, largest}
use Rattle.graph.specs.Lists.{all, member}
use Rattle.graph.specs.Merge.{quotient}
use Rattle.graph.specs.RefusedBy.{read_call_refusals, rewrite_refusals, empty_refusals, discrete_refusals, identity_refusals, singleton_refusals, new_node_refusals, new_edge_refusals, new_operation_refusals, unify_refusals, add_edge_source_refusals, add_edge_target_refusals, delete_edges_refusals, delete_nodes_refusals, quotient_refusals, spiderize_refusals, spiderize_nodes_refusals, once_fed_refusals}
use Rattle.graph.specs.Versions.{read, store}
use Rattle.graph.proofs.Limits.{NotNine, delete_edges_no_9, delete_nodes_no_9, quotient_no_9}
use Rattle.graph.proofs.Reading.{read_refusals}
use Rattle.graph.proofs.Refuses.{RefusedBy, answer_by, test_by, step_by, step_when, wider_by}
use Rattle.graph.proofs.Steps.{same_answer}
use Rattle.graph.proofs.Versions.{read_by, read_sound, store_formed}

-- ---- the steps: each gives only refusals that are in a list, if its own is

module _ (ns : List ℕ) where
  pub reads_by : all (λ n. member n ns) read_refusals ≡ true → (b : List ℕ) → RefusedBy ns (read b)
  reads_by h b = wider_by read_refusals ns h (read_by b)

  module _ (seven : member 7 ns ≡ true) where
    pub known_by : (count id : ℕ) → RefusedBy ns (known count id)
    unfolding known
    known_by count id = test_by _ _ _ seven (answer_by _)

    pub label_list_by : (b : List ℕ) → RefusedBy ns (label_list b)
    unfolding label_list
    label_list_by b = test_by _ _ _ seven (answer_by _)

    pub id_list_by : (f : Format) (count : ℕ) (b : List ℕ) → RefusedBy ns (id_list f count b)
    unfolding id_list
    id_list_by f count b = test_by _ _ _ seven (test_by _ _ _ seven (answer_by _))

  pub unpaired_by : member 8 ns ≡ true → (g : Graph) → RefusedBy ns (unpaired g)
  unfolding unpaired
  unpaired_by eight g = test_by _ _ _ eight (answer_by _)

  pub merged_by : member 11 ns ≡ true → (g : Graph) → RefusedBy ns (quotient g)
  unfolding quotient
  merged_by eleven g = test_by _ _ _ eleven (answer_by _)

  pub stored_by : member 9 ns ≡ true → (g : Graph) → RefusedBy ns (store g)
  unfolding store
  stored_by nine g = test_by _ _ _ nine (answer_by _)

  module _ (ten : member 10 ns ≡ true) where
    pub fit_by : (room : ℕ) (bytes : List ℕ) → RefusedBy ns (fit room bytes)
    unfolding fit
    fit_by room bytes = test_by _ _ _ ten (answer_by _)

    pub work_by : {A : Type 0} (needed lent : ℕ) (a : Answer A) → RefusedBy ns a → RefusedBy ns (in_work_room needed lent a)
    unfolding in_work_room
    work_by needed lent a h = test_by _ _ _ ten h

    -- a graph that is answered: 9 and 10
    pub made_by : member 9 ns ≡ true → (room : ℕ) (x : Next) → RefusedBy ns (made room x)
    unfolding made
    made_by nine room x = step_by _ _ (stored_by nine x.graph) (λ form. step_by _ _ (fit_by room form) (λ form. answer_by _))

    -- and 10 alone, if it is within the limits
    pub made_within_by : (room : ℕ) (x : Next) → WellFormed largest x.graph → RefusedBy ns (made room x)
    unfolding made
    made_within_by room x h = step_by _ _ (rw (store_formed x.graph h) (answer_by _)) (λ form. step_by _ _ (fit_by room form) (λ form. answer_by _))

    module _ (nine : member 9 ns ≡ true) where
      pub on_nothing_by : (room : ℕ) (start : Answer Next) → RefusedBy ns start → RefusedBy ns (on_nothing room start)
      unfolding on_nothing
      on_nothing_by room start h = step_by start _ h (λ x. made_by nine room x)

      pub on_graph_by : all (λ n. member n ns) read_refusals ≡ true → (b : List ℕ) (room : ℕ) (step : Format → Graph → Answer Next)
          → ((f : Format) (g : Graph) → RefusedBy ns (step f g)) → RefusedBy ns (on_graph b room step)
      unfolding on_graph
      on_graph_by r b room step h =
          step_by (read b) _ (reads_by r b) (λ s. step_by (step s.format s.graph) _ (h s.format s.graph) (λ x. made_by nine room x))

-- a list is not longer than it has to be: 9 is not in it where it is not given
but_nine : {A : Type 0} (ns : List ℕ) {a : Answer A} → RefusedBy (9 ∷ ns) a → NotNine a → RefusedBy ns a
but_nine ns h n = record { each = λ r e. go r.no (eqb r.no 9) refl (n.each r e) (h.each r e) }
  where
    go : (m : ℕ) (c : Bool) → eqb m 9 ≡ c → (m ≡ 9 → ⊥) → (c || member m ns) ≡ true → member m ns ≡ true
    go m true e d k = absurd (d (eqb-true m 9 e))
    go m false e d k = k

-- ---- reading and rewriting

pub read_call_by : (b : List ℕ) (room : ℕ) → RefusedBy read_call_refusals (read_call b room)
read_call_by b room = step_by _ _ (reads_by read_call_refusals refl b) (λ s. step_by _ _ (fit_by read_call_refusals refl room _) (λ bytes. answer_by _))

-- what was read is within the limits
pub rewrite_by : (b : List ℕ) → Below 256 b → (room : ℕ) → RefusedBy rewrite_refusals (rewrite_call b room)
unfolding on_graph rewrite_step
rewrite_by b t room =
    step_when _ _ (reads_by rewrite_refusals refl b)
    (λ s p. step_when _ _ (answer_by _)
    (λ x q.
    let h = read_sound b s t p in
    let same : s.graph ≡ x.graph = ap (λ (k : Next). k.graph) (same_answer q) in
    made_within_by rewrite_refusals refl room x (subst (WellFormed largest) same (h.version.grows s.graph h.formed))))

-- ---- calls without a graph

pub empty_by : (room : ℕ) → RefusedBy empty_refusals (empty_call room)
unfolding on_nothing empty_step
empty_by room =
    step_when _ _ (answer_by _)
    (λ x q. made_within_by empty_refusals refl room x (subst (WellFormed largest) (ap (λ (k : Next). k.graph) (same_answer q)) formed))
  where
    formed : WellFormed largest empty
    formed = record {
      proper = record { ids = tt; node_labels = tt; edge_labels = tt };
      counts = record { nodes = omega arith; edges = omega arith; sources = omega arith; targets = omega arith; pairs = omega arith };
      ports = omega arith;
    }

pub discrete_by : (labels : List ℕ) (room : ℕ) → RefusedBy discrete_refusals (discrete_call labels room)
unfolding discrete_step
discrete_by labels room = on_nothing_by discrete_refusals refl refl room _ (step_by _ _ (label_list_by discrete_refusals refl labels) (λ x. answer_by _))

pub identity_by : (labels : List ℕ) (room : ℕ) → RefusedBy identity_refusals (identity_call labels room)
unfolding identity_step
identity_by labels room = on_nothing_by identity_refusals refl refl room _ (step_by _ _ (label_list_by identity_refusals refl labels) (λ x. answer_by _))

pub singleton_by : (label : ℕ) (s u : List ℕ) (room : ℕ) → RefusedBy singleton_refusals (singleton_call label s u room)
unfolding singleton_step
singleton_by label s u room =
    on_nothing_by singleton_refusals refl refl room _
    (step_by _ _ (label_list_by singleton_refusals refl s) (λ x. step_by _ _ (label_list_by singleton_refusals refl u) (λ y. answer_by _)))

module _ (b : List ℕ) where
  -- ---- adding to a graph

  pub new_node_by : (label room : ℕ) → RefusedBy new_node_refusals (new_node_call b label room)
  unfolding new_node_step
  new_node_by label room = on_graph_by new_node_refusals refl refl refl b room _ (λ f g. answer_by _)

  pub new_edge_by : (label : ℕ) (s u : List ℕ) (room : ℕ) → RefusedBy new_edge_refusals (new_edge_call b label s u room)
  unfolding new_edge_step
  new_edge_by label s u room =
      on_graph_by new_edge_refusals refl refl refl b room _
      (λ f g. step_by _ _ (id_list_by new_edge_refusals refl f (length g.labels) s)
      (λ x. step_by _ _ (id_list_by new_edge_refusals refl f (length g.labels) u) (λ y. answer_by _)))

  pub new_operation_by : (label : ℕ) (s u : List ℕ) (room : ℕ) → RefusedBy new_operation_refusals (new_operation_call b label s u room)
  unfolding new_operation_step
  new_operation_by label s u room =
      on_graph_by new_operation_refusals refl refl refl b room _
      (λ f g. step_by _ _ (label_list_by new_operation_refusals refl s) (λ x. step_by _ _ (label_list_by new_operation_refusals refl u) (λ y. answer_by _)))

  pub unify_by : (v w room : ℕ) → RefusedBy unify_refusals (unify_call b v w room)
  unfolding unify_step
  unify_by v w room =
      on_graph_by unify_refusals refl refl refl b room _
      (λ f g. step_by _ _ (known_by unify_refusals refl (length g.labels) v)
      (λ x. step_by _ _ (known_by unify_refusals refl (length g.labels) w) (λ y. answer_by _)))

  pub add_edge_source_by : (edge label room : ℕ) → RefusedBy add_edge_source_refusals (add_edge_source_call b edge label room)
  unfolding add_edge_source_step
  add_edge_source_by edge label room =
      on_graph_by add_edge_source_refusals refl refl refl b room _
      (λ f g. step_by _ _ (known_by add_edge_source_refusals refl (length g.edges) edge) (λ x. answer_by _))

  pub add_edge_target_by : (edge label room : ℕ) → RefusedBy add_edge_target_refusals (add_edge_target_call b edge label room)
  unfolding add_edge_target_step
  add_edge_target_by edge label room =
      on_graph_by add_edge_target_refusals refl refl refl b room _
      (λ f g. step_by _ _ (known_by add_edge_target_refusals refl (length g.edges) edge) (λ x. answer_by _))

  -- ---- deleting and merging

  module _ (t : Below 256 b) where
    pub delete_edges_by : (gone : List ℕ) (room work_room : ℕ) → RefusedBy delete_edges_refusals (delete_edges_call b gone room work_room)
    unfolding delete_edges_step
    delete_edges_by gone room work_room =
        let ns : List ℕ = 9 ∷ delete_edges_refusals in
        but_nine delete_edges_refusals
        (work_by ns refl _ work_room _ (on_graph_by ns refl refl refl b room _
        (λ f g. step_by _ _ (id_list_by ns refl f (length g.edges) gone) (λ x. answer_by _))))
        (delete_edges_no_9 b gone t room work_room)

    pub delete_nodes_by : (gone : List ℕ) (room map_room work_room : ℕ) → RefusedBy delete_nodes_refusals (delete_nodes_call b gone room map_room work_room)
    unfolding nodes_deleted
    delete_nodes_by gone room map_room work_room =
        let ns : List ℕ = 9 ∷ delete_nodes_refusals in
        but_nine delete_nodes_refusals
        (work_by ns refl _ work_room _ (step_by _ _ (reads_by ns refl b)
        (λ s. step_by _ _ (id_list_by ns refl s.format (length s.graph.labels) gone) (λ gone. step_by _ _ (stored_by ns refl _)
        (λ form. step_by _ _ (fit_by ns refl room form) (λ form. step_by _ _ (fit_by ns refl map_room _) (λ map. answer_by _)))))))
        (delete_nodes_no_9 b gone t room work_room map_room)

    pub quotient_by : (room map_room work_room : ℕ) → RefusedBy quotient_refusals (quotient_call b room map_room work_room)
    unfolding nodes_merged
    quotient_by room map_room work_room =
        let ns : List ℕ = 9 ∷ quotient_refusals in
        but_nine quotient_refusals
        (work_by ns refl _ work_room _ (step_by _ _ (reads_by ns refl b)
        (λ s. step_by _ _ (merged_by ns refl s.graph) (λ m. step_by _ _ (stored_by ns refl _)
        (λ form. step_by _ _ (fit_by ns refl room form) (λ form. step_by _ _ (fit_by ns refl map_room _) (λ map. answer_by _)))))))
        (quotient_no_9 b t room map_room work_room)

  -- ---- spiderizing merges first, so neither call gives 8; spiderizing all takes no list, so it gives no 7

  pub spiderize_by : (room work_room : ℕ) → RefusedBy spiderize_refusals (spiderize_call b room work_room)
  unfolding spiderize_all_step
  spiderize_by room work_room =
      work_by spiderize_refusals refl _ work_room _
      (on_graph_by spiderize_refusals refl refl refl b room _ (λ f g. step_by _ _ (merged_by spiderize_refusals refl g) (λ m. answer_by _)))

  pub spiderize_nodes_by : (listed : List ℕ) (room work_room : ℕ) → RefusedBy spiderize_nodes_refusals (spiderize_nodes_call b listed room work_room)
  unfolding spiderize_step
  spiderize_nodes_by listed room work_room =
      work_by spiderize_nodes_refusals refl _ work_room _
      (on_graph_by spiderize_nodes_refusals refl refl refl b room _
      (λ f g. step_by _ _ (id_list_by spiderize_nodes_refusals refl f (length g.labels) listed)
      (λ listed. step_by _ _ (merged_by spiderize_nodes_refusals refl g) (λ m. answer_by _))))

  -- ---- the once-fed check

  pub once_fed_by : (work_room : ℕ) → RefusedBy once_fed_refusals (once_fed_call b work_room)
  unfolding fed_once
  once_fed_by work_room =
      work_by once_fed_refusals refl _ work_room _
      (step_by _ _ (reads_by once_fed_refusals refl b) (λ s. step_by _ _ (unpaired_by once_fed_refusals refl s.graph) (λ g. answer_by _)))
