-- The numbers of every exported call's answer fit their bits, and its refusals are those of 01.
-- Assumes nothing.
use mathlib.Core.Bool.{Bool, true, false}
use mathlib.Core.List.{List}
use mathlib.Core.Path.{◌≡◌, refl, sym, ap, subst}
use Prim.Native.Nat.{ℕ, ◌≤◌, ◌<◌, ◌^◌}
use native.Mathlib.Omega.{arith}
use lib.ListN.{length}
use Rattle.graph.specs.Answer.{Answer, answered, Result, writing, saying}
use Rattle.graph.specs.Calls.{Next, known, label_list, id_list, on_nothing, on_graph, in_work_room, rewrite_step, empty_step, discrete_step, identity_step, singleton_step, new_node_step, new_edge_step, new_operation_step, unify_step, add_edge_source_step, add_edge_target_step, delete_edges_step, spiderize_step, spiderize_all_step, read_call, rewrite_call, empty_call, discrete_call, identity_call, singleton_call, new_node_call, new_edge_call, new_operation_call, unify_call, add_edge_source_call, add_edge_target_call, delete_edges_call, delete_nodes_call, quotient_call, spiderize_call, spiderize_nodes_call, once_fed_call}
use Rattle.graph.specs.Merge.{quotient}
use Rattle.graph.specs.Graph.{Graph, Format, Proper, WellFormed, largest}
use Rattle.graph.specs.Checks.{monogamous}
use Rattle.choice.specs.Drawing.{no_loop}
use Rattle.le.specs.Le.{Below}
use Rattle.choice.specs.Calls.{room_cycle_breaking_nodes, cycle_breaking_nodes_keeping_call, cycle_breaking_nodes_scanning_call, no_loop_call, find_loop_call, reasons_call}
use Rattle.choice.proofs.Graphs.{chosen_and_free_are_all}
use Rattle.choice.proofs.ReasonsStored.{reasons_answer}
use Rattle.choice.proofs.Stored.{no_loop_answer}
use Rattle.choice.proofs.KeptStored.{keeping_answer}
use Rattle.choice.proofs.Shown.{steps_bounds}
use Rattle.choice.proofs.ShownStored.{find_loop_answer}
use Rattle.choice.proofs.Sweeps.{scanned_kept}
use Rattle.graph.proofs.Answers.{FormOf, Keeps, on_graph_answer, on_nothing_answer, read_answer, delete_nodes_answer, quotient_call_answer, once_fed_answer, worked, rewrite_kept, empty_kept, discrete_kept, identity_kept, singleton_kept, new_node_kept, new_edge_kept, new_operation_kept, unify_kept, add_source_kept, add_target_kept, delete_edges_kept, spiderize_kept, spiderize_all_kept}
use Rattle.graph.specs.RefusedBy.{read_call_refusals, rewrite_refusals, empty_refusals, discrete_refusals, identity_refusals, singleton_refusals, new_node_refusals, new_edge_refusals, new_operation_refusals, unify_refusals, add_edge_source_refusals, add_edge_target_refusals, delete_edges_refusals, delete_nodes_refusals, quotient_refusals, spiderize_refusals, spiderize_nodes_refusals, once_fed_refusals}
use Rattle.choice.specs.RefusedBy.{cycle_breaking_nodes_keeping_refusals, cycle_breaking_nodes_scanning_refusals, no_loop_refusals, find_loop_refusals, reasons_refusals}
use Rattle.graph.proofs.Refusals.{Listed, listed, refused_in}
use Rattle.graph.proofs.RefusedBy.{read_call_by, rewrite_by, empty_by, discrete_by, identity_by, singleton_by, new_node_by, new_edge_by, new_operation_by, unify_by, add_edge_source_by, add_edge_target_by, delete_edges_by, delete_nodes_by, quotient_by, spiderize_by, spiderize_nodes_by, once_fed_by}
use Rattle.choice.proofs.RefusedBy.{cycle_breaking_nodes_keeping_by, cycle_breaking_nodes_scanning_by, no_loop_by, find_loop_by, reasons_by}
use Rattle.graph.proofs.Steps.{same_answer, came}
use Rattle.graph.proofs.Versions.{read_sound, longest}
use Rattle.packing.specs.Packed.{Ranged}

-- ---- the id that a step gives is one of the counts of a graph within the limits, or 0

abbrev Small : (Format → Graph → Answer Next) → Type 0
Small step = (f : Format) (g : Graph) (x : Next) → WellFormed largest g → step f g ≡ answered x → x.id < 2 ^ 32

id_of_lem : {x y : Next} → answered x ≡ answered y → x.id ≡ y.id
id_of_lem e = ap (λ (k : Next). k.id) (same_answer e)

-- ---- the numbers of an answer

form_short : {room : ℕ} {g : Graph} {bytes : List ℕ} → FormOf room g bytes → length bytes < 2 ^ 24
form_short {room} {g} {bytes} h =
    let l : length bytes ≤ 655385 = subst (λ (b : List ℕ). length b ≤ 655385) h.written (longest g h.formed) in
    omega arith

-- a written form with an id beside it
writes : {m : Result} {bytes : List ℕ} {id : ℕ} → m ≡ writing bytes id → length bytes < 2 ^ 24 → id < 2 ^ 32 → (m.a < 2 ^ 24) × (m.b < 2 ^ 32)
writes {m} {bytes} {id} e l k = rw e (l, k)

says : {m : Result} (yes : Bool) → m ≡ saying yes → (m.a < 2 ^ 24) × (m.b < 2 ^ 32)
says {m} true e = rw e (omega arith, omega arith)
says {m} false e = rw e (omega arith, omega arith)

-- ---- calls that write a graph

module _ (b : List ℕ) (t : Below 256 b) (room : ℕ) where
  graph_numbers : (step : Format → Graph → Answer Next) → ((f : Format) → Keeps (step f)) → Small step → (m : Result) → on_graph b room step ≡ answered m
      → (m.a < 2 ^ 24) × (m.b < 2 ^ 32)
  graph_numbers step keeps small m e =
      let h = on_graph_answer b room step m t keeps e in
      let s = h.0 in
      let sound = read_sound b s t h.2 in
      writes h.5 (form_short h.4) (small s.format s.graph h.1 (sound.version.grows s.graph sound.formed) h.3)

  graph_ranged : (step : Format → Graph → Answer Next) → ((f : Format) → Keeps (step f)) → Listed (on_graph b room step) → Small step → Ranged (on_graph b room step)
  graph_ranged step keeps l small = record { no = λ r e. refused_in l e; numbers = graph_numbers step keeps small }

  pub read_ranged : Ranged (read_call b room)
  read_ranged = record {
    no = λ r e. refused_in (listed read_call_refusals refl (read_call_by b room)) e;
    numbers = λ m e. writes (read_answer b room m e).2 (omega arith) (omega arith);
  }

  pub rewrite_ranged : Ranged (rewrite_call b room)
  unfolding rewrite_step
  rewrite_ranged = graph_ranged (λ f. rewrite_step) (λ f. rewrite_kept) (listed rewrite_refusals refl (rewrite_by b t room)) (λ f g x h e. omega (arith, id_of_lem e))

  pub new_node_ranged : (label : ℕ) → label < 2 ^ 32 → Ranged (new_node_call b label room)
  unfolding new_node_step
  new_node_ranged label l = graph_ranged (λ f. new_node_step label) (λ f. new_node_kept label l) (listed new_node_refusals refl (new_node_by b label room)) (λ f g x h e. omega (arith, id_of_lem e, h.counts.nodes))

  pub new_edge_ranged : (label : ℕ) (s u : List ℕ) → label < 2 ^ 32 → Ranged (new_edge_call b label s u room)
  unfolding new_edge_step
  new_edge_ranged label s u l =
      graph_ranged (λ f. new_edge_step f label s u) (λ f. new_edge_kept f label s u l) (listed new_edge_refusals refl (new_edge_by b label s u room))
      (λ f g x h e.
      let p = came (id_list f (length g.labels) s) _ e in
      let q = came (id_list f (length g.labels) u) _ p.2 in
      omega (arith, id_of_lem q.2, h.counts.edges))

  pub new_operation_ranged : (label : ℕ) (s u : List ℕ) → label < 2 ^ 32 → Below 256 s → Below 256 u → Ranged (new_operation_call b label s u room)
  unfolding new_operation_step
  new_operation_ranged label s u l ts tu =
      graph_ranged (λ f. new_operation_step label s u) (λ f. new_operation_kept label s u l ts tu) (listed new_operation_refusals refl (new_operation_by b label s u room))
      (λ f g x h e.
      let p = came (label_list s) _ e in
      let q = came (label_list u) _ p.2 in
      omega (arith, id_of_lem q.2, h.counts.edges))

  pub unify_ranged : (v w : ℕ) → Ranged (unify_call b v w room)
  unfolding unify_step
  unify_ranged v w =
      graph_ranged (λ f. unify_step v w) (λ f. unify_kept v w) (listed unify_refusals refl (unify_by b v w room))
      (λ f g x h e.
      let p = came (known (length g.labels) v) _ e in
      let q = came (known (length g.labels) w) _ p.2 in
      omega (arith, id_of_lem q.2))

  pub add_source_ranged : (edge label : ℕ) → label < 2 ^ 32 → Ranged (add_edge_source_call b edge label room)
  unfolding add_edge_source_step
  add_source_ranged edge label l =
      graph_ranged (λ f. add_edge_source_step edge label) (λ f. add_source_kept edge label l) (listed add_edge_source_refusals refl (add_edge_source_by b edge label room))
      (λ f g x h e. let p = came (known (length g.edges) edge) _ e in omega (arith, id_of_lem p.2, h.counts.nodes))

  pub add_target_ranged : (edge label : ℕ) → label < 2 ^ 32 → Ranged (add_edge_target_call b edge label room)
  unfolding add_edge_target_step
  add_target_ranged edge label l =
      graph_ranged (λ f. add_edge_target_step edge label) (λ f. add_target_kept edge label l) (listed add_edge_target_refusals refl (add_edge_target_by b edge label room))
      (λ f g x h e. let p = came (known (length g.edges) edge) _ e in omega (arith, id_of_lem p.2, h.counts.nodes))

  -- ---- calls that are lent work room

  graph_work_ranged : (needed lent : ℕ) (step : Format → Graph → Answer Next) → ((f : Format) → Keeps (step f)) → Listed (in_work_room needed lent (on_graph b room step))
      → Small step → Ranged (in_work_room needed lent (on_graph b room step))
  graph_work_ranged needed lent step keeps l small = record {
    no = λ r e. refused_in l e;
    numbers = λ m e. graph_numbers step keeps small m (worked needed lent (on_graph b room step) e);
  }

  pub delete_edges_ranged : (gone : List ℕ) (work_room : ℕ) → Ranged (delete_edges_call b gone room work_room)
  unfolding delete_edges_step
  delete_edges_ranged gone work_room =
      graph_work_ranged _ work_room (λ f. delete_edges_step f gone) (λ f. delete_edges_kept f gone) (listed delete_edges_refusals refl (delete_edges_by b t gone room work_room))
      (λ f g x h e. let p = came (id_list f (length g.edges) gone) _ e in omega (arith, id_of_lem p.2))

  pub spiderize_ranged : (work_room : ℕ) → Ranged (spiderize_call b room work_room)
  unfolding spiderize_all_step
  spiderize_ranged work_room =
      graph_work_ranged _ work_room (λ f. spiderize_all_step) (λ f. spiderize_all_kept) (listed spiderize_refusals refl (spiderize_by b room work_room))
      (λ f g x h e. let q = came (quotient g) _ e in omega (arith, id_of_lem q.2))

  pub spiderize_nodes_ranged : (list : List ℕ) (work_room : ℕ) → Ranged (spiderize_nodes_call b list room work_room)
  unfolding spiderize_step
  spiderize_nodes_ranged list work_room =
      graph_work_ranged _ work_room (λ f. spiderize_step f list) (λ f. spiderize_kept f list) (listed spiderize_nodes_refusals refl (spiderize_nodes_by b list room work_room))
      (λ f g x h e.
      let p = came (id_list f (length g.labels) list) _ e in
      let q = came (quotient g) _ p.2 in
      omega (arith, id_of_lem q.2))

  pub delete_nodes_ranged : (gone : List ℕ) (map_room work_room : ℕ) → Ranged (delete_nodes_call b gone room map_room work_room)
  delete_nodes_ranged gone map_room work_room = record {
    no = λ r e. refused_in (listed delete_nodes_refusals refl (delete_nodes_by b t gone room map_room work_room)) e;
    numbers = λ m e.
        let h = delete_nodes_answer b gone room map_room work_room m t e in
        let s = h.0 in
        let sound = read_sound b s t h.2 in
        let within = (sound.version.grows s.graph sound.formed).counts.nodes in
        (omega (arith, h.6, form_short h.4), omega (arith, h.7, within));
  }

  pub quotient_ranged : (map_room work_room : ℕ) → Ranged (quotient_call b room map_room work_room)
  quotient_ranged map_room work_room = record {
    no = λ r e. refused_in (listed quotient_refusals refl (quotient_by b t room map_room work_room)) e;
    numbers = λ m e.
        let h = quotient_call_answer b room map_room work_room m t e in
        let s = h.0 in
        let sound = read_sound b s t h.2 in
        let within = (sound.version.grows s.graph sound.formed).counts.nodes in
        (omega (arith, h.7, form_short h.5), omega (arith, h.8, within));
  }

  pub cycle_breaking_nodes_keeping_ranged : (kept : List ℕ) (work_room : ℕ) → Ranged (cycle_breaking_nodes_keeping_call b kept room work_room)
  cycle_breaking_nodes_keeping_ranged kept work_room = record {
    no = λ r e. refused_in (listed cycle_breaking_nodes_keeping_refusals refl (cycle_breaking_nodes_keeping_by b kept room work_room)) e;
    numbers = λ m e.
        let h = keeping_answer b kept t room work_room m e in
        let s = h.0 in
        let k = h.2 in
        let sound = read_sound b s t k.admitted.stored in
        let within = (sound.version.grows s.graph sound.formed).counts in
        let all = k.spares.all_counted in
        (omega (arith, k.count, all, within.nodes, within.edges), omega (arith, k.free, all, within.nodes, within.edges));
  }

  -- the second engine answers what the first does
  pub cycle_breaking_nodes_scanning_ranged : (kept : List ℕ) (work_room : ℕ) → Ranged (cycle_breaking_nodes_scanning_call b kept room work_room)
  cycle_breaking_nodes_scanning_ranged kept work_room = record {
    no = λ r e. refused_in (listed cycle_breaking_nodes_scanning_refusals refl (cycle_breaking_nodes_scanning_by b kept room work_room)) e;
    numbers = λ m e. (cycle_breaking_nodes_keeping_ranged kept room_cycle_breaking_nodes).numbers m (scanned_kept b kept room work_room m e);
  }

  pub find_loop_ranged : (work_room : ℕ) → Ranged (find_loop_call b room work_room)
  find_loop_ranged work_room = record {
    no = λ r e. refused_in (listed find_loop_refusals refl (find_loop_by b room work_room)) e;
    numbers = λ m e.
        let h = find_loop_answer b t room work_room m e in
        let s = h.0 in
        let sound = read_sound b s t h.1.stored in
        let within = (sound.version.grows s.graph sound.formed).counts in
        let few = steps_bounds s.graph sound.formed.proper in
        (omega (arith, h.1.count, few, within.nodes, within.edges), omega (arith, h.1.steps, few, within.nodes, within.edges));
  }

  pub reasons_ranged : (work_room : ℕ) → Ranged (reasons_call b room work_room)
  reasons_ranged work_room = record {
    no = λ r e. refused_in (listed reasons_refusals refl (reasons_by b room work_room)) e;
    numbers = λ m e.
        let h = reasons_answer b t room work_room m e in
        let s = h.0 in
        let sound = read_sound b s t h.1.stored in
        let within = (sound.version.grows s.graph sound.formed).counts in
        let all = chosen_and_free_are_all s.graph sound.formed.proper in
        (omega (arith, h.1.count, within.nodes), omega (arith, h.1.cuts, all, within.nodes, within.edges));
  }

-- ---- the checks

pub no_loop_ranged : (b : List ℕ) → Below 256 b → (work_room : ℕ) → Ranged (no_loop_call b work_room)
no_loop_ranged b t work_room = record {
  no = λ r e. refused_in (listed no_loop_refusals refl (no_loop_by b work_room)) e;
  numbers = λ m e. let h = no_loop_answer b t work_room m e in says (no_loop h.0.graph) h.2;
}

pub once_fed_ranged : (b : List ℕ) (work_room : ℕ) → Ranged (once_fed_call b work_room)
once_fed_ranged b work_room = record {
  no = λ r e. refused_in (listed once_fed_refusals refl (once_fed_by b work_room)) e;
  numbers = λ m e. let h = once_fed_answer b work_room m e in says (monogamous h.0.graph) h.2;
}

-- ---- calls without a graph

nothing_ranged : (room : ℕ) (start : Answer Next) → ((x : Next) → start ≡ answered x → Proper x.graph) → Listed (on_nothing room start) → ((x : Next) → start ≡ answered x → x.id ≡ 0)
    → Ranged (on_nothing room start)
nothing_ranged room start keeps l zero_id = record {
  no = λ r e. refused_in l e;
  numbers = λ m e.
      let h = on_nothing_answer room start m keeps e in
      writes h.3 (form_short h.2) (omega (arith, zero_id h.0 h.1));
}

pub empty_ranged : (room : ℕ) → Ranged (empty_call room)
unfolding empty_step
empty_ranged room = nothing_ranged room empty_step empty_kept (listed empty_refusals refl (empty_by room)) (λ x e. sym (id_of_lem e))

pub discrete_ranged : (labels : List ℕ) → Below 256 labels → (room : ℕ) → Ranged (discrete_call labels room)
unfolding discrete_step
discrete_ranged labels t room =
    nothing_ranged room (discrete_step labels) (discrete_kept labels t) (listed discrete_refusals refl (discrete_by labels room)) (λ x e. let p = came (label_list labels) _ e in sym (id_of_lem p.2))

pub identity_ranged : (labels : List ℕ) → Below 256 labels → (room : ℕ) → Ranged (identity_call labels room)
unfolding identity_step
identity_ranged labels t room =
    nothing_ranged room (identity_step labels) (identity_kept labels t) (listed identity_refusals refl (identity_by labels room)) (λ x e. let p = came (label_list labels) _ e in sym (id_of_lem p.2))

pub singleton_ranged : (label : ℕ) (s u : List ℕ) → label < 2 ^ 32 → Below 256 s → Below 256 u → (room : ℕ) → Ranged (singleton_call label s u room)
unfolding singleton_step
singleton_ranged label s u l ts tu room =
    nothing_ranged room (singleton_step label s u) (singleton_kept label s u l ts tu) (listed singleton_refusals refl (singleton_by label s u room))
    (λ x e.
    let p = came (label_list s) _ e in
    let q = came (label_list u) _ p.2 in
    sym (id_of_lem q.2))
