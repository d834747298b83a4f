-- The ways out of the two calls: from the value met in code to what the call gives.
-- Assumes nothing.
use mathlib.Core.Bool.{Bool}
use mathlib.Core.List.{List}
use mathlib.Core.Path.{◌≡◌, sym, ap, ◌∙◌}
use Prim.Native.Nat.{ℕ, ◌*◌, ◌≤◌}
use native.Mathlib.Omega.{arith}
use lib.Dec.{leb}
use lib.ListN.{length, length-map}
use lib.Seq.{sets}
use Rattle.le.specs.Le.{row}
use Rattle.le.specs.Rows.{place_in, puts}
use Rattle.le.proofs.Numbers.{length_row}
use Rattle.graph.specs.Answer as answer
use Rattle.graph.specs.Answer.{refused, answered, writing, lay, ◌else◌, refusal}
use Rattle.graph.specs.Calls.{id_list, made, delete_edges_step, nodes_deleted, room_delete_edges, room_delete_nodes}
use Rattle.graph.specs.Delete.{remaining, delete_edges, without_nodes, delete_nodes, where_to, node_map}
use Rattle.graph.specs.Build.{with_edges}
use Rattle.graph.specs.Graph.{Graph}
use Rattle.graph.specs.Lists.{among, range}
use Rattle.graph.specs.Versions.{read, fitting}
use Rattle.graph.specs.Form.{encode}
use Rattle.graph.proofs.Lists.{length_range}
use Rattle.graph.proofs.Places.{sets_lay}
use Rattle.graph.proofs.Steps.{stops, goes}
use Rattle.form.specs.Form.{tested}
use Rattle.form.specs.Stored.{graph_of, format_of, Stored}
use Rattle.form.specs.declared.Sizes.{Sizes}
use Rattle.form.proofs.Stored.{stored_rows, nodes_are, edges_are}
use Rattle.write.proofs.Calls.{next}
use Rattle.write.proofs.Maps.{with_map, map_refused, map_short, map_fits}
use Rattle.gone.specs.Marks.{marked, unmarked_edges}
use Rattle.moved.specs.Places.{map_of, places_of}

-- ---- deleting edges

pub edges_roomy : {b : List ℕ} {z : Sizes} {n : ℕ} → Stored b z → room_delete_edges ≤ n → z.edges ≤ n
edges_roomy s l = omega (arith, edges_are (stored_rows s), s.within.counts.edges)

module _ {b : List ℕ} {z : Sizes} (s : Stored b z) (ids : List ℕ) where
  pub edges_stop : (r : answer.Refusal) → id_list (format_of b) z.edges ids ≡ refused r → delete_edges_step (format_of b) ids (graph_of b) ≡ refused r
  unfolding delete_edges_step
  edges_stop r e = rw (edges_are (stored_rows s)) (stops _ e)

  pub edges_next : (list : List ℕ) → id_list (format_of b) z.edges ids ≡ answered list → delete_edges_step (format_of b) ids (graph_of b) ≡ answered (next (delete_edges list (graph_of b)) 0)
  unfolding delete_edges_step
  edges_next list e = rw (edges_are (stored_rows s)) (goes _ e)

-- marked or listed is the same
pub unmarked_deleted : (room : List ℕ) (n : ℕ) (list : List ℕ) (g : Graph) → marked room n ≡ among list → unmarked_edges room n g ≡ delete_edges list g
unfolding delete_edges
unmarked_deleted room n list g e = ap (λ (goes : ℕ → Bool). with_edges (remaining goes 0 g.edges) g) e

-- ---- deleting nodes

pub nodes_roomy : {b : List ℕ} {z : Sizes} {n : ℕ} → Stored b z → room_delete_nodes ≤ n → z.nodes ≤ n
nodes_roomy s l = omega (arith, nodes_are (stored_rows s), s.within.counts.nodes)

-- marked or listed is the same
pub nodes_deleted_lem : {goes : ℕ → Bool} (list : List ℕ) (g : Graph) → goes ≡ among list → without_nodes goes g ≡ delete_nodes list g
unfolding delete_nodes
nodes_deleted_lem list g e = ap (λ (goes : ℕ → Bool). without_nodes goes g) e

module _ (b ids : List ℕ) (room map_room : ℕ) where
  pub nodes_unread : (r : answer.Refusal) → read b ≡ refused r → nodes_deleted b ids room map_room ≡ refused r
  unfolding nodes_deleted
  nodes_unread r e = stops _ e

  module _ {z : Sizes} (s : Stored b z) where
    same_list : id_list (format_of b) (length (graph_of b).labels) ids ≡ id_list (format_of b) z.nodes ids
    same_list = ap (λ (n : ℕ). id_list (format_of b) n ids) (nodes_are (stored_rows s))

    pub nodes_unlisted : (r : answer.Refusal) → id_list (format_of b) z.nodes ids ≡ refused r → nodes_deleted b ids room map_room ≡ refused r
    unfolding nodes_deleted
    nodes_unlisted r e = goes _ s.read_as ∙ stops _ (same_list ∙ e)

    module _ (list : List ℕ) (is : id_list (format_of b) z.nodes ids ≡ answered list) where
      abbrev mapped : List ℕ
      mapped = row (format_of b).width (node_map (format_of b) list (graph_of b))

      abbrev graph : Graph
      graph = delete_nodes list (graph_of b)

      reached : nodes_deleted b ids room map_room ≡ with_map room map_room graph mapped (length (graph_of b).labels)
      unfolding nodes_deleted
      reached = goes _ s.read_as ∙ goes _ (same_list ∙ is)

      pub nodes_refused : (r : answer.Refusal) → made room (record { graph = graph; id = 0 }) ≡ refused r → nodes_deleted b ids room map_room ≡ refused r
      nodes_refused r e = reached ∙ map_refused room map_room graph mapped (length (graph_of b).labels) r e

      map_long : length mapped ≡ z.nodes * z.width
      unfolding node_map
      map_long =
          length_row (format_of b).width (node_map (format_of b) list (graph_of b))
          ∙ ap (λ (n : ℕ). n * (format_of b).width) (length-map (range 0 (length (graph_of b).labels)) (where_to (format_of b) (among list)) ∙ length_range 0 (length (graph_of b).labels))
          ∙ ap (λ (y : Sizes). y.nodes * y.width) (sym s.sizes)

      abbrev form : List ℕ
      form = encode (fitting graph) graph

      module _ (makes : made room (record { graph = graph; id = 0 }) ≡ answered (writing form 0)) where
        pub nodes_no_map : (r : answer.Refusal) → refused r ≡ tested (leb (z.nodes * z.width) map_room else refusal 10) → nodes_deleted b ids room map_room ≡ refused r
        nodes_no_map r e = reached ∙ map_short room map_room graph mapped (length (graph_of b).labels) makes map_long r e

        pub nodes_done : answered tt ≡ tested (leb (z.nodes * z.width) map_room else refusal 10) → nodes_deleted b ids room map_room
            ≡ answered (record { a = length form; b = length (graph_of b).labels; bytes = form; map = mapped })
        nodes_done e = reached ∙ map_fits room map_room graph mapped (length (graph_of b).labels) makes map_long e

      -- the map that was put is the answered one
      pub map_put : (room old : List ℕ) → marked room z.nodes ≡ among list → z.nodes * z.width ≤ length old
          → puts old (map_of z) 0 (places_of z.width (marked room z.nodes) z.nodes) ≡ lay mapped old
      unfolding node_map puts
      map_put room old e l =
          let start : place_in (map_of z) 0 ≡ 0 = omega arith in
          (λ i. sets old (start i) (row (s.sizes i).width (places_of (s.sizes i).width (e i) (s.sizes i).nodes))) ∙ sets_lay mapped old (rw map_long l)
