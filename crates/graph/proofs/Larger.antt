-- T-05 and T-01 by hand, by computation: what reading and calls give on forms of both versions.
-- Assumes nothing.
use mathlib.Core.Path.{◌≡◌, refl}
use mathlib.Core.List.{[], ◌∷◌, map}
use lib.ListN.{replicate}
use Rattle.graph.specs.Answer.{refused, answered, ◌carrying◌, writing, ◌else◌, ◌>>=◌, ◌>>◌}
use Rattle.graph.specs.Build.{new_node}
use Rattle.graph.specs.Calls.{id_list, fit, in_work_room, made, on_graph, new_node_step, new_node_call, nodes_deleted, nodes_merged, quotient_call}
use Rattle.graph.specs.Delete.{delete_nodes, node_map}
use Rattle.graph.specs.Form.{encode, id_places}
use Rattle.graph.specs.Graph.{form2}
use Rattle.graph.specs.Larger.{broken, wide, wide_form, full1, full1_and9, paired_form, one_form}
use Rattle.graph.specs.Merge.{quotient}
use Rattle.graph.specs.Read.{read_version, read_counts, read_edge, read_lists, read_body, read_in}
use Rattle.graph.specs.Versions.{format_numbered, fitting_sizes, in_version, read_fitting, read, store}

-- each broken form is refused so
pub broken_refused : map (λ x. read x.form) broken ≡ map (λ x. refused x.why) broken
unfolding ◌else◌ ◌>>=◌ ◌>>◌ read_version read_counts read_edge read_lists read_body read_in format_numbered fitting_sizes in_version read_fitting read id_places
broken_refused = refl

-- the drawing that outgrows version 1, both ways
pub wide_stored : store wide ≡ answered wide_form
unfolding ◌else◌ ◌>>=◌ ◌>>◌ encode fitting_sizes store
wide_stored = refl

pub wide_read : read wide_form ≡ answered (record { format = form2; graph = wide })
unfolding ◌else◌ ◌>>=◌ ◌>>◌ read_version read_counts read_edge read_lists read_body read_in format_numbered fitting_sizes in_version read_fitting read
wide_read = refl

-- its node deleted, by an id of 4 bytes: the empty graph in version 1, and a map of 4 bytes; an id of 2 bytes gives 7
pub wide_deleted : nodes_deleted wide_form (0 ∷ 0 ∷ 0 ∷ 0 ∷ []) 15 4
    ≡ answered (record { a = 15; b = 1; bytes = 79 ∷ 72 ∷ 71 ∷ 1 ∷ 0 ∷ replicate 10 0; map = 255 ∷ 255 ∷ 255 ∷ 255 ∷ [] })
unfolding ◌else◌ ◌>>=◌ ◌>>◌ read_version read_counts read_edge read_lists read_body read_in format_numbered fitting_sizes in_version read_fitting read encode store id_list fit delete_nodes node_map nodes_deleted
wide_deleted = refl

pub wide_short_id : nodes_deleted wide_form (0 ∷ 0 ∷ []) 15 4 ≡ refused (7 carrying 0)
unfolding ◌else◌ ◌>>=◌ ◌>>◌ read_version read_counts read_edge read_lists read_body read_in format_numbered fitting_sizes in_version read_fitting read encode store id_list fit delete_nodes node_map nodes_deleted
wide_short_id = refl

-- one node more than version 1 holds is answered in version 2
pub outgrown : new_node_call full1 9 8221 ≡ answered (writing full1_and9 2048)
unfolding ◌else◌ ◌>>=◌ ◌>>◌ read_version read_counts read_edge read_lists read_body read_in format_numbered fitting_sizes in_version read_fitting read encode store fit new_node new_node_step made on_graph
outgrown = refl

-- merged it fits version 1, and the map has still the width of what was read; a byte of work room less, or of the map's, gives 10
pub paired_merged : quotient_call paired_form 19 4 65536 ≡ answered (record { a = 19; b = 1; bytes = one_form; map = 0 ∷ 0 ∷ 0 ∷ 0 ∷ [] })
unfolding ◌else◌ ◌>>=◌ ◌>>◌ read_version read_counts read_edge read_lists read_body read_in format_numbered fitting_sizes in_version read_fitting read encode store fit quotient in_work_room nodes_merged
paired_merged = refl

pub paired_short : (quotient_call paired_form 19 4 65535 ≡ refused (10 carrying 0)) × (quotient_call paired_form 19 3 65536 ≡ refused (10 carrying 0))
unfolding ◌else◌ ◌>>=◌ ◌>>◌ read_version read_counts read_edge read_lists read_body read_in format_numbered fitting_sizes in_version read_fitting read encode store fit quotient in_work_room nodes_merged
paired_short = (refl, refl)
