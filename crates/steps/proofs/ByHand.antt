-- 02, T-02: the table of steps by hand holds, by computation.
-- Assumes nothing.
use mathlib.Core.Path.{◌≡◌, refl}
use mathlib.Core.List.{◌∷◌, ◌++◌, map}
use lib.ListN.{replicate}
use Rattle.graph.specs.Answer.{refusal, ◌else◌, ◌>>=◌, ◌>>◌}
use Rattle.graph.specs.Build.{new_node, new_edge, new_operation, unify, add_edge_source, add_edge_target}
use Rattle.steps.specs.Steps.{read_step}
use Rattle.steps.specs.Calls.{known_all, stepped, limited, turn, stopped, ◌at_step◌, ◌then◌, on_steps}
use Rattle.steps.specs.ByHand.{four, table, given}
use Rattle.graph.specs.Calls.{known, fit, made}
use Rattle.graph.specs.Delete.{delete_edges, delete_nodes}
use Rattle.graph.specs.Form.{encode, id_places}
use Rattle.graph.specs.Read.{read_version, read_counts, read_edge, read_lists, read_body, read_in}
use Rattle.graph.specs.Versions.{format_numbered, fitting_sizes, in_version, read_fitting, read, store}

pub steps_give : map given table ≡ map (λ row. row.gives) table
unfolding ◌else◌ ◌>>=◌ ◌>>◌ read_version read_counts read_edge read_lists read_body read_in format_numbered fitting_sizes in_version read_fitting read id_places encode store new_node new_edge new_operation unify add_edge_source add_edge_target delete_edges delete_nodes known known_all fit made read_step stepped limited turn ◌at_step◌ ◌then◌ on_steps
steps_give = refl

-- 9 at a step, though the last graph would fit: 16,384 nodes (64 * 256) and one more, which the next step would delete
pub nine_at_every_step : on_steps (79 ∷ 72 ∷ 71 ∷ 2 ∷ 0 ∷ 0 ∷ 64 ∷ replicate 65554 0) (1 ∷ four 5 ++ (8 ∷ four 1 ++ four 0)) 99999 ≡ stopped 0 (refusal 9)
unfolding ◌else◌ ◌>>=◌ ◌>>◌ read_version read_counts read_edge read_lists read_body read_in format_numbered fitting_sizes in_version read_fitting read id_places encode store new_node new_edge new_operation unify add_edge_source add_edge_target delete_edges delete_nodes known known_all fit made read_step stepped limited turn ◌at_step◌ ◌then◌ on_steps
nine_at_every_step = refl
