-- T-06 by hand, by computation: how damaged forms are refused, and calls with bad lists and ids.
-- Assumes nothing.
use mathlib.Core.Path.{◌≡◌, refl}
use mathlib.Core.List.{map}
use Rattle.graph.specs.Answer.{◌else◌, ◌>>=◌, ◌>>◌}
use Rattle.graph.specs.Build.{discrete, new_edge, new_operation, unify, add_edge_target}
use Rattle.graph.specs.Calls.{known, label_list, id_list, fit, made, on_nothing, on_graph, discrete_step, new_edge_step, new_operation_step, unify_step, add_edge_target_step}
use Rattle.graph.specs.Damage.{refusal_of, damaged, calls}
use Rattle.graph.specs.Form.{encode, id_places}
use Rattle.graph.specs.Read.{read_version, read_counts, read_edge, read_lists, read_body, read_in}
use Rattle.graph.specs.Versions.{format_numbered, fitting_sizes, in_version, read_fitting, read, store}

pub damage_told : (map (λ x. refusal_of (read x.0)) damaged ≡ map (λ x. x.1) damaged) × (map (λ x. x.0) calls ≡ map (λ x. x.1) calls)
unfolding ◌else◌ ◌>>=◌ ◌>>◌ read_version read_counts read_edge read_lists read_body read_in format_numbered fitting_sizes in_version read_fitting read id_places encode store discrete new_edge new_operation unify add_edge_target known label_list id_list fit made on_nothing on_graph discrete_step new_edge_step new_operation_step unify_step add_edge_target_step
damage_told = (refl, refl)
