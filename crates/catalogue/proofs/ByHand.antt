-- The prices worked by hand hold of the definitions, by computation.
-- Assumes nothing.
use mathlib.Core.Path.{◌≡◌, refl}
use mathlib.Core.List.{[], ◌∷◌, map}
use Rattle.graph.specs.Form.{encode}
use Rattle.graph.specs.Answer.{refused, refusal, ◌else◌, ◌>>=◌, ◌>>◌}
use Rattle.graph.specs.Read.{read_version, read_counts, read_edge, read_lists, read_body, read_in}
use Rattle.graph.specs.Versions.{format_numbered, fitting_sizes, in_version, read_fitting, read}
use Rattle.graph.specs.Calls.{unpaired}
use Rattle.choice.specs.Arcs.{how_many, size, passing, outside, into, out}
use Rattle.choice.specs.Choice.{held, shave, core, score, worth, best, insert, stages, choice}
use Rattle.choice.specs.Drawing.{edge_arcs, arcs_from, arcs, chosen}
use Rattle.catalogue.specs.Price.{kind_of, part_check, parts_check, of_kind, edge_price, edges_price, priced_graph, price}
use Rattle.catalogue.specs.Range.{first_length, drawings_in, sum_of, dearest_of, report_of}
use Rattle.catalogue.specs.ByHand.{drawings, prices, given, slice, glance, at_one_glance, tied, of_tied, of_none}

pub drawings_hold : map given drawings ≡ prices
unfolding ◌else◌ ◌>>=◌ ◌>>◌ encode read_version read_counts read_edge read_lists read_body read_in format_numbered fitting_sizes in_version read_fitting read unpaired how_many size passing outside into out held shave core score worth best insert stages choice edge_arcs arcs_from arcs chosen kind_of part_check parts_check of_kind edge_price edges_price priced_graph price given
drawings_hold = refl

-- and the reports over them, over a tie, over nothing, and over lengths that are cut short or run past the input
pub ranges_hold : (glance (slice drawings) ≡ at_one_glance) × (glance (slice tied) ≡ of_tied) × (glance [] ≡ of_none) × (glance (1 ∷ 0 ∷ 0 ∷ []) ≡ refused (refusal 17)) × (glance (1 ∷ 0 ∷ 0 ∷ 0 ∷ []) ≡ refused (refusal 17))
unfolding ◌else◌ ◌>>=◌ ◌>>◌ encode read_version read_counts read_edge read_lists read_body read_in format_numbered fitting_sizes in_version read_fitting read unpaired how_many size passing outside into out held shave core score worth best insert stages choice edge_arcs arcs_from arcs chosen kind_of part_check parts_check of_kind edge_price edges_price priced_graph price first_length drawings_in sum_of dearest_of report_of slice glance
ranges_hold = (refl, refl, refl, refl, refl)
