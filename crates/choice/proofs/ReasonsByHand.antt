-- The rows hold of the definitions, by computation.
-- Assumes nothing.
use mathlib.Core.Path.{◌≡◌, refl}
use mathlib.Core.List.{map}
use Rattle.graph.specs.Form.{encode}
use Rattle.graph.specs.Answer.{◌else◌, ◌>>=◌, ◌>>◌}
use Rattle.graph.specs.Read.{read_version, read_counts, read_edge, read_lists, read_body, read_in}
use Rattle.graph.specs.Versions.{format_numbered, fitting_sizes, in_version, read_fitting, read}
use Rattle.graph.specs.Calls.{unpaired, fit, in_work_room}
use Rattle.choice.specs.Arcs.{how_many, size, passing, outside, into, out}
use Rattle.choice.specs.Choice.{held, shave, core, score, worth, best, insert, stages, choice}
use Rattle.choice.specs.Drawing.{edge_arcs, arcs_from, arcs, chosen}
use Rattle.choice.specs.Reasons.{feed, led, why, reason, reasons}
use Rattle.choice.specs.Calls.{reasoned}
use Rattle.choice.specs.ReasonsByHand.{rows, told, given}

pub reasons_hold : map given rows ≡ map (λ line. line.says) rows
unfolding ◌else◌ ◌>>=◌ ◌>>◌ encode read_version read_counts read_edge read_lists read_body read_in format_numbered fitting_sizes in_version read_fitting read unpaired fit in_work_room how_many size passing outside into out held shave core score worth best insert stages choice edge_arcs arcs_from arcs chosen feed led why reason reasons reasoned told given
reasons_hold = refl
