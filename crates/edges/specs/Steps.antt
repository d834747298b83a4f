-- What the steps of reading edges answer: for each answer of a definition what code answers.
-- Assumes nothing.
use Rattle.std.specs.Prelude.{ℕ, ◌+◌, ◌*◌, ◌-◌, ◌≤◌, max, cond, List, ◌++◌, ltb, Result, Ok, Err, length}
use Rattle.graph.specs.Graph as graph
use Rattle.graph.specs.Graph.{Edge, edge_entries}
use Rattle.graph.specs.Answer as answer
use Rattle.graph.specs.Answer.{Answer, refused, answered, ◌carrying◌}
use Rattle.le.specs.Le.{number_at}
use Rattle.form.specs.Form.{meant_by, telling}
use Rattle.lists.specs.Reach.{reach}
use Rattle.edges.specs.declared.Reached.{Reached}
use Rattle.edges.specs.declared.Stop.{Stop}
use Rattle.edges.specs.declared.Stop.TheVariants as stop

-- an edge read from n bytes, after edges of this port sum and ids of this reach: the sum with it, the place after it, and the reach
abbrev pub edge_step : ℕ → ℕ → ℕ → Answer (Edge × List ℕ) → Answer Reached
edge_step n sum bound =
    telling (λ x. record {
      ports = sum + (length x.0.sources + length x.0.targets);
      at = n - length x.1;
      bound = max bound (reach (x.0.sources ++ x.0.targets));
    })

-- edges read: their port sum, the place after them, and the reach of their ids
abbrev pub edges_step : ℕ → Answer (List Edge × List ℕ) → Answer Reached
edges_step n = telling (λ x. record { ports = length (edge_entries x.0); at = n - length x.1; bound = reach (edge_entries x.0) })

-- of an edge that passes the limit with this port sum: the place of its source count, if the limit is passed without the target count, else of that
abbrev pub count_over : ℕ → ℕ → List ℕ → ℕ → ℕ → ℕ
count_over width limit b at ports = cond (ltb (limit + number_at width b (at + width)) ports) at (at + width)

-- what is meant where reading ends at an edge: 4 at the count with which the limit is passed, or the refusal
abbrev pub meant_stop : graph.Format → List ℕ → Stop → answer.Refusal
meant_stop f b (stop.Over at ports) = 4 carrying count_over f.width f.most_ports b at ports
meant_stop f b (stop.Refused x) = meant_by x

abbrev pub settled : graph.Format → List ℕ → Result Reached Stop → Answer Reached
settled f b (Ok x) = answered x
settled f b (Err e) = refused (meant_stop f b e)

-- its two counts are there
abbrev pub CountsThere : ℕ → List ℕ → Result Reached Stop → Type 0
CountsThere width b (Ok x) = Unit {0}
CountsThere width b (Err (stop.Over at ports)) = at + 2 * width ≤ length b
CountsThere width b (Err (stop.Refused x)) = Unit {0}
