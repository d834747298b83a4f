-- What reading a graph answers: for each answer of a definition what code answers.
-- Assumes nothing.
use Rattle.std.specs.Prelude.{ℕ}
use Rattle.graph.specs.Graph.{Graph, counts, ports}
use Rattle.graph.specs.Answer.{Answer}
use Rattle.form.specs.Form.{telling, sized}
use Rattle.form.specs.declared.Sizes.{Sizes}

-- a graph read in a width: its sizes
abbrev pub measured : ℕ → Answer Graph → Answer Sizes
measured width = telling (λ g. sized width (counts g) (ports g))
