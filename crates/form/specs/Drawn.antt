-- The graph that a drawing in code is.
-- Assumes nothing.
use Rattle.graph.specs.Graph.{Graph}
use Rattle.form.specs.Stored.{graph_of}
use Rattle.form.specs.declared.Drawing.{Drawing}

abbrev pub graph_in : Drawing → Graph
graph_in d = graph_of d.src.now
