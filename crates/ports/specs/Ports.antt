-- A port more at an edge: what either call makes of the graph, and of the numbers that are stored for it.
-- Assumes nothing.
use Rattle.std.specs.Prelude.{List, [], ◌∷◌, ◌++◌, ℕ, ◌+◌, length, take, drop}
use Rattle.graph.specs.Answer.{Answer}
use Rattle.graph.specs.Build.{with_edges, with_nodes}
use Rattle.graph.specs.Calls.{Next, add_edge_source_step, add_edge_target_step}
use Rattle.graph.specs.Graph.{Edge, Graph}
use Rattle.graph.specs.Lists.{changed}
use Rattle.ports.specs.declared.Port.{Port}
use Rattle.ports.specs.declared.Side.{Side}
use Rattle.ports.specs.declared.Side.TheVariants.{Source, Target}

-- the step of the two calls: one more source, or one more target
abbrev pub port_step : Side → ℕ → ℕ → Graph → Answer Next
port_step Source = add_edge_source_step
port_step Target = add_edge_target_step

-- an edge with one more id, at the end of its sources or of its targets
abbrev pub grown : Side → ℕ → Edge → Edge
grown Source id e = record { label = e.label; sources = e.sources ++ (id ∷ []); targets = e.targets }
grown Target id e = record { label = e.label; sources = e.sources; targets = e.targets ++ (id ∷ []) }

-- the graph with one more node, the last id of such an edge
abbrev pub added : Side → ℕ → ℕ → Graph → Graph
added side edge label g = with_edges (changed (grown side (length g.labels)) edge g.edges) (with_nodes (label ∷ []) g)

-- such an edge of s sources and t targets: the counts that it has then, and after how many of its ids the new one goes
abbrev pub port_at : Side → ℕ → ℕ → Port
port_at Source s t = record { sources = s + 1; targets = t; before = s }
port_at Target s t = record { sources = s; targets = t + 1; before = s + t }

-- a row of counts and ids with such an edge at index k
abbrev pub ported : List ℕ → ℕ → Port → ℕ → List ℕ
ported xs k p id = take k xs ++ (p.sources ∷ p.targets ∷ (take p.before (drop (k + 2) xs) ++ (id ∷ drop (k + 2 + p.before) xs)))
