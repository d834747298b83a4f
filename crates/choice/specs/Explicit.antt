-- 02, T-11, "The whole drawing made explicit": what spiderizing all promises, of a graph and of an answer's bytes.
-- Assumes nothing.
use Rattle.std.specs.Prelude.{true, List, ◌≡◌, ℕ, ◌+◌, ◌*◌, ◌≤◌, ◌<◌, length}
use Rattle.graph.specs.Answer.{answered, saying}
use Rattle.graph.specs.Calls.{room_once_fed, once_fed_call}
use Rattle.graph.specs.Checks.{feeds, uses}
use Rattle.graph.specs.Graph.{Graph, ports}
use Rattle.graph.specs.Lists.{occurrences}
use Rattle.graph.specs.Merge.{Merged, quotient}
use Rattle.graph.specs.Versions.{StoredGraph, read}
use Rattle.choice.specs.Arcs.{NoCycle}
use Rattle.choice.specs.Calls.{room_no_loop, no_loop_call}
use Rattle.choice.specs.Drawing.{arcs}

-- h is what becomes of g
pub record Explicit (g h : Graph) : Type 0 where
  -- "each node of the result meets T-09's rule": it is fed exactly once
  pub fed : (v : ℕ) → v < length h.labels → occurrences v (feeds h) ≡ 1
  -- and used exactly once
  pub used : (v : ℕ) → v < length h.labels → occurrences v (uses h) ≡ 1
  -- "no directed cycle exists"
  pub acyclic : NoCycle (arcs h)
  -- "the ports are the old ports plus two for each node plus all edge and global entries"
  pub ports : ports h ≡ ports g + 2 * length g.labels + (ports g + (length g.sources + length g.targets))

-- "counting from the graph after T-01's merge": src is read and merged, the form is read as what becomes of that graph, and both checks say yes of it
pub record ExplicitForm (src form : List ℕ) : Type 0 where
  pub before : StoredGraph
  pub stored : read src ≡ answered before
  pub between : Merged
  pub merged : quotient before.graph ≡ answered between
  pub after : StoredGraph
  pub back : read form ≡ answered after
  pub explicit : Explicit between.graph after.graph
  pub once_fed : (work_room : ℕ) → room_once_fed ≤ work_room → once_fed_call form work_room ≡ answered (saying true)
  pub no_loop : (work_room : ℕ) → room_no_loop ≤ work_room → no_loop_call form work_room ≡ answered (saying true)
