-- 02, T-05: the two versions of the stored form, and which of them a graph is stored in. One graph keeps one form.
-- Assumes nothing.
use Rattle.std.specs.Prelude.{ℕ, List, cond, eqb}
use Rattle.graph.specs.Graph.{Graph, Counts, counts, ports, Format, form1, form2, largest, sizes_fit, within_limits}
use Rattle.graph.specs.Form.{encode}
use Rattle.graph.specs.Answer.{Answer, refused, answered, refusal, ◌carrying◌, ◌else◌, ◌>>=◌, ◌>>◌}
use Rattle.graph.specs.Read.{read_version, read_in}

-- a graph that was read, and the version in which it was stored
pub record StoredGraph : Type 0 where
  pub format : Format
  pub graph : Graph

-- the version of this number; 3 it is neither, at the number
unfoldable pub format_numbered : ℕ → Answer Format
format_numbered version = cond (eqb version 1) (answered form1) (cond (eqb version 2) (answered form2) (refused (3 carrying 3)))

-- the version in which a graph of these counts and ports is stored: the first where it fits, else the second
unfoldable pub fitting_sizes : Counts → ℕ → Format
fitting_sizes c ports = cond (sizes_fit form1 c ports) form1 form2

abbrev pub fitting : Graph → Format
fitting g = fitting_sizes (counts g) (ports g)

-- 13: a graph is stored in another version than the one that it fits
unfoldable pub in_version : Format → Graph → Answer Graph
in_version f g = do
  eqb (fitting g).version f.version else refusal 13
  answered g

-- what bytes of this version are read as
unfoldable pub read_fitting : Format → List ℕ → Answer Graph
read_fitting f b = do
  g ← read_in f b
  in_version f g

-- what any bytes are read as
unfoldable pub read : List ℕ → Answer StoredGraph
read b = do
  version ← read_version b
  f ← format_numbered version
  g ← read_fitting f b
  answered (record { format = f; graph = g })

-- a graph's stored form; 9 it would pass a limit
unfoldable pub store : Graph → Answer (List ℕ)
store g = do
  within_limits largest g else refusal 9
  answered (encode (fitting g) g)
