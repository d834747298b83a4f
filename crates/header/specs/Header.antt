-- What the steps of reading a header answer: for each answer of a definition what code answers.
-- Assumes nothing.
use Rattle.std.specs.Prelude.{ℕ, cond, leb}
use Rattle.graph.specs.Graph as graph
use Rattle.graph.specs.Graph.{Counts}
use Rattle.graph.specs.Answer.{Answer}
use Rattle.form.specs.Form.{telling, sized}
use Rattle.form.specs.declared.Format.{Format}
use Rattle.form.specs.declared.Sizes.{Sizes}

-- a version in code
abbrev pub coded : graph.Format → Format
coded f = record {
  version = f.version;
  width = f.width;
  nodes = f.most.nodes;
  edges = f.most.edges;
  ports = f.most_ports;
  sources = f.most.sources;
  targets = f.most.targets;
  pairs = f.most.pairs;
}

-- the version of a number
abbrev pub versioned : Answer graph.Format → Answer Format
versioned = telling coded

-- the first count above its limit, in the header's order; the last where the others are within theirs
abbrev pub count_above : graph.Format → Counts → ℕ
count_above f c =
    cond (leb c.nodes f.most.nodes)
    (cond (leb c.edges f.most.edges) (cond (leb c.sources f.most.sources) (cond (leb c.targets f.most.targets) 4 3) 2) 1) 0

-- a header read in a width: its counts, before any port is counted
abbrev pub header_read : ℕ → Answer Counts → Answer Sizes
header_read width = telling (λ c. sized width c 0)
