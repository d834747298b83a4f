-- `read::known_width` meets its contract.
-- Assumes nothing.
use mathlib.Core.Path.{sym, ap}
use Prim.Native.Nat.{ℕ}
use Rattle.form.specs.declared.Format.{Format}
use Rattle.le.proofs.Rows.{four}
use Rattle.read.proofs.known_width.Goals as goal

-- a version with another width
abbrev widened : Format → ℕ → Format
widened f w = record {
  version = f.version;
  width = w;
  nodes = f.nodes;
  edges = f.edges;
  ports = f.ports;
  sources = f.sources;
  targets = f.targets;
  pairs = f.pairs;
}

pub returns-then-f-eq2 : goal.returns-then-f-eq2
returns-then-f-eq2 c = ap (widened c.args.f) (sym c.if-f-eq2.true)

pub returns : goal.returns
returns c = ap (widened c.args.f) (sym (four c.requires c.if-f-eq2.false))
