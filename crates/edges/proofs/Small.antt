-- The numbers that a version allows are of 32 bits, and its width is at most 4.
-- Assumes nothing.
use Prim.Native.Nat.{◌≤◌, ◌<◌, ◌^◌}
use native.Mathlib.Omega.{arith}
use Rattle.graph.specs.Graph.{Format, Usable}
use Rattle.le.proofs.Rows.{wide_some, wide_low}

pub record Small (f : Format) : Type 0 where
  pub narrow : f.width ≤ 4
  pub nodes : f.most.nodes < 2 ^ 32
  pub edges : f.most.edges < 2 ^ 32
  pub sources : f.most.sources < 2 ^ 32
  pub targets : f.most.targets < 2 ^ 32
  pub pairs : f.most.pairs < 2 ^ 32
  pub ports : f.most_ports < 2 ^ 32

pub small : {f : Format} → Usable f → Small f
small u =
    let l = wide_low u.width in
    record {
      narrow = (wide_some u.width).1;
      nodes = omega (arith, u.nodes);
      edges = omega (arith, u.edges);
      sources = omega (arith, u.sources);
      targets = omega (arith, u.targets);
      pairs = omega (arith, u.pairs);
      ports = omega (arith, u.ports);
    }
