-- `cycle::is_acyclic` meets its contract.
-- Assumes nothing.
use Prim.Native.Nat.{◌+◌}
use native.Mathlib.Omega.{arith}
use Rattle.le.specs.Le.{words}
use Rattle.le.proofs.Places.{length_words}
use Rattle.incidence.proofs.Facts.{facts}
use Rattle.cycle.proofs.Begin.{drawn, no_loop_is}
use Rattle.incidence.specs.Incidence.{source_in}
use Rattle.form.specs.Drawn.{graph_in}
use Rattle.cycle.proofs.is_acyclic.Goals as goal

pub returns : goal.returns
returns c =
    let a = c.args in
    let f = facts c.args.drawing in
    let n = a.drawing.sizes.nodes + a.drawing.sizes.edges in
    let q = source_in a.drawing in
    let g = graph_in a.drawing in
    let o = c.first_removal in
    no_loop_is q g a.drawing.sizes.nodes n (drawn c.args.drawing) (words o.new.room) (omega (arith, length_words o.new.room, o.auto.room)) o.result o.ensures
