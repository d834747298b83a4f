-- `incidence::build` meets its contract.
-- Assumes nothing.
use native.Mathlib.Omega.{arith}
use Rattle.le.specs.Le.{words}
use Rattle.choice.proofs.Fits.{proper_bounded}
use Rattle.incidence.proofs.Facts.{facts}
use Rattle.incidence.proofs.Whole.{fits_table, empty, built}
use Rattle.form.proofs.Drawn.{stored_in}
use Rattle.incidence.specs.Incidence.{source_in}
use Rattle.form.specs.Drawn.{graph_in}
use Rattle.incidence.proofs.build.Goals as goal

pub lay_out-requires : goal.lay_out-requires
lay_out-requires c =
    let a = c.args in
    let f = facts c.args.drawing in
    let o = c.count in
    (omega (arith, f.nodes, f.few_nodes), omega (arith, o.auto.room), fits_table (source_in a.drawing) (graph_in a.drawing) a.drawing.sizes f (words o.new.room) o.ensures)

pub fill-requires-clause-empty : goal.fill-requires-clause-empty
fill-requires-clause-empty c =
    let a = c.args in
    let o = c.count in
    let p = c.lay_out in
    empty (source_in a.drawing) (graph_in a.drawing) a.drawing.sizes (facts c.args.drawing) (words o.new.room) o.ensures (words p.new.room) p.ensures

pub returns : goal.returns
returns c =
    let a = c.args in
    let o = c.count in
    let p = c.lay_out in
    let q = c.fill in
    built (source_in a.drawing) (graph_in a.drawing) a.drawing.sizes (facts c.args.drawing) (words o.new.room) o.ensures (words p.new.room) p.ensures (words q.new.room) q.ensures
    (proper_bounded (graph_in a.drawing) (stored_in c.args.drawing).formed.proper)
