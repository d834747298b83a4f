-- `cycle::first_removal` meets its contract.
-- Assumes nothing.
use mathlib.Core.Path.{sym, subst}
use Prim.Native.Nat.{◌+◌, ◌-◌, ◌≤◌}
use native.Mathlib.Omega.{arith}
use lib.ListN.{length}
use Rattle.le.specs.Le.{words}
use Rattle.le.specs.declared.Row.{Row}
use Rattle.le.proofs.Places.{length_words}
use Rattle.halves.specs.Halves.{peel_from}
use Rattle.tables.specs.Tables.{picked_at}
use Rattle.removal.specs.Room.{source, halves_in, list_in, Went, Lists}
use Rattle.incidence.proofs.Facts.{facts}
use Rattle.cycle.proofs.Begin.{drawn, seeded_roomy, seeded_lists, first}
use Rattle.incidence.specs.Incidence.{source_in}
use Rattle.form.specs.Drawn.{graph_in}
use Rattle.cycle.proofs.first_removal.Goals as goal

pub seed_all-end-requires : goal.seed_all-end-requires
seed_all-end-requires c = let f = facts c.args.drawing in omega (arith, f.nodes, f.edges, f.few, c.build.auto.room)

pub peel-requires : goal.peel-requires
peel-requires c =
    let a = c.args in
    let f = facts c.args.drawing in
    let n = a.drawing.sizes.nodes + a.drawing.sizes.edges in
    let q = source_in a.drawing in
    let g = graph_in a.drawing in
    let o = c.build in
    let p = c.seed_all-end in
    let W = words o.new.room in
    let X = words p.new.room in
    let long : picked_at ≤ length W = omega (arith, length_words o.new.room, o.auto.room) in record {
      from_le_end = (omega arith, omega (arith, f.few, f.nodes, f.edges), omega arith, p.ensures.few, omega (arith, p.auto.room, o.auto.room));
      roomy = (
        seeded_roomy q g a.drawing.sizes.nodes n (drawn c.args.drawing) W X X long o.ensures p.result 0 p.ensures,
        subst (λ (r : Row). Lists (source a.drawing.src.now r) X a.drawing.sizes.nodes n) (sym c.body.ensures) (seeded_lists q g a.drawing.sizes.nodes n (drawn c.args.drawing) W X X long o.ensures p.result 0 p.ensures),
      );
    }

pub returns : goal.returns
returns c =
    let a = c.args in
    let f = facts c.args.drawing in
    let n = a.drawing.sizes.nodes + a.drawing.sizes.edges in
    let q = source_in a.drawing in
    let g = graph_in a.drawing in
    let o = c.build in
    let p = c.seed_all-end in
    let r = c.peel in
    let W = words o.new.room in
    let X = words p.new.room in
    let Y = words r.new.room in
    let long : picked_at ≤ length W = omega (arith, length_words o.new.room, o.auto.room) in
    first q g a.drawing.sizes.nodes n (drawn c.args.drawing) W X Y long o.ensures p.result r.result p.ensures
    (subst (λ (w : Row). Went X Y n r.result (peel_from (n - 0) (list_in (source a.drawing.src.now w) X a.drawing.sizes.nodes) 0 (halves_in X n p.result))) c.body.ensures r.ensures)
