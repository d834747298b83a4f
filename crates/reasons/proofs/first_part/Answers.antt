-- `reasons::first_part` meets its contract.
-- Assumes nothing.
use mathlib.Core.Path.{sym, subst}
use Prim.Native.Nat.{◌+◌, ◌≤◌}
use native.Mathlib.Omega.{arith}
use lib.ListN.{length}
use Rattle.le.specs.Le.{words}
use Rattle.le.specs.declared.Row.{Row}
use Rattle.le.proofs.Places.{length_words}
use Rattle.tables.specs.Tables.{picked_at}
use Rattle.removal.specs.Room.{source, halves_in, Lists}
use Rattle.cycle.proofs.Begin.{drawn}
use Rattle.reasons.specs.Told.{Settled}
use Rattle.reasons.proofs.Beginning.{seeded_roomy, seeded_lists, begins}
use Rattle.reasons.proofs.first_part.Goals as goal
use Rattle.reasons.proofs.first_part.Goals.{After-build}

-- the tables have been built
long : (c : After-build) → picked_at ≤ length (words c.build.new.room)
long c = omega (arith, length_words c.build.new.room, c.build.auto.room)

pub raise_ends-requires : goal.raise_ends-requires
raise_ends-requires c = ((drawn c.args.drawing).few, omega (arith, c.build.auto.room))

pub seed_all-seeds-requires : goal.seed_all-seeds-requires
seed_all-seeds-requires c = ((drawn c.args.drawing).few, omega (arith, c.build.auto.room, c.raise_ends.auto.room))

pub settle-requires : goal.settle-requires
settle-requires c =
    let a = c.args in
    let z = a.drawing.sizes in
    let d = drawn a.drawing in
    let l = long (goal.at.settle-requires c).After-build in
    let o = c.build in
    let p = c.raise_ends in
    let e = c.seed_all-seeds in
    record {
      nodes_in_bounds = (omega arith, omega arith, d.few, omega arith, e.ensures.few, omega (arith, o.auto.room, p.auto.room, e.auto.room));
      roomy = (
        seeded_roomy d l o.ensures p.ensures e.ensures,
        subst (λ (r : Row). Lists (source a.drawing.src.now r) (words e.new.room) z.nodes (z.nodes + z.edges)) (sym c.body.ensures) (seeded_lists d l o.ensures p.ensures e.ensures),
      );
    }

pub returns : goal.returns
returns c =
    let a = c.args in
    let z = a.drawing.sizes in
    let n = z.nodes + z.edges in
    let e = c.seed_all-seeds in
    let t = c.settle in
    let X = words e.new.room in (
      begins (drawn a.drawing) (long (goal.at.returns c).After-build) c.build.ensures c.raise_ends.ensures e.ensures
          (subst (λ (r : Row). Settled (source a.drawing.src.now r) X (words t.new.room) z.nodes n 0 t.result (halves_in X n e.result)) c.body.ensures t.ensures.0),
      t.ensures.1,
    )
