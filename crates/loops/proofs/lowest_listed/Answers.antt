-- `loops::lowest_listed` meets its contract.
-- Assumes nothing.
use mathlib.Core.Path.{ap, ◌∙◌}
use Prim.Native.Nat.{ℕ}
use native.Mathlib.Nat.{le_antisymm}
use native.Mathlib.Omega.{arith}
use Rattle.le.specs.Le.{words}
use Rattle.le.proofs.Places.{length_words}
use Rattle.halves.specs.Halves.{vertex}
use Rattle.tables.specs.Tables.{most_vertices}
use Rattle.removal.specs.Room.{room_list}
use Rattle.loops.specs.Walk.{lower_live, lowest_live, vertices_of}
use Rattle.loops.proofs.Next.{lowest_few, listed_none, listed_more}
use Rattle.loops.proofs.lowest_listed.Goals as goal

pub loop-j-init : goal.loop-j-init
loop-j-init c = let a = c.args in (omega arith, listed_none (words a.room.now) a.start)

pub lower_live-best-requires : goal.lower_live-best-requires
lower_live-best-requires c =
    let a = c.args in
    let l = c.loop-j in
    (omega (arith, l.invariant.1, lowest_few (words a.room.now) most_vertices (vertices_of (room_list (words a.room.now) a.start l.j))), omega arith)

pub loop-j-preserved : goal.loop-j-preserved
loop-j-preserved c =
    let a = c.args in
    let l = c.loop-j in
    let W = words a.room.now in (
      omega arith,
      c.lower_live-best.ensures
          ∙ (λ i. lower_live W (l.invariant.1 i) (vertex (c.word-y.ensures i)))
          ∙ listed_more W a.start l.j (omega (arith, length_words a.room.now)),
    )

pub returns : goal.returns
returns c =
    let a = c.args in
    let l = c.loop-j in
    l.invariant.1 ∙ ap (λ (k : ℕ). lowest_live (words a.room.now) most_vertices (vertices_of (room_list (words a.room.now) a.start k))) (le_antisymm l.invariant.0 c.loop-j-test.false)
