-- `removal::peel` meets its contract.
-- Assumes nothing.
use mathlib.Core.Path.{◌∙◌, subst, sym}
use Prim.Native.Nat.{◌+◌, ◌*◌, ◌<◌}
use native.Mathlib.Omega.{arith}
use Rattle.le.specs.Rows.{Holds}
use Rattle.le.specs.Le.{words}
use Rattle.le.proofs.Places.{in_words}
use Rattle.tables.specs.Tables.{picked_at}
use Rattle.removal.specs.Room.{source, Lists}
use Rattle.removal.proofs.Peeling.{low_listed, low_formed, went_listed, went_formed, lists_steady, next_low, peeling_turn, peeling_done}
use Rattle.removal.proofs.peel.Goals as goal
use Rattle.removal.proofs.peel.Goals.{After-word-y}

-- the half that is read is one of n vertices
half_low : (c : After-word-y) → c.word-y.result < 2 * c.args.n
half_low c = let a = c.args in
    let l = c.loop-first in
    omega (arith, c.word-y.ensures, next_low (source a.s.now a.r) (words a.room.now) a.nodes a.n a.from a.end (omega arith) (in_words a.room.now picked_at (omega arith)) (words l.room) l.first l.last l.invariant.0 (omega arith))

-- the lists stand where they stood
lists_now : (c : After-word-y) → Lists (source c.args.s.now c.args.r) (words c.loop-first.room) c.args.nodes c.args.n
lists_now c = let a = c.args in
    lists_steady (source a.s.now a.r) (words a.room.now) (words c.loop-first.room) a.nodes a.n (omega arith) (omega arith) (in_words a.room.now picked_at (omega arith)) c.loop-first.invariant.0.frame c.requires.roomy.1

pub lower_listed-last-requires-clause-roomy : goal.lower_listed-last-requires-clause-roomy
lower_listed-last-requires-clause-roomy c =
    let a = c.args in
    let l = c.loop-first in
    let X = words l.room in
    let p = l.invariant.0 in
    let y = c.word-y.result in
    let start = c.word-start in
    let count = c.word-count in
    let low = half_low (goal.at.lower_listed-last-requires-clause-roomy c).After-word-y in
    let lists = lists_now (goal.at.lower_listed-last-requires-clause-roomy c).After-word-y in (
      p.roomy,
      low_listed (source a.s.now a.r) X X a.nodes a.n y start.result count.result 0 0 start.ensures count.ensures (omega arith) (lists.low y low),
    )

pub loop-first-preserved-then-y-nodes : goal.loop-first-preserved-then-y-nodes
loop-first-preserved-then-y-nodes c =
    let a = c.args in
    let l = c.loop-first in
    let X = words l.room in
    let y = c.word-y in
    let start = c.word-start in
    let count = c.word-count in
    let o = c.lower_listed-last in (
      peeling_turn (source a.s.now a.r) (words a.room.now) a.nodes a.n a.from a.end (omega arith) (in_words a.room.now picked_at (omega arith)) X l.first l.last l.invariant.0 (omega (arith, c.loop-first-test.true)) c.requires.roomy.1 y.result y.ensures (words o.new.room) o.result
          (went_listed (source a.s.now a.r) X (words o.new.room) a.nodes a.n y.result start.result count.result l.last o.result start.ensures count.ensures (omega arith) o.ensures),
      o.auto.room ∙ l.invariant.1,
    )

pub lower_formed-last-requires : goal.lower_formed-last-requires
lower_formed-last-requires c =
    let a = c.args in
    let l = c.loop-first in
    let X = words l.room in
    let p = l.invariant.0 in
    let y = c.word-y.result in
    let start = c.word-start in
    let count = c.word-count in
    let low = half_low (goal.at.lower_formed-last-requires c).After-word-y in
    let lists = lists_now (goal.at.lower_formed-last-requires c).After-word-y in record { holds = (subst (Holds a.s.now a.r) (λ i. sym start.ensures i + sym count.ensures i) (lists.form_inside y (omega arith) low), omega arith, omega arith, p.few, omega arith); roomy = (p.roomy, low_formed (source a.s.now a.r) X X a.nodes a.n y start.result count.result 0 0 start.ensures count.ensures (omega arith) (lists.low y low)) }

pub loop-first-preserved : goal.loop-first-preserved
loop-first-preserved c =
    let a = c.args in
    let l = c.loop-first in
    let X = words l.room in
    let y = c.word-y in
    let start = c.word-start in
    let count = c.word-count in
    let o = c.lower_formed-last in (
      peeling_turn (source a.s.now a.r) (words a.room.now) a.nodes a.n a.from a.end (omega arith) (in_words a.room.now picked_at (omega arith)) X l.first l.last l.invariant.0 (omega (arith, c.loop-first-test.true)) c.requires.roomy.1 y.result y.ensures (words o.new.room) o.result
          (went_formed (source a.s.now a.r) X (words o.new.room) a.nodes a.n y.result start.result count.result l.last o.result start.ensures count.ensures (omega arith) o.ensures),
      o.auto.room ∙ l.invariant.1,
    )

pub returns : goal.returns
returns c =
    let a = c.args in
    let l = c.loop-first in
    peeling_done (source a.s.now a.r) (words a.room.now) a.nodes a.n a.from a.end (omega arith) (in_words a.room.now picked_at (omega arith)) (words l.room) l.first l.last l.invariant.0 (omega arith)

pub word-start-requires : goal.word-start-requires
word-start-requires c = omega (arith, half_low (goal.at.word-start-requires c).After-word-y)

pub word-count-requires : goal.word-count-requires
word-count-requires c = omega (arith, half_low (goal.at.word-count-requires c).After-word-y)
