-- `once_fed::mark_list` meets its contract.
-- Assumes nothing.
use mathlib.Core.Path.{refl, ◌∙◌}
use Prim.Native.Nat.{◌<◌}
use native.Mathlib.Nat.{le_antisymm}
use native.Mathlib.Omega.{arith}
use Rattle.le.specs.Rows.{span}
use Rattle.le.proofs.Numbers.{below_at}
use Rattle.le.proofs.Rows.{holds_less, holds_index, length_span, span_at}
use Rattle.once_fed.specs.Marked.{added}
use Rattle.once_fed.proofs.Marked.{is_way, list_start, list_turn, list_stop}
use Rattle.once_fed.proofs.mark_list.Goals as goal
use Rattle.once_fed.proofs.mark_list.Goals.{After-number-id}

-- the id that was read is below the node count
known : (c : After-number-id) → c.number-id.result < c.args.nodes
known c = let a = c.args in
    let i = c.loop-i.i in
    let b = a.src.now in
    omega (
      arith,
      c.number-id.ensures.0,
      span_at b a.r a.k a.n i (omega arith),
      below_at a.nodes (span b a.r a.k a.n) i c.requires.1 (omega (arith, length_span b a.r a.k a.n)),
    )

pub loop-i-init : goal.loop-i-init
loop-i-init c = let a = c.args in (omega arith, refl, list_start a.room.now a.nodes (added a.way) a.src.now a.r a.k)

pub overflow_add-k : goal.overflow_add-k
overflow_add-k c = omega (arith, holds_index c.requires.0)

pub number-id-requires : goal.number-id-requires
number-id-requires c = holds_less c.requires.0 _ (omega arith)

pub returns-then-not-mark : goal.returns-then-not-mark
returns-then-not-mark c =
    let a = c.args in
    let l = c.loop-i in
    let f = c.mark in
    let x = c.number-id in
    list_stop a.room.now a.nodes (added a.way) a.src.now a.r a.k a.n l.i (omega arith) l.room l.invariant.2 x.result x.ensures.0 (known (goal.at.returns-then-not-mark c).After-number-id) (omega arith)
    (is_way a.way) f.result f.ensures.value f.new.room f.ensures.room_after c.if-not-mark.true

pub loop-i-preserved : goal.loop-i-preserved
loop-i-preserved c =
    let a = c.args in
    let l = c.loop-i in
    let f = c.mark in
    let x = c.number-id in (
      omega arith,
      f.auto.room ∙ l.invariant.1,
      list_turn a.room.now a.nodes (added a.way) a.src.now a.r a.k a.n l.i (omega arith) l.room l.invariant.2 x.result x.ensures.0 (known (goal.at.loop-i-preserved c).After-number-id) (omega arith)
          (is_way a.way) f.result f.ensures.value f.new.room f.ensures.room_after c.if-not-mark.false,
    )

pub mark-requires : goal.mark-requires
mark-requires c = omega (arith, known (goal.at.mark-requires c).After-number-id)

pub returns : goal.returns
returns c =
    let l = c.loop-i in
    let e = le_antisymm l.invariant.0 c.loop-i-test.false in
    rw (← e) l.invariant.2
