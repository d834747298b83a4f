-- `reasons::settle` meets its contract.
-- Assumes nothing.
use mathlib.Core.Path.{ap, ◌∙◌}
use mathlib.Core.List.{List}
use Prim.Native.Nat.{ℕ, ◌≤◌}
use native.Mathlib.Omega.{arith}
use Rattle.le.specs.Le.{words}
use Rattle.le.proofs.Places.{length_words}
use Rattle.removal.specs.Room.{source}
use Rattle.reasons.specs.Told.{meant, freed_all}
use Rattle.reasons.proofs.Rooms.{waited_part, settled_later}
use Rattle.reasons.proofs.settle.Goals as goal
use Rattle.reasons.proofs.settle.Goals.{After-peel-last}

-- none has left
later : (c : After-peel-last) → c.args.end ≤ c.peel-last.result
later c =
    let a = c.args in
    settled_later (source a.s.now a.r) (words a.room.now) (words c.peel-last.new.room) a.nodes a.n (omega arith) (omega (arith, length_words a.room.now)) a.from a.end c.peel-last.result (omega arith) (omega arith) c.peel-last.ensures

pub overflow_sub-last : goal.overflow_sub-last
overflow_sub-last c = omega (arith, later (goal.at.overflow_sub-last c).After-peel-last)

pub put_freed-requires : goal.put_freed-requires
put_freed-requires c =
    let p = c.peel-last in
    (omega arith, omega (arith, later (goal.at.put_freed-requires c).After-peel-last, p.ensures.few), omega (arith, p.auto.room))

pub returns : goal.returns
returns c =
    let a = c.args in
    let p = c.peel-last in
    let X = words p.new.room in
    let above : a.from ≤ p.result = omega (arith, later (goal.at.returns c).After-peel-last) in (
      record { went = p.ensures; later = above },
      c.put_freed.ensures
          ∙ ap (λ (ys : List ℕ). freed_all a.nodes (meant a.why) ys a.out.now) (waited_part X a.n a.from p.result above p.ensures.few (omega arith) (omega (arith, length_words p.new.room, p.auto.room))),
    )
