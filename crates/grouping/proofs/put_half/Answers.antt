-- `grouping::put_half` meets its contract.
-- Assumes nothing.
use mathlib.Core.List.{List, [], ◌∷◌, ◌++◌}
use mathlib.Core.Path.{refl, subst}
use Prim.Native.Nat.{ℕ, ◌+◌, ◌-◌, ◌*◌}
use lib.ListN.{get_or}
use Rattle.le.specs.Le.{words}
use Rattle.le.proofs.Rows.{holds_less, holds_same, holds_index}
use Rattle.write.specs.Write.{Put}
use Rattle.write.proofs.Grows.{put_length}
use Rattle.write.proofs.Results.{put_none, put_then}
use Rattle.ledger.specs.Tables.{log_at, next_at}
use Rattle.grouping.proofs.Walks.{Walk, Walked, walk_begins, walk_turns, walk_done}
use native.Mathlib.Omega.{arith}
use Rattle.grouping.proofs.put_half.Goals as goal
use Rattle.grouping.proofs.put_half.Goals.{After-next_of-port, After-put_number-arg-1, After-slice_known-in-loop-port-1, In-loop-port}

-- the port that is met: it is there, and there is room for its node
early : (c : In-loop-port) → Walked (words c.args.room.now) c.args.z c.args.half c.loop-port.port (get_or (words c.args.room.now) (log_at + 2 * (c.loop-port.port - 1) + 1) 0) (get_or (words c.args.room.now) (next_at + (c.loop-port.port - 1)) 0) c.loop-port.invariant.0
early c = let a = c.args in
    let l = c.loop-port in
    walk_turns (words a.room.now) a.z a.half c.requires.0.links l.port l.invariant.0 l.invariant.1 c.loop-port-test.true _ _ refl refl

-- the port that is met: it is there, and there is room for its node
early_2 : (c : After-put_number-arg-1) → Walked (words c.args.room.now) c.args.z c.args.half c.loop-port.port (get_or (words c.args.room.now) (log_at + 2 * (c.loop-port.port - 1) + 1) 0) (get_or (words c.args.room.now) (next_at + (c.loop-port.port - 1)) 0) c.loop-port.invariant.0
early_2 c = let a = c.args in
    let l = c.loop-port in
    walk_turns (words a.room.now) a.z a.half c.requires.0.links l.port l.invariant.0 l.invariant.1 c.loop-port-test.true _ _ refl refl

-- the port that is met: it is there, and there is room for its node
early_3 : (c : After-slice_known-in-loop-port-1) → Walked (words c.args.room.now) c.args.z c.args.half c.loop-port.port (get_or (words c.args.room.now) (log_at + 2 * (c.loop-port.port - 1) + 1) 0) (get_or (words c.args.room.now) (next_at + (c.loop-port.port - 1)) 0) c.loop-port.invariant.0
early_3 c = let a = c.args in
    let l = c.loop-port in
    walk_turns (words a.room.now) a.z a.half c.requires.0.links l.port l.invariant.0 l.invariant.1 c.loop-port-test.true _ _ refl refl

-- the port that is met: it is there, and there is room for its node
early_4 : (c : After-next_of-port) → Walked (words c.args.room.now) c.args.z c.args.half c.loop-port.port (get_or (words c.args.room.now) (log_at + 2 * (c.loop-port.port - 1) + 1) 0) (get_or (words c.args.room.now) (next_at + (c.loop-port.port - 1)) 0) c.loop-port.invariant.0
early_4 c = let a = c.args in
    let l = c.loop-port in
    walk_turns (words a.room.now) a.z a.half c.requires.0.links l.port l.invariant.0 l.invariant.1 c.loop-port-test.true _ _ refl refl

pub overflow_add-half : goal.overflow_add-half
overflow_add-half c = let w = c.requires.0.sound.within in let h = c.requires.1 in omega arith

pub word-port-requires : goal.word-port-requires
word-port-requires c = let w = c.requires.0.sound.within in let h = c.requires.1 in let q = c.requires.3 in omega arith

pub loop-port-init : goal.loop-port-init
loop-port-init c =
    let a = c.args in
    ([], walk_begins (words a.room.now) a.z a.half c.requires.0.links c.word-port.result c.requires.1 c.word-port.ensures, put_none)

pub node_of-node-requires : goal.node_of-node-requires
node_of-node-requires c = let e = early (c) in (e.some, e.low, c.requires.0.sound.few, c.requires.3)

pub put_number-requires : goal.put_number-requires
put_number-requires c =
    let e = early_2 c in
    let l = c.loop-port in
    (holds_same (holds_less c.requires.2 _ (omega (arith, e.fits, l.invariant.2.next))) l.out (put_length l.invariant.2), c.node_of-node.ensures.1)

pub overflow_add-at : goal.overflow_add-at
overflow_add-at c = let e = early_3 c in omega (arith, e.fits, c.loop-port.invariant.2.next, holds_index c.requires.2)

pub next_of-port-requires : goal.next_of-port-requires
next_of-port-requires c = let e = early_3 c in (e.some, e.low, c.requires.0.sound.few, c.requires.3)

pub loop-port-smaller : goal.loop-port-smaller
loop-port-smaller c = let e = early_4 c in omega (arith, e.fits, c.loop-port.invariant.2.next)

pub loop-port-preserved : goal.loop-port-preserved
loop-port-preserved c =
    let a = c.args in
    let l = c.loop-port in
    let t = walk_turns (words a.room.now) a.z a.half c.requires.0.links l.port l.invariant.0 l.invariant.1 c.loop-port-test.true c.node_of-node.result c.next_of-port.result c.node_of-node.ensures.0 c.next_of-port.ensures in
    (l.invariant.0 ++ (c.node_of-node.result ∷ []), t.walk, put_then l.invariant.2 (record { stored = c.put_number.ensures; next = refl }))

pub returns : goal.returns
returns c =
    let a = c.args in
    let l = c.loop-port in
    let w = subst (λ (p : ℕ). Walk (words a.room.now) a.z a.half p l.invariant.0) c.loop-port-test.false l.invariant.1 in
    subst (λ (ns : List ℕ). Put a.out.now a.r a.from ns l.out l.at) (walk_done (words a.room.now) a.z a.half c.requires.0.links l.invariant.0 w) l.invariant.2
