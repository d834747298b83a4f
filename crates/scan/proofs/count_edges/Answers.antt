-- `scan::count_edges` meets its contract.
-- Assumes nothing.
use mathlib.Core.Path.{◌∙◌}
use native.Mathlib.Omega.{arith}
use Rattle.le.proofs.Rows.{holds_less, holds_index}
use Rattle.form.specs.Stored.{graph_of}
use Rattle.marks.specs.Tables.{shifted_all}
use Rattle.sweeps.proofs.Form.{is_edges, drawn, Read, counts_held, read_edge_lem}
use Rattle.scan.proofs.Beginning.{counted_turn}
use Rattle.form.proofs.Drawn.{stored_in}
use Rattle.scan.proofs.count_edges.Goals as goal
use Rattle.scan.proofs.count_edges.Goals.{After-edge_at-e}

-- the edge as it was read
read : (c : After-edge_at-e) → Read (stored_in c.args.drawing) c.body-r.result c.loop-i.i c.edge_at-e.result
read c = let l = c.loop-i in
    let r = c.body-r in
    read_edge_lem (stored_in c.args.drawing) r.result r.ensures l.i l.k (omega arith) l.invariant.1 c.edge_at-e.result c.edge_at-e.ensures

pub edge_at-e-requires : goal.edge_at-e-requires
edge_at-e-requires c =
    let l = c.loop-i in
    counts_held (stored_in c.args.drawing) c.body-r.result c.body-r.ensures l.i l.k (omega arith) l.invariant.1

pub shift_each-requires : goal.shift_each-requires
shift_each-requires c =
    let f = read (goal.at.shift_each-requires c).After-edge_at-e in
    (holds_less f.held _ (omega arith), f.low_sources, omega (arith, c.requires.0, c.loop-i.invariant.2.long))

pub overflow_add-e : goal.overflow_add-e
overflow_add-e c = omega (arith, holds_index (read (goal.at.overflow_add-e c).After-edge_at-e).held)

pub shift_each-requires-in-loop-i : goal.shift_each-requires-in-loop-i
shift_each-requires-in-loop-i c =
    let f = read (goal.at.shift_each-requires-in-loop-i c).After-edge_at-e in
    (f.held, f.low_targets, omega (arith, c.requires.0, c.loop-i.invariant.2.long, c.shift_each.auto.room))

pub loop-i-preserved : goal.loop-i-preserved
loop-i-preserved c =
    let l = c.loop-i in
    let f = read (goal.at.loop-i-preserved c).After-edge_at-e in
    let one = c.shift_each in
    let two = c.shift_each-in-loop-i in
    let less = c.loop-i-test.true in (
      omega (arith, less),
      f.next,
      counted_turn (graph_of c.args.drawing.src.now) (drawn (stored_in c.args.drawing)) c.args.room.now l.room two.new.room l.i (omega (arith, less, is_edges (stored_in c.args.drawing))) c.requires.0 l.invariant.2
          (two.ensures ∙ (λ i. shifted_all 1 (f.targets_are i) ((one.ensures ∙ (λ j. shifted_all 65536 (f.sources_are j) l.room)) i))),
    )
