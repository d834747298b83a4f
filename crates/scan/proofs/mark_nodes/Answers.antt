-- `scan::mark_nodes` meets its contract.
-- Assumes nothing.
use mathlib.Core.Path.{◌≡◌, sym, ap, ◌∙◌, subst}
use Prim.Native.Nat.{ℕ, ◌+◌}
use native.Mathlib.Omega.{arith}
use lib.ListN.{length}
use Rattle.le.specs.Rows.{row_at, span}
use Rattle.form.specs.Stored.{graph_of}
use Rattle.choice.specs.Arcs.{size}
use Rattle.choice.specs.Drawing.{vertex_count}
use Rattle.marks.specs.Tables.{left, tested_all, went_of, up_to}
use Rattle.sweeps.proofs.Form.{is_nodes, is_all, drawn}
use Rattle.scan.proofs.Beginning.{first_begun, first_size}
use Rattle.form.proofs.Drawn.{stored_in}
use Rattle.scan.proofs.mark_nodes.Goals as goal
use Rattle.scan.proofs.mark_nodes.Goals.{After-settle-more}

-- how many remain, and what holds, where the stages begin
nodes_tested : (c : After-settle-more) → (c.test_all-gone.new.room ≡ tested_all (up_to (length (graph_of c.args.drawing.src.now).labels)) c.prepare.new.room)
    × (c.test_all-gone.result ≡ went_of (up_to (length (graph_of c.args.drawing.src.now).labels)) c.prepare.new.room)
nodes_tested c = (
  c.test_all-gone.ensures.1 ∙ ap (λ (k : ℕ). tested_all (up_to k) c.prepare.new.room) (is_nodes (stored_in c.args.drawing)),
  c.test_all-gone.ensures.0 ∙ ap (λ (k : ℕ). went_of (up_to k) c.prepare.new.room) (is_nodes (stored_in c.args.drawing)),
)

sizes : (c : After-settle-more) → c.test_all-gone.result + c.settle-more.result + size (left (vertex_count (graph_of c.args.drawing.src.now)) c.settle-more.new.room) ≡ vertex_count (graph_of c.args.drawing.src.now)
sizes c =
    let ids = span c.args.kept.now (row_at 0 c.args.drawing.sizes.width) 0 c.args.count in
    let t = nodes_tested c in
    first_size (graph_of c.args.drawing.src.now) (drawn (stored_in c.args.drawing)) ids c.prepare.new.room (omega (arith, c.requires.room_cycle_breaking_nodes_scanning_in_bounds, c.prepare.auto.room)) c.prepare.ensures c.test_all-gone.new.room c.test_all-gone.result t.0 t.1
    c.settle-more.new.room c.settle-more.result c.settle-more.ensures

pub test_all-gone-requires : goal.test_all-gone-requires
test_all-gone-requires c =
    let s = stored_in c.args.drawing in
    (omega (arith, is_nodes s, (drawn s).few_nodes), omega (arith, c.requires.room_cycle_breaking_nodes_scanning_in_bounds, c.prepare.auto.room))

pub overflow_add-gone : goal.overflow_add-gone
overflow_add-gone c = omega (arith, sizes (goal.at.overflow_add-gone c).After-settle-more, (drawn (stored_in c.args.drawing)).few)

pub stages-requires : goal.stages-requires
stages-requires c =
    let p = c.requires in (
      omega (arith, p.room_cycle_breaking_nodes_scanning_in_bounds, c.prepare.auto.room, c.test_all-gone.auto.room, c.settle-more.auto.room),
      subst (λ (k : ℕ). c.test_all-gone.result + c.settle-more.result + size (left k c.settle-more.new.room) ≡ k) (sym (is_all (stored_in c.args.drawing))) (sizes (goal.at.stages-requires c).After-settle-more),
    )

pub returns : goal.returns
returns c =
    let ids = span c.args.kept.now (row_at 0 c.args.drawing.sizes.width) 0 c.args.count in
    let t = nodes_tested (goal.at.returns c).After-settle-more in
    c.stages.ensures ids
    (first_begun (graph_of c.args.drawing.src.now) (drawn (stored_in c.args.drawing)) ids c.prepare.new.room (omega (arith, c.requires.room_cycle_breaking_nodes_scanning_in_bounds, c.prepare.auto.room)) c.prepare.ensures c.test_all-gone.new.room c.test_all-gone.result t.0 t.1
    c.settle-more.new.room c.settle-more.result c.settle-more.ensures)
