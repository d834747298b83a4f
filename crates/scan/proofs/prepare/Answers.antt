-- `scan::prepare` meets its contract.
-- Assumes nothing.
use mathlib.Core.Path.{◌≡◌, sym, ap, ◌∙◌, subst}
use mathlib.Core.List.{List}
use Prim.Native.Nat.{ℕ}
use native.Mathlib.Nat.{le_refl}
use native.Mathlib.Omega.{arith}
use lib.ListN.{length, replicate}
use lib.Seq.{sets}
use Rattle.le.specs.Le.{Below}
use Rattle.le.specs.Rows.{row_at, span}
use Rattle.le.proofs.Numbers.{below_widen}
use Rattle.form.specs.Stored.{graph_of}
use Rattle.choice.specs.Calls.{room_cycle_breaking_nodes_scanning}
use Rattle.choice.specs.Drawing.{vertex_count}
use Rattle.marks.specs.Tables.{kept_in}
use Rattle.scan.specs.Stages.{Counted}
use Rattle.sweeps.proofs.Form.{is_nodes, is_edges, is_all, drawn}
use Rattle.scan.proofs.Beginning.{counted_start, prepared}
use Rattle.form.proofs.Drawn.{stored_in}
use Rattle.scan.proofs.prepare.Goals as goal
use Rattle.scan.proofs.prepare.Goals.{After-mark_kept, Start}

-- the ids of the list
abbrev ids : Start → List ℕ
ids c = span c.args.kept.now (row_at 0 c.args.drawing.sizes.width) 0 c.args.count

low : (c : Start) → Below (length (graph_of c.args.drawing.src.now).labels) (ids c)
low c = subst (λ (k : ℕ). Below k (ids c)) (is_nodes (stored_in c.args.drawing)) c.requires.stored.1

-- the room that the entries are counted in
marked : (c : After-mark_kept) → c.mark_kept.new.room
    ≡ kept_in (sets (sets c.args.room.now 0 (replicate room_cycle_breaking_nodes_scanning 0)) 0 (replicate (vertex_count (graph_of c.args.drawing.src.now)) 1)) (span c.args.kept.now (row_at 0 c.args.drawing.sizes.width) 0 c.args.count)
marked c =
    c.mark_kept.ensures
    ∙ ap (λ (q : List ℕ). kept_in q (span c.args.kept.now (row_at 0 c.args.drawing.sizes.width) 0 c.args.count))
    (c.mark_all.ensures ∙ (λ i. sets (c.clear.ensures i) 0 (replicate (is_all (stored_in c.args.drawing) i) 1)))

pub mark_all-requires : goal.mark_all-requires
mark_all-requires c = let s = stored_in c.args.drawing in omega (arith, is_nodes s, is_edges s, (drawn s).few, c.requires.room_cycle_breaking_nodes_scanning_in_bounds, c.clear.auto.d)

pub mark_kept-requires : goal.mark_kept-requires
mark_kept-requires c =
    let start = (goal.at.mark_kept-requires c).Start in
    (c.requires.stored.0, below_widen (ids start) (drawn (stored_in c.args.drawing)).few_nodes (low start), omega (arith, c.requires.room_cycle_breaking_nodes_scanning_in_bounds, c.clear.auto.d, c.mark_all.auto.room))

pub count_edges-requires : goal.count_edges-requires
count_edges-requires c =
    let g = graph_of c.args.drawing.src.now in
    let at = goal.at.count_edges-requires c in (
      omega (arith, c.requires.room_cycle_breaking_nodes_scanning_in_bounds, c.clear.auto.d, c.mark_all.auto.room, c.mark_kept.auto.room),
      subst (λ (q : List ℕ). Counted g q q 0) (sym (marked at.After-mark_kept)) (counted_start g (drawn (stored_in c.args.drawing)) room_cycle_breaking_nodes_scanning (le_refl room_cycle_breaking_nodes_scanning) c.args.room.now c.requires.room_cycle_breaking_nodes_scanning_in_bounds (ids at.Start) (low at.Start)),
    )

pub returns : goal.returns
returns c =
    let g = graph_of c.args.drawing.src.now in
    let o = c.count_edges in
    let at = goal.at.returns c in
    prepared g (drawn (stored_in c.args.drawing)) room_cycle_breaking_nodes_scanning (le_refl room_cycle_breaking_nodes_scanning) c.args.room.now c.requires.room_cycle_breaking_nodes_scanning_in_bounds (ids at.Start) (low at.Start) o.new.room
    (subst (λ (q : List ℕ). Counted g q o.new.room (length g.edges)) (marked at.After-mark_kept) (subst (Counted g c.mark_kept.new.room o.new.room) (is_edges (stored_in c.args.drawing)) o.ensures))
