-- `rewriting::rewrite_all` meets its contract.
-- Assumes nothing.
use mathlib.Core.Bool.{Bool}
use mathlib.Core.Path.{◌≡◌, ap, ◌∙◌}
use Prim.Native.Nat.{ℕ}
use lib.ListN.{length}
use Rattle.graph.specs.Graph.{Graph}
use Rattle.graph.specs.Lists.{keep, joined, range}
use Rattle.le.proofs.Rows.{holds_less, holds_same}
use Rattle.links.specs.Links.{cells, is_listed, Table, both_rows}
use Rattle.rewriting.specs.Rewriting.{Laid}
use Rattle.rewriting.proofs.Parts.{all_fresh, planned, lists_ready, lists_passed, AllRewritten}
use native.Mathlib.Omega.{arith}
use Rattle.rewriting.proofs.rewrite_all.Goals as goal
use Rattle.rewriting.proofs.rewrite_all.Goals.{After-rewrite_lists}

-- what the passes left
rewritten : (c : After-rewrite_lists) (g : Graph) → Laid g c.args.nodes c.args.edges c.args.y c.args.room.now c.args.out.now
    → AllRewritten g c.args.nodes c.args.y (is_listed c.args.nodes (cells c.args.room.now)) c.args.out.now (cells c.rewrite_lists.new.room) c.rewrite_lists.new.out c.rewrite_lists.result
rewritten c g h = let f = c.rewrite_edges-next in lists_passed h c.requires.1 f.new.room c.rewrite_lists.new.room (f.ensures g h) c.rewrite_lists.ensures

table : (c : After-rewrite_lists) (g : Graph) → Laid g c.args.nodes c.args.edges c.args.y c.args.room.now c.args.out.now
    → Table c.args.nodes c.rewrite_lists.new.room (all_fresh (is_listed c.args.nodes (cells c.args.room.now)) g c.args.nodes)
table c g h = let n = h.plan.numbered in
    let r = rewritten c g h in
    let k : length c.rewrite_lists.new.room ≡ length c.args.room.now = c.rewrite_lists.auto.room ∙ c.rewrite_edges-next.auto.room in
    record { bound = c.rewrite_lists.result; linked = r.linked; heads_held = omega (arith, n.heads); links_held = omega (arith, n.links, r.number) }

pub rewrite_lists-requires : goal.rewrite_lists-requires
rewrite_lists-requires c =
    let f = c.rewrite_edges-next in
    let h = c.requires.0.1 in
    lists_ready h c.requires.1 (f.ensures _ h) f.auto.room f.auto.out

pub put_spiders-requires : goal.put_spiders-requires
put_spiders-requires c =
    let a = c.args in
    let g = c.requires.0.0 in
    let h = c.requires.0.1 in
    let q = planned h.plan in
    let F = all_fresh (is_listed a.nodes (cells a.room.now)) g a.nodes in
    let long = ap (λ (t : ℕ → Bool). length (joined (both_rows F) (keep t (range 0 a.nodes)))) (rewritten (goal.at.put_spiders-requires c).After-rewrite_lists g h).same in (
      omega (arith, c.requires.1.low.nodes, q.all),
      (
        F,
        table (goal.at.put_spiders-requires c).After-rewrite_lists g h,
        holds_same {b = a.out.now} (rw c.body_row-row.ensures (holds_less c.requires.1.body _ (omega (arith, q.rows, c.requires.0.2)))) _ (c.rewrite_lists.auto.out ∙ c.rewrite_edges-next.auto.out),
      ),
    )

pub returns : goal.returns
returns c = λ g h at. (rewritten (goal.at.returns c).After-rewrite_lists g h).done at c.body_row-row.ensures (c.put_spiders.ensures _ (table (goal.at.returns c).After-rewrite_lists g h))
