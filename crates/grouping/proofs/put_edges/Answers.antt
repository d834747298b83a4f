-- `grouping::put_edges` meets its contract.
-- Assumes nothing.
use mathlib.Core.List.{List}
use mathlib.Core.Path.{◌≡◌, ap, ◌∙◌, subst}
use Prim.Native.Nat.{ℕ, ◌+◌, ◌*◌}
use native.Mathlib.Nat.{le_antisymm}
use lib.ListN.{length, take}
use Rattle.le.specs.Le.{words}
use Rattle.le.proofs.Rows.{holds_less}
use Rattle.graph.specs.Form.{edge_row}
use Rattle.graph.specs.Graph.{Edge}
use Rattle.graph.specs.Lists.{joined}
use Rattle.write.specs.Write.{Put}
use Rattle.write.proofs.Grows.{put_more, put_fits}
use Rattle.write.proofs.Results.{put_none}
use Rattle.ledger.specs.Ledger.{drawing}
use Rattle.grouping.proofs.Walks.{edges_grow, all_edges, edges_long}
use native.Mathlib.Omega.{arith}
use Rattle.grouping.proofs.put_edges.Goals as goal

pub loop-e-init : goal.loop-e-init
loop-e-init c = (omega arith, put_none)

pub put_edge-at-requires : goal.put_edge-at-requires
put_edge-at-requires c =
    let a = c.args in
    let l = c.loop-e in
    let W = words a.room.now in
    let all : length (joined edge_row (take a.z.edges (drawing W a.z).edges)) ≡ 2 * a.z.edges + a.z.ports = ap (λ (es : List Edge). length (joined edge_row es)) (all_edges W a.z) ∙ edges_long W a.z c.requires.0.sound in
    (c.requires.0, omega arith, put_fits (edges_grow W a.z) (omega arith) l.invariant.1 (holds_less c.requires.1 _ (omega arith)), c.requires.2)

pub loop-e-preserved : goal.loop-e-preserved
loop-e-preserved c =
    let a = c.args in
    let l = c.loop-e in
    (omega arith, put_more (edges_grow (words a.room.now) a.z) (omega arith) l.invariant.1 c.put_edge-at.ensures)

pub returns : goal.returns
returns c =
    let a = c.args in
    let l = c.loop-e in
    let W = words a.room.now in
    subst (λ (es : List Edge). Put a.out.now a.r 0 (joined edge_row es) l.out l.at) (ap (λ (n : ℕ). take n (drawing W a.z).edges) (le_antisymm l.invariant.0 c.loop-e-test.false) ∙ all_edges W a.z) l.invariant.1
