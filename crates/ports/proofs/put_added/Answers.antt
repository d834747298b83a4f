-- `ports::put_added` meets its contract.
-- Assumes nothing.
use mathlib.Core.Path.{◌≡◌}
use native.Mathlib.Omega.{arith}
use Rattle.form.specs.Form.{body_of, edge_in}
use Rattle.form.proofs.Drawn.{stored_in}
use Rattle.form.proofs.Stored.{edge_there}
use Rattle.write.proofs.Results.{room_same}
use Rattle.ports.proofs.Bodies.{edge_low, port_low, added_drawn}
use Rattle.ports.proofs.put_added.Goals as goal
use Rattle.ports.proofs.put_added.Goals.{After-edge_at-e}

-- the edge that was found
found : (c : After-edge_at-e) → c.edge_at-e.result ≡ edge_in c.args.drawing.src.now (body_of c.args.drawing.sizes) c.edge_index-k.result
found c = rw c.body.ensures at c.edge_at-e.ensures

pub edge_at-e-requires : goal.edge_at-e-requires
edge_at-e-requires c = rw c.body.ensures (edge_there (stored_in c.args.drawing) _ _ c.requires.1 c.edge_index-k.ensures).held

pub port_at-requires : goal.port_at-requires
port_at-requires c =
    let a = c.args in
    let l = (edge_low (stored_in a.drawing) a.side a.edge a.label c.requires.1 _ c.edge_index-k.ensures _ (found (goal.at.port_at-requires c).After-edge_at-e)).1 in
    (omega arith, omega arith)

pub put_port-requires : goal.put_port-requires
put_port-requires c =
    let a = c.args in
    let p = c.requires in
    let l = edge_low (stored_in a.drawing) a.side a.edge a.label p.1 _ c.edge_index-k.ensures _ (found (goal.at.put_port-requires c).After-edge_at-e) in
    let e = c.edge_at-e.result in
    let n = port_low a.side e.sources e.targets in
    rw c.port_at.ensures (room_same p.0 _ (omega arith), p.3, omega arith, omega arith, omega arith)

pub returns : goal.returns
returns c =
    let a = c.args in
    rw (c.put_port.ensures, c.put_node_labels.ensures)
    (added_drawn (stored_in a.drawing) a.side a.edge a.label c.requires.1 _ c.edge_index-k.ensures _ (found (goal.at.returns c).After-edge_at-e) a.out.now a.y _ c.port_at.ensures)
