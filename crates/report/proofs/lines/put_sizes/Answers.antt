-- `report::lines::put_sizes` meets its contract.
-- Assumes nothing.
use mathlib.Core.List.{◌++◌}
use Rattle.text.specs.Text.{ascii, field}
use Rattle.text.proofs.Texts.{printed_then}
use Rattle.report.proofs.lines.put_sizes.Goals as goal

pub returns-clause-printed : goal.returns-clause-printed
returns-clause-printed c =
    let nodes = field "nodes " c.args.z.nodes in
    let edges = field " edges " c.args.z.edges in
    let ports = field " ports " c.args.z.ports in
    let two = printed_then nodes edges c.put_field-nodes.ensures.printed c.put_field-edges.ensures.printed in
    let three = printed_then (nodes ++ edges) ports two c.put_field-ports.ensures.printed in
    printed_then (nodes ++ edges ++ ports) (ascii "\n") three c.put_text.ensures
