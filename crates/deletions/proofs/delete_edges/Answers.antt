-- `deletions::delete_edges` meets its contract.
-- Assumes nothing.
use mathlib.Core.Path.{◌∙◌}
use Rattle.le.specs.Le.{words}
use Rattle.le.specs.Rows.{span}
use Rattle.ledger.specs.Tables.{log_at}
use Rattle.ledger.proofs.Words.{pairs_before}
use Rattle.ledger.proofs.Deleted.{edges_deleted}
use Rattle.deletions.proofs.Turns.{log_mapped}
use native.Mathlib.Omega.{arith}
use Rattle.deletions.proofs.delete_edges.Goals as goal

pub keep_pairs-ports-requires : goal.keep_pairs-ports-requires
keep_pairs-ports-requires c =
    let a = c.args in
    let S = c.requires.0 in
    let f = S.few in
    let w = S.within in
    let log = pairs_before c.keep_labels-edges.ensures.frame log_at a.z.ports (omega arith) ∙ pairs_before c.make_map.ensures.1 log_at a.z.ports (omega arith) in
    (log_mapped (words a.room.now) _ a.z S log, omega arith, omega (arith, c.requires.3, c.make_map.auto.room, c.keep_labels-edges.auto.room))

pub returns : goal.returns
returns c =
    let a = c.args in
    edges_deleted (words a.room.now) a.z c.requires.0 (span a.s.now a.r 0 a.n) (words c.make_map.new.room) (words c.keep_labels-edges.new.room) (words c.keep_pairs-ports.new.room) c.keep_labels-edges.result c.keep_pairs-ports.result
    c.make_map.ensures.1 c.make_map.ensures.0 c.keep_labels-edges.ensures c.keep_pairs-ports.ensures
