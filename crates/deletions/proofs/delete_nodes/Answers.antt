-- `deletions::delete_nodes` meets its contract.
-- Assumes nothing.
use mathlib.Core.Path.{ap, sym, ◌∙◌}
use Rattle.le.specs.Le.{words}
use Rattle.le.specs.Rows.{span}
use Rattle.graph.specs.Lists.{flat}
use Rattle.ledger.specs.Tables.{log_at, sources_at, targets_at, pairs_at}
use Rattle.ledger.specs.Ledger.{words_in, pairs_in}
use Rattle.ledger.proofs.Words.{pairs_before, pairs_behind, words_before, words_behind, flat_pairs}
use Rattle.ledger.proofs.Deleted.{nodes_deleted_lem}
use Rattle.deletions.proofs.Turns.{log_mapped, ids_mapped}
use native.Mathlib.Omega.{arith}
use Rattle.deletions.proofs.delete_nodes.Goals as goal

pub keep_pairs-ports-requires : goal.keep_pairs-ports-requires
keep_pairs-ports-requires c =
    let a = c.args in
    let S = c.requires.0 in
    let f = S.few in
    let w = S.within in
    let log = pairs_before c.keep_labels-nodes.ensures.frame log_at a.z.ports (omega arith) ∙ pairs_before c.make_map.ensures.1 log_at a.z.ports (omega arith) in
    (log_mapped (words a.room.now) _ a.z S log, omega arith, omega (arith, c.requires.3, c.make_map.auto.room, c.keep_labels-nodes.auto.room))

pub keep_ids-sources-requires : goal.keep_ids-sources-requires
keep_ids-sources-requires c =
    let a = c.args in
    let S = c.requires.0 in
    let f = S.few in
    let w = S.within in
    let same = words_behind c.keep_pairs-ports.ensures.frame sources_at a.z.sources (omega arith) ∙ words_behind c.keep_labels-nodes.ensures.frame sources_at a.z.sources (omega arith) ∙ words_before c.make_map.ensures.1 sources_at a.z.sources (omega arith) in
    (ids_mapped a.z.nodes (words_in (words a.room.now) sources_at a.z.sources) _ (omega arith) S.sources same, omega arith, omega (arith, c.requires.3, c.make_map.auto.room, c.keep_labels-nodes.auto.room, c.keep_pairs-ports.auto.room))

pub keep_ids-targets-requires : goal.keep_ids-targets-requires
keep_ids-targets-requires c =
    let a = c.args in
    let S = c.requires.0 in
    let f = S.few in
    let w = S.within in
    let same = words_behind c.keep_ids-sources.ensures.frame targets_at a.z.targets (omega arith) ∙ words_behind c.keep_pairs-ports.ensures.frame targets_at a.z.targets (omega arith) ∙ words_behind c.keep_labels-nodes.ensures.frame targets_at a.z.targets (omega arith)
    ∙ words_before c.make_map.ensures.1 targets_at a.z.targets (omega arith) in
    (ids_mapped a.z.nodes (words_in (words a.room.now) targets_at a.z.targets) _ (omega arith) S.targets same, omega arith, omega (arith, c.requires.3, c.make_map.auto.room, c.keep_labels-nodes.auto.room, c.keep_pairs-ports.auto.room, c.keep_ids-sources.auto.room))

pub keep_pairs-pairs-requires : goal.keep_pairs-pairs-requires
keep_pairs-pairs-requires c =
    let a = c.args in
    let S = c.requires.0 in
    let f = S.few in
    let w = S.within in
    let same = pairs_behind c.keep_ids-targets.ensures.frame pairs_at a.z.pairs (omega arith) ∙ pairs_behind c.keep_ids-sources.ensures.frame pairs_at a.z.pairs (omega arith) ∙ pairs_behind c.keep_pairs-ports.ensures.frame pairs_at a.z.pairs (omega arith)
    ∙ pairs_behind c.keep_labels-nodes.ensures.frame pairs_at a.z.pairs (omega arith) ∙ pairs_before c.make_map.ensures.1 pairs_at a.z.pairs (omega arith) in (
      ids_mapped a.z.nodes (flat (pairs_in (words a.room.now) pairs_at a.z.pairs)) _ (omega arith) S.pairs (sym (flat_pairs (words c.keep_ids-targets.new.room) pairs_at a.z.pairs) ∙ ap flat same),
      omega arith,
      omega (arith, c.requires.3, c.make_map.auto.room, c.keep_labels-nodes.auto.room, c.keep_pairs-ports.auto.room, c.keep_ids-sources.auto.room, c.keep_ids-targets.auto.room),
    )

pub returns : goal.returns
returns c =
    let a = c.args in
    nodes_deleted_lem (words a.room.now) a.z c.requires.0 (span a.s.now a.r 0 a.n) (words c.make_map.new.room) (words c.keep_labels-nodes.new.room) (words c.keep_pairs-ports.new.room) (words c.keep_ids-sources.new.room) (words c.keep_ids-targets.new.room) (words c.keep_pairs-pairs.new.room)
    c.keep_labels-nodes.result c.keep_pairs-ports.result c.keep_ids-sources.result c.keep_ids-targets.result c.keep_pairs-pairs.result
    c.make_map.ensures.1 c.make_map.ensures.0 c.keep_labels-nodes.ensures c.keep_pairs-ports.ensures c.keep_ids-sources.ensures c.keep_ids-targets.ensures c.keep_pairs-pairs.ensures
