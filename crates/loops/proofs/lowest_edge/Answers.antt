-- `loops::lowest_edge` meets its contract.
-- Assumes nothing.
use mathlib.Core.Path.{◌∙◌}
use Rattle.le.specs.Le.{words}
use Rattle.tables.specs.Tables.{most_vertices}
use Rattle.removal.specs.Room.{room_list}
use Rattle.loops.specs.Walk.{lowest_live, vertices_of}
use Rattle.loops.proofs.lowest_edge.Goals as goal

pub returns : goal.returns
returns c =
    let a = c.args in
    let W = words a.room.now in
    c.lowest_listed.ensures ∙ (λ i. lowest_live W most_vertices (vertices_of (room_list W (c.word-start.ensures i) (c.word-count.ensures i))))
