-- `copying::put_merged_entries` meets its contract.
-- Assumes nothing.
use Rattle.write.proofs.Results.{room_same}
use Rattle.copying.proofs.Merging.{merged_entries}
use Rattle.copying.proofs.put_merged_entries.Goals as goal

pub put_renamed_lists-requires : goal.put_renamed_lists-requires
put_renamed_lists-requires c =
    (c.requires.0.held, room_same {out = c.args.out.now} c.requires.1 _ c.put_renamed_edges.auto.out, c.requires.3, c.requires.4)

pub returns : goal.returns
returns c = merged_entries c.requires.0 c.args.y c.args.out.now c.body_row-to.ensures c.put_renamed_edges.ensures.1.stored c.put_renamed_lists.ensures
