-- `spider::write_spiderized` meets its contract.
-- Assumes nothing.
use mathlib.Core.Path.{refl, sym, ◌∙◌}
use lib.ListN.{length}
use Rattle.form.proofs.Drawn.{stored_in}
use Rattle.write.specs.Write.{Room}
use Rattle.write.proofs.Calls.{next, graph_ends}
use Rattle.write.proofs.Results.{Fits, result_fits, fits_room, room_same}
use Rattle.rewriting.specs.Rewriting.{Plan, Laid}
use Rattle.rewriting.proofs.Parts.{copied_done, written_done}
use Rattle.copying.specs.Merged.{table_of, merged_of, spidered_of}
use Rattle.copying.proofs.Merging.{merged_edges}
use Rattle.copying.proofs.Ready.{ready_plan, merged_rows}
use Rattle.spider.proofs.write_spiderized.Goals as goal
use Rattle.spider.proofs.write_spiderized.Goals.{In_ok-bytes}

-- ---- what is known where the result fits
fits : (c : In_ok-bytes) → Fits (next (spidered_of c.args.drawing c.args.nodes c.args.room.now) 0) c.result_sizes-y.result (length c.args.out.now) c.in_ok-bytes.bytes
fits c =
    result_fits (next (spidered_of c.args.drawing c.args.nodes c.args.room.now) 0) c.result_sizes-y.result c.result_sizes-y.ensures (length c.args.out.now) _ (sym c.in_ok-bytes.ensures)

buffer : (c : In_ok-bytes) → Room c.args.out.now c.result_sizes-y.result
buffer c = fits_room (fits c) _ refl

plan : (c : In_ok-bytes) → Plan (merged_of c.args.drawing) c.args.nodes c.result_sizes-y.result (table_of c.args.room.now)
plan c = ready_plan c.requires c.result_sizes-y.ensures (fits c).counts.nodes

pub returns-in_err-bytes : goal.returns-in_err-bytes
returns-in_err-bytes c = λ next is.
    (graph_ends c.args.out.now (spidered_of c.args.drawing c.args.nodes c.args.room.now) 0 c.result_sizes-y.ensures c.args.drawing.src.now next (stored_in c.args.drawing) is).refuses _
    c.in_err-bytes.ensures c.from_residual.ensures.1

pub put_copied-requires : goal.put_copied-requires
put_copied-requires c =
    let b = (goal.at.put_copied-requires c).In_ok-bytes in
    (c.requires.mapped, buffer b, (c.args.nodes, table_of c.args.room.now, plan b))

pub rewrite_all-requires : goal.rewrite_all-requires
rewrite_all-requires c =
    let b = (goal.at.rewrite_all-requires c).In_ok-bytes in
    let laid : Laid (merged_of c.args.drawing) c.args.nodes c.args.drawing.sizes.edges c.result_sizes-y.result (table_of c.args.room.now) c.put_copied.new.out = record {
      plan = plan b;
      copied = copied_done (plan b) c.args.out.now (buffer b) refl (c.put_copied.ensures c.args.nodes (table_of c.args.room.now) (plan b));
      count = sym (merged_edges c.requires.mapped);
    } in
    ((merged_of c.args.drawing, laid, c.lists-rows.ensures.0 ∙ sym (merged_rows c.args.drawing)), room_same {out = c.args.out.now} (buffer b) _ c.put_copied.auto.out)

pub returns : goal.returns
returns c = λ next is.
    let b = (goal.at.returns c).In_ok-bytes in
    let copied = c.put_copied.ensures c.args.nodes (table_of c.args.room.now) (plan b) in
    let laid : Laid (merged_of c.args.drawing) c.args.nodes c.args.drawing.sizes.edges c.result_sizes-y.result (table_of c.args.room.now) c.put_copied.new.out = record {
      plan = plan b;
      copied = copied_done (plan b) c.args.out.now (buffer b) refl copied;
      count = sym (merged_edges c.requires.mapped);
    } in
    (graph_ends c.args.out.now (spidered_of c.args.drawing c.args.nodes c.args.room.now) 0 c.result_sizes-y.ensures c.args.drawing.src.now next (stored_in c.args.drawing) is).done c.in_ok-bytes.ensures
    (c.rewrite_all.ensures _ laid (c.lists-rows.ensures.0 ∙ sym (merged_rows c.args.drawing)) ∙ written_done (plan b) c.args.out.now (buffer b) refl copied)
