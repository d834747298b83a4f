-- `spider::list_class` meets its contract.
-- Assumes nothing.
use mathlib.Core.Path.{ap, ◌∙◌}
use Prim.Native.Nat.{ℕ, ◌*◌}
use lib.ListN.{replicate}
use lib.Seq.{sets}
use native.Mathlib.Omega.{arith}
use Rattle.links.specs.Links.{cells}
use Rattle.copying.specs.Merged.{table_of}
use Rattle.spider.proofs.Behind.{back_table, back_map}
use Rattle.spider.proofs.list_class.Goals as goal

pub returns : goal.returns
returns c =
    let l = c.list_id in
    let room = c.args.room.now in
    let w = c.word-class in (
      ap cells (back_table room l.new.room (omega arith) l.auto.room) ∙ l.ensures ∙ ap (λ (x : ℕ). sets (cells (table_of room)) (x * 4) (replicate 4 0)) w.ensures,
      back_map room l.new.room (omega arith) l.auto.room,
    )
