-- `copying::put_copied` meets its contract.
-- Assumes nothing.
use mathlib.Core.List.{List, ◌++◌}
use mathlib.Core.Path.{sym, ap, ◌∙◌}
use Prim.Native.Nat.{ℕ}
use Rattle.form.specs.Form.{body_of, lists_from}
use Rattle.form.specs.declared.Sizes.{Sizes}
use Rattle.form.specs.Drawn.{graph_in}
use Rattle.graph.specs.Form.{edge_row}
use Rattle.graph.specs.Graph.{Graph}
use Rattle.graph.specs.Lists.{joined}
use Rattle.le.specs.Rows.{puts}
use Rattle.links.specs.Links.{cells}
use Rattle.write.proofs.Results.{room_same}
use Rattle.rewriting.specs.Rewriting.{spidered, fronted}
use Rattle.copying.specs.Merged.{merged_of}
use Rattle.copying.proofs.Ready.{plain, rows_fit, same_sources, same_targets}
use Rattle.copying.proofs.put_copied.Goals as goal

-- the buffer after the entries of a graph were put
abbrev entered : Sizes → Graph → List ℕ → List ℕ
entered y g o = puts (puts o (body_of y) 0 (joined edge_row g.edges)) (body_of y) (lists_from y) (g.sources ++ g.targets)

pub put_entries-requires : goal.put_entries-requires
put_entries-requires c =
    let d = c.args.drawing in
    let p = c.requires.2.2 in
    (room_same {out = c.args.out.now} c.requires.1 _ c.put_front.auto.out, rows_fit d p, same_sources d p, same_targets d p)

pub returns-then-drawing-eq0 : goal.returns-then-drawing-eq0
returns-then-drawing-eq0 c = λ nodes table p.
    let d = c.args.drawing in
    c.put_entries.ensures ∙ ap (entered c.args.y (graph_in d)) (c.put_front.ensures nodes table p)
    ∙ ap (λ (g : Graph). entered c.args.y g (fronted c.args.out.now c.args.y (merged_of d) (spidered (merged_of d) nodes (cells table)))) (sym (plain c.args.drawing c.if-drawing-eq0.true))

pub put_merged_entries-requires : goal.put_merged_entries-requires
put_merged_entries-requires c =
    let d = c.args.drawing in
    let p = c.requires.2.2 in
    (c.requires.0, room_same {out = c.args.out.now} c.requires.1 _ c.put_front.auto.out, rows_fit d p, same_sources d p, same_targets d p)

pub returns : goal.returns
returns c = λ nodes table p. c.put_merged_entries.ensures ∙ ap (entered c.args.y (merged_of c.args.drawing)) (c.put_front.ensures nodes table p)
