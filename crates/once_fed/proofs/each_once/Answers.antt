-- `once_fed::each_once` meets its contract.
-- Assumes nothing.
use Rattle.form.proofs.Drawn.{stored_in}
use mathlib.Core.Bool.{true, false}
use mathlib.Core.List.{List}
use mathlib.Core.Path.{◌≡◌, sym, ◌∙◌, subst}
use Prim.Native.Nat.{ℕ}
use Rattle.once_fed.specs.Marked.{AllMarked}
use Rattle.once_fed.proofs.Whole.{edges_stop, lists_marked, lists_stop, lists_end}
use Rattle.once_fed.proofs.each_once.Goals as goal
use Rattle.once_fed.proofs.each_once.Goals.{then-mark_edges, else-mark_edges}

pub returns-then-mark_lists : goal.returns-then-mark_lists
returns-then-mark_lists c =
    let s = (stored_in c.args.drawing) in
    let m = c.mark_edges in
    elim c.if-mark_edges.branch [
      | then-mark_edges w ↦
          let q = w.mark_lists in
          lists_end s q.result (sym w.value-is ∙ c.if-mark_lists.true) q.new.room (lists_marked s m.result w.if-mark_edges.true m.new.room m.ensures q.new.room q.result q.ensures)
          c.all_marked.result (subst (λ (t : List ℕ). AllMarked c.all_marked.result t c.args.drawing.sizes.nodes) w.room-is c.all_marked.ensures)
      | else-mark_edges w ↦ let o : false ≡ true = sym w.if-mark_edges.false ∙ sym w.value-is ∙ c.if-mark_lists.true in cc
    ]

pub returns-else-mark_lists : goal.returns-else-mark_lists
returns-else-mark_lists c =
    let s = (stored_in c.args.drawing) in
    let m = c.mark_edges in
    c.if-mark_lists.false ∙ elim c.if-mark_edges.branch [
      | then-mark_edges w ↦
          let q = w.mark_lists in
          sym (lists_stop s q.result (sym w.value-is ∙ c.if-mark_lists.false) q.new.room (lists_marked s m.result w.if-mark_edges.true m.new.room m.ensures q.new.room q.result q.ensures))
      | else-mark_edges w ↦ sym (edges_stop s m.result w.if-mark_edges.false m.new.room m.ensures)
    ]
