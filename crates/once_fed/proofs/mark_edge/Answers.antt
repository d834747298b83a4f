-- `once_fed::mark_edge` meets its contract.
-- Assumes nothing.
use mathlib.Core.Logic.{inl}
use mathlib.Core.Path.{refl}
use Rattle.once_fed.proofs.Marked.{second_next}
use Rattle.once_fed.proofs.mark_edge.Goals as goal

pub returns-then-mark_list : goal.returns-then-mark_list
returns-then-mark_list c =
    let f = c.mark_list in
    let g = c.mark_list-then-mark_list in
    second_next _ f.new.room _ _ 1 (inl refl) _ _ f.result f.ensures c.if-mark_list.true g.result g.ensures
