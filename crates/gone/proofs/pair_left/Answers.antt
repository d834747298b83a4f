-- `gone::pair_left` meets its contract.
-- Assumes nothing.
use mathlib.Core.Bool.{cond}
use mathlib.Core.List.{List}
use mathlib.Core.Path.{sym, ap, ◌∙◌, subst}
use Prim.Native.Nat.{ℕ, ◌<◌}
use lib.ListN.{length}
use Rattle.gone.specs.Marks.{marked}
use Rattle.graph.specs.Delete.{renamed_pairs}
use Rattle.graph.specs.Lists.{paired}
use Rattle.le.specs.Le.{Below}
use Rattle.le.specs.Rows.{span}
use Rattle.write.proofs.Grows.{span_two}
use Rattle.gone.proofs.Grows.{pair_stays}
use native.Mathlib.Omega.{arith}
use Rattle.gone.proofs.pair_left.Goals as goal
use Rattle.gone.proofs.pair_left.Goals.{After-number-b}

-- both ends are below a bound if the row's are
ends : (c : After-number-b) (m : ℕ) → Below m (span c.args.src.now c.args.r c.args.k 2) → (c.number-a.result < m) × (c.number-b.result < m)
ends c m h = let a = c.args in
    let t = subst (Below m) (span_two a.src.now a.r a.k) h in
    (omega (arith, c.number-a.ensures.0, t.0), omega (arith, c.number-b.ensures.0, t.1.0))

pub if_stays-requires : goal.if_stays-requires
if_stays-requires c = (ends (goal.at.if_stays-requires c).After-number-b _ c.requires.1).1

pub if_stays-requires-2 : goal.if_stays-requires-2
if_stays-requires-2 c = (ends (goal.at.if_stays-requires-2 c).After-number-b _ c.requires.1).0

pub returns : goal.returns
returns c =
    let a = c.args in (
      omega arith,
      λ m h.
          let goes = marked a.room.now m in
          let less = ends (goal.at.returns c).After-number-b m h in
          let v = c.number-a in
          let w = c.number-b in
          c.if_stays-2.ensures.1 m less.0 ∙ (λ i. cond (goes v.result) 0 (c.if_stays.ensures.1 m less.1 i))
          ∙ (λ i. cond (goes (v.ensures.0 i)) 0 (cond (goes (w.ensures.0 i)) 0 1)) ∙ sym (pair_stays goes _ _)
          ∙ ap (λ (l : List ℕ). length (renamed_pairs goes (paired l))) (sym (span_two a.src.now a.r a.k)),
    )
