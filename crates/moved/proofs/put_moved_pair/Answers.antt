-- `moved::put_moved_pair` meets its contract.
-- Assumes nothing.
use mathlib.Core.Bool.{Bool, cond}
use mathlib.Core.List.{◌∷◌, []}
use mathlib.Core.Path.{◌≡◌, refl, sym, ap, ◌∙◌, subst}
use Prim.Native.Nat.{ℕ, ◌+◌, ◌<◌}
use native.Mathlib.Omega.{arith}
use Rattle.moved.specs.Places.{gone_in}
use Rattle.form.specs.Form.{body_of}
use Rattle.graph.specs.Delete.{new_id, renamed_pairs}
use Rattle.graph.specs.Lists.{paired, flat}
use Rattle.le.specs.Le.{Below}
use Rattle.le.specs.Rows.{Holds, entry, span, puts}
use Rattle.le.specs.declared.Row.{Row}
use Rattle.le.proofs.Rows.{holds_less, holds_index, at_row}
use Rattle.write.proofs.Results.{put_none}
use Rattle.write.proofs.Grows.{span_two}
use Rattle.gone.proofs.Grows.{pair_moved}
use Rattle.moved.proofs.put_moved_pair.Goals as goal
use Rattle.moved.proofs.put_moved_pair.Goals.{After-number-second}

-- the ends, which are nodes, and what is put of them
module _ (c : After-number-second) where
  abbrev goes : ℕ → Bool
  goes = gone_in c.args.by.drawing.sizes c.args.by.map.now

  first : c.number-first.result ≡ entry c.args.by.drawing.src.now (body_of c.args.by.drawing.sizes) c.args.k
  first = c.number-first.ensures.0 ∙ ap (λ (r : Row). entry c.args.by.drawing.src.now r c.args.k) c.body-body.ensures

  second : c.number-second.result ≡ entry c.args.by.drawing.src.now (body_of c.args.by.drawing.sizes) (c.args.k + 1)
  second = c.number-second.ensures.0 ∙ ap (λ (r : Row). entry c.args.by.drawing.src.now r (c.args.k + 1)) c.body-body.ensures

  nodes : (c.number-first.result < c.args.by.drawing.sizes.nodes) × (c.number-second.result < c.args.by.drawing.sizes.nodes)
  nodes =
      let h = subst (Below c.args.by.drawing.sizes.nodes) (span_two c.args.by.drawing.src.now (body_of c.args.by.drawing.sizes) c.args.k) c.requires.1 in
      (omega (arith, first, h.0), omega (arith, second, h.1.0))

  moved : flat (renamed_pairs goes (paired (span c.args.by.drawing.src.now (body_of c.args.by.drawing.sizes) c.args.k 2)))
      ≡ cond (goes c.number-first.result) [] (cond (goes c.number-second.result) [] (new_id goes c.number-first.result ∷ new_id goes c.number-second.result ∷ []))
  moved = pair_moved goes c.args.by.drawing.src.now (body_of c.args.by.drawing.sizes) c.args.k
      ∙ λ i. cond (goes (sym first i)) [] (cond (goes (sym second i)) [] (new_id goes (sym first i) ∷ new_id goes (sym second i) ∷ []))

pub number-first-requires : goal.number-first-requires
number-first-requires c = at_row c.body-body.ensures (holds_less c.requires.0 _ (omega arith))

pub number-second-requires : goal.number-second-requires
number-second-requires c = at_row c.body-body.ensures (holds_less c.requires.0 _ (omega arith))

pub new_id-requires : goal.new_id-requires
new_id-requires c = omega (arith, nodes (goal.at.new_id-requires c).After-number-second)

pub new_id-requires-in-Some : goal.new_id-requires-in-Some
new_id-requires-in-Some c = omega (arith, nodes (goal.at.new_id-requires-in-Some c).After-number-second)

pub returns-in-None : goal.returns-in-None
returns-in-None c = rw (moved (goal.at.returns-in-None c).After-number-second, c.in-None.ensures) put_none

pub returns-in-None-new_id : goal.returns-in-None-new_id
returns-in-None-new_id c = rw (moved (goal.at.returns-in-None-new_id c).After-number-second, c.in-Some.ensures.0, c.in-None-new_id.ensures) put_none

pub put_two-requires : goal.put_two-requires
put_two-requires c =
    let fits : Holds c.args.out.now c.args.to (c.args.j + 2) =
    rw (moved (goal.at.put_two-requires c).After-number-second, c.in-Some.ensures.0, c.in-Some-new_id.ensures.0) at c.requires.2 in
    (fits, c.in-Some.ensures.2, c.in-Some-new_id.ensures.2)

pub overflow_add-result : goal.overflow_add-result
overflow_add-result c =
    let fits : Holds c.args.out.now c.args.to (c.args.j + 2) =
    rw (moved (goal.at.overflow_add-result c).After-number-second, c.in-Some.ensures.0, c.in-Some-new_id.ensures.0) at c.requires.2 in
    omega (arith, holds_index fits)

pub returns-in-Some-new_id : goal.returns-in-Some-new_id
returns-in-Some-new_id c =
    let a = c.args in
    let one = c.in-Some.ensures.1 in
    let other = c.in-Some-new_id.ensures.1 in
    rw (moved (goal.at.returns-in-Some-new_id c).After-number-second, c.in-Some.ensures.0, c.in-Some-new_id.ensures.0)
    (record { stored = c.put_two.ensures ∙ λ i. puts a.out.now a.to a.j (one i ∷ other i ∷ []); next = refl })
