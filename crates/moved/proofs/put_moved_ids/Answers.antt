-- `moved::put_moved_ids` meets its contract.
-- Assumes nothing.
use mathlib.Core.List.{◌∷◌, []}
use Prim.Native.Nat.{ℕ, ◌+◌}
use native.Mathlib.Nat.{le_antisymm}
use mathlib.Core.Path.{◌≡◌, sym, ap, ◌∙◌, subst}
use lib.ListN.{length}
use Rattle.moved.specs.Places.{gone_in}
use Rattle.form.specs.Form.{body_of}
use Rattle.graph.specs.Delete.{renamed}
use Rattle.le.specs.Rows.{Holds, entry, span}
use Rattle.le.specs.declared.Row.{Row}
use Rattle.write.specs.Write.{Put}
use Rattle.le.proofs.Rows.{holds_less}
use Rattle.write.proofs.Results.{put_none}
use Rattle.write.proofs.Grows.{entry_below, put_fits, put_more}
use Rattle.gone.proofs.Grows.{ids_grow}
use native.Mathlib.Omega.{arith}
use Rattle.moved.proofs.put_moved_ids.Goals as goal
use Rattle.moved.proofs.put_moved_ids.Goals.{After-number-id}

-- the id that was read is the row's
read : (c : After-number-id) → c.number-id.result ≡ entry c.args.by.drawing.src.now (body_of c.args.by.drawing.sizes) (c.args.k + c.loop-i.i)
read c = c.number-id.ensures.0 ∙ ap (λ (r : Row). entry c.args.by.drawing.src.now r (c.args.k + c.loop-i.i)) c.body-body.ensures

pub loop-i-init : goal.loop-i-init
unfolding span
loop-i-init c = put_none

pub number-id-requires : goal.number-id-requires
number-id-requires c =
    subst (λ (r : Row). Holds c.args.by.drawing.src.now r (c.args.k + c.loop-i.i + 1)) (sym c.body-body.ensures) (holds_less c.requires.0 _ (omega arith))

pub put_moved-j-requires : goal.put_moved-j-requires
put_moved-j-requires c =
    let a = c.args in
    let l = c.loop-i in
    let b = a.by.drawing.src.now in
    let goes = gone_in a.by.drawing.sizes a.by.map.now in (
      entry_below a.by.drawing.sizes.nodes b (body_of a.by.drawing.sizes) a.k a.n c.requires.1 l.i _ (omega arith) (read (goal.at.put_moved-j-requires c).After-number-id),
      subst (λ (v : ℕ). Holds l.out a.to (l.j + length (renamed goes (v ∷ [])))) (sym (read (goal.at.put_moved-j-requires c).After-number-id))
          (put_fits (ids_grow goes b (body_of a.by.drawing.sizes) a.k a.n) (omega arith) l.invariant c.requires.2),
    )

pub loop-i-preserved : goal.loop-i-preserved
loop-i-preserved c =
    let a = c.args in
    let l = c.loop-i in
    let goes = gone_in a.by.drawing.sizes a.by.map.now in
    put_more (ids_grow goes a.by.drawing.src.now (body_of a.by.drawing.sizes) a.k a.n) (omega arith) l.invariant
    (subst (λ (v : ℕ). Put l.out a.to l.j (renamed goes (v ∷ [])) c.put_moved-j.new.out c.put_moved-j.result) (read (goal.at.loop-i-preserved c).After-number-id) c.put_moved-j.ensures)

pub returns : goal.returns
returns c =
    let a = c.args in
    let l = c.loop-i in
    subst (λ (i : ℕ). Put a.out.now a.to a.first (renamed (gone_in a.by.drawing.sizes a.by.map.now) (span a.by.drawing.src.now (body_of a.by.drawing.sizes) a.k i)) l.out l.j)
    (le_antisymm l.auto.i-end c.loop-i-test.false) l.invariant
