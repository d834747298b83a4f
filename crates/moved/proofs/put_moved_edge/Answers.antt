-- `moved::put_moved_edge` meets its contract.
-- Assumes nothing.
use mathlib.Core.List.{List, ◌∷◌, [], ◌++◌}
use mathlib.Core.Path.{◌≡◌, sym, ap, ◌∙◌, subst}
use Prim.Native.Nat.{ℕ, ◌+◌, ◌-◌}
use native.Mathlib.Omega.{arith}
use lib.ListN.{length, length-append}
use Rattle.form.specs.declared.EdgeAt.{EdgeAt}
use Rattle.moved.specs.declared.Renumbered.{Renumbered}
use Rattle.moved.specs.Places.{gone_in, edge_of}
use Rattle.form.specs.Form.{body_of}
use Rattle.graph.specs.Delete.{renamed}
use Rattle.le.specs.Rows.{Holds, entry, span, puts}
use Rattle.le.specs.declared.Row.{Row}
use Rattle.graph.proofs.Limits.{renamed_fewer}
use Rattle.write.specs.Write.{Put}
use Rattle.le.proofs.Rows.{holds_less, holds_same, holds_index, length_span, span_append, at_row}
use Rattle.write.proofs.Results.{put_none}
use Rattle.write.proofs.Parts.{counts_last}
use Rattle.write.proofs.Grows.{entry_below, put_length, put_fits, put_more}
use Rattle.gone.proofs.Grows.{renamed_append, ids_grow}
use Rattle.moved.proofs.put_moved_edge.Goals as goal
use Rattle.moved.proofs.put_moved_edge.Goals.{then-i-e, else-i-e, After-loop-i, After-number-id}

-- the new ids of the first n, of the sources and of the targets
module _ (by : Renumbered) (e : EdgeAt) where
  abbrev ids : ℕ → List ℕ
  ids n = renamed (gone_in by.drawing.sizes by.map.now) (span by.drawing.src.now (body_of by.drawing.sizes) e.first n)

  abbrev targets : List ℕ
  targets = renamed (gone_in by.drawing.sizes by.map.now) (edge_of by.drawing.src.now by.drawing.sizes e).targets

  lists : ids (e.sources + e.targets) ≡ ids e.sources ++ targets
  lists =
      let d = by.drawing in
      let goes = gone_in d.sizes by.map.now in
      ap (renamed goes) (span_append d.src.now (body_of d.sizes) e.first e.sources e.targets) ∙ renamed_append goes (edge_of d.src.now d.sizes e).sources (edge_of d.src.now d.sizes e).targets

  -- room for both counts and both lists
  room : {out : List ℕ} {to : Row} (j : ℕ) → Holds out to (j + length (length (ids e.sources) ∷ length targets ∷ ids e.sources ++ targets)) → Holds out to (j + 2 + length (ids (e.sources + e.targets)))
  room j h = holds_less h _ (omega (arith, ap length lists))

-- the id that was read is the row's
read : (c : After-number-id) → c.number-id.result ≡ entry c.args.by.drawing.src.now (body_of c.args.by.drawing.sizes) (c.args.e.first + c.loop-i.i)
read c = c.number-id.ensures.0 ∙ ap (λ (r : Row). entry c.args.by.drawing.src.now r (c.args.e.first + c.loop-i.i)) c.body-body.ensures

-- where the sources end and where the targets end
module _ (c : After-loop-i) where
  all : Put c.args.out.now c.args.to (c.args.j + 2) (ids c.args.by c.args.e (c.args.e.sources + c.args.e.targets)) c.loop-i.out c.loop-i.end
  all =
      let last : c.loop-i.i ≡ c.args.e.sources + c.args.e.targets = omega (arith, c.loop-i-test.false) in
      subst (λ (n : ℕ). Put c.args.out.now c.args.to (c.args.j + 2) (ids c.args.by c.args.e n) c.loop-i.out c.loop-i.end) last c.loop-i.invariant.1

  middle : c.loop-i.middle ≡ c.args.j + 2 + length (ids c.args.by c.args.e c.args.e.sources)
  middle = c.loop-i.invariant.0 (omega (arith, c.loop-i-test.false))

  end : c.loop-i.end ≡ c.loop-i.middle + length (targets c.args.by c.args.e)
  end = omega (arith, all.next, middle, ap length (lists c.args.by c.args.e), length-append (ids c.args.by c.args.e c.args.e.sources) (targets c.args.by c.args.e))

pub loop-i-init : goal.loop-i-init
unfolding span
loop-i-init c = ((λ l. let e : c.args.e.sources ≡ 0 = omega arith in omega (arith, ap (λ (n : ℕ). length (ids c.args.by c.args.e n)) e)), put_none)

pub put_moved-end-requires : goal.put_moved-end-requires
put_moved-end-requires c =
    let a = c.args in
    let l = c.loop-i in
    let d = a.by.drawing in
    let goes = gone_in d.sizes a.by.map.now in
    let n = a.e.sources + a.e.targets in
    let is = read (goal.at.put_moved-end-requires c).After-number-id in (
      entry_below d.sizes.nodes d.src.now (body_of d.sizes) a.e.first n c.requires.mapped.1 l.i _ (omega arith) is,
      subst (λ (v : ℕ). Holds l.out a.to (l.end + length (renamed goes (v ∷ [])))) (sym is)
          (put_fits (ids_grow goes d.src.now (body_of d.sizes) a.e.first n) (omega arith) l.invariant.1 (room a.by a.e _ c.requires.targets_bound.1)),
    )

pub loop-i-preserved : goal.loop-i-preserved
loop-i-preserved c =
    let a = c.args in
    let l = c.loop-i in
    let d = a.by.drawing in
    let p = c.put_moved-end in
    let goes = gone_in d.sizes a.by.map.now in
    let put = put_more (ids_grow goes d.src.now (body_of d.sizes) a.e.first (a.e.sources + a.e.targets)) (omega (arith, c.loop-i-test.true)) l.invariant.1
    (subst (λ (v : ℕ). Put l.out a.to l.end (renamed goes (v ∷ [])) p.new.out p.result) (read (goal.at.loop-i-preserved c).After-number-id) p.ensures) in (
      (λ h. elim c.if-i-e.branch [
        | then-i-e w ↦ let last : l.i + 1 ≡ a.e.sources = omega arith in omega (arith, w.middle-is, put.next, ap (λ (n : ℕ). length (ids a.by a.e n)) last)
        | else-i-e w ↦ omega (arith, w.middle-is, l.invariant.0 (omega arith))
      ]),
      put,
    )

pub put_two-requires : goal.put_two-requires
put_two-requires c =
    let a = c.args in
    let d = a.by.drawing in
    let at = (goal.at.put_two-requires c).After-loop-i in
    let few = renamed_fewer (gone_in d.sizes a.by.map.now) (span d.src.now (body_of d.sizes) a.e.first (a.e.sources + a.e.targets)) in
    let many = length_span d.src.now (body_of d.sizes) a.e.first (a.e.sources + a.e.targets) in (
      holds_same (holds_less (room a.by a.e _ c.requires.targets_bound.1) _ (omega arith)) _ (put_length (all at)),
      omega (arith, middle at, end at, (all at).next, c.requires.targets_bound.0),
      omega (arith, middle at, end at, (all at).next, c.requires.targets_bound.0),
    )

pub returns : goal.returns
returns c =
    let a = c.args in
    let l = c.loop-i in
    let at = (goal.at.returns c).After-loop-i in
    let first = ids a.by a.e a.e.sources in
    let second = targets a.by a.e in
    let n : l.middle - (a.j + 2) ≡ length first = omega (arith, middle at) in
    let m : l.end - l.middle ≡ length second = omega (arith, end at) in
    record {
      stored = c.put_two.ensures ∙ (λ i. puts (((all at).stored ∙ ap (puts a.out.now a.to (a.j + 2)) (lists a.by a.e)) i) a.to a.j (n i ∷ m i ∷ []))
          ∙ counts_last a.out.now a.to a.j (length first) (length second) (first ++ second);
      next = omega (arith, middle at, end at, length-append first second);
    }

pub overflow_add-middle : goal.overflow_add-middle
overflow_add-middle c = omega (arith, holds_index (room c.args.by c.args.e _ c.requires.targets_bound.1))

pub overflow_add-end : goal.overflow_add-end
overflow_add-end c = omega (arith, holds_index (room c.args.by c.args.e _ c.requires.targets_bound.1))

pub number-id-requires : goal.number-id-requires
number-id-requires c = at_row c.body-body.ensures (holds_less c.requires.mapped.0 _ (omega arith))

pub overflow_add-j : goal.overflow_add-j
overflow_add-j c = omega (arith, holds_index (room c.args.by c.args.e _ c.requires.targets_bound.1))

pub overflow_sub-middle : goal.overflow_sub-middle
overflow_sub-middle c = omega (arith, middle (goal.at.overflow_sub-middle c).After-loop-i)

pub overflow_sub-end : goal.overflow_sub-end
overflow_sub-end c = omega (arith, end (goal.at.overflow_sub-end c).After-loop-i)
