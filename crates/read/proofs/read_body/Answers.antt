-- `read::read_body` meets its contract.
-- Assumes nothing.
use mathlib.Core.Path.{◌≡◌, sym, ap, ◌∙◌, subst}
use Prim.Native.Nat.{ℕ, ◌+◌, ◌*◌}
use native.Mathlib.Omega.{arith}
use mathlib.Core.List.{List}
use lib.ListN.{length, drop}
use Rattle.graph.specs.Answer.{Answer, refused}
use Rattle.graph.specs.Form.{header_bytes, edges_place}
use Rattle.graph.specs.Graph.{Edge}
use Rattle.graph.specs.Read.{read_edges}
use Rattle.form.specs.Form.{meant, counts_of}
use Rattle.form.specs.declared.Format.{Format}
use Rattle.form.specs.declared.Sizes.{Sizes}
use Rattle.edges.specs.declared.Reached.{Reached}
use Rattle.edges.specs.Steps.{edges_step, settled, CountsThere}
use Rattle.read.specs.Steps.{measured}
use Rattle.edges.proofs.Small.{small}
use Rattle.edges.specs.Walk.{Spans, StandAt}
use Rattle.edges.proofs.Walk.{stand_spans}
use Rattle.read.proofs.Whole.{no_labels, edge_refused, went}
use Rattle.read.proofs.read_body.Goals as goal

-- the edges, read from the place after the labels, and they stand from there
module _ (f : Format) (b : List ℕ) (z : Sizes) (start : ℕ) (is : start ≡ header_bytes (meant f) + (z.nodes + z.edges) * 4) where
  after_labels : {r : Answer Reached}
      → ((labels : List ℕ) → length labels ≡ z.edges → r ≡ edges_step (length b) (read_edges (meant f) (length b) 0 labels (drop start b)))
      → (labels : List ℕ) → length labels ≡ z.edges → r ≡ edges_step (length b) (read_edges (meant f) (length b) 0 labels (drop (header_bytes (meant f) + (z.nodes + z.edges) * 4) b))
  after_labels h labels n = h labels n ∙ ap (λ (at : ℕ). edges_step (length b) (read_edges (meant f) (length b) 0 labels (drop at b))) is

  from_labels : (edges : List Edge) (to : ℕ) → StandAt f.width b (edges_place (meant f) (counts_of z)) edges to → StandAt f.width b start edges to
  from_labels edges to h = subst (λ (p : ℕ). StandAt f.width b p edges to) (sym is) h

pub overflow_add-labels : goal.overflow_add-labels
overflow_add-labels c = let l = small c.requires.2 in omega arith

pub overflow_mul-labels : goal.overflow_mul-labels
overflow_mul-labels c = let l = small c.requires.2 in omega arith

pub returns-then-s-header : goal.returns-then-s-header
returns-then-s-header c = let a = c.args in no_labels (meant a.f) a.s.now a.z (omega arith)

pub read_lists-requires : goal.read_lists-requires
read_lists-requires c =
    let a = c.args in
    let r = c.in-Ok.r in
    let w = went (meant a.f) a.s.now a.z (omega arith) c.requires.0 _ (after_labels a.f a.s.now a.z _ c.labels_end-start.ensures c.read_edges.ensures.1) r (ap (settled (meant a.f) a.s.now) c.in-Ok.is) in (
      w.inside,
      c.requires.1,
      c.requires.2,
      subst (λ (n : ℕ). Spans a.f.width a.s.now c.labels_end-start.result n r.at) w.is_edges
          (stand_spans a.f.width a.s.now r.at c.labels_end-start.result w.edges (from_labels a.f a.s.now a.z _ c.labels_end-start.ensures w.edges r.at w.stand)),
    )

pub returns-in-Ok : goal.returns-in-Ok
returns-in-Ok c =
    let a = c.args in
    let r = c.in-Ok.r in
    let w = went (meant a.f) a.s.now a.z (omega arith) c.requires.0 _ (after_labels a.f a.s.now a.z _ c.labels_end-start.ensures c.read_edges.ensures.1) r (ap (settled (meant a.f) a.s.now) c.in-Ok.is) in
    c.read_lists.ensures (drop (header_bytes (meant a.f)) a.s.now) w.edges w.is_edges w.is_ports w.is_bound c.labels_end-start.ensures (from_labels a.f a.s.now a.z _ c.labels_end-start.ensures w.edges r.at w.stand)
    ∙ sym (ap (measured a.f.width) w.onward)

pub refusal_at-requires : goal.refusal_at-requires
refusal_at-requires c = (subst (CountsThere c.args.f.width c.args.s.now) c.in-Err.is c.read_edges.ensures.0, c.requires.2)

pub returns-in-Err : goal.returns-in-Err
returns-in-Err c =
    let a = c.args in
    ap refused c.refusal_at.ensures
    ∙ edge_refused (meant a.f) a.s.now a.z (omega arith) c.requires.0 _ (after_labels a.f a.s.now a.z _ c.labels_end-start.ensures c.read_edges.ensures.1) _ (ap (settled (meant a.f) a.s.now) c.in-Err.is)
