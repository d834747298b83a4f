-- `parts::check_parts` meets its contract.
-- Assumes nothing.
use mathlib.Core.List.{List}
use mathlib.Core.Path.{◌≡◌, sym, ap, ◌∙◌}
use Prim.Native.Nat.{ℕ, ◌+◌}
use native.Mathlib.Omega.{arith}
use lib.ListN.{length, get_or}
use Rattle.graph.specs.Form.{no_edge, edge_start}
use Rattle.graph.specs.Graph.{Edge}
use Rattle.le.specs.Rows.{entry}
use Rattle.le.specs.declared.Row.{Row}
use Rattle.le.proofs.Rows.{at_row}
use Rattle.form.specs.Form.{edge_in, tested, meant_by}
use Rattle.form.specs.Stored.{graph_of}
use Rattle.form.specs.declared.EdgeAt.{EdgeAt}
use Rattle.form.specs.declared.Sizes.{Sizes}
use Rattle.form.proofs.Answers.{refused_so, answered_so}
use Rattle.form.proofs.Stored.{edge_there}
use Rattle.catalogue.specs.Price.{part_check}
use Rattle.parts.proofs.Billed.{told_passed}
use Rattle.parts.proofs.Walking.{label_held, label_is, edge_inside, begun, turned, stopped, ended}
use Rattle.form.proofs.Drawn.{stored_in}
use Rattle.parts.proofs.check_parts.Goals as goal
use Rattle.parts.proofs.check_parts.Goals.{After-edge_at-e}

-- the next edge is the one whose label and counts were read
record Here (d : Edge) (es : List Edge) (i read : ℕ) (e : EdgeAt) : Type 0 where
  label : d.label ≡ read
  sources : length d.sources ≡ e.sources
  targets : length d.targets ≡ e.targets
  next : e.end ≡ edge_start es (i + 1)

here : (c : After-edge_at-e) → let es = (graph_of c.args.drawing.src.now).edges in
    let i = c.loop-i.i in Here (get_or es i no_edge) es i c.number-label.result c.edge_at-e.result
here c =
    let b = c.args.drawing.src.now in
    let i = c.loop-i.i in
    let counts =
    c.edge_at-e.ensures ∙ ap (λ (r : Row). edge_in b r c.loop-i.k) c.body-body.ensures ∙ (edge_there (stored_in c.args.drawing) i c.loop-i.k (omega arith) c.loop-i.invariant.at).counts in
    record {
      label = sym (c.number-label.ensures.0 ∙ ap (λ (r : Row). entry b r (c.args.drawing.sizes.nodes + i)) c.labels-labels.ensures ∙ label_is (stored_in c.args.drawing) i (omega arith));
      sources = sym (ap (λ (e : EdgeAt). e.sources) counts);
      targets = sym (ap (λ (e : EdgeAt). e.targets) counts);
      next = ap (λ (e : EdgeAt). e.end) counts;
    }

pub loop-i-init : goal.loop-i-init
loop-i-init c = begun (graph_of c.args.drawing.src.now).edges

pub number-label-requires : goal.number-label-requires
number-label-requires c = at_row c.labels-labels.ensures (label_held (stored_in c.args.drawing) c.loop-i.i (omega arith))

pub edge_at-e-requires : goal.edge_at-e-requires
edge_at-e-requires c = at_row c.body-body.ensures (edge_there (stored_in c.args.drawing) c.loop-i.i c.loop-i.k (omega arith) c.loop-i.invariant.at).held

pub returns-in_err-check_part : goal.returns-in_err-check_part
returns-in_err-check_part c =
    let l = c.loop-i in
    let es = (graph_of c.args.drawing.src.now).edges in
    let h = here (goal.at.returns-in_err-check_part c).After-edge_at-e in
    let d = get_or es l.i no_edge in
    told_passed _ _ c.from_residual.ensures.1
    (sym (ap tested (stopped es l.i l.k (edge_inside (stored_in c.args.drawing) l.i (omega arith)) l.invariant (meant_by c.in_err-check_part.field-0.0)
    (refused_so _ (part_check d) _ (c.in_err-check_part.ensures d h.label h.sources h.targets)))))

pub loop-i-preserved : goal.loop-i-preserved
loop-i-preserved c =
    let l = c.loop-i in
    let es = (graph_of c.args.drawing.src.now).edges in
    let h = here (goal.at.loop-i-preserved c).After-edge_at-e in
    let d = get_or es l.i no_edge in
    turned es l.i l.k c.edge_at-e.result.end (edge_inside (stored_in c.args.drawing) l.i (omega arith)) l.invariant
    (answered_so _ (part_check d) tt (c.in_ok-check_part.ensures d h.label h.sources h.targets)).1 h.next

pub returns : goal.returns
returns c =
    let l = c.loop-i in
    sym (ap tested (ended (graph_of c.args.drawing.src.now).edges l.i l.k (omega (arith, ap (λ (y : Sizes). y.edges) (stored_in c.args.drawing).sizes)) l.invariant))
