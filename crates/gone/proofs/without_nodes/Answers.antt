-- `gone::without_nodes` meets its contract.
-- Assumes nothing.
use mathlib.Core.List.{List}
use mathlib.Core.Path.{◌≡◌, sym, ap, ◌∙◌}
use Prim.Native.Nat.{ℕ, ◌+◌, ◌*◌, ◌≤◌}
use lib.ListN.{length, length-map}
use Rattle.gone.specs.Marks.{marked}
use Rattle.form.specs.Drawn.{graph_in}
use Rattle.form.specs.declared.Sizes.{Sizes}
use Rattle.graph.specs.Delete.{renamed, renamed_edge}
use Rattle.graph.specs.Lists.{flat}
use Rattle.le.specs.Rows.{span}
use Rattle.write.specs.Write.{counted_as, fitted}
use Rattle.form.proofs.Stored.{stored_rows, stored_known}
use Rattle.form.proofs.Drawn.{stored_in}
use Rattle.le.proofs.Rows.{holds_less, at_row}
use Rattle.write.proofs.Grows.{left_count}
use Rattle.write.proofs.Parts.{span_known}
use Rattle.gone.proofs.Parts.{pairs_moved}
use native.Mathlib.Omega.{arith}
use Rattle.gone.proofs.without_nodes.Goals as goal
use Rattle.gone.proofs.without_nodes.Goals.{After-lists-lists}

-- the global lists and the pairs, where they are read
module _ (c : After-lists-lists) where
  abbrev from : ℕ
  from = c.lists-lists.result

  sources : span c.args.drawing.src.now c.body-body.result from c.args.drawing.sizes.sources ≡ (graph_in c.args.drawing).sources
  sources = (λ i. span c.args.drawing.src.now (c.body-body.ensures i) (c.lists-lists.ensures.0 i) c.args.drawing.sizes.sources) ∙ (stored_rows (stored_in c.args.drawing)).sources

  targets : span c.args.drawing.src.now c.body-body.result (from + c.args.drawing.sizes.sources) c.args.drawing.sizes.targets ≡ (graph_in c.args.drawing).targets
  targets =
      let z = c.args.drawing.sizes in
      (λ i. span c.args.drawing.src.now (c.body-body.ensures i) (c.lists-lists.ensures.0 i + z.sources) z.targets) ∙ (stored_rows (stored_in c.args.drawing)).targets

  pairs : span c.args.drawing.src.now c.body-body.result (from + c.args.drawing.sizes.sources + c.args.drawing.sizes.targets) (2 * c.args.drawing.sizes.pairs) ≡ flat (graph_in c.args.drawing).pairs
  pairs =
      let z = c.args.drawing.sizes in
      (λ i. span c.args.drawing.src.now (c.body-body.ensures i) (c.lists-lists.ensures.0 i + z.sources + z.targets) (2 * z.pairs)) ∙ (stored_rows (stored_in c.args.drawing)).pairs

pub ids_left-sources-requires : goal.ids_left-sources-requires
ids_left-sources-requires c =
    let s = stored_in c.args.drawing in (
      at_row c.body-body.ensures (holds_less (stored_rows s).body_held _ (omega (arith, c.lists-lists.ensures.0))),
      span_known _ _ _ _ (sources (goal.at.ids_left-sources-requires c).After-lists-lists) (stored_known s).sources c.requires,
    )

pub ids_left-targets-requires : goal.ids_left-targets-requires
ids_left-targets-requires c =
    let s = stored_in c.args.drawing in (
      at_row c.body-body.ensures (holds_less (stored_rows s).body_held _ (omega (arith, c.lists-lists.ensures.0))),
      span_known _ _ _ _ (targets (goal.at.ids_left-targets-requires c).After-lists-lists) (stored_known s).targets c.requires,
    )

pub pairs_left-pairs-requires : goal.pairs_left-pairs-requires
pairs_left-pairs-requires c =
    let s = stored_in c.args.drawing in (
      at_row c.body-body.ensures (holds_less (stored_rows s).body_held _ (omega (arith, c.lists-lists.ensures.0))),
      span_known _ _ _ _ (pairs (goal.at.pairs_left-pairs-requires c).After-lists-lists) (stored_known s).pairs c.requires,
    )

pub returns : goal.returns
returns c =
    let at = (goal.at.returns c).After-lists-lists in
    let s = stored_in c.args.drawing in
    let z = c.args.drawing.sizes in
    let g = graph_in c.args.drawing in
    let goes = marked c.args.room.now z.nodes in
    let known = stored_known s in
    let all : z.nodes ≤ z.nodes = omega arith in
    let nodes = c.left.ensures ∙ left_count goes g.labels z.nodes (ap (λ (y : Sizes). y.nodes) s.sizes) in
    let edges = ap (λ (y : Sizes). y.edges) s.sizes ∙ sym (length-map g.edges (renamed_edge goes)) in
    let first = c.ids_left-sources.ensures.1 z.nodes (span_known _ _ _ _ (sources at) known.sources all) ∙ ap (λ (l : List ℕ). length (renamed goes l)) (sources at) in
    let second = c.ids_left-targets.ensures.1 z.nodes (span_known _ _ _ _ (targets at) known.targets all) ∙ ap (λ (l : List ℕ). length (renamed goes l)) (targets at) in
    let third = c.pairs_left-pairs.ensures z.nodes (span_known _ _ _ _ (pairs at) known.pairs all) ∙ ap length (pairs_moved s goes (pairs at)) in
    c.sized.ensures ∙ (λ i. fitted (counted_as (nodes i) (edges i) (first i) (second i) (third i)) (c.ports_left.ensures i))
