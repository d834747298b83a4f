-- `classes::map_joined` meets its contract.
-- Assumes nothing.
use mathlib.Core.Path.{sym, ◌∙◌}
use native.Mathlib.Omega.{arith}
use Rattle.le.specs.Le.{words}
use Rattle.le.proofs.Rows.{holds_less, at_row}
use Rattle.form.proofs.Drawn.{stored_in}
use Rattle.form.proofs.Stored.{stored_rows}
use Rattle.classes.specs.Forest.{Falls, Names}
use Rattle.form.specs.Drawn.{graph_in}
use Rattle.graph.specs.Merge.{classes}
use Rattle.classes.proofs.Maps.{pair_ids_below, map_named, map_falls, map_differs, map_made}
use Rattle.classes.proofs.map_joined.Goals as goal
use Rattle.classes.proofs.map_joined.Goals.{After-find_leaders}

-- the table that was found names the classes
tabled : (c : After-find_leaders) → Names c.args.drawing.sizes.nodes (classes (graph_in c.args.drawing)) (words c.find_leaders.new.room)
tabled c = map_named c.args.drawing _ c.body.ensures _ (omega (arith, c.lists.ensures.0)) _ c.find_leaders.ensures

falls : (c : After-find_leaders) → Falls c.args.drawing.sizes.nodes (words c.find_leaders.new.room)
falls c = map_falls c.args.drawing _ c.body.ensures _ (omega (arith, c.lists.ensures.0)) _ c.find_leaders.ensures

pub find_leaders-requires : goal.find_leaders-requires
find_leaders-requires c =
    let h = stored_rows (stored_in c.args.drawing) in
    let e = c.body.ensures in (
      c.requires,
      omega (arith, c.args.drawing.few),
      at_row e (holds_less h.body_held _ (omega (arith, c.lists.ensures.0))),
      pair_ids_below c.args.drawing _ e _ (omega (arith, c.lists.ensures.0)),
    )

pub agree-requires : goal.agree-requires
agree-requires c = record {
  n_in_bounds = (omega arith, at_row c.labels.ensures (holds_less (stored_rows (stored_in c.args.drawing)).labels_held _ (omega arith)));
  falls = falls (goal.at.agree-requires c).After-find_leaders;
}

pub returns-then-not-agree : goal.returns-then-not-agree
returns-then-not-agree c =
    map_differs c.args.drawing _ c.body.ensures _ (omega (arith, c.lists.ensures.0)) _ c.find_leaders.ensures _ c.labels.ensures
    (sym c.if-not-agree.true ∙ c.agree.ensures _ (tabled (goal.at.returns-then-not-agree c).After-find_leaders)) _

pub number_classes-count-requires : goal.number_classes-count-requires
number_classes-count-requires c = record { n_in_bounds = (omega arith, omega (arith, c.args.drawing.few)); falls = falls (goal.at.number_classes-count-requires c).After-find_leaders }

pub returns : goal.returns
returns c =
    let t = tabled (goal.at.returns c).After-find_leaders in
    let k = c.number_classes-count.ensures _ t in
    map_made c.args.drawing _ c.body.ensures _ (omega (arith, c.lists.ensures.0)) _ c.find_leaders.ensures _ c.labels.ensures
    (sym c.if-not-agree.false ∙ c.agree.ensures _ t) _ _ k.0 k.1
