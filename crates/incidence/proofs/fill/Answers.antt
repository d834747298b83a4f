-- `incidence::fill` meets its contract.
-- Assumes nothing.
use mathlib.Core.List.{List}
use mathlib.Core.Path.{refl, sym, ap, ◌∙◌, subst}
use Prim.Native.Nat.{ℕ, ◌+◌, ◌*◌, ◌<◌}
use native.Mathlib.Omega.{arith}
use lib.ListN.{get_or, take}
use Rattle.le.specs.Le.{words}
use Rattle.le.specs.declared.Row.{Row}
use Rattle.le.specs.Rows.{Holds}
use Rattle.le.proofs.Places.{length_words}
use Rattle.form.specs.Form.{edge_in}
use Rattle.form.proofs.Stored.{edge_there}
use Rattle.tables.specs.Tables.{most_ports}
use Rattle.removal.specs.Room.{source, start_of, count_of, form_list}
use Rattle.incidence.specs.Incidence.{neighbours, arcs_to, appended_all, ListsFilled}
use Rattle.incidence.proofs.Counting.{nothing}
use Rattle.incidence.proofs.Filling.{filling_start}
use Rattle.incidence.proofs.Facts.{Read, facts, edge_read, sources_held, targets_held, sources_low, targets_low, sources_inside, targets_inside, edge_filled}
use Rattle.form.proofs.Drawn.{stored_in}
use Rattle.form.specs.Drawn.{graph_in}
use Rattle.incidence.proofs.fill.Goals as goal
use Rattle.incidence.proofs.fill.Goals.{After-edge_at-e}

-- the edge as it was read
read : (c : After-edge_at-e) → let a = c.args in let l = c.loop-i in
    Read a.drawing l.i c.edge_at-e.result
read c = let a = c.args in
    let l = c.loop-i in
    edge_read a.drawing l.i l.k (omega arith) l.invariant.1 c.edge_at-e.result (c.edge_at-e.ensures ∙ ap (λ (q : Row). edge_in a.drawing.src.now q l.k) c.body-r.ensures)

pub loop-i-init : goal.loop-i-init
loop-i-init c =
    let a = c.args in
    let f = facts c.args.drawing in
    (omega arith, refl, filling_start (words a.room.now) (2 * a.drawing.sizes.nodes) (neighbours (arcs_to (graph_in a.drawing) 0)) (λ y l. c.requires.empty.none y (omega (arith, f.nodes))) (nothing (graph_in a.drawing)), refl)

pub edge_at-e-requires : goal.edge_at-e-requires
edge_at-e-requires c = let l = c.loop-i in subst (λ (q : Row). Holds c.args.drawing.src.now q (l.k + 2)) (sym c.body-r.ensures) (edge_there (stored_in c.args.drawing) l.i l.k (omega arith) l.invariant.1).held

pub append_ids-requires : goal.append_ids-requires
append_ids-requires c =
    let a = c.args in
    let l = c.loop-i in
    let E = read (goal.at.append_ids-requires c).After-edge_at-e in
    let e = c.edge_at-e.result in
    let row = c.body-r.ensures in
    let f = facts c.args.drawing in
    let low = sources_low a.drawing l.i (omega arith) e E _ row 0 (omega arith) in record { holds = (sources_held a.drawing l.i (omega arith) e E _ row, omega arith, omega (arith, l.invariant.3)); all_low = λ t m. omega (arith, low t m, f.few); by_index = sources_inside a.drawing l.i (omega arith) e E _ row (words a.room.now) (words l.room) (omega (arith, length_words a.room.now)) c.requires.empty l.invariant.2 _ refl }

pub overflow_add-e : goal.overflow_add-e
overflow_add-e c = let r = read (goal.at.overflow_add-e c).After-edge_at-e in let f = facts c.args.drawing in omega (arith, r.inside, f.few)

pub append_ids-requires-in-loop-i : goal.append_ids-requires-in-loop-i
append_ids-requires-in-loop-i c =
    let a = c.args in
    let l = c.loop-i in
    let E = read (goal.at.append_ids-requires-in-loop-i c).After-edge_at-e in
    let e = c.edge_at-e.result in
    let row = c.body-r.ensures in
    let f = facts c.args.drawing in
    let o = c.append_ids in
    let low = targets_low a.drawing l.i (omega arith) e E _ row 1 (omega arith) in
    let B = form_list (source a.drawing.src.now c.body-r.result) (e.first + e.sources) e.targets 1 in
    let t = 2 * (a.drawing.sizes.nodes + l.i) + 1 in record {
      holds = (targets_held a.drawing l.i (omega arith) e E _ row, omega arith, omega (arith, o.auto.room, l.invariant.3));
      all_low = λ t m. omega (arith, low t m, f.few);
      by_index = λ j h. subst (λ (X : List ℕ). start_of (appended_all (take j B) t X) (get_or B j 0) + count_of (appended_all (take j B) t X) (get_or B j 0) < most_ports) (sym o.ensures)
          (targets_inside a.drawing l.i (omega arith) e E _ row (words a.room.now) (words l.room) (omega (arith, length_words a.room.now)) c.requires.empty l.invariant.2 _ refl j h);
    }

pub loop-i-preserved : goal.loop-i-preserved
loop-i-preserved c =
    let a = c.args in
    let l = c.loop-i in
    let E = read (goal.at.loop-i-preserved c).After-edge_at-e in
    let e = c.edge_at-e.result in
    let row = c.body-r.ensures in
    let o = c.append_ids in
    let p = c.append_ids-in-loop-i in
    let B = form_list (source a.drawing.src.now c.body-r.result) (e.first + e.sources) e.targets 1 in
    let t = 2 * (a.drawing.sizes.nodes + l.i) in
    let below : l.i < a.drawing.sizes.edges = omega arith in (
      omega (arith, below),
      E.next,
      subst (λ (X : List ℕ). ListsFilled (words a.room.now) X (2 * a.drawing.sizes.nodes) (neighbours (arcs_to (graph_in a.drawing) (l.i + 1)))) (sym (p.ensures ∙ ap (appended_all B (t + 1)) o.ensures))
          (edge_filled a.drawing l.i below e E _ row (words a.room.now) (words l.room) (omega (arith, length_words a.room.now)) c.requires.empty l.invariant.2 t refl),
      p.auto.room ∙ o.auto.room ∙ l.invariant.3,
    )

pub overflow_cast-y : goal.overflow_cast-y
overflow_cast-y c = let f = facts c.args.drawing in omega (arith, f.nodes, f.edges, f.few)

pub overflow_add-y-in-loop-i : goal.overflow_add-y-in-loop-i
overflow_add-y-in-loop-i c = let f = facts c.args.drawing in omega (arith, f.nodes, f.edges, f.few)
