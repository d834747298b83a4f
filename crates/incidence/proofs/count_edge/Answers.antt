-- `incidence::count_edge` meets its contract.
-- Assumes nothing.
use mathlib.Core.List.{List}
use mathlib.Core.Path.{◌≡◌, sym, ap, ◌∙◌, subst}
use Prim.Native.Nat.{ℕ, ◌+◌, ◌*◌, ◌≤◌, ◌<◌}
use native.Mathlib.Omega.{arith}
use lib.ListN.{length, get_or}
use Rattle.le.specs.Le.{words}
use Rattle.le.specs.declared.Row.{Row}
use Rattle.le.specs.Rows.{Holds}
use Rattle.le.proofs.Places.{length_words}
use Rattle.form.specs.Form.{edge_in}
use Rattle.form.proofs.Stored.{edge_there}
use Rattle.choice.proofs.Degrees.{how_many_length}
use lib.Dec.{eqb}
use Rattle.tables.specs.Tables.{most_ports}
use Rattle.removal.specs.Room.{source, form_list}
use Rattle.removal.proofs.Walks.{formed_length}
use Rattle.halves.specs.Halves.{mate}
use Rattle.incidence.specs.Incidence.{source_in, bump_all, noted, edge_counted, CountedTo}
use Rattle.incidence.proofs.Counting.{bump_at, node_same, counts_turn}
use Rattle.incidence.proofs.Facts.{Read, facts, edge_read, few_neighbours, sources_held, targets_held, sources_low, targets_low}
use Rattle.form.proofs.Drawn.{stored_in}
use Rattle.form.specs.Drawn.{graph_in}
use Rattle.incidence.proofs.count_edge.Goals as goal
use Rattle.incidence.proofs.count_edge.Goals.{After-edge_at-e, After-note-2}

-- the edge as it was read
read : (c : After-edge_at-e) → let a = c.args in Read a.drawing a.i c.edge_at-e.result
read c = let a = c.args in
    edge_read a.drawing a.i a.k c.requires.edge.0 c.requires.edge.1 c.edge_at-e.result (c.edge_at-e.ensures ∙ ap (λ (q : Row). edge_in a.drawing.src.now q a.k) c.body-r.ensures)

-- the words after both halves are noted
noted_both : (c : After-note-2) → let e = c.edge_at-e.result in
    let a = c.args in
    words c.note-2.new.room ≡ noted (2 * (length (graph_in a.drawing).labels + a.i) + 1) e.targets e.first e.sources
    (noted (2 * (length (graph_in a.drawing).labels + a.i)) e.sources (e.first + e.sources) e.targets (words a.room.now))
noted_both c = let e = c.edge_at-e.result in
    let a = c.args in
    let n = (facts c.args.drawing).nodes in
    c.note-2.ensures ∙ ap (noted (2 * (a.drawing.sizes.nodes + a.i) + 1) e.targets e.first e.sources) c.note.ensures
    ∙ (λ j. noted (2 * (n j + a.i) + 1) e.targets e.first e.sources (noted (2 * (n j + a.i)) e.sources (e.first + e.sources) e.targets (words a.room.now)))

-- a node's degree then is as before
few : (c : After-note-2) → let a = c.args in Read a.drawing a.i c.edge_at-e.result →
    (y : ℕ) → y < 2 * length (graph_in a.drawing).labels → get_or (words c.note-2.new.room) y 0 ≤ most_ports
few c r y l = let a = c.args in
    let f = facts c.args.drawing in
    let g = graph_in a.drawing in
    omega (
      arith,
      ap (λ (W : List ℕ). get_or W y 0) (noted_both c),
      node_same g f.known (source_in a.drawing) (words a.room.now) a.i (omega (arith, c.requires.edge.0, f.edges)) c.requires.counted_to f.few (omega (arith, length_words a.room.now)) c.edge_at-e.result r.read_as y l,
      c.requires.counted_to.degrees y (omega arith),
      few_neighbours g a.drawing.sizes f a.i (omega (arith, c.requires.edge.0, f.edges)) (mate y) (omega arith),
    )

pub edge_at-e-requires : goal.edge_at-e-requires
edge_at-e-requires c = subst (λ (q : Row). Holds c.args.drawing.src.now q (c.args.k + 2)) (sym c.body-r.ensures) (edge_there (stored_in c.args.drawing) c.args.i c.args.k c.requires.edge.0 c.requires.edge.1).held

pub overflow_add-e : goal.overflow_add-e
overflow_add-e c = let r = read (goal.at.overflow_add-e c).After-edge_at-e in let f = facts c.args.drawing in omega (arith, r.inside, f.few)

pub note-requires : goal.note-requires
note-requires c = let r = read (goal.at.note-requires c).After-edge_at-e in let f = facts c.args.drawing in omega (arith, r.inside, f.nodes, f.edges, f.few)

pub note-requires-2 : goal.note-requires-2
note-requires-2 c = let r = read (goal.at.note-requires-2 c).After-edge_at-e in let f = facts c.args.drawing in omega (arith, r.inside, f.nodes, f.edges, f.few)

pub count_ids-requires : goal.count_ids-requires
count_ids-requires c =
    let a = c.args in
    let E = read (goal.at.count_ids-requires c).After-edge_at-e in
    let e = c.edge_at-e.result in
    let row = c.body-r.ensures in
    let f = facts c.args.drawing in
    let low = sources_low a.drawing a.i c.requires.edge.0 e E _ row 1 (omega arith) in record { holds = (sources_held a.drawing a.i c.requires.edge.0 e E _ row, omega arith, omega arith); all_low = λ t m. omega (arith, low t m, f.few); by_index = λ y m. omega (arith, few (goal.at.count_ids-requires c).After-note-2 E y (low y m), E.inside, f.few) }

pub overflow_add-e-2 : goal.overflow_add-e-2
overflow_add-e-2 c = let r = read (goal.at.overflow_add-e-2 c).After-edge_at-e in let f = facts c.args.drawing in omega (arith, r.inside, f.few)

pub count_ids-requires-2 : goal.count_ids-requires-2
count_ids-requires-2 c =
    let a = c.args in
    let E = read (goal.at.count_ids-requires-2 c).After-edge_at-e in
    let e = c.edge_at-e.result in
    let row = c.body-r.ensures in
    let f = facts c.args.drawing in
    let low = targets_low a.drawing a.i c.requires.edge.0 e E _ row 0 (omega arith) in
    let o = c.count_ids in
    let W = words c.note-2.new.room in
    let ys = form_list (source a.drawing.src.now c.body-r.result) e.first e.sources 1 in record {
      holds = (targets_held a.drawing a.i c.requires.edge.0 e E _ row, omega arith, omega (arith, o.auto.room, c.note-2.auto.room, c.note.auto.room));
      all_low = λ t m. omega (arith, low t m, f.few);
      by_index = λ y m. omega (
        arith,
        few (goal.at.count_ids-requires-2 c).After-note-2 E y (low y m),
        ap (λ (X : List ℕ). get_or X y 0) o.ensures,
        bump_at ys W y (omega (arith, low y m, f.few, length_words c.note-2.new.room, c.note-2.auto.room, c.note.auto.room)),
        how_many_length (λ t. eqb t y) ys,
        formed_length (source a.drawing.src.now c.body-r.result) e.first e.sources 1,
        E.inside,
        f.few,
      );
    }

pub returns : goal.returns
unfolding edge_counted
returns c =
    let a = c.args in
    let E = read (goal.at.returns c).After-edge_at-e in
    let e = c.edge_at-e.result in
    let row = c.body-r.ensures in
    let f = facts c.args.drawing in
    let g = graph_in a.drawing in
    let q = source_in a.drawing in
    let is : words c.count_ids-2.new.room ≡ edge_counted q (length g.labels + a.i) e (words a.room.now) =
    c.count_ids-2.ensures ∙ ap (bump_all (form_list (source a.drawing.src.now c.body-r.result) (e.first + e.sources) e.targets 0)) c.count_ids.ensures
    ∙ (λ j. bump_all (form_list (source a.drawing.src.now (row j)) (e.first + e.sources) e.targets 0) (bump_all (form_list (source a.drawing.src.now (row j)) e.first e.sources 1) (noted_both (goal.at.returns c).After-note-2 j))) in (
      E.next,
      subst (λ (X : List ℕ). CountedTo q g X (a.i + 1)) (sym is)
          (counts_turn g f.known q (words a.room.now) a.i (omega (arith, c.requires.edge.0, f.edges)) c.requires.counted_to f.few (omega (arith, length_words a.room.now)) e E.read_as),
    )
