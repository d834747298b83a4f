-- `reasons::first_removal` meets its contract.
-- Assumes nothing.
use mathlib.Core.Path.{◌≡◌, sym, ap, ◌∙◌, subst}
use mathlib.Core.List.{List}
use Prim.Native.Nat.{ℕ, ◌+◌, ◌*◌, ◌≤◌}
use native.Mathlib.Omega.{arith}
use lib.ListN.{length}
use Rattle.le.specs.Le.{words, Outside}
use Rattle.le.specs.declared.Row.{Row}
use Rattle.le.proofs.Places.{length_words}
use Rattle.tables.specs.Tables.{picked_at}
use Rattle.removal.specs.Room.{source, halves_in, Lists}
use Rattle.cycle.proofs.Begin.{drawn}
use Rattle.choice.specs.Reasons.{not_led_to, leads_to_none}
use Rattle.reasons.specs.Told.{freed_all, waited_from, Settled, Explaining}
use Rattle.reasons.proofs.Beginning.{lowered_roomy, lowered_lists, first_explained, first_outside}
use Rattle.reasons.proofs.Ends.{ends_later}
use Rattle.incidence.specs.Incidence.{source_in}
use Rattle.form.specs.Drawn.{graph_in}
use Rattle.reasons.proofs.first_removal.Goals as goal
use Rattle.reasons.proofs.first_removal.Goals.{After-first_part-mid}

-- the tables stand as they were built
long : (c : After-first_part-mid) → picked_at ≤ length (words c.first_part-mid.new.room)
long c = let p = c.first_part-mid in omega (arith, length_words p.new.room, p.auto.room)

pub lower_ends-gone-requires : goal.lower_ends-gone-requires
lower_ends-gone-requires c =
    let p = c.first_part-mid in
    record { n_le_most_vertices = ((drawn c.args.drawing).few, p.ensures.0.few, omega (arith, p.auto.room)); roomy = p.ensures.0.roomy }

pub settle-requires : goal.settle-requires
settle-requires c =
    let a = c.args in
    let z = a.drawing.sizes in
    let d = drawn a.drawing in
    let n = z.nodes + z.edges in
    let p = c.first_part-mid in
    let o = c.lower_ends-gone in
    let X = words p.new.room in
    let M = words o.new.room in
    let l = long (goal.at.settle-requires c).After-first_part-mid in
    record {
      nodes_in_bounds = (omega (arith, p.auto.out), ends_later X M n p.result o.result d.few l p.ensures.0.few o.ensures, d.few, omega arith, o.ensures.few, omega (arith, p.auto.room, o.auto.room));
      roomy = (
        lowered_roomy d p.ensures.0 l o.ensures,
        subst (λ (r : Row). Lists (source a.drawing.src.now r) M z.nodes n) (sym c.body.ensures) (lowered_lists d p.ensures.0 l o.ensures),
      );
    }

pub returns : goal.returns
returns c =
    let a = c.args in
    let z = a.drawing.sizes in
    let d = drawn a.drawing in
    let n = z.nodes + z.edges in
    let p = c.first_part-mid in
    let o = c.lower_ends-gone in
    let t = c.settle in
    let X = words p.new.room in
    let M = words o.new.room in
    let Y = words t.new.room in
    let l = long (goal.at.returns c).After-first_part-mid in
    let settled = subst (λ (r : Row). Settled (source a.drawing.src.now r) M Y z.nodes n p.result t.result (halves_in M n o.result)) c.body.ensures t.ensures.0 in
    let is : t.new.out ≡ freed_all z.nodes (leads_to_none 1) (waited_from Y n p.result t.result) (freed_all z.nodes (not_led_to 1) (waited_from X n 0 p.result) a.out.now) =
    t.ensures.1 ∙ ap (freed_all z.nodes (leads_to_none 1) (waited_from Y n p.result t.result)) p.ensures.1 in (
      subst (λ (o : List ℕ). Explaining (source_in a.drawing) (graph_in a.drawing) Y o z.nodes n t.result 1) (sym is) (first_explained d p.ensures.0 l o.ensures settled a.out.now (omega arith)),
      subst (Outside 0 (16 * z.nodes) a.out.now) (sym is) (first_outside d p.ensures.0 l o.ensures settled a.out.now (omega arith)),
    )
