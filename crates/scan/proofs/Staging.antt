-- The stages: what holds between two of them, how one ends them, and what is answered at the end.
-- Assumes nothing.
use mathlib.Core.Path.{◌≡◌, sym, ap, ◌∙◌, subst}
use mathlib.Core.List.{List, [], ◌∷◌}
use mathlib.Core.Logic.{◌↔◌}
use Prim.Native.Nat.{ℕ, ◌+◌, ◌≤◌, ◌<◌}
use lib.ListN.{length, get_or, set}
use Rattle.graph.specs.Answer.{refused, answered, refusal}
use Rattle.graph.specs.Graph.{Graph}
use Rattle.graph.proofs.Steps.{never, same_answer}
use Rattle.choice.specs.Arcs.{In, size, Stable}
use Rattle.choice.specs.Calls.{room_cycle_breaking_nodes_scanning}
use Rattle.choice.specs.Choice.{Chosen, Ascends}
use Rattle.choice.specs.Drawing.{arcs, vertex_count}
use Rattle.choice.specs.Keeping.{unkept, chosen_keeping}
use Rattle.choice.proofs.Fits.{proper_bounded}
use Rattle.choice.proofs.Sets.{size_empty}
use Rattle.choice.proofs.Sofar.{sofar_done}
use Rattle.form.specs.Form.{telling}
use Rattle.form.specs.declared.Refusal.TheVariants as why
use Rattle.std.specs.Prelude.{Ok, Err}
use Rattle.marks.specs.Tables.{left}
use Rattle.sweeps.specs.Sweeps.{State, Rests}
use Rattle.scan.specs.Stages.{Top, ChosenIn, Begun}
use Rattle.scan.specs.declared.Best.{Best}
use Rattle.sweeps.proofs.Going.{Drawn}
use Rattle.scan.proofs.Choosing.{stuck, pick_state}

-- nothing is loose, these nodes were picked, and so many vertices went freely
pub record Run (kept : List ℕ) (g : Graph) (room : List ℕ) (free : ℕ) : Type 0 where
  pub picked : List ℕ
  pub state : State kept g room picked free
  pub stable : Stable (arcs g) (left (vertex_count g) room)

pub run_start : (kept : List ℕ) (g : Graph) (room : List ℕ) (free : ℕ) → Begun kept g room free → Run kept g room free
run_start kept g room free b = record { picked = []; state = b.state; stable = b.stable }

-- the choice is refused
pub refused_in : (kept : List ℕ) (g : Graph) (room : List ℕ) → chosen_keeping kept g ≡ refused (refusal 16) → ChosenIn kept g room (Err why.NothingToChoose)
refused_in kept g room e = record {
  is = sym (ap (telling (λ (c : Chosen). c.free)) e);
  marked = λ c f. absurd (never (sym e ∙ f));
}

module _ (g : Graph) (d : Drawn g) (kept room : List ℕ) (long : room_cycle_breaking_nodes_scanning ≤ length room) (free : ℕ) (r : Run kept g room free) where
  -- nothing that remains may be chosen
  pub run_stuck : (b : Best) → Top room (length g.labels) b → b.score ≡ 0 → 0 < size (left (vertex_count g) room) → ChosenIn kept g room (Err why.NothingToChoose)
  run_stuck b top z some = refused_in kept g room (stuck g d room long kept r.picked free r.state b top z r.stable some)

  -- the best is picked, and then what is loose goes
  pub run_turn : (b : Best) → Top room (length g.labels) b → (b.score ≡ 0 → ⊥) → (new : List ℕ) (k : ℕ) → Rests g (set room b.node 2) new k → Run kept g new (free + k)
  run_turn b top f new k w =
      let s = w.moves.goes kept (b.node ∷ r.picked) free (pick_state g d room long kept r.picked free r.state b top f r.stable) in
      record { picked = b.node ∷ r.picked; state = s; stable = w.stable kept (b.node ∷ r.picked) (free + k) s }

  -- nothing remains
  pub run_done : size (left (vertex_count g) room) ≡ 0 → ChosenIn kept g room (Ok free)
  run_done none = record {
    is = sym (ap (telling (λ (c : Chosen). c.free)) w.1 ∙ ap answered w.4);
    marked = λ c e v l.
        let same : w.0 ≡ c = same_answer (sym w.1 ∙ e) in
        let m = r.state.telling.chosen v l in
        subst (λ (x : Chosen). (get_or room v 0 ≡ 2) ↔ In v x.ids) same ((λ t. (w.3 v).1 (m.0 t)), (λ i. m.1 ((w.3 v).0 i)));
  }
    where
      w : (c : Chosen) × (chosen_keeping kept g ≡ answered c) × Ascends c.ids × ((x : ℕ) → In x c.ids ↔ In x r.picked) × (c.free ≡ free)
      w = unfold chosen_keeping in sofar_done (arcs g) (unkept kept g) (vertex_count g) (left (vertex_count g) room) r.picked free r.state.telling.told (proper_bounded g d.proper) (size_empty (left (vertex_count g) room) none)
